-- `once FILE NAME DESC WORD..`: the reply, by the shelf's answer to FILE. It is a function of the bytes of the file and of the
-- words of the command.
use Rattle.std.specs.Prelude.{ℕ, List, [], ◌++◌, map, if◌then◌else◌, Option, Some, None, Result, Ok, Err, codes, option_and_then, ℤ}
use Rattle.std.specs.Option.{option_map_or}
use Rattle.ms_words.specs.declared.end.PathEnd.{PathEnd}
use Rattle.ms_words.specs.Inputs.{are_of}
use Rattle.ms_outside.specs.Shelves as shelves
use Rattle.ms_outside.specs.Shelves.{Answer}
use Rattle.ms_classfile.specs.declared.fault.ClassFault.{ClassFault}
use Rattle.ms_classfile.specs.declared.fault.ClassFault.TheVariants as faults
use Rattle.ms_program.specs.Files.{File}
use Rattle.ms_program.specs.Names.{Key}
use Rattle.ms_program.specs.Programs.{Class, Program, can_be_entry, class_of, empty_program, key_of, method_id, method_of, with_class}
use Rattle.ms_program.specs.Reading.{file_read}
use Rattle.ms_typing.specs.declared.kind.VerifyKind.{VerifyKind}
use Rattle.ms_typing.specs.declared.kind.VerifyKind.TheVariants as kinds
use Rattle.ms_verify.specs.Faults.{ProgramFault, fault_of}
use Rattle.ms_machine.specs.Control.{Program as Machine}
use Rattle.ms_machine.specs.Runs.{end_of}
use Rattle.ms_jvm.specs.Ends.{path_end_of}
use Rattle.ms_jvm.specs.Entered.{entered}
use Rattle.ms_command.specs.Endings.{end_text}
use Rattle.ms_command.specs.declared.reply.Reply.{Reply}
use Rattle.ms_command.specs.declared.reply.Reply.TheVariants as replies
use Rattle.ms_session.specs.Faults.{fault_reply}
use Rattle.ms_session.specs.Paths.{input_with}

-- THE PROGRAM

-- the program of the one class of a file of these bytes
abbrev pub program_in : List ℕ → File → Program
program_in bytes file = with_class empty_program (class_of bytes file)

-- the names of the classes of a program, by their numbers
abbrev pub names_of : Program → List (List ℕ)
names_of P = map (λ (class : Class). class.name) P.classes

-- THE TYPE RULES

-- the name of a kind of fault of the type rules
abbrev pub verify_name : VerifyKind → List ℕ
verify_name kinds.Depth = codes "Depth"
verify_name kinds.Kind = codes "Kind"
verify_name kinds.Local = codes "Local"
verify_name kinds.FallOff = codes "FallOff"
verify_name kinds.Merge = codes "Merge"
verify_name kinds.Return = codes "Return"

-- the name of a method and, behind it, its descriptor
abbrev pub method_name : Program → (class method : ℕ) → List ℕ
method_name P class method = option_map_or (λ (key : Key). key.0 ++ key.1) (key_of P (method_id class method)) []

-- the reply to a program of which this is the first fault
abbrev pub unverified_reply : Program → ProgramFault → Reply
unverified_reply P fault = replies.VerifyFault (verify_name fault.kind) (method_name P fault.class fault.method) fault.offset

-- THE RUN

-- the most choices of a run of `once`
abbrev pub once_depth : ℕ
once_depth = 256

-- how the run on these words ends, to that depth
unfoldable pub once_end : Machine → List ℤ → Option PathEnd
once_end machine words = path_end_of (end_of machine (input_with machine words) once_depth)

-- The reply to a run that ended so, by the names of the classes. A run of an accepted program always has an end, by the law
-- `entered_runs_have_ends` of the interpreter.
abbrev pub run_reply : (names : List (List ℕ)) → Option PathEnd → Reply
run_reply names None = replies.NotBuilt
run_reply names (Some end) = replies.Ran (end_text names end)

-- What the machine runs: the method of this name and descriptor in the first class as the entry, where there is one that isn't
-- foreign and can be an entry.
abbrev pub called : Program → (name desc : List ℕ) → Option Machine
called P name desc = if can_be_entry (name, desc) then option_and_then (entered P) (method_of P 0 name desc) else None

-- the reply where the machine runs this on these words, if they are one of its kind for each parameter
abbrev pub call_reply : (names : List (List ℕ)) → List ℤ → Option Machine → Reply
call_reply names words None = replies.EntryMissing
call_reply names words (Some machine) = if are_of machine.entry.kinds words then run_reply names (once_end machine words) else replies.Words

-- THE REPLY

-- the reply to a program with this first fault, or without one
abbrev pub verified_reply : Program → (name desc : List ℕ) → List ℤ → Option ProgramFault → Reply
verified_reply P name desc words (Some fault) = unverified_reply P fault
verified_reply P name desc words None = call_reply (names_of P) words (called P name desc)

-- The reply to bytes of which this was read, a file or the first fault. Nothing else is read, by the law
-- `files_are_whole_or_have_a_fault`, and so no reply is `NotBuilt`, by the law `once_answers_every_file`.
abbrev pub read_reply : List ℕ → (name desc : List ℕ) → List ℤ → Result File ClassFault → Reply
read_reply bytes name desc words (Ok file) = verified_reply (program_in bytes file) name desc words (fault_of (program_in bytes file))
read_reply bytes name desc words (Err (faults.At kind at)) = fault_reply (record { kind = kind; at = at })
read_reply bytes name desc words (Err faults.NoMemory) = replies.NotBuilt

-- The reply to `once FILE NAME DESC WORD..`, by the shelf's answer to FILE. It is refused, in this order, with 3 where the file
-- is absent, 4 where it is too long, 5 where it has a fault, 6 where a method of it breaks a type rule, 11 where it has no such
-- method, or a foreign one or one that can't be an entry, and 16 where the words aren't one of its kind for each parameter.
-- Else the run of the method on the words ends so.
abbrev pub once_reply : (file name desc : List ℕ) → List ℤ → Answer → Reply
once_reply file name desc words shelves.Absent = replies.Absent file
once_reply file name desc words shelves.TooLong = replies.TooLong file
once_reply file name desc words (shelves.Found bytes) = read_reply bytes name desc words (file_read bytes)
