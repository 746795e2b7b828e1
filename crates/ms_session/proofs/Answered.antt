-- The reply to `once` on a file is never that something isn't built.
use Rattle.std.proofs.Common.{◌≡◌, ◌⊎◌, ◌<◌, ◌^◌, ℕ, zero, suc, List, [], ◌∷◌, All, length, get_or, slice_get, ℤ, Bool, true, false, cond, Option, Some, None, Ok, Err, inl, inr, refl, sym, ◌∙◌, subst, arith}
use Rattle.std.specs.Prelude.{◌↔◌, ◌≢◌, IsSome, option_and_then, option_map}
use Rattle.std.proofs.lemmas.List.{length-map}
use Rattle.ms_words.specs.declared.end.PathEnd.{PathEnd}
use Rattle.ms_words.specs.Inputs.{Words, are_of}
use Rattle.ms_pool.specs.declared.code.ClassKind.{ClassKind}
use Rattle.ms_classfile.specs.ClassFile as files
use Rattle.ms_classfile.specs.ClassFile.{IsClassFile, method_key}
use Rattle.ms_classfile.specs.declared.fault.ClassFault.TheVariants.{At}
use Rattle.ms_program.specs.declared.method.MethodId.{MethodId}
use Rattle.ms_program.specs.Files.{File, IsFile, IsFirstFault}
use Rattle.ms_program.specs.Programs.{CanEnter, Class, IsClass, IsProgram, Program, body_of, can_be_entry, class_of, key_of, method_id, method_in, method_of}
use Rattle.ms_program.specs.Reading.{file_read}
use Rattle.ms_program.proofs.Entries.{found_enters}
use Rattle.ms_program.proofs.Picking.{joined, mapped}
use Rattle.ms_machine.specs.Control.{Program as Machine}
use Rattle.ms_machine.specs.Runs.{IsInputOf, end_of}
use Rattle.ms_verify.specs.Faults.{ProgramFault, fault_of}
use Rattle.ms_verify.specs.Methods.{AllAccepted}
use Rattle.ms_jvm.specs.Ends.{path_end_of}
use Rattle.ms_jvm.specs.Entered.{entered}
use Rattle.ms_command.specs.declared.reply.Reply.TheVariants as replies
use Rattle.ms_session.specs.Once.{call_reply, called, once_depth, once_end, program_in, read_reply, run_reply, verified_reply}
use Rattle.ms_session.specs.Paths.{input_with}

-- A PROGRAM OF ONE CLASS

alone : {A : Type 0} (P : A → Type 0) (x : A) → P x → All P (x ∷ [])
alone {A = A} P x holds = λ k d within. by_place k d within
  where
    by_place : (k : ℕ) (d : A) → k < 1 → P (get_or (x ∷ []) k d)
    by_place zero d within = holds
    by_place (suc k) d within = absurd (omega (arith, within))

first_alone : (class other : Class) (i : ℕ) → slice_get (class ∷ []) i ≡ Some other → i ≡ 0
first_alone class other zero is = refl
first_alone class other (suc i) is = absurd (let e = is in cc)

-- the class of a file makes a program
is_program : (bytes : List ℕ) (file : File) → All (λ byte. byte < 256) bytes → IsFile bytes file → length file.class.methods < 2 ^ 16 → IsProgram (program_in bytes file)
is_program bytes file all is few =
    let one : IsClass (class_of bytes file) = record { bytes = all; says = file; is = is; class_is = refl; few = omega (arith, few, length-map file.class.methods method_key) } in
    record {
      few = omega arith;
      each = alone IsClass (class_of bytes file) one;
      apart = λ i j first second at there same. first_alone (class_of bytes file) first i at ∙ sym (first_alone (class_of bytes file) second j there);
      enters = tt;
    }

-- WHAT IS CALLED

-- a method that is found in the first class can be entered
can_enter : (P : Program) (name desc : List ℕ) (id : MethodId) → can_be_entry (name, desc) ≡ true → method_of P 0 name desc ≡ Some id → IsSome (body_of P id) × (option_map can_be_entry (key_of P id) ≡ Some true)
can_enter P name desc id can is =
    let found = joined (λ (c : Class). option_map (method_id 0) (method_in c name desc)) (slice_get P.classes 0) id is in
    let method = mapped (method_id 0) (method_in found.0 name desc) id found.2 in
    let there : CanEnter (slice_get P.classes 0) method.0 = subst (λ (c : Option Class). CanEnter c method.0) (sym found.1) (found_enters found.0 (name, desc) method.0 can method.1) in
    subst (λ (i : MethodId). IsSome (body_of P i) × (option_map can_be_entry (key_of P i) ≡ Some true)) method.2 there

-- RUNS

module _
    (ends : (P : Program) (id : MethodId) (machine : Machine) (x : Words) (depth : ℕ) → IsProgram P → AllAccepted P → IsSome (body_of P id) → option_map can_be_entry (key_of P id) ≡ Some true
    → entered P id ≡ Some machine → IsInputOf machine x → IsSome (path_end_of (end_of machine x depth)))
  where
    run_answered : (names : List (List ℕ)) (o : Option PathEnd) → IsSome o → run_reply names o ≢ replies.NotBuilt
    run_answered names None some = absurd (let e = some in cc)
    run_answered names (Some end) some = λ e. let f = e in cc

    call_answered : (P : Program) (names : List (List ℕ)) (name desc : List ℕ) (words : List ℤ) → IsProgram P → AllAccepted P → call_reply names words (called P name desc) ≢ replies.NotBuilt
    unfolding once_end
    call_answered P names name desc words program accepted = by_can (can_be_entry (name, desc)) refl
      where
        by_words : (id : MethodId) (machine : Machine) → IsSome (body_of P id) × (option_map can_be_entry (key_of P id) ≡ Some true) → entered P id ≡ Some machine → (fits : Bool) → are_of machine.entry.kinds words ≡ fits
            → cond fits (run_reply names (once_end machine words)) replies.Words ≢ replies.NotBuilt
        by_words id machine can is true fits = run_answered names (once_end machine words) (ends P id machine (input_with machine words) once_depth program accepted can.0 can.1 is (record { kinds = refl; words = fits }))
        by_words id machine can is false fits = λ e. let f = e in cc

        by_machine : (id : MethodId) → IsSome (body_of P id) × (option_map can_be_entry (key_of P id) ≡ Some true) → (o : Option Machine) → entered P id ≡ o → call_reply names words o ≢ replies.NotBuilt
        by_machine id can None is = λ e. let f = e in cc
        by_machine id can (Some machine) is = by_words id machine can is (are_of machine.entry.kinds words) refl

        by_method : can_be_entry (name, desc) ≡ true → (o : Option MethodId) → method_of P 0 name desc ≡ o → call_reply names words (option_and_then (entered P) o) ≢ replies.NotBuilt
        by_method can None is = λ e. let f = e in cc
        by_method can (Some id) is = by_machine id (can_enter P name desc id can is) (entered P id) refl

        by_can : (b : Bool) → can_be_entry (name, desc) ≡ b → call_reply names words (cond b (option_and_then (entered P) (method_of P 0 name desc)) None) ≢ replies.NotBuilt
        by_can true can = by_method can (method_of P 0 name desc) refl
        by_can false can = λ e. let f = e in cc

    verified_answered : (P : Program) (name desc : List ℕ) (words : List ℤ) → IsProgram P → (AllAccepted P ↔ (fault_of P ≡ None)) → (o : Option ProgramFault) → fault_of P ≡ o → verified_reply P name desc words o ≢ replies.NotBuilt
    verified_answered P name desc words program none (Some fault) is = λ e. let f = e in cc
    verified_answered P name desc words program none None is = call_answered P _ name desc words program (none.1 is)

-- THE LAW

pub answered :
    ((bytes : List ℕ) → All (λ byte. byte < 256) bytes → ((file : File) × IsFile bytes file) ⊎ ((kind : ClassKind) × (at : ℕ) × IsFirstFault bytes kind at))
    → ((bytes : List ℕ) (file : File) → All (λ byte. byte < 256) bytes → IsFile bytes file ↔ (file_read bytes ≡ Ok file))
    → ((bytes : List ℕ) (kind : ClassKind) (at : ℕ) → All (λ byte. byte < 256) bytes → IsFirstFault bytes kind at ↔ (file_read bytes ≡ Err (At kind at)))
    → ((bytes : List ℕ) (class : files.Class) → All (λ byte. byte < 256) bytes → IsClassFile bytes class → length class.methods < 2 ^ 16)
    → ((P : Program) → IsProgram P → AllAccepted P ↔ (fault_of P ≡ None))
    → ((P : Program) (id : MethodId) (machine : Machine) (x : Words) (depth : ℕ) → IsProgram P → AllAccepted P → IsSome (body_of P id) → option_map can_be_entry (key_of P id) ≡ Some true
    → entered P id ≡ Some machine → IsInputOf machine x → IsSome (path_end_of (end_of machine x depth)))
    → (bytes name desc : List ℕ) (words : List ℤ) → All (λ byte. byte < 256) bytes → read_reply bytes name desc words (file_read bytes) ≢ replies.NotBuilt
answered either file_is fault_is few none ends bytes name desc words all = by_file (either bytes all)
  where
    by_file : ((file : File) × IsFile bytes file) ⊎ ((kind : ClassKind) × (at : ℕ) × IsFirstFault bytes kind at) → read_reply bytes name desc words (file_read bytes) ≢ replies.NotBuilt
    by_file (inl whole) =
        let program : IsProgram (program_in bytes whole.0) = is_program bytes whole.0 all whole.1 (few bytes whole.0.class all whole.1.0) in
        subst (λ r. read_reply bytes name desc words r ≢ replies.NotBuilt) (sym ((file_is bytes whole.0 all).0 whole.1))
        (verified_answered ends (program_in bytes whole.0) name desc words program (none (program_in bytes whole.0) program) (fault_of (program_in bytes whole.0)) refl)
    by_file (inr broken) =
        subst (λ r. read_reply bytes name desc words r ≢ replies.NotBuilt) (sym ((fault_is bytes broken.0 broken.1 all).0 broken.2)) (λ e. let f = e in cc)
