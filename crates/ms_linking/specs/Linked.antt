-- What the machine sees of a program: of each view the instruction by what it does, and where it may go.
use Rattle.std.specs.Prelude.{ℕ, pos, not, List, map, codes, Option, Some, None, option_map, option_and_then, slice_get, unwrap_or}
use Rattle.std.specs.Str.{bytes_eq}
use Rattle.ms_words.specs.declared.descriptor.EntryPart.{EntryPart}
use Rattle.ms_words.specs.declared.item.Item.{Item}
use Rattle.ms_words.specs.declared.item.Item.TheVariants.{Entry}
use Rattle.ms_words.specs.Descriptors.{field_type_of, signature_of}
use Rattle.ms_words.specs.Throwables.{thrown_named}
use Rattle.ms_code.specs.declared.instruction.Case.{Case}
use Rattle.ms_code.specs.declared.instruction.Instr as code
use Rattle.ms_code.specs.declared.instruction.Operand.{Operand}
use Rattle.ms_code.specs.declared.instruction.Operand.TheVariants as operands
use Rattle.ms_program.specs.declared.method.MethodId.{MethodId}
use Rattle.ms_program.specs.declared.view.CatchPart.{CatchPart}
use Rattle.ms_program.specs.declared.view.Initialiser as state
use Rattle.ms_program.specs.declared.view.Initialiser.TheVariants as states
use Rattle.ms_program.specs.declared.view.MemberPart.{MemberPart}
use Rattle.ms_program.specs.Programs as programs
use Rattle.ms_program.specs.Programs.{Class, class_named}
use Rattle.ms_program.specs.Views as views
use Rattle.ms_program.specs.Views.{Name, Word, Text, Throwable, view}
use Rattle.ms_machine.specs.Instructions as machine
use Rattle.ms_machine.specs.Instructions.{Initialiser, Absent, Present, Foreign, Instr, Push, PushText, Load, Sort, Store, Increment, Switch, GetStatic, PutStatic, Invoke, New, Construct}
use Rattle.ms_machine.specs.Control.{EntryView, Handler, Program, View, Views}
use Rattle.ms_linking.specs.Groups.{Group, Fixed, OfWord, OfConstant, OfLoad, OfStore, OfIncrement, OfSwitch, OfGetStatic, OfPutStatic, OfInvoke, OfConstruct, OfNew, group_of}

-- The numbers of classes by their names. They stand beside a view, which names a class and says whether it is there: a run
-- keeps fields and started classes by number, and a program never changes the number of a class.
abbrev pub Numbers : Type 0
Numbers = List ℕ → Option ℕ

-- MEMBERS

-- whether a class has an initialiser
abbrev pub initialiser_of : state.Initialiser → Initialiser
initialiser_of states.Absent = Absent
initialiser_of states.Present = Present
initialiser_of states.Foreign = Foreign

-- a member of these names, of which this is known, and of whose class the state of the initialiser
abbrev pub member_of : Numbers → (class name descriptor : List ℕ) → MemberPart → state.Initialiser → machine.Member
member_of numbers class name descriptor part initialiser = record {
  class_name = class;
  name = name;
  descriptor = descriptor;
  class = numbers class;
  is_there = part.member_present;
  initialiser = initialiser_of initialiser;
}

-- a static field is read, where it is named, its type is known, and what a view says of members
abbrev pub get_static : Numbers → Option Name → Option MemberPart → Option state.Initialiser → Option Instr
get_static numbers (Some (views.Member class name descriptor)) (Some part) (Some initialiser) =
    option_map (λ type. GetStatic (member_of numbers class name descriptor part initialiser) type (unwrap_or part.initial (pos 0))) (field_type_of descriptor)
get_static numbers named part initialiser = None

-- or stored, likewise
abbrev pub put_static : Numbers → Option Name → Option MemberPart → Option state.Initialiser → Option Instr
put_static numbers (Some (views.Member class name descriptor)) (Some part) (Some initialiser) =
    option_map (PutStatic (member_of numbers class name descriptor part initialiser)) (field_type_of descriptor)
put_static numbers named part initialiser = None

-- a static method is called, likewise, where its signature is known
abbrev pub invoke : Numbers → Option Name → Option MemberPart → Option state.Initialiser → Option Instr
invoke numbers (Some (views.Member class name descriptor)) (Some part) (Some initialiser) =
    option_map (Invoke (member_of numbers class name descriptor part initialiser)) (signature_of descriptor)
invoke numbers named part initialiser = None

-- THROWABLES AND CONSTANTS

-- a throwable is initialised, by a constructor that takes nothing, or else a message
abbrev pub construct : Option Name → Option Instr
construct (Some (views.Member class name descriptor)) = option_map (Construct (not (bytes_eq descriptor (codes "()V")))) (thrown_named class)
construct named = None

-- a throwable is made
abbrev pub new : Option Name → Option Instr
new (Some (Throwable thrown)) = Some (New thrown)
new named = None

-- an int or a text of the pool is put on the stack
abbrev pub push_constant : Option Name → Option Instr
push_constant (Some (Word word)) = Some (Push word)
push_constant (Some (Text bytes)) = Some (PushText bytes)
push_constant named = None

-- OPERANDS

-- a word is put on the stack
abbrev pub push_word : Operand → Option Instr
push_word (operands.Word word) = Some (Push word)
push_word other = None

-- the value of a local is put on the stack
abbrev pub load : Sort → Operand → Option Instr
load sort (operands.Local index) = Some (Load sort index)
load sort other = None

-- a value is taken into a local
abbrev pub store : Sort → Operand → Option Instr
store sort (operands.Local index) = Some (Store sort index)
store sort other = None

-- a word is added to a local
abbrev pub increment : Operand → Option Instr
increment (operands.Increment index by) = Some (Increment index by)
increment other = None

-- a switch, by its keys
abbrev pub switch : Operand → Option Instr
switch (operands.Cases cases) = Some (Switch (map (λ (case : Case). case.key) cases.cases))
switch other = None

-- WHAT THE MACHINE SEES

-- what an instruction of a group does, in a view where it has this operand
abbrev pub instr_in : Numbers → views.View → Operand → Group → Option Instr
instr_in numbers view operand (Fixed instr) = Some instr
instr_in numbers view operand OfWord = push_word operand
instr_in numbers view operand OfConstant = push_constant view.named
instr_in numbers view operand (OfLoad sort) = load sort operand
instr_in numbers view operand (OfStore sort) = store sort operand
instr_in numbers view operand OfIncrement = increment operand
instr_in numbers view operand OfSwitch = switch operand
instr_in numbers view operand OfGetStatic = get_static numbers view.named view.member view.initialiser
instr_in numbers view operand OfPutStatic = put_static numbers view.named view.member view.initialiser
instr_in numbers view operand OfInvoke = invoke numbers view.named view.member view.initialiser
instr_in numbers view operand OfConstruct = construct view.named
instr_in numbers view operand OfNew = new view.named

-- what an instruction does, in its view
abbrev pub linked_instr : Numbers → views.View → code.Instr → Option Instr
linked_instr numbers view instr = option_and_then (instr_in numbers view instr.operand) (group_of instr.op)

-- a handler
abbrev pub handler_of : CatchPart → Handler
handler_of part = record { begins = part.handler; catches = part.catches }

-- a view with this instruction
abbrev pub with_instr : views.View → Instr → View
with_instr view instr = record {
  instr = instr;
  next = view.successor;
  targets = view.targets;
  handlers = map handler_of view.handlers;
  callee = view.first_item;
  initialiser_first = view.initialiser_item;
}

-- what the machine sees of a view, if that is one of an instruction
abbrev pub linked : Numbers → views.View → Option View
linked numbers view = option_map (with_instr view) (option_and_then (linked_instr numbers view) view.instr)

-- what the machine sees at each item of a program
abbrev pub views_of : programs.Program → Views
views_of P item = option_and_then (linked (class_named P)) (view P item)

-- THE ENTRY

-- what the machine sees of an entry of this class, where its first instruction and the state of the initialiser are known
abbrev pub entry_with : ℕ → Class → views.View → EntryPart → Item → state.Initialiser → EntryView
entry_with number class view part first initialiser = record {
  kinds = part.kinds;
  result = part.result;
  first = first;
  class = number;
  class_name = class.name;
  initialiser = initialiser_of initialiser;
  initialiser_first = view.initialiser_item;
}

-- the same, by the entry's view
abbrev pub entry_in : ℕ → views.View → Class → Option EntryView
entry_in number view class =
    option_and_then (λ part. option_and_then (λ first. option_map (entry_with number class view part first) view.initialiser) view.first_item) view.entry_part

-- what the machine sees of the entry of a program, where one is set
abbrev pub entry_of : programs.Program → Option EntryView
entry_of P = option_and_then (λ (id : MethodId). option_and_then (λ view. option_and_then (entry_in id.class view) (slice_get P.classes id.class)) (view P Entry)) P.entry

-- the program that the machine runs, where an entry is set
abbrev pub program_of : programs.Program → Option Program
program_of P = option_map (λ entry. record { entry = entry; view = views_of P }) (entry_of P)
