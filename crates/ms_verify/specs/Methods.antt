-- The methods of a program as the type rules see them, and what is wrong with a program.
use Rattle.std.specs.Prelude.{◌≡◌, ◌⊎◌, ℕ, ◌<◌, length, map, Option, Some, option_map, option_and_then}
use Rattle.std.specs.List.{range_with_len}
use Rattle.ms_words.specs.declared.item.Item.{Item}
use Rattle.ms_words.specs.declared.item.Item.TheVariants.{Entry, At}
use Rattle.ms_words.specs.declared.thrown.Thrown.{Thrown}
use Rattle.ms_words.specs.Descriptors.{Signature, signature_of}
use Rattle.ms_program.specs.declared.body.Body.{Body}
use Rattle.ms_program.specs.declared.view.CatchPart.{CatchPart}
use Rattle.ms_program.specs.Programs.{Program, class_named, known_body, method_id}
use Rattle.ms_program.specs.Views as views
use Rattle.ms_program.specs.Views.{view}
use Rattle.ms_machine.specs.Instructions.{Instr}
use Rattle.ms_linking.specs.Linked.{linked_instr}
use Rattle.ms_typing.specs.declared.kind.VerifyKind.{VerifyKind}
use Rattle.ms_typing.specs.Rules.{Profile}
use Rattle.ms_typing.specs.Solutions.{IsAccepted}
use Rattle.ms_typing.specs.Verifier.{Fault, Line, Method, Verifies}

-- METHODS

-- the offset of an item; no view leads to the entry
abbrev pub offset_in : Item → ℕ
offset_in Entry = 0
offset_in (At class method offset) = offset

-- a handler, by its offset
abbrev pub handler_in : CatchPart → ℕ × Thrown
handler_in part = (offset_in part.handler, part.catches)

-- what the rules see of a view with this instruction
abbrev pub line_with : views.View → Instr → Line
line_with view instr = record { instr = instr; next = option_map offset_in view.successor; targets = map offset_in view.targets; handlers = map handler_in view.handlers }

-- what they see of a view, if it is one of an instruction
abbrev pub line_in : Program → views.View → Option Line
line_in P view = option_map (line_with view) (option_and_then (linked_instr (class_named P) view) view.instr)

-- what they see at an offset of a method
abbrev pub line_of : Program → (class method offset : ℕ) → Option Line
line_of P class method offset = option_and_then (line_in P) (view P (At class method offset))

-- the most places on the stack of a body, its locals, and these parameters and this result
abbrev pub profile_of : Body → Signature → Profile
profile_of body signature = record { max_stack = body.max_stack; max_locals = body.max_locals; parameters = signature.parameters; result = signature.result }

-- a method with this signature and this body
abbrev pub method_with : Program → (class method : ℕ) → Body → Signature → Method
method_with P class method body signature = record { profile = profile_of body signature; lines = map (line_of P class method) (range_with_len 0 (length body.code.steps)) }

-- a method of a program, where it isn't foreign
abbrev pub method_of : Program → (class method : ℕ) → Option Method
method_of P class method =
    option_and_then (λ known. option_map (method_with P class method known.1) (signature_of known.0.1)) (known_body P (method_id class method))

-- WHAT IS WRONG WITH A PROGRAM

-- every method that isn't foreign is accepted
abbrev pub AllAccepted : Program → Type 0
AllAccepted P = (class number : ℕ) (method : Method) → method_of P class number ≡ Some method → IsAccepted method

-- whether the first method stands before the second: classes go in order, and in each its methods
abbrev pub StandsBefore : (class number other_class other : ℕ) → Type 0
StandsBefore class number other_class other = (class < other_class) ⊎ ((class ≡ other_class) × (number < other))

-- the first method that isn't accepted has this first fault
pub record HasFirstFault (P : Program) (class number offset : ℕ) (kind : VerifyKind) : Type 0 where
  pub method : Method
  pub is : method_of P class number ≡ Some method
  pub fault : Verifies method (Fault offset kind)
  pub before : (other_class other : ℕ) (earlier : Method) → method_of P other_class other ≡ Some earlier → StandsBefore other_class other class number → IsAccepted earlier
