-- What the laws of accepted programs say of their types.
use Rattle.std.specs.Prelude.{◌≡◌, ℕ, List, Some, option_map}
use Rattle.ms_words.specs.declared.item.Item.TheVariants.{At}
use Rattle.ms_program.specs.Programs.{Program}
use Rattle.ms_typing.specs.Kinds.{Shape}
use Rattle.ms_typing.specs.Solutions.{shape_at}
use Rattle.ms_typing.specs.Typed.{Typing, Typings}
use Rattle.ms_typing.specs.Verifier.{Accepted, Cell, Method, Verifies}
use Rattle.ms_verify.specs.Methods.{method_of}

-- the type of an instruction of a method before which this is the shape
abbrev pub typed : Method → Shape → Typing
typed method shape = record { shape = shape; result = method.profile.result }

-- The types of a program are the last shapes of its methods: there is one for each offset that was reached, and for no other.
abbrev pub AreLastShapes : Program → Typings → Type 0
AreLastShapes P T = (class number : ℕ) (method : Method) (last : List Cell) → method_of P class number ≡ Some method → Verifies method (Accepted last)
    → (offset : ℕ) → T (At class number offset) ≡ option_map (typed method) (shape_at last offset)
