-- The type rules of a method without the order in which they are tested: there are shapes of its reached offsets such that
-- each instruction has no fault and what it passes on is held where it goes.
use Rattle.std.specs.Prelude.{◌≡◌, ℕ, List, Option, Some, None, is_none, slice_get}
use Rattle.ms_typing.specs.Kinds.{Shape, Within}
use Rattle.ms_typing.specs.Rules.{fault}
use Rattle.ms_typing.specs.Verifier.{Accepted, Cell, Line, Method, Outcome, Settled, Unreached, Verifies, Waiting, entered, line_at, passes}

-- the shape of an offset that was reached
abbrev pub shape_of : Cell → Option Shape
shape_of Unreached = None
shape_of (Settled shape) = Some shape
shape_of (Waiting shape) = Some shape

abbrev pub shape_in : Option Cell → Option Shape
shape_in None = None
shape_in (Some cell) = shape_of cell

-- the shape at an offset
abbrev pub shape_at : List Cell → ℕ → Option Shape
shape_at cells offset = shape_in (slice_get cells offset)

-- an offset has a shape that holds all that this one holds
pub record Admits (cells : List Cell) (offset : ℕ) (shape : Shape) : Type 0 where
  pub wider : Shape
  pub at : shape_at cells offset ≡ Some wider
  pub within : Within shape wider

-- the instruction there has no fault, and each offset that it passes something on to takes it
pub record Obeys (method : Method) (cells : List Cell) (offset : ℕ) (shape : Shape) : Type 0 where
  pub line : Line
  pub is : line_at method offset ≡ Some line
  pub fine : fault method.profile offset line.instr (is_none line.next) shape ≡ None
  pub leads : (n : ℕ) (passed : ℕ × Shape) → slice_get (passes offset line shape) n ≡ Some passed → Admits cells passed.0 passed.1

-- the rules hold of these shapes: offset 0 takes the parameters, and each offset that has a shape is so
pub record IsSolution (method : Method) (cells : List Cell) : Type 0 where
  pub entry : Admits cells 0 (entered method.profile)
  pub each : (offset : ℕ) (shape : Shape) → shape_at cells offset ≡ Some shape → Obeys method cells offset shape

-- WHAT IS SAID OF THE VERIFIER

-- a method has an outcome, and one only
pub record HasOneOutcome (method : Method) : Type 0 where
  pub outcome : Outcome
  pub is : Verifies method outcome
  pub only : (other : Outcome) → Verifies method other → other ≡ outcome

-- it is accepted
abbrev pub IsAccepted : Method → Type 0
IsAccepted method = (cells : List Cell) × Verifies method (Accepted cells)

-- the rules hold of some shapes
abbrev pub HasSolution : Method → Type 0
HasSolution method = (cells : List Cell) × IsSolution method cells

-- The last shapes of an accepted method are a solution, and the least: what they hold, each solution holds.
pub record LastAreLeast (method : Method) (last : List Cell) : Type 0 where
  pub solution : IsSolution method last
  pub least : (cells : List Cell) → IsSolution method cells → (offset : ℕ) (shape : Shape) → shape_at last offset ≡ Some shape → Admits cells offset shape
