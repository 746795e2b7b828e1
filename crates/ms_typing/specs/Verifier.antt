-- Verification by type inference (JVMS SE 8, section 4.10.2.2): the offsets of a method are taken one by one, always the
-- lowest that waits, until one has a fault or none waits.
use Rattle.std.specs.Prelude.{◌≡◌, ℕ, zero, suc, ◌==◌, Bool, true, cond, List, [], ◌∷◌, ◌++◌, length, map, replicate, nat_le, Option, Some, None, is_none, slice_get, slice_set}
use Rattle.ms_words.specs.declared.thrown.Thrown.{Thrown}
use Rattle.ms_machine.specs.Instructions.{Instr}
use Rattle.ms_typing.specs.declared.kind.PlaceKind.{PlaceKind}
use Rattle.ms_typing.specs.declared.kind.PlaceKind.TheVariants.{Unset}
use Rattle.ms_typing.specs.declared.kind.PlaceKind.TheVariants as kinds
use Rattle.ms_typing.specs.declared.kind.VerifyKind.{VerifyKind}
use Rattle.ms_typing.specs.declared.kind.VerifyKind.TheVariants.{FallOff, Merge}
use Rattle.ms_typing.specs.Kinds.{Shape, joined, same_shape}
use Rattle.ms_typing.specs.Rules.{Profile, after, fault, goes_on, kind_of}

-- METHODS

-- an instruction of a method: what it does, the offset of the next one, its targets, and the handlers that cover it, each
-- with the class that it catches
pub record Line : Type 0 where
  pub instr : Instr
  pub next : Option ℕ
  pub targets : List ℕ
  pub handlers : List (ℕ × Thrown)

-- a method: by offsets an instruction, where one starts
pub record Method : Type 0 where
  pub profile : Profile
  pub lines : List (Option Line)

-- what is there, if anything
abbrev pub or_no : {A : Type 0} → Option (Option A) → Option A
or_no None = None
or_no (Some found) = found

-- the instruction at an offset
abbrev pub line_at : Method → ℕ → Option Line
line_at method offset = or_no (slice_get method.lines offset)

-- THE OFFSETS SO FAR

-- an offset wasn't reached, or has a shape, and waits to be taken or not
pub data Cell : Type 0 where
  Unreached : Cell
  Settled : Shape → Cell
  Waiting : Shape → Cell

-- so many places, of which the first hold these kinds, and the others nothing known
abbrev pub filled : ℕ → List PlaceKind → List PlaceKind
filled zero places = []
filled (suc count) [] = Unset ∷ filled count []
filled (suc count) (kind ∷ places) = kind ∷ filled count places

-- the shape at the start: the parameters in locals, and an empty stack
abbrev pub entered : Profile → Shape
entered profile = record { locals = filled profile.max_locals (map kind_of profile.parameters); stack = [] }

-- at the start offset 0 waits
abbrev pub start : Method → List Cell
start method = slice_set (replicate (length method.lines) Unreached) 0 (Waiting (entered method.profile))

-- one offset further
abbrev pub further : Option (ℕ × Shape) → Option (ℕ × Shape)
further None = None
further (Some found) = Some (suc found.0, found.1)

-- the lowest offset that waits, with its shape
abbrev pub lowest : List Cell → Option (ℕ × Shape)
lowest [] = None
lowest (Waiting shape ∷ cells) = Some (0, shape)
lowest (cell ∷ cells) = further (lowest cells)

-- WHAT AN INSTRUCTION PASSES ON, AND TO WHICH OFFSETS

-- an offset in its place among ascending ones
abbrev pub inserted : ℕ → List ℕ → List ℕ
inserted offset [] = offset ∷ []
inserted offset (first ∷ offsets) = cond (nat_le offset first) (offset ∷ first ∷ offsets) (first ∷ inserted offset offsets)

-- offsets in order
abbrev pub sorted : List ℕ → List ℕ
sorted [] = []
sorted (offset ∷ offsets) = inserted offset (sorted offsets)

-- an offset, if it counts and there is one
abbrev pub if_any : Bool → Option ℕ → List ℕ
if_any true (Some offset) = offset ∷ []
if_any counts offset = []

-- its successors, in order of offset: its targets and, if it may go on, the next instruction
abbrev pub successors : Line → List ℕ
successors line = sorted (if_any (goes_on line.instr) line.next ++ line.targets)

-- what a handler gets: the locals before the instruction, and the throwable that it catches alone on the stack
abbrev pub to_handler : Shape → ℕ × Thrown → ℕ × Shape
to_handler shape handler = (handler.0, record { locals = shape.locals; stack = kinds.Thrown handler.1 ∷ [] })

-- all that is passed on: what it leaves to the successors, and then to the handlers in the order of the table
abbrev pub passes : ℕ → Line → Shape → List (ℕ × Shape)
passes offset line shape = map (λ successor. (successor, after offset line.instr shape)) (successors line) ++ map (to_handler shape) line.handlers

-- RECEIVING

-- whether two stacks are of one depth
abbrev pub same_depth : Shape → Shape → Bool
same_depth shape other = length shape.stack == length other.stack

-- What becomes of an offset that is passed a shape, if the stacks are of one depth: one that is reached for the first time
-- takes it and waits; else the two are joined, and the offset waits if it waited or its shape has changed.
abbrev pub received : Cell → Shape → Option Cell
received Unreached shape = Some (Waiting shape)
received (Settled held) shape = cond (same_depth held shape) (Some (cond (same_shape (joined held shape) held) (Settled held) (Waiting (joined held shape)))) None
received (Waiting held) shape = cond (same_depth held shape) (Some (Waiting (joined held shape))) None

-- TURNS

-- a turn leaves the offsets so, or has a fault at one
pub data Turn : Type 0 where
  Leaves : List Cell → Turn
  Fails : ℕ → VerifyKind → Turn

-- what becomes of an offset, if there is one
abbrev pub given : Option Cell → Shape → Option Cell
given None shape = None
given (Some cell) shape = received cell shape

-- goes on with one offset changed; stacks of two depths are a fault there, and so is an offset beyond the code, to which no
-- decoded code leads
abbrev pub and_then : List Cell → ℕ → Option Cell → (List Cell → Turn) → Turn
and_then cells offset None go = Fails offset Merge
and_then cells offset (Some cell) go = go (slice_set cells offset cell)

-- all is passed on, one after the other
abbrev pub pass_all : List Cell → List (ℕ × Shape) → Turn
pass_all cells [] = Leaves cells
pass_all cells (passed ∷ others) = and_then cells passed.0 (given (slice_get cells passed.0) passed.1) (λ changed. pass_all changed others)

-- a fault, if there is one, and else the other thing
abbrev pub unless_at_fault : Option VerifyKind → ℕ → Turn → Turn
unless_at_fault None offset turn = turn
unless_at_fault (Some kind) offset turn = Fails offset kind

-- an offset with this instruction and this shape is taken; no decoded code leads to one without an instruction
abbrev pub taken : Method → List Cell → ℕ → Shape → Option Line → Turn
taken method cells offset shape None = Fails offset FallOff
taken method cells offset shape (Some line) =
    unless_at_fault (fault method.profile offset line.instr (is_none line.next) shape) offset
    (pass_all (slice_set cells offset (Settled shape)) (passes offset line shape))

-- the turn of an offset that waits
abbrev pub turn : Method → List Cell → ℕ × Shape → Turn
turn method cells waiting = taken method cells waiting.0 waiting.1 (line_at method waiting.0)

-- THE OUTCOME

-- a method is accepted, with these last offsets, or has this first fault
pub data Outcome : Type 0 where
  Accepted : List Cell → Outcome
  Fault : ℕ → VerifyKind → Outcome

-- what comes of these offsets
pub data Ends (method : Method) : List Cell → Outcome → Type 0 where
  -- none waits
  Rests : (cells : List Cell) → lowest cells ≡ None → Ends method cells (Accepted cells)
  -- the lowest that waits has a fault, or passes on to one that has
  Stops : (cells : List Cell) (waiting : ℕ × Shape) (offset : ℕ) (kind : VerifyKind) → lowest cells ≡ Some waiting → turn method cells waiting ≡ Fails offset kind → Ends method cells (Fault offset kind)
  -- it leaves others, of which this comes
  Turns : (cells : List Cell) (waiting : ℕ × Shape) (next : List Cell) (outcome : Outcome) → lowest cells ≡ Some waiting → turn method cells waiting ≡ Leaves next → Ends method next outcome → Ends method cells outcome

-- what comes of a method
abbrev pub Verifies : Method → Outcome → Type 0
Verifies method outcome = Ends method (start method) outcome
