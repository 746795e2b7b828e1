-- For private functions: what the code's lists of lines and slots stand for.
use Rattle.std.specs.Prelude.{◌≡◌, ℕ, suc, ◌<◌, ◌≤◌, ◌^◌, Bool, true, false, ◌&&◌, List, [], ◌∷◌, map, filter, length, slice_get, All, Option, Some, None, IfSome, option_map, is_some}
use Rattle.std.specs.Borrow.{Bor}
use Rattle.ms_words.specs.declared.thrown.Thrown.{Thrown}
use Rattle.ms_code.specs.declared.decoded.Handler.{Handler}
use Rattle.ms_code.specs.Codes.{DecodedCode}
use Rattle.ms_program.specs.declared.body.Body.{Body}
use Rattle.ms_program.specs.Laws.{IsWholeBody}
use Rattle.ms_program.specs.Programs.{Program, body_of, method_id}
use Rattle.ms_program.specs.Views.{covers}
use Rattle.ms_linking.specs.Told.{told}
use Rattle.ms_typing.specs.declared.kind.VerifyKind.TheVariants.{Merge}
use Rattle.ms_typing.specs.Kinds.{Shape}
use Rattle.ms_typing.specs.Rules as rules
use Rattle.ms_typing.specs.Rules.{Profile, takes}
use Rattle.ms_typing.specs.Verifier as typing
use Rattle.ms_typing.specs.Verifier.{Accepted, Cell, Fails, Leaves, Method, Outcome, Settled, Turn, Unreached, Verifies, Waiting, line_at, lowest, passes, successors}
use Rattle.ms_verify.specs.declared.line.Code.{Code}
use Rattle.ms_verify.specs.declared.line.Fault.{Fault}
use Rattle.ms_verify.specs.declared.line.Line.{Line}
use Rattle.ms_verify.specs.declared.line.Want.{Want}
use Rattle.ms_verify.specs.declared.line.Want.TheVariants.{AnInt, AnArray, AThrowable, AText, AReference, AReferenceOrNew, ANew, Anything}
use Rattle.ms_verify.specs.declared.shape.Slot.{Slot}

-- WHAT IS TAKEN

abbrev pub want_told : Want → rules.Want
want_told AnInt = rules.AnInt
want_told AnArray = rules.AnArray
want_told AThrowable = rules.AThrowable
want_told AText = rules.AText
want_told AReference = rules.AReference
want_told AReferenceOrNew = rules.AReferenceOrNew
want_told (ANew class) = rules.ANew class
want_told Anything = rules.Anything

-- LINES

-- a handler, by its offset
abbrev pub handler_told : Handler → ℕ × Thrown
handler_told handler = (handler.target, handler.catches)

-- of these handlers those that cover an offset
abbrev pub handlers_at : List Handler → ℕ → List (ℕ × Thrown)
handlers_at handlers offset = map handler_told (filter (covers offset) handlers)

-- the line at an offset, in a code with these handlers
abbrev pub line_told : List Handler → ℕ → Line → typing.Line
line_told handlers offset line = record { instr = told line.instruction; next = line.next; targets = line.targets.items; handlers = handlers_at handlers offset }

-- lines from an offset on
abbrev pub lines_told : List Handler → ℕ → List (Option Line) → List (Option typing.Line)
lines_told handlers offset [] = []
lines_told handlers offset (line ∷ lines) = option_map (line_told handlers offset) line ∷ lines_told handlers (suc offset) lines

abbrev pub profile_told : Code → Profile
profile_told code = record { max_stack = code.max_stack; max_locals = code.max_locals; parameters = code.parameters.items; result = code.result }

-- the method of a code
abbrev pub method_told : Code → Method
method_told code = record { profile = profile_told code; lines = lines_told code.handlers.now 0 code.lines.items }

-- a line that is lent
abbrev pub line_lent : List Handler → ℕ → Option (Bor Line) → Option typing.Line
line_lent handlers offset None = None
line_lent handlers offset (Some line) = Some (line_told handlers offset line.now)

-- what a line takes is what its instruction does, and its successors are those of its instruction, in order, and within a
-- code of so many bytes
pub record IsWhole (size : ℕ) (line : Line) : Type 0 where
  pub takes_are : map want_told line.takes.items ≡ takes (told line.instruction)
  pub successors_are : (handlers : List Handler) (offset : ℕ) → line.successors.items ≡ successors (line_told handlers offset line)
  pub within : All (λ offset. offset < size) line.successors.items

pub record AreWhole (size : ℕ) (line : Option Line) : Type 0 where
  pub whole : IfSome line (IsWhole size)

-- a code has 1 to 65,535 bytes, and its lines and handlers lead to offsets within it
pub record IsWholeCode (code : Code) : Type 0 where
  pub some : 0 < length code.lines.items
  pub short : length code.lines.items < 2 ^ 16
  pub lines : All (AreWhole (length code.lines.items)) code.lines.items
  pub handlers : All (λ handler. handler.target < length code.lines.items) code.handlers.now

-- SLOTS

abbrev pub cell_with : Option Shape → Bool → Cell
cell_with None waits = Unreached
cell_with (Some shape) true = Waiting shape
cell_with (Some shape) false = Settled shape

-- what a slot is
abbrev pub cell_of : Slot → Cell
cell_of slot = cell_with slot.shape slot.waits

abbrev pub cells_of : List Slot → List Cell
cells_of slots = map cell_of slots

abbrev pub waiting : Slot → Bool
waiting slot = slot.waits && is_some slot.shape

-- its shape has so many locals
pub record HasLocals (count : ℕ) (slot : Slot) : Type 0 where
  pub have : IfSome slot.shape (λ shape. length shape.locals ≡ count)

abbrev pub AllHave : ℕ → List Slot → Type 0
AllHave count slots = All (HasLocals count) slots

-- the lowest offset that waits
abbrev pub IsLowest : List Slot → ℕ → Type 0
IsLowest slots offset = (shape : Shape) × (lowest (cells_of slots) ≡ Some (offset, shape))

-- TURNS

-- all was passed on, or two depths differ at an offset
abbrev pub turn_of : Option ℕ → List Cell → Turn
turn_of None cells = Leaves cells
turn_of (Some offset) cells = Fails offset Merge

-- a turn without a fault, or with one
abbrev pub turned : Option Fault → List Cell → Turn
turned None cells = Leaves cells
turned (Some fault) cells = Fails fault.offset fault.kind

abbrev pub outcome_of : Option Fault → List Cell → Outcome
outcome_of None cells = Accepted cells
outcome_of (Some fault) cells = typing.Fault fault.offset fault.kind

-- whether an offset doesn't wait
abbrev pub rests : Option Cell → Bool
rests (Some (Waiting shape)) = false
rests cell = true

-- an offset doesn't wait, if it is below this one
abbrev pub RestsBelow : List Slot → (low offset : ℕ) → Type 0
RestsBelow slots low offset = offset < low → rests (slice_get (cells_of slots) offset) ≡ true

-- of the offsets to which the instruction at an offset leads none below this one waits, which is the next one at most
pub record IsLow (method : Method) (slots : List Slot) (offset low : ℕ) : Type 0 where
  pub own : low ≤ suc offset
  pub led : (line : typing.Line) → line_at method offset ≡ Some line → (shape : Shape) → All (λ (passed : ℕ × Shape). RestsBelow slots low passed.0) (passes offset line shape)

-- what comes of a method is this fault, or none
abbrev pub HasOutcome : Method → Option Fault → Type 0
HasOutcome method fault = (cells : List Cell) × Verifies method (outcome_of fault cells)

-- METHODS OF A PROGRAM

-- a method has this code, which is whole
pub record HasBody (P : Program) (class method : ℕ) (code : DecodedCode) : Type 0 where
  pub body : Body
  pub is : body_of P (method_id class method) ≡ Some body
  pub code_is : body.code ≡ code
  pub whole : IsWholeBody body
