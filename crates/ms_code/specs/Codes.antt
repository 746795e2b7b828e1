-- What a code says (JVMS SE 8, sections 4.7.3 and 4.9.1), or why it says nothing: it is foreign or at fault. What is
-- known first counts: instruction by instruction from offset 0 to the end of the code; then the targets of the
-- instructions, in order of offset; then the ranges and handlers of the exception table, entry by entry; then the
-- classes that are caught.
use Rattle.std.specs.Prelude.{◌≡◌, ℕ, zero, suc, ◌+◌, ◌-◌, List, [], ◌∷◌, ◌++◌, length, map, replicate, slice_get, Bool, false, not, ◌&&◌, ◌||◌, ◌==◌, nat_lt, Option, Some, None, is_some, option_map, option_and_then, if◌then◌else◌, Result, Ok, Err}
use Rattle.std.specs.List.{list_all}
use Rattle.ms_words.specs.declared.thrown.Thrown.{Thrown}
use Rattle.ms_words.specs.declared.thrown.Thrown.TheVariants.{Throwable}
use Rattle.ms_words.specs.Throwables.{thrown_named}
use Rattle.ms_pool.specs.declared.code.ClassKind.{ClassKind}
use Rattle.ms_pool.specs.declared.code.ClassKind.TheVariants as kinds
use Rattle.ms_pool.specs.declared.code.RawHandler.{RawHandler}
use Rattle.ms_pool.specs.Pools.{Placed}
use Rattle.ms_pool.specs.ByNumber.{class_name}
use Rattle.ms_pool.specs.Places.{Place, beginning}
use Rattle.ms_pool.specs.Formats.{Format, done, here, found, either, ◌>>=◌}
use Rattle.ms_code.specs.declared.decoded.Handler.{Handler}
use Rattle.ms_code.specs.declared.decoded.Step.{Step}
use Rattle.ms_code.specs.declared.instruction.Case.{Case}
use Rattle.ms_code.specs.declared.instruction.Instr.{Instr}
use Rattle.ms_code.specs.declared.instruction.Operand.{Operand}
use Rattle.ms_code.specs.declared.instruction.Operand.TheVariants.{Target, Cases}
use Rattle.ms_code.specs.declared.trouble.Trouble.{Trouble}
use Rattle.ms_code.specs.declared.trouble.Trouble.TheVariants.{Foreign, At}
use Rattle.ms_code.specs.Instructions.{instruction}

-- a code with its exception table, and the places of both in the file: that of the first byte and that of the first
-- entry, or where that would be
pub record Code : Type 0 where
  pub code : List ℕ
  pub code_at : ℕ
  pub table : List RawHandler
  pub table_at : ℕ

-- Instructions by their offsets: for each byte of a code the instruction that starts there, with the offset behind it,
-- and None within an instruction.
abbrev pub Steps : Type 0
Steps = List (Option Step)

-- what a code says: its instructions, and its handlers in the order of the table
pub record DecodedCode : Type 0 where
  pub steps : Steps
  pub handlers : List Handler

-- THE INSTRUCTIONS

-- whether no byte is left
abbrev pub at_end : {Fault : Type 0} → Format Fault Bool
at_end = record {
  Spells = λ place ended after. (ended ≡ (length place.left == 0)) × (after ≡ place);
  Breaks = λ place fault. ⊥;
  read = λ place. Ok (length place.left == 0, place);
}

-- parts to the end of the bytes, at most n of them; each takes what is known before it and gives what is known behind it
abbrev pub to_end : {Fault X : Type 0} → ℕ → (X → Format Fault X) → X → Format Fault X
to_end zero part known = done known
to_end (suc n) part known = at_end >>= λ ended. either ended (done known) (part known >>= to_end n part)

-- what an instruction adds that has this offset
abbrev pub steps_of : ℕ → Step → Steps
steps_of offset step = Some step ∷ replicate (step.next - offset - 1) None

-- one more instruction, behind these; the code has this place
unfoldable pub step : List (Option Placed) → ℕ → Steps → Format Trouble Steps
step pool code_at before = do
  offset ← here
  instr ← instruction pool (code_at + offset) offset
  next ← here
  done (before ++ steps_of offset (record { instr = instr; next = next }))

-- all instructions of a code of so many bytes that has this place: each has one byte at least
abbrev pub steps : List (Option Placed) → (size code_at : ℕ) → Format Trouble Steps
steps pool size code_at = to_end size (step pool code_at) []

-- TARGETS

-- what starts at an offset
abbrev pub step_at : Steps → ℕ → Option Step
step_at steps offset = option_and_then (λ step. step) (slice_get steps offset)

-- whether an instruction starts there
abbrev pub is_start : Steps → ℕ → Bool
is_start steps offset = is_some (step_at steps offset)

-- the targets of cases
abbrev pub case_targets : List Case → List ℕ
case_targets cases = map (λ (case : Case). case.target) cases

-- the offsets to which an instruction may go besides the one behind it, the default of a switch last
abbrev pub targets_of : Operand → List ℕ
targets_of (Target target) = target ∷ []
targets_of (Cases switch) = case_targets switch.cases ++ switch.otherwise ∷ []
targets_of other = []

-- whether an instruction that starts here has a target where none starts
abbrev pub is_astray : Steps → Option Step → Bool
is_astray steps None = false
is_astray steps (Some step) = not (list_all (is_start steps) (targets_of step.instr.operand))

-- the place of the first such instruction, from an offset of this place on
abbrev pub first_astray : Steps → ℕ → Steps → Option ℕ
first_astray all place [] = None
first_astray all place (step ∷ steps) = if is_astray all step then Some place else first_astray all (place + 1) steps

-- THE EXCEPTION TABLE

-- whether the range of an entry begins at an instruction, ends behind its begin, at an instruction or at the end of a code
-- of so many bytes, and its handler begins at an instruction
abbrev pub is_entry : Steps → ℕ → RawHandler → Bool
is_entry steps size row =
    is_start steps row.start && (is_start steps row.handler && ((is_start steps row.«end» || row.«end» == size) && nat_lt row.start row.«end»))

-- the place of the first entry that isn't so, from one of this place on; an entry has eight bytes
abbrev pub first_misplaced : Steps → (size place : ℕ) → List RawHandler → Option ℕ
first_misplaced steps size place [] = None
first_misplaced steps size place (row ∷ rows) = if is_entry steps size row then first_misplaced steps size (place + 8) rows else Some place

-- the throwable that an entry catches: 0 stands for all
abbrev pub caught : List (Option Placed) → ℕ → Option Thrown
caught pool catch_type = if catch_type == 0 then Some Throwable else option_and_then thrown_named (class_name pool catch_type)

-- an entry, where it catches a known throwable
abbrev pub handler_of : List (Option Placed) → RawHandler → Option Handler
handler_of pool row = option_map (λ thrown. record { start = row.start; «end» = row.«end»; target = row.handler; catches = thrown }) (caught pool row.catch_type)

-- all entries, where each does
abbrev pub handlers_of : List (Option Placed) → List RawHandler → Option (List Handler)
handlers_of pool [] = Some []
handlers_of pool (row ∷ rows) = option_and_then (λ handler. option_map (λ (handlers : List Handler). handler ∷ handlers) (handlers_of pool rows)) (handler_of pool row)

-- THE CODE

-- nothing is read, with a fault at this place, if there is one
abbrev pub read_unless : Option ℕ → Place → Result (Unit {0} × Place) Trouble
read_unless None place = Ok (tt, place)
read_unless (Some at) place = Err (At kinds.Target at)

-- nothing, unless the target of something that has a place is no instruction
abbrev pub unless : Option ℕ → Format Trouble (Unit {0})
unless astray = record {
  Spells = λ place x after. (astray ≡ None) × (after ≡ place);
  Breaks = λ place trouble. option_map (At kinds.Target) astray ≡ Some trouble;
  read = read_unless astray;
}

-- what a code says, in a file with this pool, read from its first byte on
unfoldable pub decoded : List (Option Placed) → Code → Format Trouble DecodedCode
decoded pool code = do
  steps ← steps pool (length code.code) code.code_at
  targets ← unless (first_astray steps code.code_at steps)
  entries ← unless (first_misplaced steps (length code.code) code.table_at code.table)
  handlers ← found (handlers_of pool code.table) Foreign
  done (record { steps = steps; handlers = handlers })

-- the code says this
pub record IsDecoded (pool : List (Option Placed)) (code : Code) (result : DecodedCode) : Type 0 where
  pub after : Place
  pub is : (decoded pool code).Spells (beginning code.code) result after

-- the code is foreign: it has an instruction, an operand or a handler outside the subset, and nothing before that is at fault
abbrev pub IsForeign : List (Option Placed) → Code → Type 0
IsForeign pool code = (decoded pool code).Breaks (beginning code.code) Foreign

-- the code is at fault, and this is its first fault
abbrev pub HasFault : List (Option Placed) → Code → ClassKind → ℕ → Type 0
HasFault pool code kind at = (decoded pool code).Breaks (beginning code.code) (At kind at)

-- WHAT IS SAID OF AN OFFSET

-- the instruction that starts there
abbrev pub instr_at : DecodedCode → ℕ → Option Instr
instr_at decoded offset = option_map (λ step. step.instr) (step_at decoded.steps offset)

-- the offset, where it is one of a code of so many bytes
abbrev pub within : ℕ → ℕ → Option ℕ
within size offset = if nat_lt offset size then Some offset else None

-- the offset of the instruction behind the one that starts there, where both are
abbrev pub next_of : DecodedCode → ℕ → Option ℕ
next_of decoded offset = option_and_then (λ step. within (length decoded.steps) step.next) (step_at decoded.steps offset)
