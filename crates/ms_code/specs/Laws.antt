-- What is said of all codes, and of each decoded one.
use Rattle.std.specs.Prelude.{◌≡◌, ℕ, ◌<◌, ◌≤◌, List, [], ◌∷◌, ◌++◌, length, Bool, true, false, not, ◌&&◌, ◌||◌, ◌==◌, nat_lt, Option, Some, All, IsTrue}
use Rattle.std.specs.List.{list_all}
use Rattle.ms_pool.specs.declared.code.ClassKind.{ClassKind}
use Rattle.ms_pool.specs.declared.code.ClassKind.TheVariants.{Cut, Target, Switch}
use Rattle.ms_pool.specs.Pools.{Placed}
use Rattle.ms_code.specs.declared.decoded.Handler.{Handler}
use Rattle.ms_code.specs.declared.decoded.Step.{Step}
use Rattle.ms_code.specs.declared.form.Form.{Form}
use Rattle.ms_code.specs.declared.form.Form.TheVariants.{Plain, SignedByte, SignedShort, ConstantByte, ConstantShort, LocalIndex, LocalAndByte, BranchShort, TableCases, LookupCases, FieldIndex, ConstructorIndex, MethodIndex, ClassIndex, ArrayType, Widened, BranchInt}
use Rattle.ms_code.specs.declared.instruction.Instr.{Instr}
use Rattle.ms_code.specs.declared.instruction.Operand.{Operand}
use Rattle.ms_code.specs.declared.instruction.Operand.TheVariants as operands
use Rattle.ms_code.specs.Codes.{Code, DecodedCode, HasFault, IsDecoded, Steps, instr_at, is_start, next_of, steps_of, targets_of}
use Rattle.ms_code.specs.Instructions.{holds_of, is_constant, is_constructor, is_field, is_method, is_throwable}
use Rattle.ms_code.specs.Keys.{keys_ascend}
use Rattle.ms_code.specs.Opcodes.{form_of}

-- THE THREE THINGS THAT A CODE MAY BE

-- entries of a constant pool, by their numbers
abbrev pub Slots : Type 0
Slots = List (Option Placed)

-- each number of the code is a byte
abbrev pub AreBytes : Code → Type 0
AreBytes code = All (λ byte. byte < 256) code.code

-- the code says something
abbrev pub SaysSomething : Slots → Code → Type 0
SaysSomething pool code = (decoded : DecodedCode) × IsDecoded pool code decoded

-- the code has a first fault
abbrev pub IsAtFault : Slots → Code → Type 0
IsAtFault pool code = (kind : ClassKind) × (at : ℕ) × HasFault pool code kind at

-- whether a fault of this kind is one of a code
abbrev pub is_code_fault : ClassKind → Bool
is_code_fault Cut = true
is_code_fault Target = true
is_code_fault Switch = true
is_code_fault other = false

-- INSTRUCTIONS OF THE SUBSET

-- whether an operand is nothing
abbrev pub is_nothing : Operand → Bool
is_nothing operands.Nothing = true
is_nothing other = false

-- whether it is a word
abbrev pub is_word : Operand → Bool
is_word (operands.Word word) = true
is_word other = false

-- whether it is the index of a local
abbrev pub is_local : Operand → Bool
is_local (operands.Local index) = true
is_local other = false

-- whether it is the index of a local with an increment
abbrev pub is_increment : Operand → Bool
is_increment (operands.Increment index by) = true
is_increment other = false

-- whether it is a number of the pool for which the test holds
abbrev pub is_number : (ℕ → Bool) → Operand → Bool
is_number test (operands.Pool i) = test i
is_number test other = false

-- whether it is a target
abbrev pub is_target : Operand → Bool
is_target (operands.Target target) = true
is_target other = false

-- whether it is the cases of a switch
abbrev pub is_cases : Operand → Bool
is_cases (operands.Cases switch) = true
is_cases other = false

-- whether an operand is of this form, and its number of the pool, where the form asks for one, names what the form asks for
abbrev pub has_form : Slots → Form → Operand → Bool
has_form pool Plain operand = is_nothing operand
has_form pool SignedByte operand = is_word operand
has_form pool SignedShort operand = is_word operand
has_form pool ConstantByte operand = is_number (is_constant pool) operand
has_form pool ConstantShort operand = is_number (is_constant pool) operand
has_form pool LocalIndex operand = is_local operand
has_form pool LocalAndByte operand = is_increment operand
has_form pool BranchShort operand = is_target operand
has_form pool TableCases operand = is_cases operand
has_form pool LookupCases operand = is_cases operand
has_form pool FieldIndex operand = is_number (is_field pool) operand
has_form pool ConstructorIndex operand = is_number (is_constructor pool) operand
has_form pool MethodIndex operand = is_number (is_method pool) operand
has_form pool ClassIndex operand = is_number (is_throwable pool) operand
has_form pool ArrayType operand = is_nothing operand
has_form pool Widened operand = false
has_form pool BranchInt operand = is_target operand

-- whether `wide` may stand in front of an opcode of this form
abbrev pub is_widened : Form → Bool
is_widened LocalIndex = true
is_widened LocalAndByte = true
is_widened other = false

-- whether an instruction is one of an opcode of this form
abbrev pub is_of_form : Slots → Instr → Form → Bool
is_of_form pool instr form = has_form pool form instr.operand && (not instr.wide || is_widened form)

-- whether an instruction is one of the subset: its opcode has a form, and it is of that form
abbrev pub is_instruction : Slots → Instr → Bool
is_instruction pool instr = holds_of (is_of_form pool instr) (form_of instr.op)

-- DECODED CODES

-- instructions one behind the other from an offset on, by their offsets
abbrev pub laid : ℕ → List Step → Steps
laid offset [] = []
laid offset (step ∷ steps) = steps_of offset step ++ laid step.next steps

-- each has a byte at least, and the last one ends where the code of so many bytes does
abbrev pub AreEndToEnd : ℕ → List Step → ℕ → Type 0
AreEndToEnd offset [] size = offset ≡ size
AreEndToEnd offset (step ∷ steps) size = (offset < step.next) × AreEndToEnd step.next steps size

-- the instructions stand end to end, from offset 0 to the end of the code
pub record StandEndToEnd (code : Code) (decoded : DecodedCode) : Type 0 where
  pub steps : List Step
  pub steps_are : decoded.steps ≡ laid 0 steps
  pub end_to_end : AreEndToEnd 0 steps (length code.code)

-- whether the keys of a switch ascend strictly
abbrev pub has_keys_in_order : Operand → Bool
has_keys_in_order (operands.Cases switch) = keys_ascend switch.cases
has_keys_in_order other = true

-- whether a handler covers a range that begins at an instruction and ends, behind that, at one or at the end of the code, and
-- begins at an instruction itself
abbrev pub is_handler : Steps → ℕ → Handler → Bool
is_handler steps size handler =
    is_start steps handler.start && (is_start steps handler.target && ((is_start steps handler.«end» || handler.«end» == size) && nat_lt handler.start handler.«end»))

-- what holds of a decoded code, in a file with this pool
pub record IsWhole (pool : Slots) (code : Code) (decoded : DecodedCode) : Type 0 where
  pub whole : StandEndToEnd code decoded
  -- an instruction starts at offset 0, if there are bytes
  pub first : 0 < length code.code → IsTrue (is_start decoded.steps 0)
  -- where an instruction has one behind it, one starts there
  pub next : (offset behind : ℕ) → next_of decoded offset ≡ Some behind → IsTrue (is_start decoded.steps behind)
  -- each target is an instruction
  pub targets : (offset : ℕ) (instr : Instr) → instr_at decoded offset ≡ Some instr → IsTrue (list_all (is_start decoded.steps) (targets_of instr.operand))
  -- each instruction is one of the subset
  pub fits : (offset : ℕ) (instr : Instr) → instr_at decoded offset ≡ Some instr → IsTrue (is_instruction pool instr)
  -- it has no more targets than the code has bytes
  pub few : (offset : ℕ) (instr : Instr) → instr_at decoded offset ≡ Some instr → length (targets_of instr.operand) ≤ length code.code
  -- the keys of each switch ascend
  pub keys : (offset : ℕ) (instr : Instr) → instr_at decoded offset ≡ Some instr → IsTrue (has_keys_in_order instr.operand)
  -- there is a handler for each entry of the exception table, and each is where it should be
  pub as_many : length decoded.handlers ≡ length code.table
  pub handlers : IsTrue (list_all (is_handler decoded.steps (length code.code)) decoded.handlers)
