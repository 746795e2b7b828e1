-- An instruction, as it is written in a code (JVMS SE 8, sections 4.9.1 and 6.5), or why it is none: the code ends
-- within it (Cut), the bounds or keys of a switch aren't in order (Switch), or its opcode or an operand is outside the
-- subset, so that the method is foreign. What is known first counts.
--
-- The place of an instruction is that of its opcode in the file. Offsets count from the first byte of the code.
use Rattle.std.specs.Prelude.{ℕ, ◌+◌, ◌-◌, ◌%◌, List, [], length, min, Bool, true, false, not, ◌&&◌, ◌||◌, ◌==◌, Option, Some, None, is_some, ℤ, pos, negsuc, ◌+ℤ◌, ◌-ℤ◌, int_lt, unsigned_abs, codes}
use Rattle.std.specs.Int.{cast_signed, w8, w16, w32}
use Rattle.std.specs.Str.{bytes_eq}
use Rattle.ms_words.specs.Descriptors.{field_type_of, signature_of}
use Rattle.ms_words.specs.Throwables.{thrown_named}
use Rattle.ms_pool.specs.declared.code.ClassKind.TheVariants as kinds
use Rattle.ms_pool.specs.Pools.{Placed, has_tag}
use Rattle.ms_pool.specs.ByNumber.{Reference, class_name, member}
use Rattle.ms_pool.specs.Formats.{Format, number, run, done, found, check, ◌>>=◌, added, repeated}
use Rattle.ms_code.specs.declared.form.Form.{Form}
use Rattle.ms_code.specs.declared.form.Form.TheVariants.{Plain, SignedByte, SignedShort, ConstantByte, ConstantShort, LocalIndex, LocalAndByte, BranchShort, TableCases, LookupCases, FieldIndex, ConstructorIndex, MethodIndex, ClassIndex, ArrayType, Widened, BranchInt}
use Rattle.ms_code.specs.declared.instruction.Case.{Case}
use Rattle.ms_code.specs.declared.instruction.Instr.{Instr}
use Rattle.ms_code.specs.declared.instruction.Operand.{Operand}
use Rattle.ms_code.specs.declared.instruction.Operand.TheVariants as operands
use Rattle.ms_code.specs.declared.trouble.Trouble.{Trouble}
use Rattle.ms_code.specs.declared.trouble.Trouble.TheVariants.{Foreign, At}
use Rattle.ms_code.specs.Keys.{keys_ascend}
use Rattle.ms_code.specs.Opcodes.{form_of}

-- NUMBERS

-- the code ends within the instruction that has this place
abbrev pub cut : ℕ → ℕ → Trouble
cut place at = At kinds.Cut place

-- an unsigned byte
abbrev pub u1 : ℕ → Format Trouble ℕ
u1 place = number (cut place) 1

-- an unsigned number of two bytes
abbrev pub u2 : ℕ → Format Trouble ℕ
u2 place = number (cut place) 2

-- a signed byte
unfoldable pub s1 : ℕ → Format Trouble ℤ
s1 place = number (cut place) 1 >>= λ n. done (cast_signed w8 n)

-- a signed number of two bytes
unfoldable pub s2 : ℕ → Format Trouble ℤ
s2 place = number (cut place) 2 >>= λ n. done (cast_signed w16 n)

-- a signed number of four bytes
unfoldable pub s4 : ℕ → Format Trouble ℤ
s4 place = number (cut place) 4 >>= λ n. done (cast_signed w32 n)

-- what is outside the subset
abbrev pub foreign : {X : Type 0} → Format Trouble X
foreign = found None Foreign

-- TARGETS

-- The offset that a whole number is. 65,535 stands for each that no instruction can have in a code of at most 65,535
-- bytes, which is all that is decoded.
abbrev pub offset_of : ℤ → ℕ
offset_of (pos n) = min n 65535
offset_of (negsuc n) = 65535

-- the offset so far from this one
abbrev pub target_from : ℕ → ℤ → ℕ
target_from offset by = offset_of (pos offset +ℤ by)

-- WHAT NUMBERS OF THE POOL NAME

-- whether it is an Integer or a String
abbrev pub is_constant : List (Option Placed) → ℕ → Bool
is_constant pool i = has_tag pool i 3 || has_tag pool i 8

-- whether something was found for which the test holds
abbrev pub holds_of : {X : Type 0} → (X → Bool) → Option X → Bool
holds_of test None = false
holds_of test (Some x) = test x

-- whether it is a Fieldref of a known type
abbrev pub is_field : List (Option Placed) → ℕ → Bool
is_field pool i = holds_of (λ (field : Reference). field.tag == 9 && is_some (field_type_of field.desc)) (member pool i)

-- whether it is a Methodref whose parameters and result are of known types
abbrev pub is_method : List (Option Placed) → ℕ → Bool
is_method pool i = holds_of (λ (method : Reference). method.tag == 10 && is_some (signature_of method.desc)) (member pool i)

-- whether the descriptor is that of a constructor of throwables that takes nothing, or a message
abbrev pub is_message : List ℕ → Bool
is_message desc = bytes_eq desc (codes "()V") || bytes_eq desc (codes "(Ljava/lang/String;)V")

-- whether it is a Methodref to such a constructor of a known throwable
abbrev pub is_constructor : List (Option Placed) → ℕ → Bool
is_constructor pool i = holds_of (λ (method : Reference). method.tag == 10 && (is_some (thrown_named method.class) && (bytes_eq method.name (codes "<init>") && is_message method.desc))) (member pool i)

-- whether it is the Class of a known throwable
abbrev pub is_throwable : List (Option Placed) → ℕ → Bool
is_throwable pool i = holds_of (λ name. is_some (thrown_named name)) (class_name pool i)

-- a number of the pool, for which the test holds
abbrev pub named : (ℕ → Bool) → ℕ → Format Trouble Operand
named test i = check (test i) Foreign >>= λ known. done (operands.Pool i)

-- SWITCHES

-- the target for this key
unfoldable pub case_of : (place offset : ℕ) → ℤ → Format Trouble Case
case_of place offset key = do
  by ← s4 place
  done (record { key = key; target = target_from offset by })

-- the next case of a table, behind these
abbrev pub table_case : (place offset : ℕ) → ℤ → List Case → Format Trouble Case
table_case place offset low before = case_of place offset (low +ℤ pos (length before))

-- the next case of a lookup: its key and its target
unfoldable pub lookup_case : (place offset : ℕ) → Format Trouble Case
lookup_case place offset = s4 place >>= case_of place offset

-- The bytes up to the next offset that is a multiple of four, which may be any; the opcode has this offset.
abbrev pub gap : (place offset : ℕ) → Format Trouble (List ℕ)
gap place offset = run (cut place) (3 - offset % 4)

-- a tableswitch: a gap, the default, the low and the high key, and a target for each key between them
unfoldable pub table_switch : (place offset : ℕ) → Format Trouble Operand
table_switch place offset = do
  gap ← gap place offset
  otherwise ← s4 place
  low ← s4 place
  high ← s4 place
  ordered ← check (not (int_lt high low)) (At kinds.Switch place)
  cases ← repeated (unsigned_abs (high -ℤ low) + 1) (added (table_case place offset low)) []
  done (operands.Cases (record { cases = cases; otherwise = target_from offset otherwise }))

-- a lookupswitch: a gap, the default, how many keys there are, and the keys with their targets, which ascend strictly
unfoldable pub lookup_switch : (place offset : ℕ) → Format Trouble Operand
lookup_switch place offset = do
  gap ← gap place offset
  otherwise ← s4 place
  count ← s4 place
  counted ← check (not (int_lt count (pos 0))) (At kinds.Switch place)
  cases ← repeated (unsigned_abs count) (added (λ before. lookup_case place offset)) []
  ordered ← check (keys_ascend cases) (At kinds.Switch place)
  done (operands.Cases (record { cases = cases; otherwise = target_from offset otherwise }))

-- OPERANDS

-- the target of a branch that is so far
abbrev pub target : ℕ → ℤ → Format Trouble Operand
target offset by = done (operands.Target (target_from offset by))

-- the operands of an instruction that has this place and offset, behind its opcode, which isn't `wide`
unfoldable pub operand : List (Option Placed) → (place offset : ℕ) → Form → Format Trouble Operand
operand pool place offset Plain = done operands.Nothing
operand pool place offset SignedByte = s1 place >>= λ word. done (operands.Word word)
operand pool place offset SignedShort = s2 place >>= λ word. done (operands.Word word)
operand pool place offset ConstantByte = u1 place >>= named (is_constant pool)
operand pool place offset ConstantShort = u2 place >>= named (is_constant pool)
operand pool place offset LocalIndex = u1 place >>= λ index. done (operands.Local index)
operand pool place offset LocalAndByte = u1 place >>= λ index. s1 place >>= λ by. done (operands.Increment index by)
operand pool place offset BranchShort = s2 place >>= target offset
operand pool place offset TableCases = table_switch place offset
operand pool place offset LookupCases = lookup_switch place offset
operand pool place offset FieldIndex = u2 place >>= named (is_field pool)
operand pool place offset ConstructorIndex = u2 place >>= named (is_constructor pool)
operand pool place offset MethodIndex = u2 place >>= named (is_method pool)
operand pool place offset ClassIndex = u2 place >>= named (is_throwable pool)
operand pool place offset ArrayType = u1 place >>= λ element. check (element == 10) Foreign >>= λ int. done operands.Nothing
operand pool place offset Widened = foreign
operand pool place offset BranchInt = s4 place >>= target offset

-- the operands behind `wide` and an opcode: those of iload, aload, istore, astore and iinc, with two bytes each
unfoldable pub wide_operand : ℕ → Option Form → Format Trouble Operand
wide_operand place (Some LocalIndex) = u2 place >>= λ index. done (operands.Local index)
wide_operand place (Some LocalAndByte) = u2 place >>= λ index. s2 place >>= λ by. done (operands.Increment index by)
wide_operand place other = foreign

-- behind `wide`
unfoldable pub widened : ℕ → Format Trouble Instr
widened place = do
  op ← u1 place
  operand ← wide_operand place (form_of op)
  done (record { op = op; wide = true; operand = operand })

-- behind an opcode of this form
unfoldable pub behind : List (Option Placed) → (place offset op : ℕ) → Form → Format Trouble Instr
behind pool place offset op Widened = widened place
behind pool place offset op form = operand pool place offset form >>= λ operand. done (record { op = op; wide = false; operand = operand })

-- the instruction that has this place and offset
unfoldable pub instruction : List (Option Placed) → (place offset : ℕ) → Format Trouble Instr
instruction pool place offset = do
  op ← u1 place
  form ← found (form_of op) Foreign
  behind pool place offset op form
