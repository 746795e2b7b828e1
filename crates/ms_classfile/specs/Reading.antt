-- How a thin file is read, part by part, from left to right. That what is read is what `ThinFile`
-- says is a law, `thin_files_are_read`.
use Rattle.std.specs.Prelude.{ℕ, zero, suc, ◌-◌, ◌^◌, List, [], ◌∷◌, length, Bool, true, false, ◌&&◌, ◌==◌, nat_lt, nat_le, if◌then◌else◌, Option, Some, None, is_some, is_none, slice_get, filter, codes, pos, ◌-ℤ◌}
use Rattle.std.specs.Option.{option_map}
use Rattle.std.specs.Result.{result_ok}
use Rattle.std.specs.List.{list_all}
use Rattle.std.specs.Str.{bytes_eq}
use Rattle.std.specs.Int.{w8, cast_signed}
use Rattle.ms_words.specs.Throwables.{thrown_named}
use Rattle.ms_pool.specs.Places.{Place, beginning, number_at, run_at}
use Rattle.ms_words.specs.declared.kind.Kind.{Kind}
use Rattle.ms_words.specs.declared.kind.Kind.TheVariants.{Z, I}
use Rattle.ms_classfile.specs.declared.instruction.Condition.{Condition}
use Rattle.ms_classfile.specs.declared.instruction.Condition.TheVariants.{Eq, Ne, Lt, Ge, Gt, Le}
use Rattle.ms_classfile.specs.declared.instruction.Instruction.{Instruction}
use Rattle.ms_classfile.specs.declared.instruction.Instruction.TheVariants.{IloadN, Iload, Iconst, Bipush, Iadd, Isub, If, IfIcmp, Ireturn}
use Rattle.ms_classfile.specs.declared.thin.parts.Limits.{Limits}
use Rattle.ms_classfile.specs.Instructions.{ends_with_return, is_walked}
use Rattle.ms_classfile.specs.ThinFile.{Entry, Utf8, Class, Attribute, Method, utf8, class_name, is_linked, is_named, is_plain_static, magic}

infixl 10 ◌>>=◌
-- a read, and what is read after it
abbrev pub ◌>>=◌ : {A B : Type 0} → Option A → (A → Option B) → Option B
None >>= next = None
(Some x) >>= next = next x

-- what is read, if the test holds
abbrev pub provided : {A : Type 0} → Bool → Option A → Option A
provided true read = read
provided false read = None

-- a number of one byte, with the place behind it
abbrev pub u1_at : Place → Option (ℕ × Place)
u1_at place = result_ok (number_at 1 place)

-- a number of two bytes
abbrev pub u2_at : Place → Option (ℕ × Place)
u2_at place = result_ok (number_at 2 place)

-- a number of four bytes
abbrev pub u4_at : Place → Option (ℕ × Place)
u4_at place = result_ok (number_at 4 place)

-- a run of n bytes
abbrev pub bytes_at : ℕ → Place → Option (List ℕ × Place)
bytes_at n place = result_ok (run_at n place)

-- so many of the same kind, one after another
unfoldable pub repeated : {X : Type 0} → (Place → Option (X × Place)) → ℕ → Place → Option (List X × Place)
repeated read zero place = Some ([], place)
repeated read (suc n) place = do
  first ← read place
  rest ← repeated read n first.1
  Some (first.0 ∷ rest.0, rest.1)

-- THE CONSTANT POOL

-- a text, behind its tag
unfoldable pub text_at : Place → Option (Entry × Place)
text_at place = do
  size ← u2_at place
  text ← bytes_at size.0 size.1
  Some (Utf8 text.0, text.1)

-- a class, behind its tag
unfoldable pub class_at : Place → Option (Entry × Place)
class_at place = do
  name ← u2_at place
  Some (Class name.0, name.1)

-- an entry of the pool
unfoldable pub entry_at : Place → Option (Entry × Place)
entry_at place = do
  tag ← u1_at place
  if tag.0 == 1 then text_at tag.1 else provided (tag.0 == 7) (class_at tag.1)

-- the pool: its count, and the entries, whose numbers name what they should
unfoldable pub pool_at : Place → Option (List Entry × Place)
pool_at place = do
  count ← u2_at place
  pool ← provided (nat_lt 0 count.0) (repeated entry_at (count.0 - 1) count.1)
  provided (list_all (is_linked pool.0) pool.0) (Some pool)

-- ATTRIBUTES

-- an attribute, whose name is a text
unfoldable pub attribute_at : List Entry → Place → Option (Attribute × Place)
attribute_at pool place = do
  name ← u2_at place
  size ← u4_at name.1
  content ← bytes_at size.0 size.1
  provided (is_some (utf8 pool name.0)) (Some (record { name = name.0; content = content.0 }, content.1))

-- attributes: how many they are, and each
unfoldable pub attributes_at : List Entry → Place → Option (List Attribute × Place)
attributes_at pool place = do
  count ← u2_at place
  repeated (attribute_at pool) count.0 count.1

-- CODE

-- the instruction that has this opcode and no operand
abbrev pub short_instruction : ℕ → Option Instruction
short_instruction opcode =
    if nat_le 26 opcode && nat_le opcode 29 then Some (IloadN (opcode - 26))
    else (if nat_le 2 opcode && nat_le opcode 8 then Some (Iconst (pos opcode -ℤ pos 3))
    else (if opcode == 96 then Some Iadd
    else (if opcode == 100 then Some Isub
    else (if opcode == 172 then Some Ireturn
    else None))))

-- the condition of this place in its group of opcodes
abbrev pub condition_of : ℕ → Option Condition
condition_of number = slice_get (Eq ∷ Ne ∷ Lt ∷ Ge ∷ Gt ∷ Le ∷ []) number

-- a load, behind its opcode
unfoldable pub load_at : Place → Option (Instruction × Place)
load_at place = do
  local ← u1_at place
  Some (Iload local.0, local.1)

-- a push, behind its opcode
unfoldable pub push_at : Place → Option (Instruction × Place)
push_at place = do
  byte ← u1_at place
  Some (Bipush (cast_signed w8 byte.0), byte.1)

-- how far a branch leads, behind its opcode
unfoldable pub offset_at : Place → Option (ℕ × Place)
offset_at place = do
  far ← u2_at place
  provided (nat_lt far.0 (2 ^ 15)) (Some far)

-- a branch with this condition, behind its opcode
unfoldable pub branch_at : (Condition → ℕ → Instruction) → ℕ → Place → Option (Instruction × Place)
branch_at branch number place = do
  condition ← condition_of number
  far ← offset_at place
  Some (branch condition far.0, far.1)

-- the instruction that has this opcode, behind it
unfoldable pub operand_at : ℕ → Place → Option (Instruction × Place)
operand_at opcode place =
    if opcode == 16 then push_at place
    else (if opcode == 21 then load_at place
    else (if nat_le 153 opcode && nat_le opcode 158 then branch_at If (opcode - 153) place
    else (if nat_le 159 opcode && nat_le opcode 164 then branch_at IfIcmp (opcode - 159) place
    else option_map (λ instruction. (instruction, place)) (short_instruction opcode))))

-- an instruction: its opcode, and its operand
unfoldable pub instruction_at : Place → Option (Instruction × Place)
instruction_at place = do
  opcode ← u1_at place
  operand_at opcode.0 opcode.1

-- instructions one after another up to the end of the bytes, at most so many
unfoldable pub instructions_at : ℕ → Place → Option (List Instruction)
instructions_at zero place = provided (length place.left == 0) (Some [])
instructions_at (suc most) place =
    if length place.left == 0 then Some []
    else (instruction_at place >>= λ first. option_map (λ code. first.0 ∷ code) (instructions_at most first.1))

-- the instructions that these bytes are; there are no more of them than bytes
abbrev pub instructions_of : List ℕ → Option (List Instruction)
instructions_of bytes = instructions_at (length bytes) (beginning bytes)

-- the limits of a method's code
unfoldable pub limits_at : Place → Option (Limits × Place)
limits_at place = do
  max_stack ← u2_at place
  max_locals ← u2_at max_stack.1
  Some (record { max_stack = max_stack.0; max_locals = max_locals.0 }, max_locals.1)

-- the rest of a Code attribute after its code: no exception table, attributes, and nothing more
unfoldable pub rest_is_plain : List Entry → Place → Option Place
rest_is_plain pool place = do
  handlers ← u2_at place
  attributes ← provided (handlers.0 == 0) (attributes_at pool handlers.1)
  provided (length attributes.1.left == 0) (Some attributes.1)

-- the most words on the stack and the instructions of a Code attribute that holds this, of a method
-- with so many parameters
unfoldable pub code_of : List Entry → ℕ → List ℕ → Option (ℕ × List Instruction)
code_of pool parameters content = do
  limits ← limits_at (beginning content)
  size ← u4_at limits.1
  bytes ← provided (nat_le size.0 19999) (bytes_at size.0 size.1)
  rest ← rest_is_plain pool bytes.1
  code ← instructions_of bytes.0
  let fits = nat_le limits.0.max_stack 256 && nat_le limits.0.max_locals 256 && nat_le parameters limits.0.max_locals in
      provided (fits && is_walked parameters limits.0.max_stack 0 code && ends_with_return code) (Some (limits.0.max_stack, code))

-- THE METHOD AND THE FILE

-- the one element of a list
abbrev pub only : {X : Type 0} → List X → Option X
only [] = None
only (x ∷ []) = Some x
only (x ∷ y ∷ more) = None

-- the kind that a letter stands for, of those that thin methods have
abbrev pub kind_of : ℕ → Option Kind
kind_of byte = if byte == 90 then Some Z else (if byte == 73 then Some I else None)

-- the kinds of the parameters, at most `most`, and what stands behind the closing parenthesis
abbrev pub parameters_of : ℕ → List ℕ → Option (List Kind × List ℕ)
parameters_of most [] = None
parameters_of zero (byte ∷ text) = provided (byte == 41) (Some ([], text))
parameters_of (suc most) (byte ∷ text) =
    if byte == 41 then Some ([], text)
    else (kind_of byte >>= λ kind. option_map (λ rest. (kind ∷ rest.0, rest.1)) (parameters_of most text))

-- the kind of the result
abbrev pub result_of : List ℕ → Option Kind
result_of text = only text >>= kind_of

-- the kinds of the parameters, at most eight, and of the result that a descriptor states
abbrev pub signature_of : List ℕ → Option (List Kind × Kind)
signature_of [] = None
signature_of (byte ∷ text) =
    provided (byte == 40) (parameters_of 8 text) >>= λ parameters. option_map (λ result. (parameters.0, result)) (result_of parameters.1)

-- the method of the class of this name
unfoldable pub method_at : List Entry → List ℕ → Place → Option (Method × Place)
method_at pool class place = do
  access ← u2_at place
  name_number ← u2_at access.1
  descriptor_number ← u2_at name_number.1
  attributes ← provided (is_plain_static access.0) (attributes_at pool descriptor_number.1)
  name ← utf8 pool name_number.0
  text ← utf8 pool descriptor_number.0
  signature ← signature_of text
  attribute ← only (filter (is_named pool (codes "Code")) attributes.0)
  code ← code_of pool (length signature.0) attribute.content
  Some (record { class = class; name = name; descriptor = text; kinds = signature.0; result = signature.1; max_stack = code.0; instructions = code.1 }, attributes.1)

-- magic and version
unfoldable pub header_at : Place → Option Place
header_at place = do
  first ← u4_at place
  minor ← provided (first.0 == magic) (u2_at first.1)
  major ← u2_at minor.1
  provided (nat_le 45 major.0 && nat_le major.0 52) (Some major.1)

-- a name that no throwable has
abbrev pub is_ordinary : List ℕ → Bool
is_ordinary name = is_none (thrown_named name)

-- the class's flags, its name and its parent; the name is given
unfoldable pub class_part_at : List Entry → Place → Option (List ℕ × Place)
class_part_at pool place = do
  access ← u2_at place
  this_class ← u2_at access.1
  super_class ← u2_at this_class.1
  name ← class_name pool this_class.0
  parent ← class_name pool super_class.0
  provided (is_ordinary name && bytes_eq parent (codes "java/lang/Object")) (Some (name, super_class.1))

-- no interfaces, no fields, one method
unfoldable pub counts_at : Place → Option Place
counts_at place = do
  interfaces ← u2_at place
  fields ← u2_at interfaces.1
  methods ← u2_at fields.1
  provided (interfaces.0 == 0 && (fields.0 == 0) && (methods.0 == 1)) (Some methods.1)

-- the method of the thin file that these bytes are, if they are one
unfoldable pub thin_method : List ℕ → Option Method
thin_method bytes = do
  start ← header_at (beginning bytes)
  pool ← pool_at start
  class ← class_part_at pool.0 pool.1
  counts ← counts_at class.1
  method ← method_at pool.0 class.0 counts
  attributes ← attributes_at pool.0 method.1
  provided (length attributes.1.left == 0) (Some method.0)
