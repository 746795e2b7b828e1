-- The instructions of thin code: how they are spelled, and what they need of the operand stack
-- (JVMS SE 8, section 6.5).
use Rattle.std.specs.Prelude.{ℕ, zero, suc, ◌+◌, ◌-◌, ◌^◌, List, [], ◌∷◌, length, ℤ, pos, negsuc, ◌≤ℤ◌, ◌<◌, FitsSigned, Bool, true, false, ◌&&◌, ◌==◌, nat_lt, nat_le}
use Rattle.std.specs.Int.{w8, cast_unsigned}
use Rattle.ms_pool.specs.Places.{number_bytes}
use Rattle.ms_classfile.specs.declared.instruction.Condition.{Condition}
use Rattle.ms_classfile.specs.declared.instruction.Condition.TheVariants.{Eq, Ne, Lt, Ge, Gt, Le}
use Rattle.ms_classfile.specs.declared.instruction.Instruction.{Instruction}
use Rattle.ms_classfile.specs.declared.instruction.Instruction.TheVariants.{IloadN, Iload, Iconst, Bipush, Iadd, Isub, If, IfIcmp, Ireturn}

-- HOW THEY ARE SPELLED

-- the opcode of iconst: 2 stands for -1, and 3 to 8 for 0 to 5
abbrev pub iconst_opcode : ℤ → ℕ
iconst_opcode (pos n) = 3 + n
iconst_opcode (negsuc n) = 2 - n

-- the place of a condition among the six opcodes of its group
abbrev pub condition_number : Condition → ℕ
condition_number Eq = 0
condition_number Ne = 1
condition_number Lt = 2
condition_number Ge = 3
condition_number Gt = 4
condition_number Le = 5

-- the bytes of an instruction
abbrev pub spelled_instruction : Instruction → List ℕ
spelled_instruction (IloadN local) = (26 + local) ∷ []
spelled_instruction (Iload local) = 21 ∷ local ∷ []
spelled_instruction (Iconst word) = iconst_opcode word ∷ []
spelled_instruction (Bipush word) = 16 ∷ cast_unsigned w8 word ∷ []
spelled_instruction Iadd = 96 ∷ []
spelled_instruction Isub = 100 ∷ []
spelled_instruction (If condition far) = (153 + condition_number condition) ∷ number_bytes 2 far
spelled_instruction (IfIcmp condition far) = (159 + condition_number condition) ∷ number_bytes 2 far
spelled_instruction Ireturn = 172 ∷ []

-- Each operand fits the bytes that it is written in: a local of 0 to 3, or of one byte; a word of -1 to 5; a
-- word of a signed byte; the offset of a branch, two signed bytes, which is not negative here.
abbrev pub IsPlain : Instruction → Type 0
IsPlain (IloadN local) = local < 4
IsPlain (Iload local) = local < 2 ^ 8
IsPlain (Iconst word) = (negsuc 0 ≤ℤ word) × (word ≤ℤ pos 5)
IsPlain (Bipush word) = FitsSigned w8 word
IsPlain Iadd = Unit {0}
IsPlain Isub = Unit {0}
IsPlain (If condition far) = far < 2 ^ 15
IsPlain (IfIcmp condition far) = far < 2 ^ 15
IsPlain Ireturn = Unit {0}

-- how many bytes it has
abbrev pub size_of : Instruction → ℕ
size_of instruction = length (spelled_instruction instruction)

-- HOW CODE IS WALKED

-- the depth of the stack behind an instruction that finds its operands at this depth
abbrev pub depth_after : ℕ → Instruction → ℕ
depth_after depth (IloadN local) = depth + 1
depth_after depth (Iload local) = depth + 1
depth_after depth (Iconst word) = depth + 1
depth_after depth (Bipush word) = depth + 1
depth_after depth Iadd = depth - 1
depth_after depth Isub = depth - 1
depth_after depth (If condition far) = depth - 1
depth_after depth (IfIcmp condition far) = depth - 2
depth_after depth Ireturn = depth - 1

-- whether an instruction starts so many bytes on in this code, and the stack, walked from this depth, is
-- empty before it
abbrev pub is_empty_at : (depth far : ℕ) → List Instruction → Bool
is_empty_at depth far [] = false
is_empty_at depth zero (instruction ∷ code) = depth == 0
is_empty_at depth (suc far) (instruction ∷ code) =
    nat_le (size_of instruction) (suc far) && is_empty_at (depth_after depth instruction) (suc far - size_of instruction) code

-- Whether a branch, of three bytes, with this code behind it, leads `far` bytes on from its own first byte to
-- the start of an instruction above its own offset, before which the stack is empty.
abbrev pub is_target : ℕ → List Instruction → Bool
is_target far code = nat_le 3 far && is_empty_at 0 (far - 3) code

-- Whether an instruction may stand at this depth with this code behind it: it finds its operands, a push
-- leaves at most `most` words, a local that it names is a parameter, the stack is empty behind a branch
-- and behind a return, and a branch has a target.
abbrev pub is_placed : (parameters most depth : ℕ) → Instruction → List Instruction → Bool
is_placed parameters most depth (IloadN local) code = nat_lt local parameters && nat_lt depth most
is_placed parameters most depth (Iload local) code = nat_lt local parameters && nat_lt depth most
is_placed parameters most depth (Iconst word) code = nat_lt depth most
is_placed parameters most depth (Bipush word) code = nat_lt depth most
is_placed parameters most depth Iadd code = nat_lt 1 depth
is_placed parameters most depth Isub code = nat_lt 1 depth
is_placed parameters most depth (If condition far) code = (depth == 1) && is_target far code
is_placed parameters most depth (IfIcmp condition far) code = (depth == 2) && is_target far code
is_placed parameters most depth Ireturn code = depth == 1

-- Whether each instruction of the code, walked in order from this depth, may stand where it does (JVMS
-- SE 8, section 4.7.3 for max_stack, section 4.9 for the constraints on code, and the narrower limits of
-- thin code).
abbrev pub is_walked : (parameters most depth : ℕ) → List Instruction → Bool
is_walked parameters most depth [] = true
is_walked parameters most depth (instruction ∷ code) =
    is_placed parameters most depth instruction code && is_walked parameters most (depth_after depth instruction) code

-- whether an instruction is a return
abbrev pub is_return : Instruction → Bool
is_return (IloadN local) = false
is_return (Iload local) = false
is_return (Iconst word) = false
is_return (Bipush word) = false
is_return Iadd = false
is_return Isub = false
is_return (If condition far) = false
is_return (IfIcmp condition far) = false
is_return Ireturn = true

-- whether the code ends with ireturn
abbrev pub ends_with_return : List Instruction → Bool
ends_with_return [] = false
ends_with_return (instruction ∷ []) = is_return instruction
ends_with_return (instruction ∷ next ∷ code) = ends_with_return (next ∷ code)
