-- the definitions computed on two files
use Rattle.std.proofs.Common.{◌≡◌, ℕ, pos, List, [], ◌∷◌, Some, refl, codes}
use Rattle.ms_words.specs.declared.kind.Kind.TheVariants.{Z, I}
use Rattle.ms_classfile.specs.declared.instruction.Condition.TheVariants.{Eq, Ne}
use Rattle.ms_classfile.specs.declared.instruction.Instruction.TheVariants.{IloadN, Iconst, Iadd, If, Ireturn}
use Rattle.ms_classfile.specs.Reading.{thin_method, repeated, text_at, class_at, entry_at, pool_at, attribute_at, attributes_at, load_at, push_at, offset_at, branch_at, operand_at, instruction_at, instructions_at, limits_at, rest_is_plain, code_of, method_at, header_at, class_part_at, counts_at}

-- a sum of two ints
abbrev sum_file : List ℕ
sum_file = 202 ∷ 254 ∷ 186 ∷ 190 ∷ 0 ∷ 0 ∷ 0 ∷ 52 ∷ 0 ∷ 8 ∷ 1 ∷ 0 ∷ 1 ∷ 84 ∷ 7 ∷ 0 ∷ 1 ∷ 1 ∷ 0 ∷ 16 ∷ 106 ∷ 97 ∷ 118 ∷ 97 ∷ 47 ∷ 108 ∷ 97 ∷ 110 ∷ 103 ∷ 47 ∷ 79 ∷ 98 ∷ 106 ∷ 101 ∷ 99 ∷ 116 ∷ 7 ∷ 0 ∷ 3 ∷ 1 ∷ 0 ∷ 1 ∷ 102 ∷ 1 ∷ 0 ∷ 5 ∷ 40 ∷ 73 ∷ 73 ∷ 41 ∷ 73 ∷ 1 ∷ 0 ∷ 4 ∷ 67 ∷ 111 ∷ 100 ∷ 101 ∷ 0 ∷ 33 ∷ 0 ∷ 2 ∷ 0 ∷ 4 ∷ 0 ∷ 0 ∷ 0 ∷ 0 ∷ 0 ∷ 1 ∷ 0 ∷ 9 ∷ 0 ∷ 5 ∷ 0 ∷ 6 ∷ 0 ∷ 1 ∷ 0 ∷ 7 ∷ 0 ∷ 0 ∷ 0 ∷ 16 ∷ 0 ∷ 2 ∷ 0 ∷ 2 ∷ 0 ∷ 0 ∷ 0 ∷ 4 ∷ 26 ∷ 27 ∷ 96 ∷ 172 ∷ 0 ∷ 0 ∷ 0 ∷ 0 ∷ 0 ∷ 0 ∷ []

sum_example : thin_method sum_file ≡ Some (record { class = codes "T"; name = codes "f"; descriptor = codes "(II)I"; kinds = I ∷ I ∷ []; result = I; max_stack = 2; instructions = IloadN 0 ∷ IloadN 1 ∷ Iadd ∷ Ireturn ∷ [] })
unfolding thin_method repeated text_at class_at entry_at pool_at attribute_at attributes_at load_at push_at offset_at branch_at operand_at instruction_at instructions_at limits_at rest_is_plain code_of method_at header_at class_part_at counts_at
sum_example = refl

-- a choice by two truth values
abbrev choice_file : List ℕ
choice_file = 202 ∷ 254 ∷ 186 ∷ 190 ∷ 0 ∷ 0 ∷ 0 ∷ 52 ∷ 0 ∷ 8 ∷ 1 ∷ 0 ∷ 1 ∷ 84 ∷ 7 ∷ 0 ∷ 1 ∷ 1 ∷ 0 ∷ 16 ∷ 106 ∷ 97 ∷ 118 ∷ 97 ∷ 47 ∷ 108 ∷ 97 ∷ 110 ∷ 103 ∷ 47 ∷ 79 ∷ 98 ∷ 106 ∷ 101 ∷ 99 ∷ 116 ∷ 7 ∷ 0 ∷ 3 ∷ 1 ∷ 0 ∷ 1 ∷ 102 ∷ 1 ∷ 0 ∷ 5 ∷ 40 ∷ 90 ∷ 90 ∷ 41 ∷ 73 ∷ 1 ∷ 0 ∷ 4 ∷ 67 ∷ 111 ∷ 100 ∷ 101 ∷ 0 ∷ 33 ∷ 0 ∷ 2 ∷ 0 ∷ 4 ∷ 0 ∷ 0 ∷ 0 ∷ 0 ∷ 0 ∷ 1 ∷ 0 ∷ 9 ∷ 0 ∷ 5 ∷ 0 ∷ 6 ∷ 0 ∷ 1 ∷ 0 ∷ 7 ∷ 0 ∷ 0 ∷ 0 ∷ 26 ∷ 0 ∷ 2 ∷ 0 ∷ 2 ∷ 0 ∷ 0 ∷ 0 ∷ 14 ∷ 26 ∷ 153 ∷ 0 ∷ 5 ∷ 4 ∷ 172 ∷ 27 ∷ 154 ∷ 0 ∷ 5 ∷ 5 ∷ 172 ∷ 3 ∷ 172 ∷ 0 ∷ 0 ∷ 0 ∷ 0 ∷ 0 ∷ 0 ∷ []

choice_example : thin_method choice_file ≡ Some (record { class = codes "T"; name = codes "f"; descriptor = codes "(ZZ)I"; kinds = Z ∷ Z ∷ []; result = I; max_stack = 2; instructions = IloadN 0 ∷ If Eq 5 ∷ Iconst (pos 1) ∷ Ireturn ∷ IloadN 1 ∷ If Ne 5 ∷ Iconst (pos 2) ∷ Ireturn ∷ Iconst (pos 0) ∷ Ireturn ∷ [] })
unfolding thin_method repeated text_at class_at entry_at pool_at attribute_at attributes_at load_at push_at offset_at branch_at operand_at instruction_at instructions_at limits_at rest_is_plain code_of method_at header_at class_part_at counts_at
choice_example = refl
