-- The definitions computed on thin methods, from their instructions to strings and ends.
use Rattle.std.proofs.Common.{◌≡◌, List, [], ◌∷◌, ℤ, pos, negsuc, Some, codes, refl}
use Rattle.std.specs.Int.{int_wrap}
use Rattle.ms_words.specs.declared.end.Ended.TheVariants as ended
use Rattle.ms_words.specs.declared.end.PathEnd.TheVariants as path_end
use Rattle.ms_words.specs.declared.item.Item.TheVariants.{Entry}
use Rattle.ms_words.specs.declared.kind.Kind.{Kind}
use Rattle.ms_words.specs.declared.kind.Kind.TheVariants.{Z, I}
use Rattle.ms_words.specs.Inputs.{Words}
use Rattle.ms_classfile.specs.declared.instruction.Condition.TheVariants.{Eq, Ne, Gt}
use Rattle.ms_classfile.specs.declared.instruction.Instruction.{Instruction}
use Rattle.ms_classfile.specs.declared.instruction.Instruction.TheVariants.{IloadN, Iload, Iconst, Bipush, Iadd, If, IfIcmp, Ireturn}
use Rattle.ms_classfile.specs.ThinFile.{Method}
use Rattle.ms_machine.specs.Segments.{most_instructions}
use Rattle.ms_machine.specs.Runs.{end_of, footprint, string}
use Rattle.ms_jvm.specs.Ends.{path_end_of}
use Rattle.ms_jvm.specs.Programs.{at, code_from, program_of}

abbrev method : List Kind → List Instruction → Method
method kinds instructions = record { class = codes "T"; name = codes "f"; descriptor = []; kinds = kinds; result = I; max_stack = 2; instructions = instructions }

abbrev input : List Kind → List ℤ → Words
input kinds words = record { kinds = kinds; words = words }

-- TWO TRUTH VALUES: 0 iload_0, 1 ifeq 6, 4 iconst_1, 5 ireturn, 6 iload_1, 7 ifne 12, 10 iconst_2, 11 ireturn, 12 iconst_0, 13 ireturn

abbrev truths : Method
truths = method (Z ∷ Z ∷ []) (IloadN 0 ∷ If Eq 5 ∷ Iconst (pos 1) ∷ Ireturn ∷ IloadN 1 ∷ If Ne 5 ∷ Iconst (pos 2) ∷ Ireturn ∷ Iconst (pos 0) ∷ Ireturn ∷ [])

abbrev two : ℤ → ℤ → Words
two a b = input (Z ∷ Z ∷ []) (a ∷ b ∷ [])

-- an instruction starts at 6, and none at 8
starts : code_from 6 truths.instructions ≡ IloadN 1 ∷ If Ne 5 ∷ Iconst (pos 2) ∷ Ireturn ∷ Iconst (pos 0) ∷ Ireturn ∷ []
starts = refl

no_start : code_from 8 truths.instructions ≡ []
no_start = refl

string_10 : string (program_of truths) (two (pos 1) (pos 0)) 2 ≡ 0 ∷ []
unfolding most_instructions
string_10 = refl

end_10 : path_end_of (end_of (program_of truths) (two (pos 1) (pos 0)) 2) ≡ Some (path_end.Ended (ended.Returned (pos 1)))
unfolding most_instructions
end_10 = refl

string_00 : string (program_of truths) (two (pos 0) (pos 0)) 2 ≡ 1 ∷ 0 ∷ []
unfolding most_instructions
string_00 = refl

end_00 : path_end_of (end_of (program_of truths) (two (pos 0) (pos 0)) 2) ≡ Some (path_end.Ended (ended.Returned (pos 2)))
unfolding most_instructions
end_00 = refl

string_01 : string (program_of truths) (two (pos 0) (pos 1)) 2 ≡ 1 ∷ 1 ∷ []
unfolding most_instructions
string_01 = refl

end_01 : path_end_of (end_of (program_of truths) (two (pos 0) (pos 1)) 2) ≡ Some (path_end.Ended (ended.Returned (pos 0)))
unfolding most_instructions
end_01 = refl

-- at depth 1 the second choice is due
string_cut : string (program_of truths) (two (pos 0) (pos 1)) 1 ≡ 1 ∷ []
unfolding most_instructions
string_cut = refl

end_cut : path_end_of (end_of (program_of truths) (two (pos 0) (pos 1)) 1) ≡ Some path_end.Cut
unfolding most_instructions
end_cut = refl

footprint_first : footprint (program_of truths) (two (pos 0) (pos 1)) [] ≡ Entry ∷ at 0 ∷ at 1 ∷ []
unfolding most_instructions
footprint_first = refl

footprint_second : footprint (program_of truths) (two (pos 0) (pos 1)) (1 ∷ []) ≡ at 6 ∷ at 7 ∷ []
unfolding most_instructions
footprint_second = refl

-- A COMPARISON OF CONSTANTS IS NO CHOICE, and a test of a sum with a parameter in it is one: 0 bipush 100, 2 bipush 99, 4 if_icmpgt 9, 7 iconst_m1,
-- 8 ireturn, 9 iload 0, 11 iconst_1, 12 iadd, 13 ifgt 18, 16 iload_0, 17 ireturn, 18 iconst_5, 19 ireturn

abbrev mixed : Method
mixed = method (I ∷ []) (Bipush (pos 100) ∷ Bipush (pos 99) ∷ IfIcmp Gt 5 ∷ Iconst (negsuc 0) ∷ Ireturn ∷ Iload 0 ∷ Iconst (pos 1) ∷ Iadd ∷ If Gt 5 ∷ IloadN 0 ∷ Ireturn ∷ Iconst (pos 5) ∷ Ireturn ∷ [])

string_above : string (program_of mixed) (input (I ∷ []) (pos 0 ∷ [])) 256 ≡ 1 ∷ []
unfolding most_instructions int_wrap
string_above = refl

end_above : path_end_of (end_of (program_of mixed) (input (I ∷ []) (pos 0 ∷ [])) 256) ≡ Some (path_end.Ended (ended.Returned (pos 5)))
unfolding most_instructions int_wrap
end_above = refl

end_below : path_end_of (end_of (program_of mixed) (input (I ∷ []) (negsuc 6 ∷ [])) 256) ≡ Some (path_end.Ended (ended.Returned (negsuc 6)))
unfolding most_instructions int_wrap
end_below = refl

-- the test of constants comes before, and needs no depth
end_none : path_end_of (end_of (program_of mixed) (input (I ∷ []) (pos 0 ∷ [])) 0) ≡ Some path_end.Cut
unfolding most_instructions int_wrap
end_none = refl
