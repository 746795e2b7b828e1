-- The definitions computed on small methods.
use Rattle.std.proofs.Common.{◌≡◌, [], ◌∷◌, ℤ, pos, negsuc, refl}
use Rattle.std.specs.Int.{int_wrap}
use Rattle.ms_words.specs.declared.item.Item.TheVariants.{Entry}
use Rattle.ms_words.specs.declared.kind.Kind.TheVariants.{Z, I}
use Rattle.ms_words.specs.declared.operator.Bin.TheVariants.{Sub}
use Rattle.ms_words.specs.declared.operator.Rel.TheVariants.{Lt}
use Rattle.ms_words.specs.Inputs.{Words}
use Rattle.ms_terms.specs.Terms.{Constant, Param, Binary}
use Rattle.ms_machine.specs.Ints.{ints}
use Rattle.ms_machine.specs.Instructions.{OfInt, Skip, Push, Load, Combine, Compare, CompareZero, Less, Equal, NotEqual, ReturnValue}
use Rattle.ms_machine.specs.Values.{Returned}
use Rattle.ms_machine.specs.Control.{Program}
use Rattle.ms_machine.specs.Segments.{most_instructions}
use Rattle.ms_machine.specs.Runs.{Ended, Cut, end_of, footprint, segment_after, string, started, way}
use Rattle.ms_machine.proofs.Methods.{alone, at, constant, line, one_int, parameter}

-- TWO TRUTH VALUES: f(ZZ)I with iload_0, ifeq 6, iconst_1, ireturn, 6: iload_1, ifne 12, iconst_2, ireturn,
-- 12: iconst_0, ireturn

abbrev pub truths : Program
truths = alone (Z ∷ Z ∷ []) (line 0 (Load OfInt 0) 1 [] ∷ line 1 (CompareZero Equal) 4 (6 ∷ []) ∷ line 4 (Push (pos 1)) 5 [] ∷ line 5 (ReturnValue OfInt) 6 []
    ∷ line 6 (Load OfInt 1) 7 [] ∷ line 7 (CompareZero NotEqual) 10 (12 ∷ []) ∷ line 10 (Push (pos 2)) 11 [] ∷ line 11 (ReturnValue OfInt) 12 []
    ∷ line 12 (Push (pos 0)) 13 [] ∷ line 13 (ReturnValue OfInt) 14 [] ∷ [])

abbrev pub two : ℤ → ℤ → Words
two a b = record { kinds = Z ∷ Z ∷ []; words = a ∷ b ∷ [] }

string_11 : string truths (two (pos 1) (pos 1)) 2 ≡ 0 ∷ []
unfolding most_instructions
string_11 = refl

string_10 : string truths (two (pos 1) (pos 0)) 2 ≡ 0 ∷ []
unfolding most_instructions
string_10 = refl

string_01 : string truths (two (pos 0) (pos 1)) 2 ≡ 1 ∷ 1 ∷ []
unfolding most_instructions
string_01 = refl

string_00 : string truths (two (pos 0) (pos 0)) 2 ≡ 1 ∷ 0 ∷ []
unfolding most_instructions
string_00 = refl

-- at depth 1 the second choice is due, and at depth 2 the run has ended
cut_00 : end_of truths (two (pos 0) (pos 0)) 1 ≡ Cut
unfolding most_instructions
cut_00 = refl

end_00 : end_of truths (two (pos 0) (pos 0)) 2 ≡ Ended (Returned (constant (pos 2)))
unfolding most_instructions
end_00 = refl

-- the choosing instruction stands in the segment that reaches it, and the entry in the first one
footprint_none : footprint truths (two (pos 0) (pos 0)) [] ≡ Entry ∷ at 0 ∷ at 1 ∷ []
unfolding most_instructions
footprint_none = refl

-- each execution of an instruction stands once in the trace
trace_none : (segment_after truths (two (pos 0) (pos 0)) []).trace ≡ at 0 ∷ at 1 ∷ []
unfolding most_instructions
trace_none = refl

footprint_1 : footprint truths (two (pos 0) (pos 0)) (1 ∷ []) ≡ at 6 ∷ at 7 ∷ []
unfolding most_instructions
footprint_1 = refl

footprint_10 : footprint truths (two (pos 0) (pos 0)) (1 ∷ 0 ∷ []) ≡ at 10 ∷ at 11 ∷ []
unfolding most_instructions
footprint_10 = refl

-- A CHOICE WITHIN AN ARM: f(ZI)I with iload_0, ifne 6, iconst_1, ireturn, 6: iload_1, iconst_5, if_icmplt 13,
-- iconst_2, ireturn, 13: iconst_3, ireturn

abbrev pub nested : Program
nested = alone (Z ∷ I ∷ []) (line 0 (Load OfInt 0) 1 [] ∷ line 1 (CompareZero NotEqual) 4 (6 ∷ []) ∷ line 4 (Push (pos 1)) 5 [] ∷ line 5 (ReturnValue OfInt) 6 []
    ∷ line 6 (Load OfInt 1) 7 [] ∷ line 7 (Push (pos 5)) 8 [] ∷ line 8 (Compare Less) 11 (13 ∷ []) ∷ line 11 (Push (pos 2)) 12 [] ∷ line 12 (ReturnValue OfInt) 13 []
    ∷ line 13 (Push (pos 3)) 14 [] ∷ line 14 (ReturnValue OfInt) 15 [] ∷ [])

abbrev pub truth_and : ℤ → ℤ → Words
truth_and a b = record { kinds = Z ∷ I ∷ []; words = a ∷ b ∷ [] }

nested_0 : string nested (truth_and (pos 0) (negsuc 0)) 8 ≡ 0 ∷ []
unfolding most_instructions
nested_0 = refl

nested_low : string nested (truth_and (pos 1) (negsuc 0)) 8 ≡ 1 ∷ 1 ∷ []
unfolding most_instructions
nested_low = refl

nested_high : string nested (truth_and (pos 1) (pos 5)) 8 ≡ 1 ∷ 0 ∷ []
unfolding most_instructions
nested_high = refl

-- no choice is allowed at depth 0
nested_cut : end_of nested (truth_and (pos 1) (pos 5)) 0 ≡ Cut
unfolding most_instructions
nested_cut = refl

nested_end : end_of nested (truth_and (pos 1) (pos 5)) 2 ≡ Ended (Returned (constant (pos 2)))
unfolding most_instructions
nested_end = refl

-- A COMPARISON OF CONSTANTS IS NO CHOICE: f(I)I with iconst_2, iconst_3, if_icmplt 6, nop, 6: iload_0, iconst_1, isub,
-- iload_0, if_icmplt 15, iconst_0, ireturn, 15: iload_0, ireturn

abbrev constants : Program
constants = alone (I ∷ []) (line 0 (Push (pos 2)) 1 [] ∷ line 1 (Push (pos 3)) 2 [] ∷ line 2 (Compare Less) 5 (6 ∷ []) ∷ line 5 Skip 6 []
    ∷ line 6 (Load OfInt 0) 7 [] ∷ line 7 (Push (pos 1)) 8 [] ∷ line 8 (Combine Sub) 9 [] ∷ line 9 (Load OfInt 0) 10 [] ∷ line 10 (Compare Less) 13 (15 ∷ [])
    ∷ line 13 (Push (pos 0)) 14 [] ∷ line 14 (ReturnValue OfInt) 15 [] ∷ line 15 (Load OfInt 0) 16 [] ∷ line 16 (ReturnValue OfInt) 17 [] ∷ [])

-- x - 1 < x but for the least word, where it wraps
string_5 : string constants (one_int (pos 5)) 8 ≡ 1 ∷ []
unfolding most_instructions int_wrap
string_5 = refl

string_least : string constants (one_int (negsuc 2147483647)) 8 ≡ 0 ∷ []
unfolding most_instructions int_wrap
string_least = refl

end_5 : end_of constants (one_int (pos 5)) 8 ≡ Ended (Returned (parameter 0 (pos 5)))
unfolding most_instructions int_wrap
end_5 = refl

-- what arm 1 of the one choice says
way_1 : way ints constants.view (started constants (one_int (pos 5))) (1 ∷ [])
    ≡ record { rel = Lt; a = record { word = pos 4; shadow = Binary Sub (Param 0 I) (Constant (pos 1)) }; b = parameter 0 (pos 5) } ∷ []
unfolding most_instructions int_wrap
way_1 = refl
