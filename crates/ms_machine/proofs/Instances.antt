-- The laws computed on two small methods.
use Rattle.std.proofs.Common.{◌≡◌, [], ◌∷◌, pos, negsuc, true, Some, None, map, refl}
use Rattle.ms_machine.specs.Segments.{done_within, most_instructions}
use Rattle.ms_machine.specs.Control.{Goes, memory_at_start}
use Rattle.ms_machine.specs.Tests.{map_literal}
use Rattle.ms_words.specs.declared.kind.Kind.TheVariants.{Z, I}
use Rattle.ms_words.specs.declared.operator.Rel.TheVariants.{Eq, Ne, Ge}
use Rattle.ms_words.specs.Items.{firsts}
use Rattle.ms_terms.specs.Terms.{Constant, Param}
use Rattle.ms_machine.specs.Ints.{ints, marks, shadows}
use Rattle.ms_machine.specs.Values.{Int, Returned}
use Rattle.ms_machine.specs.Runs.{Ended, Cut, after_arms, end_from, footprint, segment_after, started, string_from, way, with_entry}
use Rattle.ms_machine.specs.Maps.{map_done, map_segment}
use Rattle.ms_machine.specs.Laws.{condition, int_of, mark_arm, marked_start, shadow_after, shadow_of, shadow_started}
use Rattle.ms_machine.proofs.Methods.{at}
use Rattle.ms_machine.proofs.Example.{nested, truth_and, truths, two}

-- WORDS ARE VALUES

truths_values : segment_after truths (two (pos 0) (pos 0)) (1 ∷ 0 ∷ []) ≡ map_segment (int_of (pos 0 ∷ pos 0 ∷ [])) (shadow_after truths (Z ∷ Z ∷ []) (1 ∷ 0 ∷ []))
unfolding most_instructions
truths_values = refl

nested_values : segment_after nested (truth_and (pos 1) (negsuc 0)) (1 ∷ 1 ∷ []) ≡ map_segment (int_of (pos 1 ∷ negsuc 0 ∷ [])) (shadow_after nested (Z ∷ I ∷ []) (1 ∷ 1 ∷ []))
unfolding most_instructions
nested_values = refl

nested_steps : done_within ints nested.view 1 (after_arms ints nested.view (started nested (truth_and (pos 1) (negsuc 0))) (1 ∷ []))
    ≡ map_done (int_of (pos 1 ∷ negsuc 0 ∷ [])) (done_within shadows nested.view 1 (after_arms shadows nested.view (shadow_started nested (Z ∷ I ∷ [])) (1 ∷ [])))
unfolding most_instructions
nested_steps = refl

nested_stack : done_within shadows nested.view 2 (after_arms shadows nested.view (shadow_started nested (Z ∷ I ∷ [])) (1 ∷ []))
    ≡ Goes (record {
      top = record { at = at 8; locals = Some (Int (Param 0 Z)) ∷ Some (Int (Param 1 I)) ∷ []; stack = Int (Constant (pos 5)) ∷ Int (Param 1 I) ∷ []; initialises = None };
      below = [];
      memory = memory_at_start 0;
    })
unfolding most_instructions
nested_stack = refl

-- MARKS ARE RIGHT

truths_marks : string_from marks truths.view mark_arm 2 (marked_start truths (two (pos 0) (pos 1))) ≡ 1 ∷ 1 ∷ []
unfolding most_instructions
truths_marks = refl

truths_marked_end : end_from marks truths.view mark_arm 2 (marked_start truths (two (pos 0) (pos 1))) ≡ Ended (Returned (record { word = pos 0; plain = true }))
unfolding most_instructions
truths_marked_end = refl

nested_marks : string_from marks nested.view mark_arm 8 (marked_start nested (truth_and (pos 1) (pos 5))) ≡ 1 ∷ 0 ∷ []
unfolding most_instructions
nested_marks = refl

nested_marked_cut : end_from marks nested.view mark_arm 1 (marked_start nested (truth_and (pos 1) (pos 5))) ≡ Cut
unfolding most_instructions
nested_marked_cut = refl

-- INPUTS SHARE SHADOWS

truths_shared : firsts (with_entry [] (shadow_after truths (Z ∷ Z ∷ []) []).trace) ≡ footprint truths (two (pos 1) (pos 0)) []
unfolding most_instructions
truths_shared = refl

nested_shared : footprint nested (truth_and (pos 1) (negsuc 0)) (1 ∷ []) ≡ footprint nested (truth_and (pos 1) (pos 5)) (1 ∷ [])
unfolding most_instructions
nested_shared = refl

-- LITERALS ON THE WAY

truths_condition : condition truths (Z ∷ Z ∷ []) (1 ∷ 0 ∷ [])
    ≡ record { rel = Eq; a = Param 0 Z; b = Constant (pos 0) } ∷ record { rel = Eq; a = Param 1 Z; b = Constant (pos 0) } ∷ []
unfolding most_instructions
truths_condition = refl

nested_ways : map (map_literal shadow_of) (way ints nested.view (started nested (truth_and (pos 1) (negsuc 0))) (1 ∷ 0 ∷ [])) ≡ condition nested (Z ∷ I ∷ []) (1 ∷ 0 ∷ [])
unfolding most_instructions
nested_ways = refl

nested_condition : condition nested (Z ∷ I ∷ []) (1 ∷ 0 ∷ [])
    ≡ record { rel = Ne; a = Param 0 Z; b = Constant (pos 0) } ∷ record { rel = Ge; a = Param 1 I; b = Constant (pos 5) } ∷ []
unfolding most_instructions
nested_condition = refl
