-- What a turn makes of the segment that it is in.
use Rattle.std.proofs.Common.{◌≡◌, ℕ, suc, ℤ, Option, Some, None, refl, ap}
use Rattle.std.specs.Prelude.{option_map}
use Rattle.ms_machine.specs.Ints.{Ints}
use Rattle.ms_machine.specs.Effects.{Test}
use Rattle.ms_machine.specs.Control.{Done, Goes, State, Step, Then, Chooses, Views, step}
use Rattle.ms_machine.specs.Tests.{arm_of, known_test}
use Rattle.ms_machine.specs.Segments.{Choice, Segment, followed, forked, item_then, nothing_then, segment_within}
use Rattle.ms_interpreter.specs.Turns.{choice_of, settled}

by_known : {V : Type 0} (test : Test V) (arms : ℕ → Done V) (go : Done V → Segment V) (known : Option (Test ℤ)) (done : Done V) → option_map (λ words. arms (arm_of words)) known ≡ Some done → forked test arms go known ≡ go done
by_known test arms go None done e = absurd (let same = e in cc)
by_known test arms go (Some words) done e = let same : arms (arm_of words) ≡ done = cc in ap go same

followed_settled : {V : Type 0} (I : Ints V) (go : Done V → Segment V) (step : Step V) (done : Done V) → settled I step ≡ Some done → followed I go step ≡ go done
followed_settled I go (Then other) done e = let same : other ≡ done = cc in ap go same
followed_settled I go (Chooses test arms) done e = by_known test arms go (known_test I test) done e

unknown : {V : Type 0} (test : Test V) (arms : ℕ → Done V) (go : Done V → Segment V) (known : Option (Test ℤ)) → option_map (λ words. arms (arm_of words)) known ≡ None → forked test arms go known ≡ nothing_then (Choice test arms)
unknown test arms go None e = refl
unknown test arms go (Some words) e = absurd (let same = e in cc)

followed_choice : {V : Type 0} (I : Ints V) (go : Done V → Segment V) (step : Step V) → settled I step ≡ None → followed I go step ≡ nothing_then (choice_of step)
followed_choice I go (Then other) e = absurd (let same = e in cc)
followed_choice I go (Chooses test arms) e = unknown test arms go (known_test I test) e

module _ {V : Type 0} (I : Ints V) (P : Views) (n : ℕ) (state : State V) where
  -- a step that is settled goes on in the segment
  pub goes : (done : Done V) → settled I (step I P state) ≡ Some done → segment_within I P (suc n) (Goes state) ≡ item_then state.top.at (segment_within I P n done)
  goes done e = ap (item_then state.top.at) (followed_settled I (segment_within I P n) (step I P state) done e)

  -- a step that isn't is the choice
  pub stands : settled I (step I P state) ≡ None → segment_within I P (suc n) (Goes state) ≡ item_then state.top.at (nothing_then (choice_of (step I P state)))
  stands e = ap (item_then state.top.at) (followed_choice I (segment_within I P n) (step I P state) e)
