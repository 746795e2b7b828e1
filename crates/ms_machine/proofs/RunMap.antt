-- Segments, strings and what comes after arms commute with a map of ints.
use Rattle.std.proofs.Common.{◌≡◌, ℕ, zero, suc, ℤ, pos, Bool, true, false, cond, nat_lt, List, [], ◌∷◌, ◌++◌, map, Option, Some, None, refl, sym, ap, ◌∙◌}
use Rattle.std.proofs.lemmas.List.{map-append}
use Rattle.ms_words.specs.declared.operator.Rel.TheVariants.{Eq, Ne, Uge}
use Rattle.ms_machine.specs.Ints.{Ints}
use Rattle.ms_machine.specs.Effects.{Test, Compares, Divides, Selects, Indexes}
use Rattle.ms_machine.specs.Control.{Views, Done, Goes, Ends, Step, Then, Chooses, step}
use Rattle.ms_machine.specs.Tests.{arm_of, both_known, known_test, literals, map_literal, map_test, none_of, one_known, selected}
use Rattle.ms_machine.specs.Segments.{After, Choice, Over, Segment, advanced, done_within, followed, forked, item_then, most_instructions, past, segment_from, segment_within}
use Rattle.ms_machine.specs.Runs.{after_arms, done_after, next_literals, way}
use Rattle.ms_machine.specs.Maps.{Respects, map_after, map_done, map_segment, map_state, map_step}
use Rattle.ms_machine.proofs.ControlMap.{step_map}

module _ {V W : Type 0} (I : Ints V) (J : Ints W) (f : V → W) (r : Respects I J f) where
  -- what is known of a test
  known_map : (test : Test V) → known_test J (map_test f test) ≡ known_test I test
  known_map (Compares comparison a b) = ap (λ o. both_known comparison o (J.known (f b))) (r.known a) ∙ ap (both_known comparison (I.known a)) (r.known b)
  known_map (Divides b) = ap (one_known Divides) (r.known b)
  known_map (Selects a keys) = ap (one_known (λ word. Selects word keys)) (r.known a)
  known_map (Indexes a len) = ap (one_known (λ word. Indexes word len)) (r.known a)

  forked_map : (test : Test V) (arms : ℕ → Done V) (go : Done V → Segment V) (go' : Done W → Segment W) → ((done : Done V) → go' (map_done f done) ≡ map_segment f (go done)) → (known : Option (Test ℤ))
      → forked (map_test f test) (λ arm. map_done f (arms arm)) go' known ≡ map_segment f (forked test arms go known)
  forked_map test arms go go' same None = refl
  forked_map test arms go go' same (Some words) = same (arms (arm_of words))

  followed_map : (go : Done V → Segment V) (go' : Done W → Segment W) → ((done : Done V) → go' (map_done f done) ≡ map_segment f (go done)) → (taken : Step V)
      → followed J go' (map_step f taken) ≡ map_segment f (followed I go taken)
  followed_map go go' same (Then done) = same done
  followed_map go go' same (Chooses test arms) =
      ap (forked (map_test f test) (λ arm. map_done f (arms arm)) go') (known_map test) ∙ forked_map test arms go go' same (known_test I test)

  pub segment_map : (P : Views) (n : ℕ) (done : Done V) → segment_within J P n (map_done f done) ≡ map_segment f (segment_within I P n done)
  segment_map P zero (Ends end) = refl
  segment_map P zero (Goes state) = refl
  segment_map P (suc n) (Ends end) = refl
  segment_map P (suc n) (Goes state) =
      ap (λ taken. item_then state.top.at (followed J (segment_within J P n) taken)) (step_map f I J r P state)
      ∙ ap (item_then state.top.at) (followed_map (segment_within I P n) (segment_within J P n) (segment_map P n) (step I P state))

  pub segment_from_map : (P : Views) (done : Done V) → segment_from J P (map_done f done) ≡ map_segment f (segment_from I P done)
  segment_from_map P done = segment_map P most_instructions done

  done_after_map : (after : After V) (arm : ℕ) → done_after (map_after f after) arm ≡ map_done f (done_after after arm)
  done_after_map (Choice test arms) arm = refl
  done_after_map (Over end) arm = refl

  -- what comes after arms
  pub after_arms_map : (P : Views) (arms : List ℕ) (done : Done V) → after_arms J P (map_done f done) arms ≡ map_done f (after_arms I P done arms)
  after_arms_map P [] done = refl
  after_arms_map P (arm ∷ arms) done =
      ap (λ segment. after_arms J P (done_after segment.after arm) arms) (segment_from_map P done)
      ∙ ap (λ next. after_arms J P next arms) (done_after_map (segment_from I P done).after arm)
      ∙ after_arms_map P arms (done_after (segment_from I P done).after arm)

  -- STEPS

  past_map : (here : Done V) (arms : ℕ → Done V) (go : Done V → Done V) (go' : Done W → Done W) → ((done : Done V) → go' (map_done f done) ≡ map_done f (go done)) → (known : Option (Test ℤ))
      → past (map_done f here) (λ arm. map_done f (arms arm)) go' known ≡ map_done f (past here arms go known)
  past_map here arms go go' same None = refl
  past_map here arms go go' same (Some words) = same (arms (arm_of words))

  advanced_map : (here : Done V) (go : Done V → Done V) (go' : Done W → Done W) → ((done : Done V) → go' (map_done f done) ≡ map_done f (go done)) → (taken : Step V)
      → advanced J (map_done f here) go' (map_step f taken) ≡ map_done f (advanced I here go taken)
  advanced_map here go go' same (Then done) = same done
  advanced_map here go go' same (Chooses test arms) =
      ap (past (map_done f here) (λ arm. map_done f (arms arm)) go') (known_map test) ∙ past_map here arms go go' same (known_test I test)

  pub done_within_map : (P : Views) (n : ℕ) (done : Done V) → done_within J P n (map_done f done) ≡ map_done f (done_within I P n done)
  done_within_map P zero done = refl
  done_within_map P (suc n) (Ends end) = refl
  done_within_map P (suc n) (Goes state) =
      ap (advanced J (Goes (map_state f state)) (done_within J P n)) (step_map f I J r P state)
      ∙ advanced_map (Goes state) (done_within I P n) (done_within J P n) (done_within_map P n) (step I P state)

  -- LITERALS

  none_of_map : (a : V) (keys : List ℤ) → none_of J.constant (f a) keys ≡ map (map_literal f) (none_of I.constant a keys)
  none_of_map a [] = refl
  none_of_map a (key ∷ keys) = λ i. record { rel = Ne; a = f a; b = sym (r.constant key) i } ∷ none_of_map a keys i

  selected_map : (a : V) (all keys : List ℤ) (arm : ℕ) → selected J.constant (f a) all keys arm ≡ map (map_literal f) (selected I.constant a all keys arm)
  selected_map a all [] arm = none_of_map a all
  selected_map a all (key ∷ keys) zero = λ i. record { rel = Eq; a = f a; b = sym (r.constant key) i } ∷ []
  selected_map a all (key ∷ keys) (suc arm) = selected_map a all keys arm

  ranged_map : (a : V) (within : Bool) (arm len : ℕ)
      → cond within (record { rel = Eq; a = f a; b = J.constant (pos arm) } ∷ []) (record { rel = Uge; a = f a; b = J.constant (pos len) } ∷ [])
      ≡ map (map_literal f) (cond within (record { rel = Eq; a = a; b = I.constant (pos arm) } ∷ []) (record { rel = Uge; a = a; b = I.constant (pos len) } ∷ []))
  ranged_map a true arm len = λ i. record { rel = Eq; a = f a; b = sym (r.constant (pos arm)) i } ∷ []
  ranged_map a false arm len = λ i. record { rel = Uge; a = f a; b = sym (r.constant (pos len)) i } ∷ []

  literals_map : (test : Test V) (arm : ℕ) → literals J.constant (map_test f test) arm ≡ map (map_literal f) (literals I.constant test arm)
  literals_map (Compares comparison a b) zero = refl
  literals_map (Compares comparison a b) (suc arm) = refl
  literals_map (Divides b) zero = λ i. record { rel = Ne; a = f b; b = sym (r.constant (pos 0)) i } ∷ []
  literals_map (Divides b) (suc arm) = λ i. record { rel = Eq; a = f b; b = sym (r.constant (pos 0)) i } ∷ []
  literals_map (Selects a keys) arm = selected_map a keys keys arm
  literals_map (Indexes a len) arm = ranged_map a (nat_lt arm len) arm len

  next_literals_map : (after : After V) (arm : ℕ) → next_literals J (map_after f after) arm ≡ map (map_literal f) (next_literals I after arm)
  next_literals_map (Choice test arms) arm = literals_map test arm
  next_literals_map (Over end) arm = refl

  pub way_map : (P : Views) (arms : List ℕ) (done : Done V) → way J P (map_done f done) arms ≡ map (map_literal f) (way I P done arms)
  way_map P [] done = refl
  way_map P (arm ∷ arms) done =
      let after = (segment_from I P done).after in
      ap (λ segment. next_literals J segment.after arm ++ way J P (done_after segment.after arm) arms) (segment_from_map P done)
      ∙ ap (λ next. next_literals J (map_after f after) arm ++ way J P next arms) (done_after_map after arm)
      ∙ ap (λ others. next_literals J (map_after f after) arm ++ others) (way_map P arms (done_after after arm))
      ∙ ap (λ first. first ++ map (map_literal f) (way I P (done_after after arm) arms)) (next_literals_map after arm)
      ∙ sym (map-append (map_literal f) (next_literals I after arm) (way I P (done_after after arm) arms))
