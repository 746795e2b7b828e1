-- How many arms and literals a choice has, how long a footprint is, and where it lies.
use Rattle.std.proofs.Common.{◌≡◌, ◌⊎◌, inl, inr, ℕ, zero, suc, ◌<◌, ◌≤◌, ℤ, pos, Bool, true, false, cond, nat_lt, List, [], ◌∷◌, length, Option, Some, None, refl, arith}
use Rattle.std.specs.List.{AllByRecursion}
use Rattle.ms_words.specs.declared.item.Item.{Item}
use Rattle.ms_words.specs.declared.item.Item.TheVariants.{Entry}
use Rattle.ms_words.specs.declared.operator.Rel.TheVariants.{Eq, Uge}
use Rattle.ms_words.specs.Inputs.{Words}
use Rattle.ms_words.specs.Items.{firsts, same_item, without}
use Rattle.ms_machine.specs.Ints.{Int, Ints, ints, shadows}
use Rattle.ms_machine.specs.Effects.{Test, Compares, Divides, Selects, Indexes}
use Rattle.ms_machine.specs.Control.{Program, Views, Done, Goes, Ends, Step, Then, Chooses, start, step}
use Rattle.ms_machine.specs.Tests.{Literal, arm_of, known_test, literals, none_of, selected}
use Rattle.ms_machine.specs.Segments.{After, Choice, Over, Segment, followed, forked, most_instructions, segment_within}
use Rattle.ms_machine.specs.Runs.{after_arms, footprint, given, segment_after, started, with_entry}
use Rattle.ms_machine.specs.Laws.{ChoicesAreSmall, ComesToFewArms, HasFewArms, HasView, IsClosed, IsSmallAndThere, KeysAreFew, parameters_from}
use Rattle.ms_machine.proofs.ControlKeeps.{AreSeen, HasShort, IsAny, start_seen, start_short, step_seen, step_short}
use Rattle.ms_machine.proofs.EffectKeeps.{IsOf}
use Rattle.ms_machine.proofs.Keeping.{GoodAfter, after_arms_good, segment_good, segment_seen}

-- ARMS AND LITERALS

none_many : {V : Type 0} (constant : ℤ → V) (a : V) (keys : List ℤ) → length (none_of constant a keys) ≡ length keys
none_many constant a [] = refl
none_many constant a (key ∷ keys) = omega (arith, none_many constant a keys)

selected_few : {V : Type 0} (constant : ℤ → V) (a : V) (all keys : List ℤ) (arm : ℕ) → length all < 65535 → length (selected constant a all keys arm) ≤ 65535
selected_few constant a all [] arm few = omega (arith, few, none_many constant a all)
selected_few constant a all (key ∷ keys) zero few = omega arith
selected_few constant a all (key ∷ keys) (suc arm) few = selected_few constant a all keys arm few

compared_few : {V : Type 0} (constant : ℤ → V) (test : Test V) → ((arm : ℕ) → length (literals constant test arm) ≤ 1) → (arm : ℕ) → length (literals constant test arm) ≤ 65535
compared_few constant test one arm = omega (arith, one arm)

-- whether keys are fewer than 65,535
abbrev Few : List ℤ → Type 0
Few keys = length keys < 65535

test_few : {V : Type 0} (constant : ℤ → V) (test : Test V) → IsOf Few test → HasFewArms constant test
test_few constant (Compares comparison a b) fine = record { some = omega arith; few = omega arith; literals = by_arm }
  where
    by_arm : (arm : ℕ) → length (literals constant (Compares comparison a b) arm) ≤ 65535
    by_arm zero = omega arith
    by_arm (suc arm) = omega arith
test_few constant (Divides b) fine = record { some = omega arith; few = omega arith; literals = by_arm }
  where
    by_arm : (arm : ℕ) → length (literals constant (Divides b) arm) ≤ 65535
    by_arm zero = omega arith
    by_arm (suc arm) = omega arith
test_few constant (Selects a keys) fine = record { some = omega arith; few = omega (arith, fine); literals = λ arm. selected_few constant a keys keys arm fine }
test_few {V} constant (Indexes a len) fine = record { some = omega arith; few = omega (arith, fine); literals = λ arm. by_place (nat_lt arm len) (record { rel = Eq; a = a; b = constant (pos arm) }) (record { rel = Uge; a = a; b = constant (pos len) }) }
  where
    by_place : (b : Bool) (at behind : Literal V) → length (cond b (at ∷ []) (behind ∷ [])) ≤ 65535
    by_place true at behind = omega arith
    by_place false at behind = omega arith

after_few : {V : Type 0} (constant : ℤ → V) (after : After V) → GoodAfter HasShort (IsOf Few) after → ComesToFewArms constant after
after_few constant (Choice test arms) good = test_few constant test good.0
after_few constant (Over end) good = tt

module _ {V : Type 0} (I : Ints V) (P : Program) (few : KeysAreFew P) where
  segment_few : (constant : ℤ → V) (parameters : List V) (p : List ℕ) → ComesToFewArms constant (segment_within I P.view most_instructions (after_arms I P.view (start P parameters) p)).after
  segment_few constant parameters p =
      let keeps = step_short Few I P.view few in
      after_few constant _ (segment_good HasShort (IsOf Few) I P.view keeps (after_arms I P.view (start P parameters) p)
      (after_arms_good HasShort (IsOf Few) I P.view keeps p (start P parameters) (start_short P parameters)))

pub choices_are_small : (P : Program) → ChoicesAreSmall P
choices_are_small P = record {
  of_inputs = λ few x p. segment_few ints P few ints.constant (given x) p;
  of_terms = λ few kinds p. segment_few shadows P few shadows.constant (parameters_from 0 kinds) p;
}

-- FOOTPRINTS

without_all : (Q : Item → Type 0) (item : Item) (items : List Item) → AllByRecursion Q items → AllByRecursion Q (without item items)
without_all Q item [] all = tt
without_all Q item (first ∷ items) all = by_test (same_item item first) (without_all Q item items all.1)
  where
    by_test : (b : Bool) → AllByRecursion Q (without item items) → AllByRecursion Q (cond b (without item items) (first ∷ without item items))
    by_test true rest = rest
    by_test false rest = (all.0, rest)

firsts_all : (Q : Item → Type 0) (items : List Item) → AllByRecursion Q items → AllByRecursion Q (firsts items)
firsts_all Q [] all = tt
firsts_all Q (item ∷ items) all = (all.0, without_all Q item (firsts items) (firsts_all Q items all.1))

without_few : (item : Item) (items : List Item) → length (without item items) ≤ length items
without_few item [] = omega arith
without_few item (first ∷ items) = by_test (same_item item first) (without_few item items)
  where
    by_test : (b : Bool) → length (without item items) ≤ length items → length (cond b (without item items) (first ∷ without item items)) ≤ suc (length items)
    by_test true few = omega (arith, few)
    by_test false few = omega (arith, few)

firsts_few : (items : List Item) → length (firsts items) ≤ length items
firsts_few [] = omega arith
firsts_few (item ∷ items) = omega (arith, without_few item (firsts items), firsts_few items)

module _ {V : Type 0} (I : Ints V) (P : Views) where
  forked_few : (n : ℕ) (test : Test V) (arms : ℕ → Done V) (go : Done V → Segment V) → ((done : Done V) → length (go done).trace ≤ n) → (known : Option (Test ℤ)) → length (forked test arms go known).trace ≤ n
  forked_few n test arms go all None = omega arith
  forked_few n test arms go all (Some words) = all (arms (arm_of words))

  followed_few : (n : ℕ) (go : Done V → Segment V) → ((done : Done V) → length (go done).trace ≤ n) → (taken : Step V) → length (followed I go taken).trace ≤ n
  followed_few n go all (Then done) = all done
  followed_few n go all (Chooses test arms) = forked_few n test arms go all (known_test I test)

  trace_few : (n : ℕ) (done : Done V) → length (segment_within I P n done).trace ≤ n
  trace_few zero (Ends end) = omega arith
  trace_few zero (Goes state) = omega arith
  trace_few (suc n) (Ends end) = omega arith
  trace_few (suc n) (Goes state) = omega (arith, followed_few n (segment_within I P n) (trace_few n) (step I P state))

entered_few : (p : List ℕ) (items : List Item) → length (with_entry p items) ≤ suc (length items)
entered_few [] items = omega arith
entered_few (arm ∷ arms) items = omega arith

trace_small : {V : Type 0} (I : Ints V) (P : Views) (done : Done V) → length (segment_within I P most_instructions done).trace ≤ 20000
unfolding most_instructions
trace_small I P done = trace_few I P 20000 done

-- the entry, or an item that has a view
abbrev IsThere : Program → Item → Type 0
IsThere P item = (item ≡ Entry) ⊎ HasView P.view item

there_all : (P : Program) (items : List Item) → AllByRecursion (HasView P.view) items → AllByRecursion (IsThere P) items
there_all P [] all = tt
there_all P (item ∷ items) all = (inr all.0, there_all P items all.1)

entered_there : (P : Program) (p : List ℕ) (items : List Item) → AllByRecursion (IsThere P) items → AllByRecursion (IsThere P) (with_entry p items)
entered_there P [] items all = (inl refl, all)
entered_there P (arm ∷ arms) items all = all

pub footprints_have_views : (P : Program) → IsClosed P → (x : Words) (p : List ℕ) → IsSmallAndThere P (footprint P x p)
footprints_have_views P closed x p =
    let Seen = AreSeen {V = Int} P.view closed.views in
    let Any = IsAny {V = Int} P.view closed.views in
    let keeps = step_seen {V = Int} P.view closed.views ints in
    let done = after_arms ints P.view (started P x) p in
    let trace = (segment_after P x p).trace in
    let seen : AllByRecursion (HasView P.view) trace =
    segment_seen Seen Any ints P.view keeps (HasView P.view) (λ state good. good.0) done
    (after_arms_good Seen Any ints P.view keeps p (started P x) (start_seen P closed (given x))) in
    record {
      there = firsts_all (IsThere P) (with_entry p trace) (entered_there P p trace (there_all P trace seen));
      few = omega (arith, firsts_few (with_entry p trace), entered_few p trace, trace_small ints P.view done);
    }
