-- What each step keeps holds along a run: of the states, of the tests that are asked, and of the items that are executed.
use Rattle.std.proofs.Common.{◌≡◌, ℕ, zero, suc, ℤ, List, [], ◌∷◌, Option, Some, None, refl}
use Rattle.std.specs.List.{AllByRecursion}
use Rattle.ms_words.specs.declared.item.Item.{Item}
use Rattle.ms_machine.specs.Ints.{Ints}
use Rattle.ms_machine.specs.Values.{Stuck}
use Rattle.ms_machine.specs.Effects.{Test}
use Rattle.ms_machine.specs.Control.{View, Views, State, Done, Goes, Ends, Step, Then, Chooses, step, viewed}
use Rattle.ms_machine.specs.Tests.{arm_of, known_test}
use Rattle.ms_machine.specs.Segments.{After, Choice, Over, Segment, followed, forked, most_instructions, segment_from, segment_within}
use Rattle.ms_machine.specs.Runs.{after_arms, done_after}

module _ {V : Type 0} (Good : State V → Type 0) where
  -- a run that has ended, or goes on in a good state
  abbrev pub GoodDone : Done V → Type 0
  GoodDone (Goes state) = Good state
  GoodDone (Ends end) = Unit {0}

  module _ (Fine : Test V → Type 0) where
    -- a step that leads to such a run, by a fine test, if it asks one
    abbrev pub GoodStep : Step V → Type 0
    GoodStep (Then done) = GoodDone done
    GoodStep (Chooses test arms) = Fine test × ((arm : ℕ) → GoodDone (arms arm))

    -- what comes after a segment, likewise
    abbrev pub GoodAfter : After V → Type 0
    GoodAfter (Choice test arms) = Fine test × ((arm : ℕ) → GoodDone (arms arm))
    GoodAfter (Over end) = Unit {0}

    -- a view's step is good where those of all views are
    pub viewed_good : (o : Option View) (go : View → Step V) → ((view : View) → o ≡ Some view → GoodStep (go view)) → GoodStep (viewed o (Then (Ends Stuck)) go)
    viewed_good None go all = tt
    viewed_good (Some view) go all = all view refl

    module _ (I : Ints V) (P : Views) (steps : (state : State V) → Good state → GoodStep (step I P state)) where
      forked_good : (test : Test V) (arms : ℕ → Done V) (go : Done V → Segment V) → Fine test → ((arm : ℕ) → GoodDone (arms arm)) → ((done : Done V) → GoodDone done → GoodAfter (go done).after) → (known : Option (Test ℤ))
          → GoodAfter (forked test arms go known).after
      forked_good test arms go fine good all None = (fine, good)
      forked_good test arms go fine good all (Some words) = all (arms (arm_of words)) (good (arm_of words))

      followed_good : (go : Done V → Segment V) → ((done : Done V) → GoodDone done → GoodAfter (go done).after) → (taken : Step V) → GoodStep taken → GoodAfter (followed I go taken).after
      followed_good go all (Then done) good = all done good
      followed_good go all (Chooses test arms) good = forked_good test arms go good.0 good.1 all (known_test I test)

      within_good : (n : ℕ) (done : Done V) → GoodDone done → GoodAfter (segment_within I P n done).after
      within_good zero (Ends end) good = tt
      within_good zero (Goes state) good = tt
      within_good (suc n) (Ends end) good = tt
      within_good (suc n) (Goes state) good = followed_good (segment_within I P n) (within_good n) (step I P state) (steps state good)

      pub segment_good : (done : Done V) → GoodDone done → GoodAfter (segment_from I P done).after
      segment_good done good = within_good most_instructions done good

      pub done_after_good : (after : After V) (arm : ℕ) → GoodAfter after → GoodDone (done_after after arm)
      done_after_good (Choice test arms) arm good = good.1 arm
      done_after_good (Over end) arm good = tt

      pub after_arms_good : (arms : List ℕ) (done : Done V) → GoodDone done → GoodDone (after_arms I P done arms)
      after_arms_good [] done good = good
      after_arms_good (arm ∷ arms) done good =
          let after = (segment_from I P done).after in
          after_arms_good arms (done_after after arm) (done_after_good after arm (segment_good done good))

      -- THE ITEMS THAT ARE EXECUTED

      module _ (Seen : Item → Type 0) (sees : (state : State V) → Good state → Seen state.top.at) where
        forked_seen : (test : Test V) (arms : ℕ → Done V) (go : Done V → Segment V) → ((arm : ℕ) → GoodDone (arms arm)) → ((done : Done V) → GoodDone done → AllByRecursion Seen (go done).trace) → (known : Option (Test ℤ))
            → AllByRecursion Seen (forked test arms go known).trace
        forked_seen test arms go good all None = tt
        forked_seen test arms go good all (Some words) = all (arms (arm_of words)) (good (arm_of words))

        followed_seen : (go : Done V → Segment V) → ((done : Done V) → GoodDone done → AllByRecursion Seen (go done).trace) → (taken : Step V) → GoodStep taken → AllByRecursion Seen (followed I go taken).trace
        followed_seen go all (Then done) good = all done good
        followed_seen go all (Chooses test arms) good = forked_seen test arms go good.1 all (known_test I test)

        within_seen : (n : ℕ) (done : Done V) → GoodDone done → AllByRecursion Seen (segment_within I P n done).trace
        within_seen zero (Ends end) good = tt
        within_seen zero (Goes state) good = tt
        within_seen (suc n) (Ends end) good = tt
        within_seen (suc n) (Goes state) good = (sees state good, followed_seen (segment_within I P n) (within_seen n) (step I P state) (steps state good))

        pub segment_seen : (done : Done V) → GoodDone done → AllByRecursion Seen (segment_from I P done).trace
        segment_seen done good = within_seen most_instructions done good
