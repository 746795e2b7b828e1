-- What a choice, the end of a segment and the depth make of a run.
use Rattle.std.proofs.Common.{◌≡◌, ℕ, zero, suc, ◌-◌, ◌+◌, ◌<◌, ◌≤◌, [], length, None, refl, sym, ap, ◌∙◌, arith}
use Rattle.std.specs.Prelude.{IfSome, Option}
use Rattle.ms_machine.specs.Ints.{Ints, Marked, marks}
use Rattle.ms_machine.specs.Values.{End}
use Rattle.ms_machine.specs.Effects.{Test}
use Rattle.ms_machine.specs.Control.{Done, Ends, Step, Then, Chooses, Views}
use Rattle.ms_machine.specs.Segments.{After, Choice, Over, most_instructions, segment_from}
use Rattle.ms_machine.specs.Laws.{mark_arm}
use Rattle.ms_machine.specs.Runs.{RunEnd, Ended, Cut, after_arms, arms_at, done_after, end_at, end_from, string_from}
use Rattle.ms_interpreter.specs.Turns.{choice_of, settled, step_in, test_in, with_arm}
use Rattle.ms_interpreter.specs.Leads.{done_of}
use Rattle.ms_interpreter.specs.Seen.{texts_of}
use Rattle.ms_interpreter.specs.declared.finish.Finish.{Finish}
use Rattle.ms_interpreter.specs.declared.state.State.{State}
use Rattle.ms_jvm.specs.declared.marked.MarkedInt.{MarkedInt}
use Rattle.ms_jvm.specs.Segments.{Chose, IsAtChoice, TakesArm, after_within, going, taken}

-- ANY RUN

module _ {V : Type 0} (I : Ints V) (P : Views) (decide : Test V → ℕ) where
  abbrev end_behind : ℕ → Done V → After V → RunEnd V
  end_behind n done after = end_at (segment_from I P (after_arms I P done (arms_at decide (string_from I P decide n) after))).after

  -- a segment that ends the run
  over_end : (n : ℕ) (done : Done V) (end : End V) → (segment_from I P done).after ≡ Over end → end_from I P decide n done ≡ Ended end
  over_end zero done end is = ap end_at is
  over_end (suc n) done end is = ap (end_behind n done) is ∙ ap end_at is

  over_arms : (n : ℕ) (done : Done V) (end : End V) → (segment_from I P done).after ≡ Over end → string_from I P decide n done ≡ []
  over_arms zero done end is = refl
  over_arms (suc n) done end is = ap (arms_at decide (string_from I P decide n)) is

  -- a run that has ended
  pub ended_end : (n : ℕ) (end : End V) → end_from I P decide n (Ends end) ≡ Ended end
  ended_end n end = over_end n (Ends end) end refl

  pub ended_arms : (n : ℕ) (end : End V) → string_from I P decide n (Ends end) ≡ []
  ended_arms n end = over_arms n (Ends end) end refl

  -- a choice where the depth is reached
  cut_end : (done : Done V) (test : Test V) (arms : ℕ → Done V) → (segment_from I P done).after ≡ Choice test arms → end_from I P decide zero done ≡ Cut
  cut_end done test arms is = ap end_at is

  -- a choice, and the arm that it takes
  chosen_end : (n : ℕ) (done : Done V) (test : Test V) (arms : ℕ → Done V) → (segment_from I P done).after ≡ Choice test arms → end_from I P decide (suc n) done ≡ end_from I P decide n (arms (decide test))
  chosen_end n done test arms is =
      ap (end_behind n done) is
      ∙ ap (λ after. end_at (segment_from I P (after_arms I P (done_after after (decide test)) (string_from I P decide n (arms (decide test))))).after) is

  chosen_arms : (n : ℕ) (done : Done V) (test : Test V) (arms : ℕ → Done V) → (segment_from I P done).after ≡ Choice test arms → length (string_from I P decide (suc n) done) ≡ suc (length (string_from I P decide n (arms (decide test))))
  chosen_arms n done test arms is = ap (λ after. length (arms_at decide (string_from I P decide n) after)) is

-- THE RUN WITH MARKS

-- the end of a run to a depth, and how many choices it makes
abbrev pub run_end : Views → ℕ → Done Marked → RunEnd Marked
run_end P depth done = end_from marks P mark_arm depth done

abbrev pub run_arms : Views → ℕ → Done Marked → ℕ
run_arms P depth done = length (string_from marks P mark_arm depth done)

-- a run to a depth ends so, after so many choices
abbrev pub Runs : Views → ℕ → Done Marked → RunEnd Marked → ℕ → Type 0
Runs P depth done end count = (run_end P depth done ≡ end) × (run_arms P depth done ≡ count)

-- by the segment that comes
pub over : (P : Views) (n : ℕ) (state : State Marked) (end : End Marked) → after_within P most_instructions state ≡ Over end
    → (run_end P n (going P state) ≡ Ended end) × (run_arms P n (going P state) ≡ 0)
over P n state end is = (over_end marks P mark_arm n (going P state) end is, ap length (over_arms marks P mark_arm n (going P state) end is))

at_choice : {V : Type 0} (I : Ints V) (step : Step V) → settled I step ≡ None → (test : Test V) × (arms : ℕ → Done V) × (step ≡ Chooses test arms)
at_choice I (Then done) is = absurd (let e = is in cc)
at_choice I (Chooses test arms) is = (test, arms, refl)

-- the arm that a choice takes, as the code finds it
pub chose_so : (P : Views) (state : State Marked) (arm : ℕ) (done : Done Marked) → IsAtChoice P state → TakesArm P state arm → with_arm arm (step_in marks (λ a. a) P state) ≡ done → taken (choice_of (step_in marks (λ a. a) P state)) ≡ done
chose_so P state arm done stands takes led = go (step_in marks (λ a. a) P state) stands takes led
  where
    go : (step : Step Marked) → settled marks step ≡ None → IfSome (test_in step) (λ test. arm ≡ mark_arm test) → with_arm arm step ≡ done → taken (choice_of step) ≡ done
    go (Then d) s t w = absurd (let e = s in cc)
    go (Chooses test arms) s t w = sym (ap arms t) ∙ w

pub cut : (P : Views) (state state' : State Marked) → IsAtChoice P state' → after_within P most_instructions state ≡ choice_of (step_in marks (λ a. a) P state') → run_end P 0 (going P state) ≡ Cut
cut P state state' stands is =
    let choice = at_choice marks (step_in marks (λ a. a) P state') stands in
    cut_end marks P mark_arm (going P state) choice.0 choice.1 (is ∙ ap choice_of choice.2)

pub chosen : (P : Views) (n : ℕ) (state state' : State Marked) (finish : Option (Finish MarkedInt)) (later : State Marked) → IsAtChoice P state' → after_within P most_instructions state ≡ choice_of (step_in marks (λ a. a) P state') → Chose P state' finish later
    → (run_end P (suc n) (going P state) ≡ run_end P n (done_of (λ a. a) (texts_of P) finish later)) × (run_arms P (suc n) (going P state) ≡ suc (run_arms P n (done_of (λ a. a) (texts_of P) finish later)))
chosen P n state state' finish later stands is chose =
    let choice = at_choice marks (step_in marks (λ a. a) P state') stands in
    let comes : after_within P most_instructions state ≡ Choice choice.0 choice.1 = is ∙ ap choice_of choice.2 in
    let led : choice.1 (mark_arm choice.0) ≡ done_of (λ a. a) (texts_of P) finish later = sym (ap (λ step. taken (choice_of step)) choice.2) ∙ chose in (
      chosen_end marks P mark_arm n (going P state) choice.0 choice.1 comes ∙ ap (run_end P n) led,
      chosen_arms marks P mark_arm n (going P state) choice.0 choice.1 comes ∙ ap (λ done. suc (run_arms P n done)) led,
    )

-- what is kept of the choices before: the end of the whole run, and how many it makes
pub record Kept (P : Views) (depth : ℕ) (end : RunEnd Marked) (count : ℕ) (arms : ℕ) (done : Done Marked) : Type 0 where
  pub few : arms ≤ depth
  pub end_is : end ≡ run_end P (depth - arms) done
  pub count_is : count ≡ arms + run_arms P (depth - arms) done

-- at first nothing was chosen
pub kept_at_first : (P : Views) (depth : ℕ) (done : Done Marked) → Kept P depth (run_end P depth done) (run_arms P depth done) 0 done
kept_at_first P depth done =
    let all : depth ≡ depth - 0 = omega arith in
    let same : run_arms P depth done ≡ run_arms P (depth - 0) done = ap (λ n. run_arms P n done) all in
    record { few = omega arith; end_is = ap (λ n. run_end P n done) all; count_is = omega (arith, same) }

pub over_so : (P : Views) (depth : ℕ) (whole : RunEnd Marked) (count : ℕ) (arms : ℕ) (state : State Marked) (end : End Marked) → Kept P depth whole count arms (going P state) → after_within P most_instructions state ≡ Over end
    → (whole ≡ Ended end) × (count ≡ arms)
over_so P depth whole count arms state end kept is =
    let last = over P (depth - arms) state end is in
    (kept.end_is ∙ last.0, omega (arith, kept.count_is, last.1))

pub cut_so : (P : Views) (depth : ℕ) (whole : RunEnd Marked) (count : ℕ) (arms : ℕ) (state state' : State Marked) → Kept P depth whole count arms (going P state) → arms ≡ depth → IsAtChoice P state'
    → after_within P most_instructions state ≡ choice_of (step_in marks (λ a. a) P state') → (whole ≡ Cut) × (count ≡ arms)
cut_so P depth whole count arms state state' kept all stands is =
    let none : depth - arms ≡ 0 = omega (arith, all) in (
      kept.end_is ∙ ap (λ n. run_end P n (going P state)) none ∙ cut P state state' stands is,
      omega (arith, kept.count_is ∙ ap (λ n. arms + run_arms P n (going P state)) none),
    )

pub chosen_so : (P : Views) (depth : ℕ) (whole : RunEnd Marked) (count : ℕ) (arms : ℕ) (state state' : State Marked) (finish : Option (Finish MarkedInt)) (later : State Marked) → Kept P depth whole count arms (going P state) → arms < depth → IsAtChoice P state'
    → after_within P most_instructions state ≡ choice_of (step_in marks (λ a. a) P state') → Chose P state' finish later → Kept P depth whole count (arms + 1) (done_of (λ a. a) (texts_of P) finish later)
chosen_so P depth whole count arms state state' finish later kept more stands is chose =
    let one : depth - arms ≡ suc (depth - (arms + 1)) = omega (arith, more) in
    let next = chosen P (depth - (arms + 1)) state state' finish later stands is chose in
    record {
      few = omega (arith, more);
      end_is = kept.end_is ∙ ap (λ n. run_end P n (going P state)) one ∙ next.0;
      count_is = omega (arith, kept.count_is ∙ ap (λ n. arms + run_arms P n (going P state)) one, next.1);
    }

-- a choice that led to the end
pub ended_so : (P : Views) (depth : ℕ) (whole : RunEnd Marked) (count : ℕ) (arms : ℕ) (end : End Marked) → Kept P depth whole count arms (Ends end) → (whole ≡ Ended end) × (count ≡ arms)
ended_so P depth whole count arms end kept =
    let none : run_arms P (depth - arms) (Ends end) ≡ 0 = ap length (ended_arms marks P mark_arm (depth - arms) end) in
    (kept.end_is ∙ ended_end marks P mark_arm (depth - arms) end, omega (arith, kept.count_is, none))
