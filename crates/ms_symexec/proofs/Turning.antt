-- A turn of the interpreter at terms is a step of the machine whose ints are terms.
use Rattle.std.proofs.Common.{◌≡◌, ℕ, zero, suc, ◌-◌, ◌<◌, ◌≤◌, ℤ, List, [], ◌∷◌, ◌++◌, Option, Some, None, refl, sym, ap, ◌∙◌, arith}
use Rattle.std.specs.Prelude.{IsSome, option_map}
use Rattle.std.proofs.lemmas.List.{append-nil, append_assoc}
use Rattle.ms_words.specs.declared.item.Item.{Item}
use Rattle.ms_terms.specs.declared.term.Term.{Term as Node}
use Rattle.ms_terms.specs.declared.term.TermId.{TermId}
use Rattle.ms_terms.specs.Terms.{Term}
use Rattle.ms_machine.specs.Ints.{shadows}
use Rattle.ms_machine.specs.Values.{End, Runaway}
use Rattle.ms_machine.specs.Effects.{Test, Compares, Divides, Selects, Indexes}
use Rattle.ms_machine.specs.Control as control
use Rattle.ms_machine.specs.Control.{Done, Goes, Ends, Step, Then, Chooses, Views, step}
use Rattle.ms_machine.specs.Maps.{Respects, map_done, map_end, map_state, map_step}
use Rattle.ms_machine.specs.Runs.{done_after}
use Rattle.ms_machine.specs.Segments.{After, Choice, Over, Segment, item_then, nothing_then, segment_within}
use Rattle.ms_machine.specs.Tests.{arm_of, arms_of, known_test, map_test}
use Rattle.ms_machine.proofs.ControlMap.{step_map}
use Rattle.ms_interpreter.specs.declared.finish.Finish.{Finish}
use Rattle.ms_interpreter.specs.declared.starting.Beginning.{Beginning}
use Rattle.ms_interpreter.specs.declared.starting.Beginning.TheVariants as beginning
use Rattle.ms_interpreter.specs.declared.state.State.{State}
use Rattle.ms_interpreter.specs.declared.asked.Asked.{Asked}
use Rattle.ms_interpreter.specs.declared.asked.Asked.TheVariants as asked
use Rattle.ms_interpreter.specs.Asking.{asked_of}
use Rattle.ms_interpreter.specs.Begun.{begins}
use Rattle.ms_interpreter.specs.declared.turn.Turn.TheVariants as turn
use Rattle.ms_interpreter.specs.Leads.{finish_of, state_of}
use Rattle.ms_interpreter.specs.Seen.{texts_of}
use Rattle.ms_interpreter.specs.Staying.{Stay}
use Rattle.ms_interpreter.specs.Symbols.{symbol, symbols}
use Rattle.ms_interpreter.specs.Turns.{Turns, choice_of, settled, step_in, test_in, with_arm}
use Rattle.ms_interpreter.proofs.Segmented.{goes, stands}
use Rattle.ms_symexec.specs.Outcomes.{HasArms, HasFew}
use Rattle.ms_symexec.specs.Segments.{Ended, IsAtChoice, onto}
use Rattle.ms_symexec.specs.Segments as symexec
use Rattle.ms_symexec.specs.Standing.{IsAt, Stands}
use Rattle.ms_symexec.proofs.Standing.{state_stays}

abbrev there : Term → Option Term
there term = Some term

respects : Respects shadows symbols there
respects = record { constant = λ word. refl; unary = λ op a. refl; binary = λ op a b. refl; known = λ a. refl }

-- WHAT IS SETTLED

known_seen : (test : Test Term) → known_test symbols (map_test there test) ≡ known_test shadows test
known_seen (Compares comparison a b) = refl
known_seen (Divides b) = refl
known_seen (Selects a keys) = refl
known_seen (Indexes a len) = refl

settled_seen : (taken : Step Term) → settled symbols (map_step there taken) ≡ option_map (map_done there) (settled shadows taken)
settled_seen (Then done) = refl
settled_seen (Chooses test arms) = ap (option_map (λ words. map_done there (arms (arm_of words)))) (known_seen test) ∙ go (known_test shadows test)
  where
    go : (words : Option (Test ℤ)) → option_map (λ words. map_done there (arms (arm_of words))) words ≡ option_map (map_done there) (option_map (λ words. arms (arm_of words)) words)
    go None = refl
    go (Some words) = refl

-- what goes on, or ends, where what it is seen as does
record Going (came : Option (Done Term)) (state : control.State (Option Term)) : Type 0 where
  pub seen : control.State Term
  pub is : came ≡ Some (Goes seen)
  pub stands : state ≡ map_state there seen

record Ending (came : Option (Done Term)) (finish : End (Option Term)) : Type 0 where
  pub end : End Term
  pub is : came ≡ Some (Ends end)
  pub stands : finish ≡ map_end there end

going : (came : Option (Done Term)) (state : control.State (Option Term)) → option_map (map_done there) came ≡ Some (Goes state) → Going came state
going None state is = absurd (let e = is in cc)
going (Some (Goes seen)) state is = record { seen = seen; is = refl; stands = let e = is in cc }
going (Some (Ends end)) state is = absurd (let e = is in cc)

ending : (came : Option (Done Term)) (finish : End (Option Term)) → option_map (map_done there) came ≡ Some (Ends finish) → Ending came finish
ending None finish is = absurd (let e = is in cc)
ending (Some (Goes seen)) finish is = absurd (let e = is in cc)
ending (Some (Ends end)) finish is = record { end = end; is = refl; stands = let e = is in cc }

standing : (came : Option (Done Term)) → option_map (map_done there) came ≡ None → came ≡ None
standing None is = refl
standing (Some done) is = absurd (let e = is in cc)

-- SEGMENTS

-- what the turns so far made of the segment
pub record SoFar (P : Views) (whole : Segment Term) (left : ℕ) (trace : List Item) (nodes : List Node) (state : State TermId) : Type 0 where
  pub seen : control.State Term
  pub stands : Stands nodes P state seen
  pub same : whole ≡ onto trace (segment_within shadows P left (Goes seen))

-- an item more
onto_more : (trace : List Item) (item : Item) (segment : Segment Term) → onto trace (item_then item segment) ≡ onto (trace ++ item ∷ []) segment
onto_more trace item segment = ap (λ (items : List Item). record { trace = items; after = segment.after }) (sym (append_assoc trace (item ∷ []) segment.trace))

module _ (P : Views) (whole : Segment Term) (trace : List Item) (old new : List Node) (stay : Stay (λ v. IsSome v) (symbol old) (symbol new)) (state : State TermId) where
  -- the step that comes, with the table as it is after it
  module _ (n : ℕ) (so : SoFar P whole (suc n) trace old state) where
    stands_now : Stands new P state so.seen
    stands_now = state_stays (symbol old) (symbol new) stay (texts_of P) state so.seen so.stands

    step_is : settled symbols (step_in symbols (symbol new) P state) ≡ option_map (map_done there) (settled shadows (step shadows P so.seen))
    step_is = ap (λ s. settled symbols (step symbols P s)) stands_now ∙ ap (settled symbols) (step_map there shadows symbols respects P so.seen) ∙ settled_seen (step shadows P so.seen)

    at_is : so.seen.top.at ≡ state.top.at
    at_is = ap (λ (s : control.State (Option Term)). s.top.at) (sym so.stands)

    with_item : (segment : Segment Term) → segment_within shadows P (suc n) (Goes so.seen) ≡ item_then so.seen.top.at segment → whole ≡ onto (trace ++ state.top.at ∷ []) segment
    with_item segment is = so.same ∙ ap (onto trace) is ∙ ap (λ (item : Item). onto trace (item_then item segment)) at_is ∙ onto_more trace state.top.at segment

    pub turn_goes : (state' : State TermId) → Turns symbols (symbol new) P state turn.Goes state' → SoFar P whole n (trace ++ state.top.at ∷ []) new state'
    turn_goes state' turns =
        let g = going (settled shadows (step shadows P so.seen)) (state_of (symbol new) (texts_of P) state') (sym step_is ∙ turns) in
        record {
          seen = g.seen;
          stands = g.stands;
          same = with_item (segment_within shadows P n (Goes g.seen)) (goes shadows P n so.seen (Goes g.seen) g.is);
        }

    pub turn_stands : (state' : State TermId) → Turns symbols (symbol new) P state turn.Stands state' → symexec.Choice new P (trace ++ state.top.at ∷ []) state' whole
    turn_stands state' turns =
        let none = standing (settled shadows (step shadows P so.seen)) (sym step_is ∙ turns.0) in
        record {
          seen = so.seen;
          is = record { stands = turns.1 ∙ stands_now; chooses = none };
          segment_is = with_item (nothing_then (choice_of (step shadows P so.seen))) (stands shadows P n so.seen none)
              ∙ ap (λ (items : List Item). record { trace = items; after = choice_of (step shadows P so.seen) }) (append-nil (trace ++ state.top.at ∷ []));
        }

    pub turn_ends : (finish : Finish TermId) (state' : State TermId) → Turns symbols (symbol new) P state (turn.Ends finish) state' → Ended new (trace ++ state.top.at ∷ []) (finish_of (symbol new) finish) whole
    turn_ends finish state' turns =
        let g = ending (settled shadows (step shadows P so.seen)) (finish_of (symbol new) finish) (sym step_is ∙ turns) in
        record {
          end = g.end;
          is = g.stands;
          segment_is = with_item (nothing_then (Over g.end)) (goes shadows P n so.seen (Ends g.end) g.is)
              ∙ ap (λ (items : List Item). record { trace = items; after = Over g.end }) (append-nil (trace ++ state.top.at ∷ []));
        }

-- no instruction is left
pub runs_away : (P : Views) (whole : Segment Term) (left : ℕ) (trace : List Item) (nodes : List Node) (state : State TermId) → left ≡ 0 → SoFar P whole left trace nodes state → whole ≡ record { trace = trace; after = Over Runaway }
runs_away P whole left trace nodes state none so =
    so.same ∙ ap (λ (n : ℕ). onto trace (segment_within shadows P n (Goes so.seen))) none
    ∙ ap (λ (items : List Item). record { trace = items; after = Over Runaway }) (append-nil trace)

-- the first of a number that isn't 0 is one more than another
pub one_less : (n : ℕ) → 0 < n → n ≡ suc (n - 1)
one_less zero more = absurd (omega (arith, more))
one_less (suc n) more = omega arith

-- ARMS

with_arm_seen : (arm : ℕ) (taken : Step Term) → with_arm arm (map_step there taken) ≡ map_done there (with_arm arm taken)
with_arm_seen arm (Then done) = refl
with_arm_seen arm (Chooses test arms) = refl

-- at a choice an arm is done as the choice says
arm_done : (arm : ℕ) (taken : Step Term) → settled shadows taken ≡ None → with_arm arm taken ≡ done_after (choice_of taken) arm
arm_done arm (Then done) none = absurd (let e = none in cc)
arm_done arm (Chooses test arms) none = refl

state_in : (f : TermId → Option Term) (P : Views) (state : State TermId) (seen : control.State Term) → begins f (texts_of P) (beginning.In state) ≡ map_done there (Goes seen) → state_of f (texts_of P) state ≡ map_state there seen
state_in f P state seen is = let e = is in cc

pub arm_taken : (P : Views) (old new : List Node) → Stay (λ v. IsSome v) (symbol old) (symbol new) → (run : Beginning TermId) (state : State TermId) → run ≡ beginning.In state → (arm : ℕ) (after : After Term) → IsAt old P run after
    → (done : Done (Option Term)) → with_arm arm (step_in symbols (symbol new) P state) ≡ done → done ≡ map_done there (done_after after arm)
arm_taken P old new stay run state is arm after at done chose =
    let before = state_in (symbol old) P state at.seen (ap (begins (symbol old) (texts_of P)) (sym is) ∙ at.stands) in
    let now = state_stays (symbol old) (symbol new) stay (texts_of P) state at.seen before in
    sym chose ∙ ap (λ s. with_arm arm (step symbols P s)) now ∙ ap (with_arm arm) (step_map there shadows symbols respects P at.seen) ∙ with_arm_seen arm (step shadows P at.seen)
    ∙ ap (map_done there) (arm_done arm (step shadows P at.seen) at.chooses ∙ ap (λ a. done_after a arm) (sym at.after_is))

-- HOW MANY ARMS

-- the arms of a test, whatever its ints
arms_mapped : (test : Test Term) → arms_of (map_test there test) ≡ arms_of test
arms_mapped (Compares comparison a b) = refl
arms_mapped (Divides b) = refl
arms_mapped (Selects a keys) = refl
arms_mapped (Indexes a len) = refl

arms_alike : (f g : TermId → Option Term) (test : Asked TermId) → arms_of (asked_of symbols f test) ≡ arms_of (asked_of symbols g test)
arms_alike f g (asked.Compares comparison a b) = refl
arms_alike f g (asked.ComparesZero comparison a) = refl
arms_alike f g (asked.Divides b) = refl
arms_alike f g (asked.Selects a switch) = refl
arms_alike f g (asked.Indexes a len) = refl

-- the test that a state asks where it is at a choice
pub record IsAsked (found : Option (Asked TermId)) (after : After Term) : Type 0 where
  pub test : Asked TermId
  pub is : found ≡ Some test
  pub arms : HasArms (arms_of (asked_of symbols (symbol []) test)) after

pub asked_at : (P : Views) (nodes : List Node) (state : State TermId) (seen : control.State Term) → IsAtChoice nodes P state seen → (found : Option (Asked TermId)) → option_map (asked_of symbols (symbol nodes)) found ≡ test_in (step_in symbols (symbol nodes) P state)
    → IsAsked found (choice_of (step shadows P seen))
asked_at P nodes state seen at found is =
    by_step (step shadows P seen) at.chooses found (is ∙ ap (λ s. test_in (step symbols P s)) at.stands ∙ ap test_in (step_map there shadows symbols respects P seen))
  where
    by_step : (taken : Step Term) → settled shadows taken ≡ None → (o : Option (Asked TermId)) → option_map (asked_of symbols (symbol nodes)) o ≡ test_in (map_step there taken) → IsAsked o (choice_of taken)
    by_step (Then done) none o e = absurd (let f = none in cc)
    by_step (Chooses test arms) none None e = absurd (let f = e in cc)
    by_step (Chooses test arms) none (Some asks) e =
        let same : asked_of symbols (symbol nodes) asks ≡ map_test there test = (let f = e in cc) in
        record { test = asks; is = refl; arms = arms_alike (symbol []) (symbol nodes) asks ∙ ap arms_of same ∙ arms_mapped test }

-- the same count of any such state
pub few_arms : (arms : ℕ) (after : After Term) → HasArms arms after → HasFew after → arms ≤ 65535
few_arms arms (Choice test does) has few = omega (arith, has, few)
few_arms arms (Over end) has few = absurd has
