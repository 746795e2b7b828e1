-- The step that comes in a state, by the instruction that is there.
use Rattle.std.proofs.Common.{◌≡◌, ℕ, ℤ, [], Option, Some, None, refl, sym, ap, ◌∙◌}
use Rattle.std.specs.Prelude.{IsSome, option_map}
use Rattle.ms_words.specs.declared.item.Item.{Item}
use Rattle.ms_machine.specs.Ints.{Ints}
use Rattle.ms_machine.specs.Instructions.{Instr, Skip, Push, PushNull, PushText, Load, Store, Shuffle, Change, Combine, Divide, Increment, Compare, CompareZero, CompareReferences, CompareNull, Goto, Switch, ReturnValue, ReturnVoid, GetStatic, PutStatic, Invoke, New, Construct, Throw, NewArray, ArrayLength, ArrayLoad, ArrayStore}
use Rattle.ms_machine.specs.Values as machine
use Rattle.ms_machine.specs.Effects.{Asks, Does, Effect, Here, Test, effect}
use Rattle.ms_machine.specs.Control as control
use Rattle.ms_machine.specs.Control.{Done, Ends, Step, Then, View, Views, perform, performed, step, viewed}
use Rattle.ms_machine.specs.Maps.{map_effect}
use Rattle.ms_machine.specs.Tests.{arm_of, known_test, map_test}
use Rattle.ms_interpreter.specs.declared.asked.Asked.{Asked}
use Rattle.ms_interpreter.specs.declared.asked.Asked.TheVariants as asked
use Rattle.ms_interpreter.specs.declared.finish.Finish.{Finish}
use Rattle.ms_interpreter.specs.declared.state.State.{State}
use Rattle.ms_interpreter.specs.Asking as asking
use Rattle.ms_interpreter.specs.Asking.{asked_of}
use Rattle.ms_interpreter.specs.Doing.{HasText, for_arm, planned_here, test_of}
use Rattle.ms_interpreter.specs.Frames.{Frame, Shared}
use Rattle.ms_interpreter.specs.Leads.{done_of, state_of}
use Rattle.ms_interpreter.specs.Plans.{Given, computed, plans}
use Rattle.ms_interpreter.specs.Seen.{Texts, here_of, text_in, texts_of}
use Rattle.ms_interpreter.specs.Turns.{IsSeen, Turns, arm_due, settled, step_in, test_in, turn_of, with_arm}
use Rattle.ms_interpreter.proofs.Turned.{effect_seen, known}

-- THE TEST

test_map : {V W : Type 0} (f : V → W) (e : Effect V) → test_of (map_effect f e) ≡ option_map (map_test f) (test_of e)
test_map f (Does doing) = refl
test_map f (Asks test arms) = refl

asked_map : {I V : Type 0} (J : Ints V) (f : I → V) (found : Option (Asked I)) → option_map (map_test (computed J f)) (option_map (asked_of (plans (known J f)) Given) found) ≡ option_map (asked_of J f) found
asked_map J f None = refl
asked_map J f (Some (asked.Compares comparison a b)) = refl
asked_map J f (Some (asked.ComparesZero comparison a)) = refl
asked_map J f (Some (asked.Divides b)) = refl
asked_map J f (Some (asked.Selects a switch)) = refl
asked_map J f (Some (asked.Indexes a len)) = refl

pub asked_seen : {I V : Type 0} (J : Ints V) (f : I → V) (texts : Texts) (instr : Instr) (frame : Frame I) (shared : Shared I) (found : Option (Asked I)) → asking.Asks instr frame shared found
    → test_of (effect J instr (here_of f texts frame shared)) ≡ option_map (asked_of J f) found
asked_seen J f texts instr frame shared found asks =
    ap test_of (effect_seen J f texts instr frame shared) ∙ test_map (computed J f) (effect (plans (known J f)) instr (planned_here texts frame shared))
    ∙ ap (option_map (map_test (computed J f))) (asks texts (known J f)) ∙ asked_map J f found

-- THE INSTRUCTION

pub there : (P : Views) (item : Item) (instr : Instr) → IsSeen P item (Some instr) → IsSome (P item)
there P item instr seen = go (P item) seen
  where
    go : (o : Option View) → option_map (λ (view : View). view.instr) o ≡ Some instr → IsSome o
    go None h = absurd (let e = h in cc)
    go (Some view) h = refl

text_there : (P : Views) (item : Item) (instr : Instr) → IsSeen P item (Some instr) → texts_of P item ≡ text_in instr
text_there P item instr seen = go (P item) seen
  where
    go : (o : Option View) → option_map (λ (view : View). view.instr) o ≡ Some instr → viewed o [] (λ view. text_in view.instr) ≡ text_in instr
    go None h = absurd (let e = h in cc)
    go (Some view) h = let same : view.instr ≡ instr = cc in ap text_in same

pub has_text : (P : Views) (item : Item) (instr : Instr) → IsSeen P item (Some instr) → HasText (texts_of P) item instr
has_text P item (PushText bytes) seen = text_there P item (PushText bytes) seen
has_text P item Skip seen = tt
has_text P item (Push word) seen = tt
has_text P item PushNull seen = tt
has_text P item (Load sort local) seen = tt
has_text P item (Store sort local) seen = tt
has_text P item (Shuffle count places) seen = tt
has_text P item (Change op) seen = tt
has_text P item (Combine op) seen = tt
has_text P item (Divide op) seen = tt
has_text P item (Increment local by) seen = tt
has_text P item (Compare comparison) seen = tt
has_text P item (CompareZero comparison) seen = tt
has_text P item (CompareReferences same) seen = tt
has_text P item (CompareNull null) seen = tt
has_text P item Goto seen = tt
has_text P item (Switch keys) seen = tt
has_text P item (ReturnValue sort) seen = tt
has_text P item ReturnVoid seen = tt
has_text P item (GetStatic member type initial) seen = tt
has_text P item (PutStatic member type) seen = tt
has_text P item (Invoke member signature) seen = tt
has_text P item (New class) seen = tt
has_text P item (Construct with_message class) seen = tt
has_text P item Throw seen = tt
has_text P item NewArray seen = tt
has_text P item ArrayLength seen = tt
has_text P item ArrayLoad seen = tt
has_text P item ArrayStore seen = tt

module _ {I V : Type 0} (J : Ints V) (f : I → V) (P : Views) (state : State I) where
  -- what the instruction works on, and where the run is
  abbrev pub before : Here V
  before = here_of f (texts_of P) state.top state.memory

  abbrev pub standing : control.State V
  standing = state_of f (texts_of P) state

  pub step_seen : (instr : Instr) → IsSeen P state.top.at (Some instr) → step_in J f P state ≡ performed P standing (effect J instr before)
  step_seen instr seen = go (P state.top.at) seen
    where
      go : (o : Option View) → option_map (λ (view : View). view.instr) o ≡ Some instr
          → viewed o (Then (Ends machine.Stuck)) (λ view. performed P standing (effect J view.instr before)) ≡ performed P standing (effect J instr before)
      go None h = absurd (let e = h in cc)
      go (Some view) h = let same : view.instr ≡ instr = cc in ap (λ (i : Instr). performed P standing (effect J i before)) same

  pub step_unseen : IsSeen P state.top.at None → step_in J f P state ≡ Then (Ends machine.Stuck)
  step_unseen seen = go (P state.top.at) seen
    where
      go : (o : Option View) → option_map (λ (view : View). view.instr) o ≡ None → viewed o (Then (Ends machine.Stuck)) (λ view. performed P standing (effect J view.instr before)) ≡ Then (Ends machine.Stuck)
      go None h = refl
      go (Some view) h = absurd (let e = h in cc)

  settled_by : (e : Effect V) → settled J (performed P standing e) ≡ option_map (λ arm. perform P standing (for_arm arm e)) (arm_due J (test_of e))
  settled_by (Does doing) = refl
  settled_by (Asks test arms) = go (known_test J test)
    where
      go : (words : Option (Test ℤ)) → option_map (λ words. perform P standing (arms (arm_of words))) words ≡ option_map (λ arm. perform P standing (arms arm)) (option_map arm_of words)
      go None = refl
      go (Some words) = refl

  with_arm_by : (arm : ℕ) (e : Effect V) → with_arm arm (performed P standing e) ≡ perform P standing (for_arm arm e)
  with_arm_by arm (Does doing) = refl
  with_arm_by arm (Asks test arms) = refl

  test_by : (e : Effect V) → test_in (performed P standing e) ≡ test_of e
  test_by (Does doing) = refl
  test_by (Asks test arms) = refl

  module _ (instr : Instr) (seen : IsSeen P state.top.at (Some instr)) where
    pub settled_seen : (arm : Option ℕ) → arm ≡ arm_due J (test_of (effect J instr before)) → settled J (step_in J f P state) ≡ option_map (λ k. perform P standing (for_arm k (effect J instr before))) arm
    settled_seen arm due = ap (settled J) (step_seen instr seen) ∙ settled_by (effect J instr before) ∙ ap (option_map (λ k. perform P standing (for_arm k (effect J instr before)))) (sym due)

    pub with_arm_seen : (arm : ℕ) → with_arm arm (step_in J f P state) ≡ perform P standing (for_arm arm (effect J instr before))
    with_arm_seen arm = ap (with_arm arm) (step_seen instr seen) ∙ with_arm_by arm (effect J instr before)

    pub test_seen : test_in (step_in J f P state) ≡ test_of (effect J instr before)
    test_seen = ap test_in (step_seen instr seen) ∙ test_by (effect J instr before)

-- where the instruction leads, the turn leads
pub turns_by : {I V : Type 0} (J : Ints V) (f : I → V) (P : Views) (state : State I) (finish : Option (Finish I)) (state' : State I) → settled J (step_in J f P state) ≡ Some (done_of f (texts_of P) finish state')
    → Turns J f P state (turn_of finish) state'
turns_by J f P state None state' is = is
turns_by J f P state (Some finish) state' is = is
