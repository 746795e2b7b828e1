-- What a turn of the interpreter comes to.
use Rattle.std.specs.Prelude.{◌≡◌, ℕ, Option, Some, None, option_map}
use Rattle.ms_words.specs.declared.item.Item.{Item}
use Rattle.ms_machine.specs.Ints.{Ints}
use Rattle.ms_machine.specs.Instructions.{Instr}
use Rattle.ms_machine.specs.Effects.{Test, effect}
use Rattle.ms_machine.specs.Control.{View, Views, Done, Goes, Ends, Step, Then, Chooses, perform, step}
use Rattle.ms_machine.specs.Segments.{After, Choice, Over}
use Rattle.ms_machine.specs.Tests.{arm_of, known_test}
use Rattle.ms_machine.specs.Values.{Stuck}
use Rattle.ms_interpreter.specs.declared.finish.Finish.{Finish}
use Rattle.ms_interpreter.specs.declared.state.State.{State}
use Rattle.ms_interpreter.specs.declared.turn.Turn.{Turn}
use Rattle.ms_interpreter.specs.declared.turn.Turn.TheVariants as turn
use Rattle.ms_interpreter.specs.Doing.{for_arm}
use Rattle.ms_interpreter.specs.Leads.{done_of, finish_of, state_of}
use Rattle.ms_interpreter.specs.Seen.{here_of, texts_of}

-- what a step comes to whose test is known, or that asks none; none where it is a choice
abbrev pub settled : {V : Type 0} → Ints V → Step V → Option (Done V)
settled J (Then done) = Some done
settled J (Chooses test arms) = option_map (λ words. arms (arm_of words)) (known_test J test)

-- the choice that a step is
abbrev pub choice_of : {V : Type 0} → Step V → After V
choice_of (Then done) = Over Stuck
choice_of (Chooses test arms) = Choice test arms

-- what a step comes to, with an arm where it asks a test
abbrev pub with_arm : {V : Type 0} → ℕ → Step V → Done V
with_arm arm (Then done) = done
with_arm arm (Chooses test arms) = arms arm

-- the test that a step asks
abbrev pub test_in : {V : Type 0} → Step V → Option (Test V)
test_in (Then done) = None
test_in (Chooses test arms) = Some test

-- the arm of a test whose words are known
abbrev pub known_arm : {V : Type 0} → Ints V → Test V → Option ℕ
known_arm J test = option_map arm_of (known_test J test)

-- for private functions: the arm with which an instruction is executed that asks this test, or none
abbrev pub arm_due : {V : Type 0} → Ints V → Option (Test V) → Option ℕ
arm_due J None = Some 0
arm_due J (Some test) = known_arm J test

-- for private functions: the run ended so, or goes on
abbrev pub turn_of : {I : Type 0} → Option (Finish I) → Turn I
turn_of None = turn.Goes
turn_of (Some finish) = turn.Ends finish

-- for private functions: what instruction the machine sees at an item, if it sees one
abbrev pub IsSeen : Views → Item → Option Instr → Type 0
IsSeen P item found = option_map (λ (view : View). view.instr) (P item) ≡ found

module _ {I V : Type 0} (J : Ints V) (f : I → V) (P : Views) where
  -- the step that comes in a state
  abbrev pub step_in : State I → Step V
  step_in state = step J P (state_of f (texts_of P) state)

  -- a turn led from a state to a state, to the end, or nowhere, since the state is at a choice
  abbrev pub Turns : State I → Turn I → State I → Type 0
  Turns state turn.Goes state' = settled J (step_in state) ≡ Some (Goes (state_of f (texts_of P) state'))
  Turns state turn.Stands state' = (settled J (step_in state) ≡ None) × (state_of f (texts_of P) state' ≡ state_of f (texts_of P) state)
  Turns state (turn.Ends finish) state' = settled J (step_in state) ≡ Some (Ends (finish_of f finish))

  -- for private functions: an instruction was executed with an arm
  abbrev pub Executes : Instr → ℕ → State I → Option (Finish I) → State I → Type 0
  Executes instr arm state finish state' =
      perform P (state_of f (texts_of P) state) (for_arm arm (effect J instr (here_of f (texts_of P) state.top state.memory))) ≡ done_of f (texts_of P) finish state'
