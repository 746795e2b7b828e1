-- How a segment of the interpreter comes out, as the machine with marks has it. These words are for private functions.
use Rattle.std.specs.Prelude.{◌≡◌, ℕ, Option, Some, None, IfSome, false, ℤ}
use Rattle.ms_machine.specs.Ints.{Marked, marks}
use Rattle.ms_machine.specs.Values.{Runaway}
use Rattle.ms_machine.specs.Control.{Views, Done, Goes, Ends}
use Rattle.ms_machine.specs.Segments.{After, Choice, Over, segment_within}
use Rattle.ms_machine.specs.Runs.{RunEnd, Ended, Cut}
use Rattle.ms_machine.specs.Laws.{mark_arm}
use Rattle.ms_interpreter.specs.declared.finish.Finish.{Finish}
use Rattle.ms_interpreter.specs.declared.slot.Slot.{Slot}
use Rattle.ms_interpreter.specs.declared.slot.Slot.TheVariants as slots
use Rattle.ms_interpreter.specs.declared.state.State.{State}
use Rattle.ms_interpreter.specs.Leads.{done_of, finish_of, state_of}
use Rattle.ms_interpreter.specs.Seen.{texts_of}
use Rattle.ms_interpreter.specs.Turns.{choice_of, settled, step_in, test_in}
use Rattle.ms_jvm.specs.declared.marked.MarkedInt.{MarkedInt}
use Rattle.ms_jvm.specs.declared.choices.Last.{Last}
use Rattle.ms_jvm.specs.declared.choices.Last.TheVariants as last
use Rattle.ms_jvm.specs.declared.segments.Came.{Came}
use Rattle.ms_jvm.specs.declared.segments.Came.TheVariants as came

-- where a run goes on from a state
abbrev pub going : Views → State Marked → Done Marked
going P state = Goes (state_of (λ a. a) (texts_of P) state)

-- what comes after the segment of a state, within so many instructions
abbrev pub after_within : Views → ℕ → State Marked → After Marked
after_within P n state = (segment_within marks P n (going P state)).after

-- a segment within so many instructions came out so, and left this state
abbrev pub Comes : Views → ℕ → State Marked → Came → State Marked → Type 0
Comes P n state came.AtChoice state' = (settled marks (step_in marks (λ a. a) P state') ≡ None) × (after_within P n state ≡ choice_of (step_in marks (λ a. a) P state'))
Comes P n state (came.Over finish) state' = after_within P n state ≡ Over (finish_of (λ a. a) finish)
Comes P n state came.Runaway state' = after_within P n state ≡ Over Runaway

-- a state is at a choice
abbrev pub IsAtChoice : Views → State Marked → Type 0
IsAtChoice P state = settled marks (step_in marks (λ a. a) P state) ≡ None

-- the choice of a state, where it is at one, takes this arm
abbrev pub TakesArm : Views → State Marked → ℕ → Type 0
TakesArm P state arm = IfSome (test_in (step_in marks (λ a. a) P state)) (λ test. arm ≡ mark_arm test)

-- what comes after the arm that a choice takes
abbrev pub taken : After Marked → Done Marked
taken (Choice test arms) = arms (mark_arm test)
taken (Over end) = Ends end

-- the arm of the choice was taken, and led to the end or to a state
abbrev pub Chose : Views → State Marked → Option (Finish MarkedInt) → State Marked → Type 0
Chose P state finish state' = taken (choice_of (step_in marks (λ a. a) P state)) ≡ done_of (λ a. a) (texts_of P) finish state'

-- the end of a run
abbrev pub ends_with : Last → RunEnd Marked
ends_with (last.Over finish) = Ended (finish_of (λ a. a) finish)
ends_with last.Runaway = Ended Runaway
ends_with last.Cut = Cut

-- a parameter, as a local holds it
abbrev pub parameter_of : ℤ → Option (Slot MarkedInt)
parameter_of word = Some (slots.Int (record { word = word; plain = false }))
