-- Where an instruction leads, as the machine says it.
use Rattle.std.specs.Prelude.{◌≡◌, ℕ, ℤ, pos, negsuc, List, reverse, take, drop, map, Option, Some, None, option_map}
use Rattle.ms_words.specs.declared.thrown.Thrown.{Thrown}
use Rattle.ms_machine.specs.Ints.{Ints}
use Rattle.ms_machine.specs.Values as machine
use Rattle.ms_machine.specs.Effects.{Here, Next, Target, Doing, Moves, Calls, Initialises, Returns, Raises, Stops, make_array}
use Rattle.ms_machine.specs.Control as control
use Rattle.ms_machine.specs.Control.{Views, Done, Goes, Ends, perform}
use Rattle.ms_machine.specs.Maps.{map_doing}
use Rattle.ms_interpreter.specs.declared.did.Did.{Did}
use Rattle.ms_interpreter.specs.declared.did.Stop.TheVariants as stops
use Rattle.ms_interpreter.specs.declared.finish.Finish.{Finish}
use Rattle.ms_interpreter.specs.declared.finish.Finish.TheVariants as finish
use Rattle.ms_interpreter.specs.declared.lead.Lead.{Lead}
use Rattle.ms_interpreter.specs.declared.lead.Lead.TheVariants as lead
use Rattle.ms_interpreter.specs.declared.state.State.{State}
use Rattle.ms_interpreter.specs.Frames.{Frame, Shared}
use Rattle.ms_interpreter.specs.Plans.{Given, computed, plans}
use Rattle.ms_interpreter.specs.Doing.{doing_of, end_of, planned_here}
use Rattle.ms_interpreter.specs.Seen.{Texts, frame_of, here_of, memory_of, value_of, values_of}

-- the end of a run
abbrev pub finish_of : {I V : Type 0} → (I → V) → Finish I → machine.End V
finish_of f (finish.Returned a) = machine.Returned (f a)
finish_of f finish.ReturnedVoid = machine.ReturnedVoid
finish_of f (finish.Threw class) = machine.Threw class
finish_of f (finish.InitFailed class) = machine.InitFailed class
finish_of f (finish.Missing name) = machine.Missing name
finish_of f finish.Deep = machine.Deep
finish_of f finish.SymLength = machine.SymLength
finish_of f finish.HeapFull = machine.HeapFull
finish_of f finish.Stuck = machine.Stuck

module _ {I V : Type 0} (f : I → V) (texts : Texts) where
  -- what is done, by what was left
  abbrev pub lead_of : Lead I → Here V → Doing V
  lead_of lead.Next here = Moves Next here
  lead_of (lead.Jumps target) here = Moves (Target target) here
  lead_of (lead.Calls parameters) here = Calls (reverse (take parameters here.stack)) (record here { stack = drop parameters here.stack })
  lead_of (lead.Initialises class) here = Initialises class here
  lead_of (lead.Returns slot) here = Returns (option_map (value_of f texts) slot) here.memory
  lead_of (lead.Raises number class) here = Raises number class here.memory
  lead_of (lead.Stops stop) here = Stops (end_of stop)

  -- the frames that wait, the uppermost first
  abbrev pub below_of : State I → List (control.Frame V)
  below_of state = map (frame_of f texts) (reverse state.below.items)

  -- a state
  abbrev pub state_of : State I → control.State V
  state_of state = record { top = frame_of f texts state.top; below = below_of state; memory = memory_of f texts state.memory }

  -- a run that has ended, or goes on from a state
  abbrev pub done_of : Option (Finish I) → State I → Done V
  done_of None state = Goes (state_of state)
  done_of (Some finish) state = Ends (finish_of f finish)

-- the planned arithmetic of what an instruction did was done: it leads there, and left this frame and these shared things
abbrev pub Settles : {I V : Type 0} → Ints V → (I → V) → Texts → Did I → Frame I → Shared I → Lead I → Frame I → Shared I → Type 0
Settles J f texts did frame shared lead frame' shared' =
    map_doing (computed J f) (doing_of (λ plan. J.known (computed J f plan)) texts did (planned_here texts frame shared)) ≡ lead_of f texts lead (here_of f texts frame' shared')

-- an array of this length was made, or there was no room for it
abbrev pub MakesArray : {I V : Type 0} → Ints V → (I → V) → Texts → ℕ → Frame I → Shared I → Lead I → Frame I → Shared I → Type 0
MakesArray J f texts size frame shared lead frame' shared' =
    map_doing (computed J f) (make_array (plans (λ plan. J.known (computed J f plan))) (planned_here texts frame shared) (values_of Given texts frame.stack) size) ≡ lead_of f texts lead (here_of f texts frame' shared')

-- the number that a word is, unless it is negative
abbrev pub natural_of : ℤ → Option ℕ
natural_of (pos n) = Some n
natural_of (negsuc n) = None

-- a throwable of a class is thrown, where one was made
abbrev pub thrown_lead : {I : Type 0} → Thrown → Option ℕ → Lead I
thrown_lead class None = lead.Stops stops.HeapFull
thrown_lead class (Some number) = lead.Raises number class

-- from a state with what an instruction left it leads to the end, or to the other state
abbrev pub Leads : {I V : Type 0} → (I → V) → Texts → Views → Lead I → State I → Option (Finish I) → State I → Type 0
Leads f texts P lead state finish state' =
    perform P (state_of f texts state) (lead_of f texts lead (here_of f texts state.top state.memory)) ≡ done_of f texts finish state'

-- the locals stay where a throwable is thrown
abbrev pub LocalsStayFor : {I : Type 0} → Lead I → Frame I → Frame I → Type 0
LocalsStayFor (lead.Raises number class) frame frame' = frame'.locals ≡ frame.locals
LocalsStayFor other frame frame' = Unit {0}

-- the frame stays where it is, and is pushed for the same
pub record Keeps {I : Type 0} (lead : Lead I) (frame frame' : Frame I) : Type 0 where
  pub at : frame'.at ≡ frame.at
  pub initialises : frame'.initialises ≡ frame.initialises
  pub locals : LocalsStayFor lead frame frame'
