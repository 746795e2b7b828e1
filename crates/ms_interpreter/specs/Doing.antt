-- What an instruction did, as the machine says it.
use Rattle.std.specs.Prelude.{◌≡◌, ℕ, ℤ, ◌∷◌, reverse, take, drop, Option, Some, None, option_map}
use Rattle.ms_words.specs.declared.item.Item.{Item}
use Rattle.ms_words.specs.declared.thrown.Thrown.{Thrown}
use Rattle.ms_machine.specs.Instructions.{Instr, PushText}
use Rattle.ms_machine.specs.Values as machine
use Rattle.ms_machine.specs.Values.{Int, Array, with_local}
use Rattle.ms_machine.specs.Effects.{Here, Next, Target, Doing, Moves, Calls, Initialises, Returns, Raises, Stops, Test, Effect, Does, Asks, effect, new_array, throwing}
use Rattle.ms_interpreter.specs.declared.did.Did.{Did}
use Rattle.ms_interpreter.specs.declared.did.Did.TheVariants as did
use Rattle.ms_interpreter.specs.declared.did.Stop.{Stop}
use Rattle.ms_interpreter.specs.declared.did.Stop.TheVariants as stops
use Rattle.ms_interpreter.specs.Frames.{Frame, Shared}
use Rattle.ms_interpreter.specs.Plans.{Planned, Given, planned, plans}
use Rattle.ms_interpreter.specs.Seen.{Texts, here_of, value_of}

-- what is done for an arm: the same for each where no test is asked
abbrev pub for_arm : {V : Type 0} → ℕ → Effect V → Doing V
for_arm arm (Does doing) = doing
for_arm arm (Asks test arms) = arms arm

-- the test that is asked, if one is
abbrev pub test_of : {V : Type 0} → Effect V → Option (Test V)
test_of (Does doing) = None
test_of (Asks test arms) = Some test

-- the end that a stop is
abbrev pub end_of : {V : Type 0} → Stop → machine.End V
end_of (stops.Missing name) = machine.Missing name
end_of stops.SymLength = machine.SymLength
end_of stops.HeapFull = machine.HeapFull
end_of stops.Stuck = machine.Stuck

-- what a frame has before it, with the ints planned
abbrev pub planned_here : {I : Type 0} → Texts → Frame I → Shared I → Here (Planned I)
planned_here texts frame shared = here_of Given texts frame shared

-- a value on top
abbrev pub on_stack : {V : Type 0} → machine.Value V → Here V → Here V
on_stack v here = record here { stack = v ∷ here.stack }

-- a value in a local
abbrev pub in_local : {V : Type 0} → ℕ → machine.Value V → Here V → Here V
in_local local v here = record here { locals = with_local here.locals local v }

-- what was done, by what it left; `known` says of which planned ints the word is known
abbrev pub doing_of : {I : Type 0} → (Planned I → Option ℤ) → Texts → Did I → Here (Planned I) → Doing (Planned I)
doing_of known texts did.Next here = Moves Next here
doing_of known texts (did.Jumps target) here = Moves (Target target) here
doing_of known texts (did.Pushes plan) here = Moves Next (on_stack (Int (planned plan)) here)
doing_of known texts (did.Puts local plan) here = Moves Next (in_local local (Int (planned plan)) here)
doing_of known texts (did.Makes size) here = new_array (plans known) here here.stack (known (Given size))
doing_of known texts (did.Calls parameters) here = Calls (reverse (take parameters here.stack)) (record here { stack = drop parameters here.stack })
doing_of known texts (did.Initialises class) here = Initialises class here
doing_of known texts (did.Returns slot) here = Returns (option_map (value_of Given texts) slot) here.memory
doing_of known texts (did.Raises number class) here = Raises number class here.memory
doing_of known texts (did.Stops stop) here = Stops (end_of stop)

-- an instruction, with an arm of its test where it asks one, did this to a frame and to what frames share
abbrev pub Acts : {I : Type 0} → Texts → Instr → ℕ → Frame I → Shared I → Did I → Frame I → Shared I → Type 0
Acts texts instr arm frame shared did frame' shared' =
    (known : Planned _ → Option ℤ) → for_arm arm (effect (plans known) instr (planned_here texts frame shared)) ≡ doing_of known texts did (planned_here texts frame' shared')

-- the same of any texts and any arm
abbrev pub ActsAnyhow : {I : Type 0} → Instr → Frame I → Shared I → Did I → Frame I → Shared I → Type 0
ActsAnyhow instr frame shared did frame' shared' = (texts : Texts) (arm : ℕ) → Acts texts instr arm frame shared did frame' shared'

-- the same of any texts, for an arm
abbrev pub ActsFor : {I : Type 0} → Instr → ℕ → Frame I → Shared I → Did I → Frame I → Shared I → Type 0
ActsFor instr arm frame shared did frame' shared' = (texts : Texts) → Acts texts instr arm frame shared did frame' shared'

-- the locals stay where a throwable is thrown, or may still be
abbrev pub LocalsStay : {I : Type 0} → Did I → Frame I → Frame I → Type 0
LocalsStay (did.Raises number class) frame frame' = frame'.locals ≡ frame.locals
LocalsStay (did.Makes size) frame frame' = frame'.locals ≡ frame.locals
LocalsStay other frame frame' = Unit {0}

-- the frame stays where it is, and is pushed for the same
pub record Stays {I : Type 0} (did : Did I) (frame frame' : Frame I) : Type 0 where
  pub at : frame'.at ≡ frame.at
  pub initialises : frame'.initialises ≡ frame.initialises
  pub locals : LocalsStay did frame frame'

-- the machine throws: a new throwable of a class is thrown, or there is no room for one
abbrev pub Throws : {I : Type 0} → Thrown → Did I → Shared I → Shared I → Type 0
Throws class did shared shared' =
    (texts : Texts) (known : Planned _ → Option ℤ) (frame : Frame _) → throwing class (planned_here texts frame shared) ≡ doing_of known texts did (planned_here texts frame shared')

-- if the instruction puts a text on the stack, that is the one at this item
abbrev pub HasText : Texts → Item → Instr → Type 0
HasText texts item (PushText bytes) = texts item ≡ bytes
HasText texts item other = Unit {0}
