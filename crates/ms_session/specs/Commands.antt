-- What a call did that runs a command, and why it broke off.
use Rattle.std.specs.Prelude.{◌≡◌, ◌≢◌, ℕ, ◌<◌, List, [], length, take}
use Rattle.std.specs.Io.KnownBytes.{Appends}
use Rattle.ms_outside.specs.Counts.{Rose}
use Rattle.ms_outside.specs.Shelves.{Answer}
use Rattle.ms_command.specs.declared.command.Command.{Command}
use Rattle.ms_session.specs.declared.stop.Stop.{Stop}
use Rattle.ms_session.specs.declared.stop.Stop.TheVariants as stops
use Rattle.ms_session.specs.Outside.{AreAnswers, FetchesSome, Calm, Passes, ShelfSide, SinkSide}
use Rattle.ms_session.specs.States.{State}
use Rattle.ms_session.specs.Steps.{names_in, next}

-- the command was done: the shelf answered, the sink took the whole text, and the state is the next one
pub record Done (command : Command) (state state_now : State) (shelf shelf_now : ShelfSide) (sink sink_now : SinkSide) : Type 0 where
  pub answers : List Answer
  pub given : AreAnswers shelf shelf_now (names_in command) answers
  pub wrote : Appends sink.taken sink_now.taken (next state command answers).text
  pub state_is : state_now ≡ (next state command answers).state
  -- where it names no file, the shelf is as it was
  pub unchanged : names_in command ≡ [] → shelf_now ≡ shelf
  pub passes : Passes shelf shelf_now sink sink_now
  pub calm : Calm shelf shelf_now sink sink_now

-- there is a text, and these are first bytes of it
pub record Begins (command : Command) (state : State) (shelf shelf_now : ShelfSide) (part : List ℕ) : Type 0 where
  pub answers : List Answer
  pub given : AreAnswers shelf shelf_now (names_in command) answers
  pub some : 0 < length (next state command answers).text
  pub first : take (length part) (next state command answers).text ≡ part

-- why it broke off: a device failed, whose count rose, and no other one; or memory ran out
abbrev pub StopsFor : Stop → ShelfSide → ShelfSide → SinkSide → SinkSide → Type 0
StopsFor stops.ShelfFault shelf shelf_now sink sink_now = Rose shelf.counts.faults shelf_now.counts.faults × (sink_now.faults ≡ sink.faults)
StopsFor stops.WriteFault shelf shelf_now sink sink_now = Rose sink.faults sink_now.faults × (shelf_now.counts.faults ≡ shelf.counts.faults)
StopsFor stops.NoMemory shelf shelf_now sink sink_now = Calm shelf shelf_now sink sink_now

-- where a fetch failed, nothing was written
abbrev pub IsPartFor : Stop → List ℕ → Type 0
IsPartFor stops.ShelfFault part = part ≡ []
IsPartFor stops.WriteFault part = Unit {0}
IsPartFor stops.NoMemory part = Unit {0}

-- a fetch failed only where the command names a file
abbrev pub NamesFile : Stop → Command → Type 0
NamesFile stops.ShelfFault command = names_in command ≢ []
NamesFile stops.WriteFault command = Unit {0}
NamesFile stops.NoMemory command = Unit {0}

-- there was something to write: a write failed, or the sink took some first bytes
abbrev pub IsReached : Stop → List ℕ → Type 0
IsReached stops.ShelfFault part = 0 < length part
IsReached stops.WriteFault part = Unit {0}
IsReached stops.NoMemory part = 0 < length part

-- the command broke off: of its text the sink took some first bytes, perhaps none, and nothing else
pub record Stopped (stop : Stop) (command : Command) (state : State) (shelf shelf_now : ShelfSide) (sink sink_now : SinkSide) : Type 0 where
  pub part : List ℕ
  pub begun : IsReached stop part → Begins command state shelf shelf_now part
  pub wrote : Appends sink.taken sink_now.taken part
  pub stops : StopsFor stop shelf shelf_now sink sink_now
  pub at_stop : IsPartFor stop part
  pub names : NamesFile stop command
  pub fetches : FetchesSome shelf shelf_now (names_in command)
  pub unchanged : names_in command ≡ [] → shelf_now ≡ shelf
  pub passes : Passes shelf shelf_now sink sink_now
