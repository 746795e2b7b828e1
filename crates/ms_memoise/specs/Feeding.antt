-- For private functions: how bytes are fed to the program, one after another. Of a line it keeps the
-- first bytes alone: as many as a command may have, a carriage return, and one more, which tells that
-- the line is longer.
use Rattle.std.specs.Prelude.{◌≡◌, ℕ, ◌≤◌, List, [], ◌∷◌, ◌++◌, length, take, map, nat_lt, ◌==◌, if◌then◌else◌, Bool, IsFalse, IsTrue, Ok}
use Rattle.std.specs.Str.Lines.{strip_carriage_return}
use Rattle.std.specs.Io.KnownBytes.{Appends}
use Rattle.ms_outside.specs.Counts.{Rose}
use Rattle.ms_command.specs.declared.command.Command.{Command}
use Rattle.ms_command.specs.declared.reply.Reply.{Reply}
use Rattle.ms_command.specs.Texts.{reply_text}
use Rattle.ms_session.specs.declared.stop.Stop.{Stop}
use Rattle.ms_session.specs.declared.stop.Stop.TheVariants as stops
use Rattle.ms_session.specs.Commands as commands
use Rattle.ms_session.specs.Outside.{Calm, Passes, ShelfPasses, ShelfSide, SinkSide}
use Rattle.ms_session.specs.States.{State}
use Rattle.ms_memoise.specs.declared.status.Status.{Status}
use Rattle.ms_memoise.specs.declared.status.Status.TheVariants.{Done, Usage, ReadFault, WriteFault, NoMemory, ShelfFault, TooMuchInput}
use Rattle.ms_memoise.specs.declared.flow.Flow.{Flow}
use Rattle.ms_memoise.specs.declared.flow.Flow.TheVariants.{GoesOn, Quits}
use Rattle.ms_memoise.specs.Events.{AreAnswered, Event, has_quit, is_quit, lines_of, quits, state_after, text_after, up_to_quit}
use Rattle.ms_memoise.specs.Conversations.{FetchesNext, Begun, IsNamedAt, IsReachedAt}

-- the most bytes that are kept of a line
abbrev pub most_kept : ℕ
most_kept = 4098

-- what is kept of a line after one more byte
abbrev pub kept_more : List ℕ → ℕ → List ℕ
kept_more kept byte = if nat_lt (length kept) most_kept then kept ++ byte ∷ [] else kept

-- what is kept of the lines that bytes end, where this is kept of the line at their beginning
abbrev pub fed_lines : List ℕ → List ℕ → List (List ℕ)
fed_lines kept [] = []
fed_lines kept (byte ∷ bytes) = if byte == 10 then kept ∷ fed_lines [] bytes else fed_lines (kept_more kept byte) bytes

-- what is kept of the line after them
abbrev pub fed_kept : List ℕ → List ℕ → List ℕ
fed_kept kept [] = kept
fed_kept kept (byte ∷ bytes) = if byte == 10 then fed_kept [] bytes else fed_kept (kept_more kept byte) bytes

-- the same without the carriage returns behind the lines
abbrev pub ended_lines : List ℕ → List ℕ → List (List ℕ)
ended_lines kept bytes = map strip_carriage_return (fed_lines kept bytes)

-- ---- one line

-- it quits exactly where the flag is set
abbrev pub IsFlow : Flow → Bool → Type 0
IsFlow GoesOn quit = IsFalse quit
IsFlow Quits quit = IsTrue quit

-- the status of a command that broke off
abbrev pub status_of : Stop → Status
status_of stops.ShelfFault = ShelfFault
status_of stops.WriteFault = WriteFault
status_of stops.NoMemory = NoMemory

-- a command was done
pub record Ran (flow : Flow) (command : Command) (state state_now : State) (shelf shelf_now : ShelfSide) (sink sink_now : SinkSide) : Type 0 where
  pub done : commands.Done command state state_now shelf shelf_now sink sink_now
  pub flows : IsFlow flow (quits (Ok command))

-- a command broke off
pub record Halted (status : Status) (command : Command) (state : State) (shelf shelf_now : ShelfSide) (sink sink_now : SinkSide) : Type 0 where
  pub stop : Stop
  pub is : status ≡ status_of stop
  pub stopped : commands.Stopped stop command state shelf shelf_now sink sink_now

-- a refusal was written
pub record Said (flow : Flow) (reply : Reply) (sink sink_now : SinkSide) : Type 0 where
  pub on : flow ≡ GoesOn
  pub wrote : Appends sink.taken sink_now.taken (reply_text reply)
  pub steady : sink_now.faults ≡ sink.faults

-- why a refusal wasn't written to its end
abbrev pub Hushes : Status → SinkSide → SinkSide → Type 0
Hushes Done sink sink_now = ⊥
Hushes Usage sink sink_now = ⊥
Hushes ReadFault sink sink_now = ⊥
Hushes WriteFault sink sink_now = Rose sink.faults sink_now.faults
Hushes NoMemory sink sink_now = sink_now.faults ≡ sink.faults
Hushes ShelfFault sink sink_now = ⊥
Hushes TooMuchInput sink sink_now = ⊥

-- of a refusal some first bytes were written, perhaps none
pub record Hushed (status : Status) (reply : Reply) (sink sink_now : SinkSide) : Type 0 where
  pub many : ℕ
  pub wrote : Appends sink.taken sink_now.taken (take many (reply_text reply))
  pub why : Hushes status sink sink_now
  pub grows : sink.faults ≤ sink_now.faults

-- ---- lines

-- why a line broke off
abbrev pub Stops : Status → ShelfSide → ShelfSide → SinkSide → SinkSide → Type 0
Stops Done shelf shelf_now sink sink_now = ⊥
Stops Usage shelf shelf_now sink sink_now = ⊥
Stops ReadFault shelf shelf_now sink sink_now = ⊥
Stops WriteFault shelf shelf_now sink sink_now = Rose sink.faults sink_now.faults × (shelf_now.counts.faults ≡ shelf.counts.faults)
Stops NoMemory shelf shelf_now sink sink_now = Calm shelf shelf_now sink sink_now
Stops ShelfFault shelf shelf_now sink sink_now = Rose shelf.counts.faults shelf_now.counts.faults × (sink_now.faults ≡ sink.faults)
Stops TooMuchInput shelf shelf_now sink sink_now = ⊥

-- with status `ShelfFault` nothing was begun
abbrev pub IsPartAt : Status → List ℕ → Type 0
IsPartAt ShelfFault part = part ≡ []
IsPartAt Done part = Unit {0}
IsPartAt Usage part = Unit {0}
IsPartAt ReadFault part = Unit {0}
IsPartAt WriteFault part = Unit {0}
IsPartAt NoMemory part = Unit {0}
IsPartAt TooMuchInput part = Unit {0}

-- these lines were done, and led from the one state to the other
pub record Did (all : List (List ℕ)) (state state_now : State) (shelf shelf_now : ShelfSide) (sink sink_now : SinkSide) : Type 0 where
  pub events : List Event
  pub lines : lines_of events ≡ all
  pub answered : AreAnswered shelf shelf_now events
  pub wrote : Appends sink.taken sink_now.taken (text_after state events)
  pub state_is : state_now ≡ state_after state events
  pub passes : Passes shelf shelf_now sink sink_now
  pub calm : Calm shelf shelf_now sink sink_now

-- from this state on some first ones of these lines were done, and then it broke off
pub record Broke (status : Status) (all : List (List ℕ)) (state : State) (shelf shelf_now : ShelfSide) (sink sink_now : SinkSide) : Type 0 where
  pub events : List Event
  pub part : List ℕ
  pub lines : lines_of events ≡ take (length events) all
  -- the shelf when the next line began
  pub at : ShelfSide
  pub begun : IsReachedAt status part → Begun (state_after state events) at shelf_now all (length events) part
  pub named : IsNamedAt status all (length events)
  pub fetches : FetchesNext at shelf_now all (length events)
  pub answered : AreAnswered shelf at events
  pub rest : ShelfPasses at shelf_now
  pub wrote : Appends sink.taken sink_now.taken (text_after state events ++ part)
  pub stops : Stops status shelf shelf_now sink sink_now
  pub at_status : IsPartAt status part
  pub passes : Passes shelf shelf_now sink sink_now

-- a line was done
pub record Responded (flow : Flow) (line : List ℕ) (state state_now : State) (shelf shelf_now : ShelfSide) (sink sink_now : SinkSide) : Type 0 where
  pub did : Did (line ∷ []) state state_now shelf shelf_now sink sink_now
  pub flows : IsFlow flow (is_quit line)

-- unless a line was a quit, this is kept
abbrev pub KeepsAt : Flow → List ℕ → List ℕ → Type 0
KeepsAt GoesOn kept_now kept = kept_now ≡ kept
KeepsAt Quits kept_now kept = Unit {0}

-- the lines that these bytes end were done, up to the first quit
pub record Fed (flow : Flow) (kept bytes kept_now : List ℕ) (state state_now : State) (shelf shelf_now : ShelfSide) (sink sink_now : SinkSide) : Type 0 where
  pub did : Did (up_to_quit (ended_lines kept bytes)) state state_now shelf shelf_now sink sink_now
  pub flows : IsFlow flow (has_quit (ended_lines kept bytes))
  pub keeps : KeepsAt flow kept_now (fed_kept kept bytes)
