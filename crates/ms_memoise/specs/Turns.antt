-- For private functions: what the turns of a conversation do. Each reads some bytes and does the lines that they end.
use Rattle.std.specs.Prelude.{◌≡◌, ℕ, ◌<◌, ◌≤◌, List, [], ◌∷◌, length, ◌==◌, if◌then◌else◌}
use Rattle.std.specs.Io.KnownBytes.{Consumes, IsAtEnd}
use Rattle.ms_outside.specs.Counts.{Rose}
use Rattle.ms_session.specs.Outside.{ShelfSide, SinkSide}
use Rattle.ms_session.specs.States.{State}
use Rattle.ms_memoise.specs.declared.status.Status.{Status}
use Rattle.ms_memoise.specs.declared.status.Status.TheVariants.{Done, ReadFault, TooMuchInput}
use Rattle.ms_memoise.specs.declared.flow.Flow.{Flow}
use Rattle.ms_memoise.specs.declared.flow.Flow.TheVariants as flows
use Rattle.ms_memoise.specs.declared.conversation.Turn.{Turn}
use Rattle.ms_memoise.specs.declared.conversation.Turn.TheVariants.{Ended, GoesOn, Quits}
use Rattle.ms_memoise.specs.Events.{up_to_quit}
use Rattle.ms_memoise.specs.Conversations.{Outside}
use Rattle.ms_memoise.specs.Feeding.{Broke, Did, Fed, ended_lines}

-- whether a turn was the last one, for a quit
abbrev pub flow_of : Turn → Flow
flow_of Ended = flows.GoesOn
flow_of (GoesOn count) = flows.GoesOn
flow_of Quits = flows.Quits

-- how many bytes came in a turn, and what the source has left
abbrev pub Comes : Turn → List ℕ → Outside → Type 0
Comes Ended bytes now = (bytes ≡ []) × IsAtEnd now.source.left
Comes (GoesOn count) bytes now = (0 < count) × (length bytes ≡ count)
Comes Quits bytes now = Unit {0}

-- a turn that read some bytes, and did the lines that they end, up to the first quit
pub record Turned (most : ℕ) (kept : List ℕ) (turn : Turn) (kept_now : List ℕ) (state state_now : State) (before now : Outside) : Type 0 where
  pub bytes : List ℕ
  pub took : Consumes before.source.left now.source.left bytes
  pub within : length bytes ≤ most
  pub comes : Comes turn bytes now
  pub fed : Fed (flow_of turn) kept bytes kept_now state state_now before.shelf now.shelf before.sink now.sink
  pub reads : now.source.faults ≡ before.source.faults

-- why a turn broke off: a read failed, or a line did
abbrev pub TurnStops : Status → List ℕ → List ℕ → State → Outside → Outside → Type 0
TurnStops ReadFault kept bytes state before now =
    (bytes ≡ []) × Rose before.source.faults now.source.faults × Did [] state state before.shelf now.shelf before.sink now.sink
TurnStops status kept bytes state before now =
    (now.source.faults ≡ before.source.faults) × Broke status (up_to_quit (ended_lines kept bytes)) state before.shelf now.shelf before.sink now.sink

-- a turn that took at most so many bytes, and broke off
pub record TurnBroke (status : Status) (most : ℕ) (kept : List ℕ) (state : State) (before now : Outside) : Type 0 where
  pub bytes : List ℕ
  pub took : Consumes before.source.left now.source.left bytes
  pub within : length bytes ≤ most
  pub stops : TurnStops status kept bytes state before now
  pub reads : before.source.faults ≤ now.source.faults

-- the line that the end of the source ends, where it isn't empty
abbrev pub last_lines : List ℕ → List (List ℕ)
last_lines kept = if length kept == 0 then [] else kept ∷ []

-- the last lines were done, or it broke off among them
abbrev pub Finishes : Status → List (List ℕ) → State → State → ShelfSide → ShelfSide → SinkSide → SinkSide → Type 0
Finishes Done all state state_now shelf shelf_now sink sink_now = Did all state state_now shelf shelf_now sink sink_now
Finishes status all state state_now shelf shelf_now sink sink_now = Broke status all state shelf shelf_now sink sink_now

-- What came where no more bytes are to be taken: a read failed, one more byte came, or the end.
abbrev pub Limited : Status → List ℕ → List ℕ → State → State → Outside → Outside → Type 0
Limited ReadFault kept bytes state state_now before now =
    (bytes ≡ []) × Rose before.source.faults now.source.faults × Did [] state state before.shelf now.shelf before.sink now.sink
Limited TooMuchInput kept bytes state state_now before now =
    (length bytes ≡ 1) × (now.source.faults ≡ before.source.faults) × Did [] state state before.shelf now.shelf before.sink now.sink
Limited status kept bytes state state_now before now =
    (bytes ≡ []) × (now.source.faults ≡ before.source.faults) × IsAtEnd now.source.left × Finishes status (last_lines kept) state state_now before.shelf now.shelf before.sink now.sink

-- the turn in which no more bytes are to be taken
pub record AtLimit (status : Status) (kept : List ℕ) (state state_now : State) (before now : Outside) : Type 0 where
  pub bytes : List ℕ
  pub took : Consumes before.source.left now.source.left bytes
  pub comes : Limited status kept bytes state state_now before now
  pub reads : before.source.faults ≤ now.source.faults
