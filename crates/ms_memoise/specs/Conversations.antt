-- Conversations: what the program has read, done and written when it ends.
use Rattle.std.specs.Prelude.{◌≡◌, ◌≢◌, ℕ, ◌+◌, ◌<◌, ◌≤◌, ◌⊎◌, List, [], ◌++◌, length, take, Bool, IsFalse, IsTrue, Option, Some, None, IfSome, slice_get}
use Rattle.std.specs.Str.Lines.{lines}
use Rattle.std.specs.Io.KnownBytes.{Appends, Consumes, IsAtEnd}
use Rattle.ms_outside.specs.Counts.{CountsGrow, Rose}
use Rattle.ms_session.specs.Outside.{FetchesSome, ShelfPasses, ShelfSide, SinkSide, sink_side}
use Rattle.ms_session.specs.States.{State, new_state}
use Rattle.ms_memoise.specs.declared.status.Status.{Status}
use Rattle.ms_memoise.specs.declared.status.Status.TheVariants.{Done, Usage, ReadFault, WriteFault, NoMemory, ShelfFault, TooMuchInput}
use Rattle.ms_memoise.specs.Lines.{whole_lines}
use Rattle.ms_memoise.specs.Events.{AreAnswered, Event, IsAnswered, asked, has_quit, lines_of, next_of, state_after, text_after, up_to_quit}

-- a source at a moment: what it has left, where it tells that, and its count of faults
pub record SourceSide : Type 0 where
  pub left : Option (List ℕ)
  pub faults : ℕ

-- all three
pub record Outside : Type 0 where
  pub source : SourceSide
  pub shelf : ShelfSide
  pub sink : SinkSide

-- the outside by its parts
abbrev pub outside : Option (List ℕ) → ℕ → ShelfSide → Option (List ℕ) → ℕ → Outside
outside left read_faults shelf taken write_faults =
    record { source = record { left = left; faults = read_faults }; shelf = shelf; sink = sink_side taken write_faults }

-- no count fell, and the shelf has the files that it had
pub record Elapses (before now : Outside) : Type 0 where
  pub reads : before.source.faults ≤ now.source.faults
  pub writes : before.sink.faults ≤ now.sink.faults
  pub fetches : CountsGrow before.shelf.counts now.shelf.counts
  pub files : now.shelf.files ≡ before.shelf.files

-- the source's count of faults stayed as it was
abbrev pub NoReadFailed : Outside → Outside → Type 0
NoReadFailed before now = now.source.faults ≡ before.source.faults

-- the shelf's did
abbrev pub NoFetchFailed : Outside → Outside → Type 0
NoFetchFailed before now = now.shelf.counts.faults ≡ before.shelf.counts.faults

-- the sink's did
abbrev pub NoWriteFailed : Outside → Outside → Type 0
NoWriteFailed before now = now.sink.faults ≡ before.sink.faults

-- nothing failed
abbrev pub NothingFailed : Outside → Outside → Type 0
NothingFailed before now = NoReadFailed before now × NoFetchFailed before now × NoWriteFailed before now

-- whether a quit is among the lines that a line feed ends in the first `limit` bytes of an input
abbrev pub quits_within : ℕ → List ℕ → Bool
quits_within limit input = has_quit (whole_lines (take limit input))

-- an input is at most `limit` bytes long, or such a quit is in it
abbrev pub Fits : ℕ → List ℕ → Type 0
Fits limit input = (length input ≤ limit) ⊎ IsTrue (quits_within limit input)

-- it is longer, and no such quit is in it
abbrev pub Exceeds : ℕ → List ℕ → Type 0
Exceeds limit input = (limit < length input) × IsFalse (quits_within limit input)

-- Why a run ended so. A fault of a device ends it: the count of that device rose, and that of no other
-- one. Where words on the command line or want of memory ended it, nothing failed.
abbrev pub HasCauseOf : ℕ → Status → Outside → Outside → Type 0
HasCauseOf limit Done before now = NothingFailed before now
HasCauseOf limit Usage before now = NothingFailed before now
HasCauseOf limit ReadFault before now = Rose before.source.faults now.source.faults × NoFetchFailed before now × NoWriteFailed before now
HasCauseOf limit WriteFault before now = Rose before.sink.faults now.sink.faults × NoReadFailed before now × NoFetchFailed before now
HasCauseOf limit NoMemory before now = NothingFailed before now
HasCauseOf limit ShelfFault before now = Rose before.shelf.counts.faults now.shelf.counts.faults × NoReadFailed before now × NoWriteFailed before now
HasCauseOf limit TooMuchInput before now = NothingFailed before now × IfSome before.source.left (Exceeds limit)

-- What was written of the reply to the line after those that were done: first bytes of the text of its
-- event, in the state that they led to. There is such a text.
pub record Begun (state : State) (before now : ShelfSide) (all : List (List ℕ)) (done : ℕ) (part : List ℕ) : Type 0 where
  pub event : Event
  pub line : slice_get all done ≡ Some event.line
  pub answered : IsAnswered before now event
  pub some : 0 < length (next_of state event).text
  pub begins : take (length part) (next_of state event).text ≡ part

-- there was something to write: a write failed, or the sink took some first bytes
abbrev pub IsReachedAt : Status → List ℕ → Type 0
IsReachedAt Done part = 0 < length part
IsReachedAt Usage part = 0 < length part
IsReachedAt ReadFault part = 0 < length part
IsReachedAt WriteFault part = Unit {0}
IsReachedAt NoMemory part = 0 < length part
IsReachedAt ShelfFault part = 0 < length part
IsReachedAt TooMuchInput part = 0 < length part

-- the line after those that were done names a file
pub record NamesNext (all : List (List ℕ)) (done : ℕ) : Type 0 where
  pub line : List ℕ
  pub is : slice_get all done ≡ Some line
  pub names : asked line ≢ []

-- a fetch failed only where the next line names a file
abbrev pub IsNamedAt : Status → List (List ℕ) → ℕ → Type 0
IsNamedAt Done all done = Unit {0}
IsNamedAt Usage all done = Unit {0}
IsNamedAt ReadFault all done = Unit {0}
IsNamedAt WriteFault all done = Unit {0}
IsNamedAt NoMemory all done = Unit {0}
IsNamedAt ShelfFault all done = NamesNext all done
IsNamedAt TooMuchInput all done = Unit {0}

-- the names that a line asks for, where there is one
abbrev pub names_of_next : Option (List ℕ) → List (List ℕ)
names_of_next None = []
names_of_next (Some line) = asked line

-- the shelf was asked for some first ones of the names in the line after those that were done, and for no others
abbrev pub FetchesNext : ShelfSide → ShelfSide → List (List ℕ) → ℕ → Type 0
FetchesNext before now all done = FetchesSome before now (names_of_next (slice_get all done))

-- The lines done are the first ones of these, from a new session on, and what was begun is the reply to
-- the next one, for whose files alone the shelf was asked since.
pub record Leads (status : Status) (before now : ShelfSide) (events : List Event) (part : List ℕ) (all : List (List ℕ)) : Type 0 where
  pub first : lines_of events ≡ take (length events) all
  pub begun : IsReachedAt status part → Begun (state_after new_state events) before now all (length events) part
  pub named : IsNamedAt status all (length events)
  pub fetches : FetchesNext before now all (length events)

-- no more lines are to be done: the source has none left, or a quit is among those that a line feed ends
abbrev pub IsOver : Option (List ℕ) → List ℕ → Type 0
IsOver left bytes = IsAtEnd left ⊎ IsTrue (has_quit (whole_lines bytes))

-- these are the lines that a line feed ends, and none of them is a quit
abbrev pub AreWhole : List ℕ → List (List ℕ) → Type 0
AreWhole bytes done = (done ≡ whole_lines bytes) × IsFalse (has_quit (whole_lines bytes))

-- Which lines were done when a run ended so, and whether it broke off within a reply, by the bytes
-- that it took, and by what the source has left: with status `Done` all lines up to the first quit, and
-- there are no more; after a failed read all those ended by a line feed, none of them a quit; where too
-- many bytes came, all those ended by a line feed in the first `limit` bytes, none of them a quit; and
-- else some first lines.
abbrev pub HasDone : ℕ → Status → Option (List ℕ) → List ℕ → List (List ℕ) → List ℕ → Type 0
HasDone limit Done left bytes done part = (length bytes ≤ limit) × (done ≡ up_to_quit (lines bytes)) × (part ≡ []) × IsOver left bytes
HasDone limit Usage left bytes done part = (bytes ≡ []) × (done ≡ []) × (part ≡ [])
HasDone limit ReadFault left bytes done part = (length bytes ≤ limit) × AreWhole bytes done × (part ≡ [])
HasDone limit WriteFault left bytes done part = length bytes ≤ limit
HasDone limit NoMemory left bytes done part = length bytes ≤ limit
HasDone limit ShelfFault left bytes done part = (length bytes ≤ limit) × (part ≡ [])
HasDone limit TooMuchInput left bytes done part = (length bytes ≡ limit + 1) × AreWhole (take limit bytes) done × (part ≡ [])

-- What became of the shelf after the lines that were done: nothing, unless the next one broke off.
abbrev pub IsRest : Status → ShelfSide → ShelfSide → Type 0
IsRest Done at now = now ≡ at
IsRest Usage at now = now ≡ at
IsRest ReadFault at now = now ≡ at
IsRest WriteFault at now = ShelfPasses at now
IsRest NoMemory at now = ShelfPasses at now
IsRest ShelfFault at now = ShelfPasses at now
IsRest TooMuchInput at now = now ≡ at

-- A run that took at most `limit` bytes, or one more, and ended so. Its session was new at the start.
pub record Conversation (limit : ℕ) (before now : Outside) (status : Status) : Type 0 where
  -- the bytes that it took
  pub bytes : List ℕ
  -- the lines that it did, with the shelf's answers
  pub events : List Event
  -- the shelf after them
  pub at : ShelfSide
  -- what it wrote of the next reply
  pub part : List ℕ
  pub took : Consumes before.source.left now.source.left bytes
  pub wrote : Appends before.sink.taken now.sink.taken (text_after new_state events ++ part)
  pub answered : AreAnswered before.shelf at events
  pub rest : IsRest status at now.shelf
  -- they are the first lines of those bytes, up to a quit
  pub first : Leads status at now.shelf events part (up_to_quit (lines bytes))
  -- and of what the source holds, where it tells that
  pub told : IfSome before.source.left (λ input. Leads status at now.shelf events part (up_to_quit (lines input)))
  pub done : HasDone limit status now.source.left bytes (lines_of events) part
  pub cause : HasCauseOf limit status before now
  pub elapses : Elapses before now

-- a count of faults rose
abbrev pub HasRisen : Outside → Outside → Type 0
HasRisen before now =
    Rose before.source.faults now.source.faults ⊎ (Rose before.sink.faults now.sink.faults ⊎ Rose before.shelf.counts.faults now.shelf.counts.faults)

-- the run was done, or memory ran out, or else a count of faults rose
abbrev pub IsDoneUnlessRisen : Status → Outside → Outside → Type 0
IsDoneUnlessRisen status before now = (status ≡ Done) ⊎ ((status ≡ NoMemory) ⊎ HasRisen before now)

-- too many bytes came, or memory ran out, or else a count of faults rose
abbrev pub IsTooMuchUnlessRisen : Status → Outside → Outside → Type 0
IsTooMuchUnlessRisen status before now = (status ≡ TooMuchInput) ⊎ ((status ≡ NoMemory) ⊎ HasRisen before now)
