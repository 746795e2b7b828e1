-- Sources, sinks and shelves in memory: what they hold, and how a call changes it.
use Rattle.std.specs.Prelude.{ℕ, ◌+◌, ◌-◌, ◌^◌, ◌<◌, ◌==◌, List, [], ◌∷◌, ◌++◌, Bool, if◌then◌else◌, min, length, drop}
use Rattle.std.specs.List.{list_any}
use Rattle.ms_outside.specs.Counts.{ShelfCounts}
use Rattle.ms_outside.specs.Shelves.{File, Answer, Absent, TooLong, Found, Asking, answered}
use Rattle.ms_outside.specs.declared.shelf.Fetch.{Fetch}
use Rattle.ms_outside.specs.declared.shelf.Fetch.TheVariants as fetched

-- a source in memory: the bytes that are left, the numbers of the calls that are to fail, how many calls came, how many failed
pub record SourceState : Type 0 where
  pub left : List ℕ
  pub fails : List ℕ
  pub calls : ℕ
  pub faults : ℕ

-- a sink in memory: the bytes that it took, the numbers of the calls that are to fail, how many calls came, how many failed
pub record SinkState : Type 0 where
  pub taken : List ℕ
  pub fails : List ℕ
  pub calls : ℕ
  pub faults : ℕ

-- a shelf in memory: its files, the numbers of the calls that are to fail, how many calls came, what it was asked, with the
-- answers that it gave, and its three counts
pub record ShelfState : Type 0 where
  pub files : List File
  pub fails : List ℕ
  pub calls : ℕ
  pub asked : List Asking
  pub counts : ShelfCounts

-- a count of 64 bits that is raised by one; at its last value it stands still
abbrev pub raised : ℕ → ℕ
raised count = min (count + 1) (2 ^ 64 - 1)

-- whether this number is in the list
abbrev pub is_listed : List ℕ → ℕ → Bool
is_listed fails number = list_any (λ listed. listed == number) fails

-- how many bytes a read into a buffer of this length gives: as many as both have
abbrev pub read_count : List ℕ → ℕ → ℕ
read_count left room = min room (length left)

-- the source after a read into a buffer of this length: a call that is listed fails, any other gives what the buffer takes
abbrev pub source_after : SourceState → ℕ → SourceState
source_after old room =
    if is_listed old.fails (raised old.calls)
    then record old { calls = raised old.calls; faults = raised old.faults }
    else record old { left = drop (read_count old.left room) old.left; calls = raised old.calls }

-- the sink after a write of this piece that succeeded, or failed: it has taken the whole piece, or nothing
abbrev pub sink_after : SinkState → List ℕ → Bool → SinkState
sink_after old piece succeeded =
    if succeeded
    then record old { taken = old.taken ++ piece; calls = raised old.calls }
    else record old { calls = raised old.calls; faults = raised old.faults }

-- the counts after a fetch with this result: the one that tells of it is raised
abbrev pub counts_after : ShelfCounts → Fetch → ShelfCounts
counts_after old (fetched.Bytes bytes) = old
counts_after old fetched.Absent = record old { misses = raised old.misses }
counts_after old fetched.TooLong = record old { overlong = raised old.overlong }
counts_after old fetched.Failed = record old { faults = raised old.faults }
counts_after old fetched.NoMemory = old

-- the shelf after a fetch of this name with this result
abbrev pub shelf_after : ShelfState → List ℕ → Fetch → ShelfState
shelf_after old name result =
    record old { calls = raised old.calls; asked = old.asked ++ (name, answered result) ∷ []; counts = counts_after old.counts result }

-- this answer has bytes, for which a fetch takes memory
abbrev pub HasBytes : Answer → Type 0
HasBytes Absent = ⊥
HasBytes TooLong = ⊥
HasBytes (Found bytes) = 0 < length bytes

-- a shelf in memory that never fails: its files, what it was asked, with the answers that it gave, how often it had no file
-- of a name, and how often one that is too long
pub record SureShelfState : Type 0 where
  pub files : List File
  pub asked : List Asking
  pub misses : ℕ
  pub overlong : ℕ

-- the counts of a shelf that never fails
abbrev pub sure_counts : SureShelfState → ShelfCounts
sure_counts shelf = record { faults = 0; misses = shelf.misses; overlong = shelf.overlong }

-- that shelf with what it was asked by a fetch of this name with this result
abbrev pub with_asked : SureShelfState → List ℕ → Fetch → SureShelfState
with_asked old name result = record old { asked = old.asked ++ (name, answered result) ∷ [] }

-- that shelf after a fetch of this name with this result
abbrev pub sure_shelf_after : SureShelfState → List ℕ → Fetch → SureShelfState
sure_shelf_after old name (fetched.Bytes bytes) = with_asked old name (fetched.Bytes bytes)
sure_shelf_after old name fetched.Absent = record (with_asked old name fetched.Absent) { misses = raised old.misses }
sure_shelf_after old name fetched.TooLong = record (with_asked old name fetched.TooLong) { overlong = raised old.overlong }
sure_shelf_after old name fetched.Failed = with_asked old name fetched.Failed
sure_shelf_after old name fetched.NoMemory = with_asked old name fetched.NoMemory
