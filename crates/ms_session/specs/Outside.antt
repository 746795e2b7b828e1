-- The shelf and the sink at a moment, and what a command did with them.
use Rattle.std.specs.Prelude.{◌≡◌, ℕ, ◌≤◌, List, ◌++◌, length, map, zip, Option, Some, IfSome}
use Rattle.std.specs.List.{AllByRecursion}
use Rattle.ms_outside.specs.Counts.{CountsGrow, ShelfCounts, Rose}
use Rattle.ms_outside.specs.Shelves as shelves
use Rattle.ms_outside.specs.Shelves.{Answer, Asking, File, IsWithinLimit, answer_of}

-- a shelf at a moment: its files, where it tells them, its counts, and the names that it was asked for so far, each with the
-- answer that it gave, if it gave one
pub record ShelfSide : Type 0 where
  pub files : Option (List File)
  pub counts : ShelfCounts
  pub asked : List Asking

-- a shelf by its parts
abbrev pub shelf_side : Option (List File) → ShelfCounts → List Asking → ShelfSide
shelf_side files counts asked = record { files = files; counts = counts; asked = asked }

-- a sink at a moment: what it has taken, where it tells that, and its count of faults
pub record SinkSide : Type 0 where
  pub taken : Option (List ℕ)
  pub faults : ℕ

-- a sink by its parts
abbrev pub sink_side : Option (List ℕ) → ℕ → SinkSide
sink_side taken faults = record { taken = taken; faults = faults }

-- the answer has its cause: a miss, or a file that is too long, was counted
abbrev pub HasCauseFor : ShelfSide → ShelfSide → Answer → Type 0
HasCauseFor before now shelves.Absent = Rose before.counts.misses now.counts.misses
HasCauseFor before now shelves.TooLong = Rose before.counts.overlong now.counts.overlong
HasCauseFor before now (shelves.Found bytes) = Unit {0}

-- Between the two moments the shelf was asked for these names, once each and in this order, and for no others, and gave these
-- answers.
pub record AreAnswers (before now : ShelfSide) (names : List (List ℕ)) (answers : List Answer) : Type 0 where
  -- there is one answer to each name
  pub each : length answers ≡ length names
  pub asked : now.asked ≡ before.asked ++ zip names (map Some answers)
  pub size : AllByRecursion IsWithinLimit answers
  pub causes : AllByRecursion (HasCauseFor before now) answers
  -- where the shelf tells its files, the answers are theirs
  pub told : IfSome before.files (λ files. answers ≡ map (answer_of files) names)

-- Between the two moments the shelf was asked for some first ones of these names, once each and in this order, and for no
-- others, whether it gave an answer or not.
pub record FetchesSome (before now : ShelfSide) (names : List (List ℕ)) : Type 0 where
  pub answers : List (Option Answer)
  pub asked : now.asked ≡ before.asked ++ zip names answers

-- no count of the shelf fell, and it has the files that it had
pub record ShelfPasses (before now : ShelfSide) : Type 0 where
  pub files : now.files ≡ before.files
  pub fetches : CountsGrow before.counts now.counts

-- no count of the shelf or the sink fell, and the shelf has the files that it had
pub record Passes (shelf shelf_now : ShelfSide) (sink sink_now : SinkSide) : Type 0 where
  pub on_shelf : ShelfPasses shelf shelf_now
  pub writes : sink.faults ≤ sink_now.faults

-- no fetch and no write failed
abbrev pub Calm : ShelfSide → ShelfSide → SinkSide → SinkSide → Type 0
Calm shelf shelf_now sink sink_now = (shelf_now.counts.faults ≡ shelf.counts.faults) × (sink_now.faults ≡ sink.faults)
