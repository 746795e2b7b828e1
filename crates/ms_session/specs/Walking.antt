-- For private functions: how strings are settled and reported, node by node of the tree.
use Rattle.std.specs.Prelude.{ℕ, zero, suc, ◌+◌, List, [], ◌∷◌, Bool, not, ◌&&◌, ◌||◌, if◌then◌else◌, Option, Some, None, is_some, find, filter}
use Rattle.std.specs.List.{filter_map}
use Rattle.ms_trie.specs.declared.row.Outcome.TheVariants.{Path}
use Rattle.ms_trie.specs.declared.row.PathRow.{PathRow}
use Rattle.ms_session.specs.declared.runs.Run.{Run}
use Rattle.ms_session.specs.Strings.{holds, with_string}
use Rattle.ms_session.specs.Known.{Explored, Known, is_empty, lacks_verdict, one_more}
use Rattle.ms_session.specs.Growing.{Node}

-- whether the segment of a node is to be found
abbrev pub lacks_segment : Known → Node → Bool
lacks_segment known node = is_some node.least && not (holds known.segments node.string)

-- whether a node is not settled
abbrev pub is_open : Known → Node → Bool
is_open known node = lacks_verdict known node.string || lacks_segment known node

-- what is known when it is settled
abbrev pub closed : Known → Node → Known
closed known node = record {
  verdicts = if is_empty node.string then known.verdicts else with_string known.verdicts node.string;
  segments = if is_some node.least then with_string known.segments node.string else known.segments;
}

-- how often that asks
abbrev pub asks_at : Known → Node → ℕ
asks_at known node = if lacks_verdict known node.string && not node.inherited then 1 else 0

-- nothing was settled
abbrev pub stand_still : Known → Explored
stand_still known = record { known = known; settled = 0; asks = 0 }

-- settles node by node, up to so many
unfoldable pub walk : ℕ → Known → List Node → Explored
walk n known [] = stand_still known
walk zero known (node ∷ nodes) = stand_still known
walk (suc n) known (node ∷ nodes) =
    if is_open known node then one_more (asks_at known node) (walk n (closed known node) nodes) else walk (suc n) known nodes

-- what came before, and what comes
abbrev pub after_more : ℕ → ℕ → Explored → Explored
after_more settled asks explored = record { known = explored.known; settled = settled + explored.settled; asks = asks + explored.asks }

-- whether a node is to be settled
abbrev pub any_open : Known → List Node → Bool
any_open known nodes = is_some (find (is_open known) nodes)

-- the row of a string and the run of its least input
abbrev pub row_of_run : List ℕ → Option Run → Option PathRow
row_of_run string None = None
row_of_run string (Some run) = Some (record { choices = string; outcome = Path run.input run.path.end })

-- the row of a node
abbrev pub row_at : Node → Option PathRow
row_at node = row_of_run node.string node.least

-- the rows of those nodes that are paths
abbrev pub rows_of : List Node → List PathRow
rows_of nodes = filter_map row_at (filter (λ node. node.path) nodes)
