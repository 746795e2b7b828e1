-- How a report ends: its totals, or what stopped it.
use Rattle.std.specs.Prelude.{◌≡◌, ◌≢◌, ℕ, ◌<◌, List, [], Option, length, not, take}
use Rattle.std.specs.List.{count_by}
use Rattle.std.specs.Io.KnownBytes.{Appends}
use Rattle.ms_outside.specs.Counts.{Rose}
use Rattle.ms_trie.specs.declared.row.PathRow.{PathRow}
use Rattle.ms_report.specs.declared.report.Totals.{Totals}
use Rattle.ms_report.specs.declared.report.ReportStop.{ReportStop}
use Rattle.ms_report.specs.declared.report.ReportStop.TheVariants.{WriteFault, NoMemory}
use Rattle.ms_report.specs.Rows.{is_path, rows_text}

-- how many of the rows are paths, and how many are not
abbrev pub totals_of : List PathRow → Totals
totals_of rows = record {
  paths = count_by (λ row. is_path row.outcome) rows;
  undecided = count_by (λ row. not (is_path row.outcome)) rows;
}

-- the sink's count of faults rose where a write failed, and stayed where memory ran out
abbrev pub HasStopped : ReportStop → ℕ → ℕ → Type 0
HasStopped WriteFault before now = Rose before now
HasStopped NoMemory before now = now ≡ before

-- A write failed only where there is a row to write. Memory ran out before one of the rows, and the sink took the lines of those
-- before it.
abbrev pub StopsAtRow : ReportStop → List (List ℕ) → List PathRow → Option (List ℕ) → Option (List ℕ) → Type 0
StopsAtRow WriteFault names rows taken taken_now = rows ≢ []
StopsAtRow NoMemory names rows taken taken_now = (i : ℕ) × (i < length rows) × Appends taken taken_now (rows_text names (take i rows))
