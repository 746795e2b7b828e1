use Rattle.std.proofs.Common.{◌≡◌, ◌+◌, take}
use Rattle.std.specs.Io.KnownBytes.{Appends}
use Rattle.ms_report.specs.Rows.{rows_text}
use Rattle.ms_report.specs.Stops.{totals_of}
use Rattle.ms_report.proofs.report.write_report.Given as goal

-- the rows so far are written and counted
abbrev pub invariant-loop-row : goal.invariant-loop-row
invariant-loop-row g l = record {
  counted : l.totals ≡ totals_of (take l.row-index l.rows);
  few : l.totals.paths + l.totals.undecided ≡ l.row-index;
  written : Appends (g.K.Sink.taken l.fn.sink) (g.K.Sink.taken l.sink) (rows_text l.names (take l.row-index l.rows));
  steady : g.K.Sink.faults l.sink ≡ g.K.Sink.faults l.fn.sink;
}
