use Rattle.std.proofs.Common.{arith, sym, ◌∙◌}
use Rattle.ms_report.proofs.Reports.{path_counted, row_broken, row_written, rows_stopped, undecided_counted}
use Rattle.ms_report.proofs.report.write_report.Goals as goal
use Rattle.ms_report.proofs.report.write_report.Goals.{then-is_path, else-is_path}

pub returns-in_err-text-clause-part : goal.returns-in_err-text-clause-part
returns-in_err-text-clause-part g c = grind (arith, rows_stopped _ _ _ _ _ c.loop-row.invariant.written)

pub returns-in_default-clause-part : goal.returns-in_default-clause-part
returns-in_default-clause-part g c =
    row_broken _ _ _ _ _ _ _ _ c.loop-row-test.true c.row-item.is (c.as_slice.ensures.value ∙ c.in_ok-text.ensures) c.loop-row.invariant.written c.in_default.ensures.part

pub loop-row-preserved : goal.loop-row-preserved
loop-row-preserved g c = record {
  counted = elim c.if-is_path.branch [
    | then-is_path w ↦ w.totals-is ∙ path_counted _ _ _ _ c.loop-row-test.true c.row-item.is c.loop-row.invariant.counted (sym c.is_path.ensures ∙ w.if-is_path.true)
    | else-is_path w ↦ w.totals-is ∙ undecided_counted _ _ _ _ c.loop-row-test.true c.row-item.is c.loop-row.invariant.counted (sym c.is_path.ensures ∙ w.if-is_path.false)
  ];
  few = elim c.if-is_path.branch [ then-is_path w ↦ grind arith | else-is_path w ↦ grind arith ];
  written = row_written _ _ _ _ _ _ _ _ c.loop-row-test.true c.row-item.is (c.as_slice.ensures.value ∙ c.in_ok-text.ensures) c.loop-row.invariant.written c.in-Ok.ensures.whole;
  steady = c.in-Ok.ensures.cause.steady ∙ c.loop-row.invariant.steady;
}
