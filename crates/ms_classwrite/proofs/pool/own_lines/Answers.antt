use Rattle.std.proofs.Common.{ap, ◌∙◌}
use Rattle.ms_classwrite.specs.Layout.{with_line}
use Rattle.ms_classwrite.proofs.Numbers.{goes_on}
use Rattle.ms_classwrite.proofs.pool.own_lines.Goals as goal

pub loop-line-preserved : goal.loop-line-preserved
loop-line-preserved c =
    c.in_ok-add.ensures.added ∙ ap (with_line c.loop-line.lines) (c.of.ensures ∙ c.line-item.is)
    ∙ goes_on c.args.own.now c.loop-line.lines c.loop-line.line-index c.line-item.result c.requires c.loop-line-test.true c.loop-line.invariant
