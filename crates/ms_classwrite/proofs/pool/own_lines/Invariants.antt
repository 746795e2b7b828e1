use Rattle.std.proofs.Common.{◌≡◌, take}
use Rattle.ms_classwrite.proofs.pool.own_lines.Given as goal

abbrev pub invariant-loop-line : goal.invariant-loop-line
invariant-loop-line l = l.lines ≡ take l.line-index l.own
