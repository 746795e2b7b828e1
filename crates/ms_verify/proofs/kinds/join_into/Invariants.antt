use Rattle.std.proofs.Common.{◌≡◌, not}
use Rattle.ms_verify.proofs.Joining.{joined_first, same_first}
use Rattle.ms_verify.proofs.kinds.join_into.Given as goal

abbrev pub invariant-loop-i : goal.invariant-loop-i
invariant-loop-i l = record {
  kinds : l.kinds ≡ joined_first l.i l.fn.kinds l.fn.others;
  changed : l.changed ≡ not (same_first l.i l.fn.kinds l.fn.others);
}
