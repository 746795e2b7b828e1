use Rattle.std.proofs.Common.{◌≡◌, map, take}
use Rattle.ms_session.proofs.entry.all_nodes.Given as goal

abbrev pub invariant-loop-run : goal.invariant-loop-run
invariant-loop-run l = map (λ run. run.now) l.takers.items ≡ take l.run-index l.runs
