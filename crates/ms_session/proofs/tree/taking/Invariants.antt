use Rattle.std.proofs.Common.{◌≡◌, map, take}
use Rattle.ms_session.specs.Growing.{taking}
use Rattle.ms_session.proofs.tree.taking.Given as goal

abbrev pub invariant-loop-run : goal.invariant-loop-run
invariant-loop-run l = map (λ run. run.now) l.taken.items ≡ taking l.place l.arm (map (λ run. run.now) (take l.run-index l.runs))
