use Rattle.std.proofs.Common.{◌≡◌, map, drop}
use Rattle.ms_session.specs.Growing.{any_ends}
use Rattle.ms_session.proofs.tree.any_ends.Given as goal

-- those from here on decide
abbrev pub invariant-loop-run : goal.invariant-loop-run
invariant-loop-run l = any_ends l.place (map (λ run. run.now) (drop l.run-index l.runs)) ≡ any_ends l.place (map (λ run. run.now) l.runs)
