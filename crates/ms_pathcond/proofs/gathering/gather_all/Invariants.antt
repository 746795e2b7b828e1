use Rattle.std.proofs.Common.{◌-◌}
use Rattle.ms_pathcond.specs.Gathered.{IsSound}
use Rattle.ms_pathcond.proofs.gathering.gather_all.Given as goal

abbrev pub invariant-rounds : goal.invariant-rounds
invariant-rounds l = IsSound l.supports l.first l.gathered

abbrev pub decreases-rounds : goal.decreases-rounds
decreases-rounds l = 256 - l.gathered
