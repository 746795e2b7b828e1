use Rattle.ms_pathcond.specs.Gathered.{ArePicked}
use Rattle.ms_pathcond.proofs.condition.picked.Given as goal

abbrev pub invariant-loop-place : goal.invariant-loop-place
invariant-loop-place l = ArePicked l.supports l.first l.gathered l.literals l.place (record { literals = l.slice-inside.literals.items; params = l.slice-inside.params })
