use Rattle.ms_pathcond.proofs.Rounds.{Gathered}
use Rattle.ms_pathcond.proofs.gathering.gather.Given as goal

abbrev pub invariant-loop-place : goal.invariant-loop-place
invariant-loop-place l = Gathered l.supports l.first l.gathered l.place l.all
