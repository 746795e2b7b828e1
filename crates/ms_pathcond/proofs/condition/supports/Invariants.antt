use Rattle.std.proofs.Common.{◌≡◌, take}
use Rattle.ms_pathcond.specs.Literals.{supports}
use Rattle.ms_pathcond.proofs.condition.supports.Given as goal

abbrev pub invariant-loop-place : goal.invariant-loop-place
invariant-loop-place l = l.list.items ≡ supports l.terms (take l.place l.literals)
