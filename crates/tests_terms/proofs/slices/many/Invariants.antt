use Rattle.std.proofs.Common.{◌≡◌, ◌*◌, length}
use Rattle.std.specs.HashMap.{keys}
use Rattle.ms_pathcond.specs.Literals.{AreOf}
use Rattle.tests_terms.proofs.slices.many.Given as goal

abbrev pub invariant-loop : goal.invariant-loop
invariant-loop l = AreOf (length (keys l.terms-inside.nodes)) l.condition × (length l.condition ≡ l.counter * 2)
