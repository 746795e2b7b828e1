use Rattle.std.proofs.Common.{◌≡◌, []}
use Rattle.tests_written.proofs.written.many.Given as goal

abbrev pub invariant-loop-i : goal.invariant-loop-i
invariant-loop-i l = l.plan.lines ≡ []
