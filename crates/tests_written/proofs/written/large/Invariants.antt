use Rattle.std.proofs.Common.{◌≡◌, []}
use Rattle.tests_written.proofs.written.large.Given as goal

abbrev pub invariant-loop : goal.invariant-loop
invariant-loop l = l.plan.lines ≡ []
