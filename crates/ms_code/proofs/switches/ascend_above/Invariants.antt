use Rattle.std.proofs.Common.{◌≡◌, drop}
use Rattle.ms_code.specs.Keys.{ascend_above}
use Rattle.ms_code.proofs.switches.ascend_above.Given as goal

abbrev pub invariant-loop-case : goal.invariant-loop-case
invariant-loop-case l = ascend_above l.key (drop l.case-index l.cases) ≡ ascend_above l.first l.cases
