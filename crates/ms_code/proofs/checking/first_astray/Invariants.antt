use Rattle.std.proofs.Common.{◌≡◌, ◌+◌, drop}
use Rattle.ms_code.specs.Codes.{first_astray}
use Rattle.ms_code.proofs.checking.first_astray.Given as goal

abbrev pub invariant-loop-offset : goal.invariant-loop-offset
invariant-loop-offset l = first_astray l.steps (l.code_at + l.offset) (drop l.offset l.steps) ≡ first_astray l.steps l.code_at l.steps
