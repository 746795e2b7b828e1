use Rattle.std.proofs.Common.{◌≡◌, drop}
use Rattle.ms_jvm.specs.Programs.{code_from}
use Rattle.ms_jvm.proofs.path.code_from.Given as goal

abbrev pub invariant-loop-at : goal.invariant-loop-at
invariant-loop-at l = code_from l.left (drop l.at l.code) ≡ code_from l.offset l.code
