use Rattle.std.proofs.Common.{◌≡◌, map, take}
use Rattle.ms_typing.specs.Rules.{want_of}
use Rattle.ms_verify.specs.Told.{want_told}
use Rattle.ms_verify.proofs.rules.arguments.Given as goal

-- those so far, the first one first
abbrev pub invariant-loop-parameter : goal.invariant-loop-parameter
invariant-loop-parameter l = map want_told l.wants.items ≡ map want_of (take l.parameter-index l.parameters)
