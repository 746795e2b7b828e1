use Rattle.std.proofs.Common.{◌≡◌, map}
use Rattle.ms_typing.specs.Rules.{kind_of}
use Rattle.ms_typing.specs.Verifier.{filled}
use Rattle.ms_verify.proofs.turns.first_locals.Given as goal

abbrev pub invariant-loop-i : goal.invariant-loop-i
invariant-loop-i l = l.locals.items ≡ filled l.i (map kind_of l.parameters)
