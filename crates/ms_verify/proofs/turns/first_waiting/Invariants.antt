use Rattle.std.proofs.Common.{◌≡◌, None, take}
use Rattle.ms_typing.specs.Verifier.{lowest}
use Rattle.ms_verify.specs.Told.{cells_of}
use Rattle.ms_verify.proofs.turns.first_waiting.Given as goal

abbrev pub invariant-loop-i : goal.invariant-loop-i
invariant-loop-i l = lowest (cells_of (take l.i l.slots)) ≡ None
