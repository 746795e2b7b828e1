use Rattle.std.proofs.Common.{◌≡◌}
use Rattle.ms_machine.specs.Effects.{values_at}
use Rattle.ms_verify.proofs.Taking.{picked_and}
use Rattle.ms_verify.proofs.rules.picked.Given as goal

-- all are those so far, and those that are left
abbrev pub invariant-loop-place : goal.invariant-loop-place
invariant-loop-place l = values_at l.kinds l.places ≡ picked_and l.picked.items l.kinds l.place-index l.places
