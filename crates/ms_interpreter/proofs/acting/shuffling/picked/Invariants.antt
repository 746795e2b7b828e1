use Rattle.std.proofs.Common.{◌≡◌}
use Rattle.ms_machine.specs.Effects.{values_at}
use Rattle.ms_interpreter.proofs.Picked.{picked_and}
use Rattle.ms_interpreter.proofs.acting.shuffling.picked.Given as goal

-- all are those so far, and those that are left
abbrev pub invariant-loop-place : goal.invariant-loop-place
invariant-loop-place g l = values_at l.slots l.places ≡ picked_and l.back.items l.slots l.place-index l.places
