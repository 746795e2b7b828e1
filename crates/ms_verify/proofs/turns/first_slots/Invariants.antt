use Rattle.std.proofs.Common.{◌≡◌, ◌-◌, ◌∷◌, replicate}
use Rattle.ms_verify.proofs.Starting.{first_slot, no_slot}
use Rattle.ms_verify.proofs.turns.first_slots.Given as goal

abbrev pub invariant-loop : goal.invariant-loop
invariant-loop l = l.slots.items ≡ first_slot l.code ∷ replicate (l.counter - 1) no_slot
