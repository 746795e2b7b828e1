use Rattle.std.proofs.Common.{◌≡◌, None, length, take}
use Rattle.ms_typing.specs.Verifier.{Ends, Outcome, Verifies, lowest}
use Rattle.ms_typing.proofs.Sound.{Sofar}
use Rattle.ms_typing.proofs.Total.{most, weights}
use Rattle.ms_verify.specs.Told.{AllHave, cells_of, method_told, profile_told}
use Rattle.ms_verify.proofs.turns.run.Given as goal

abbrev pub invariant-loop-at : goal.invariant-loop-at
invariant-loop-at l = record {
  long : length l.slots ≡ length l.code.lines.items;
  sized : AllHave l.code.max_locals l.slots;
  sofar : Sofar (method_told l.code) (cells_of l.slots);
  -- none waits below this offset
  below : lowest (cells_of (take l.low l.slots)) ≡ None;
  -- what comes of these slots comes of the method
  outcome : (outcome : Outcome) → Ends (method_told l.code) (cells_of l.slots) outcome → Verifies (method_told l.code) outcome;
}

abbrev pub decreases-loop-at : goal.decreases-loop-at
decreases-loop-at l = weights (most (profile_told l.code)) (cells_of l.slots)
