use Rattle.std.proofs.Common.{◌≤◌, All, take}
use Rattle.ms_verify.specs.Told.{RestsBelow}
use Rattle.ms_verify.proofs.turns.lowest_of.Given as goal

abbrev pub invariant-loop-offset : goal.invariant-loop-offset
invariant-loop-offset l = record {
  low : l.lowest ≤ l.low;
  rest : All (RestsBelow l.slots l.lowest) (take l.offset-index l.offsets);
}
