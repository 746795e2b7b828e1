use Rattle.std.proofs.Common.{◌≡◌, length, map, take}
use Rattle.ms_typing.specs.Verifier.{Leaves, pass_all}
use Rattle.ms_verify.specs.Told.{AllHave, cells_of}
use Rattle.ms_verify.proofs.passing.pass_each.Given as goal

abbrev pub invariant-loop-offset : goal.invariant-loop-offset
invariant-loop-offset l = record {
  passed : pass_all (cells_of l.fn.slots) (map (λ offset. (offset, l.shape)) (take l.offset-index l.offsets)) ≡ Leaves (cells_of l.slots);
  sized : AllHave (length l.shape.locals) l.slots;
}
