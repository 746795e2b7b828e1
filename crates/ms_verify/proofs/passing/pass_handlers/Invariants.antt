use Rattle.std.proofs.Common.{◌≡◌, length, map, take}
use Rattle.ms_typing.specs.Verifier.{Leaves, pass_all, to_handler}
use Rattle.ms_verify.specs.Told.{AllHave, cells_of, handlers_at}
use Rattle.ms_verify.proofs.passing.pass_handlers.Given as goal

abbrev pub invariant-loop-handler : goal.invariant-loop-handler
invariant-loop-handler l = record {
  passed : pass_all (cells_of l.fn.slots) (map (to_handler l.shape) (handlers_at (take l.handler-index l.handlers) l.at)) ≡ Leaves (cells_of l.slots);
  sized : AllHave (length l.shape.locals) l.slots;
}
