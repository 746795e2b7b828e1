use Rattle.std.proofs.Common.{◌≡◌, ◌≤◌, All, take, true}
use Rattle.ms_program.specs.Views.{covers}
use Rattle.ms_verify.specs.Told.{RestsBelow}
use Rattle.ms_verify.proofs.turns.lowest_caught.Given as goal

abbrev pub invariant-loop-handler : goal.invariant-loop-handler
invariant-loop-handler l = record {
  low : l.lowest ≤ l.low;
  rest : All (λ handler. covers l.at handler ≡ true → RestsBelow l.slots l.lowest handler.target) (take l.handler-index l.handlers);
}
