use Rattle.std.proofs.Common.{◌≡◌, All, arith, subst, true}
use Rattle.std.proofs.lemmas.List.{take_all}
use Rattle.std.proofs.lemmas.List.Elements.{All-more, All-weaker}
use Rattle.ms_code.specs.declared.decoded.Handler.{Handler}
use Rattle.ms_program.specs.Views.{covers}
use Rattle.ms_verify.specs.Told.{RestsBelow}
use Rattle.ms_verify.proofs.turns.lowest_caught.Goals as goal

pub loop-handler-preserved : goal.loop-handler-preserved
loop-handler-preserved c = record {
  low = omega (arith, c.lower_caught-lowest.ensures.low, c.loop-handler.invariant.low);
  rest = All-more (λ (handler : Handler). covers c.args.at handler ≡ true → RestsBelow c.args.slots.now c.lower_caught-lowest.result handler.target) c.args.handlers.now c.loop-handler.handler-index _ c.loop-handler-test.true
      (All-weaker (λ (handler : Handler). covers c.args.at handler ≡ true → RestsBelow c.args.slots.now c.loop-handler.lowest handler.target)
      (λ (handler : Handler). covers c.args.at handler ≡ true → RestsBelow c.args.slots.now c.lower_caught-lowest.result handler.target)
      (λ handler rest covered below. rest covered (omega (arith, below, c.lower_caught-lowest.ensures.low))) _ c.loop-handler.invariant.rest)
      c.lower_caught-lowest.ensures.rests;
}

pub returns-clause-rest : goal.returns-clause-rest
returns-clause-rest c =
    subst (All (λ (handler : Handler). covers c.args.at handler ≡ true → RestsBelow c.args.slots.now c.loop-handler.lowest handler.target)) (take_all c.loop-handler.handler-index c.args.handlers.now c.loop-handler-test.false)
    c.loop-handler.invariant.rest
