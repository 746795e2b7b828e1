use Rattle.std.proofs.Common.{All, arith, subst}
use Rattle.std.proofs.lemmas.List.{take_all}
use Rattle.std.proofs.lemmas.List.Elements.{All-more, All-weaker}
use Rattle.ms_verify.specs.Told.{RestsBelow}
use Rattle.ms_verify.proofs.turns.lowest_of.Goals as goal

pub loop-offset-preserved : goal.loop-offset-preserved
loop-offset-preserved c = record {
  low = omega (arith, c.lower-lowest.ensures.low, c.loop-offset.invariant.low);
  rest = All-more (RestsBelow c.args.slots.now c.lower-lowest.result) c.args.offsets.now c.loop-offset.offset-index 0 c.loop-offset-test.true
      (All-weaker (RestsBelow c.args.slots.now c.loop-offset.lowest) (RestsBelow c.args.slots.now c.lower-lowest.result) (λ offset rest below. rest (omega (arith, below, c.lower-lowest.ensures.low))) _ c.loop-offset.invariant.rest)
      c.lower-lowest.ensures.rests;
}

pub returns-clause-rest : goal.returns-clause-rest
returns-clause-rest c = subst (All (RestsBelow c.args.slots.now c.loop-offset.lowest)) (take_all c.loop-offset.offset-index c.args.offsets.now c.loop-offset-test.false) c.loop-offset.invariant.rest
