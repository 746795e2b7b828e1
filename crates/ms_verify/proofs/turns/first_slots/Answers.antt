use Rattle.std.proofs.Common.{arith}
use Rattle.ms_verify.proofs.Starting.{all_sized, all_started, slots_next}
use Rattle.ms_verify.proofs.turns.first_slots.Goals as goal

pub loop-preserved : goal.loop-preserved
loop-preserved c = slots_next c.args.code.now c.loop.counter c.loop.slots.items _ c.loop.auto.counter c.loop.invariant c.in_ok-push-2.ensures.items

pub returns-clause-start : goal.returns-clause-start
returns-clause-start c = all_started c.args.code.now c.loop.slots.items c.loop.counter c.requires.some (omega (arith, c.args.code.now.lines.ok)) (omega (arith, c.args.code.now.lines.ok)) c.loop.invariant

pub returns-clause-sized : goal.returns-clause-sized
returns-clause-sized c = all_sized c.args.code.now c.loop.slots.items _ c.loop.invariant
