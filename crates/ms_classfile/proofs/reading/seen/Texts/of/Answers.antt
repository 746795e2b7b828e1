use Rattle.std.proofs.Common.{arith}
use Rattle.ms_classfile.proofs.Numbering.{all_numbered, goes_on}
use Rattle.ms_classfile.proofs.reading.seen.Texts.of.Goals as goal

pub loop-i-preserved : goal.loop-i-preserved
loop-i-preserved c = rw c.in_ok-push.ensures.items (goes_on c.args.pool.now c.loop-i.texts.keys c.number_in.new.texts.keys c.loop-i.numbers.items c.loop-i.i c.in_ok-number.number c.loop-i.invariant c.in_ok-number.ensures)

pub returns : goal.returns
returns c = all_numbered c.args.pool.now c.loop-i.texts.keys c.loop-i.numbers.items c.loop-i.i c.loop-i.invariant (omega (arith, c.loop-i-test.false, c.count-i-end.ensures))
