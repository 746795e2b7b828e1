use Rattle.std.proofs.Common.{sym, ◌∙◌}
use Rattle.ms_interpreter.proofs.Cases.{found, none_left, passed}
use Rattle.ms_interpreter.proofs.arms.arm_of_case.Goals as goal

pub returns-then-is_key : goal.returns-then-is_key
returns-then-is_key c = found c.args.word.now c.args.cases.now c.loop-i.i _ c.loop-i-test.true c.loop-i.invariant (sym c.is_key.ensures ∙ c.if-is_key.true)

pub loop-i-preserved : goal.loop-i-preserved
loop-i-preserved c = passed c.args.word.now c.args.cases.now c.loop-i.i _ c.loop-i-test.true c.loop-i.invariant (sym c.is_key.ensures ∙ c.if-is_key.false)

pub returns : goal.returns
returns c = none_left c.args.word.now c.args.cases.now c.loop-i.i c.loop-i-test.false c.loop-i.auto.i-end c.loop-i.invariant
