use Rattle.std.proofs.Common.{refl}
use Rattle.ms_verify.proofs.Receiving.{each_passed, each_refused}
use Rattle.ms_verify.proofs.passing.pass_each.Goals as goal

pub returns-then-not-branch-clause-passed : goal.returns-then-not-branch-clause-passed
returns-then-not-branch-clause-passed c =
    each_refused c.args.offsets.now c.loop-offset.offset-index c.args.shape.now _ _ _ c.loop-offset-test.true refl c.loop-offset.invariant.passed (c.in_ok-pass.ensures.refused c.if-not-branch.true)

pub loop-offset-preserved : goal.loop-offset-preserved
loop-offset-preserved c = record {
  passed = each_passed c.args.offsets.now c.loop-offset.offset-index c.args.shape.now _ _ _ _ c.loop-offset-test.true refl c.loop-offset.invariant.passed (c.in_ok-pass.ensures.passed c.if-not-branch.false);
  sized = c.pass.ensures.sized;
}
