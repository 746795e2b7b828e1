use Rattle.std.proofs.Common.{◌<◌, length, ◌∙◌, arith}
use Rattle.ms_code.proofs.Walks.{goes_on, step_goes}
use Rattle.ms_code.specs.Codes.{step, steps}
use Rattle.ms_code.proofs.walking.steps.Goals as goal

pub loop-alloc-smaller : goal.loop-alloc-smaller
loop-alloc-smaller c =
    let goes = step_goes c.args.pool.now c.args.code_at c.loop-alloc.steps.items c.loop-alloc.cursor (c.step.new.steps.items, c.step.new.cursor) c.in_ok-step.ensures in
    let smaller : length c.step.new.cursor.left < length c.loop-alloc.cursor.left = omega (arith, goes.whole, goes.on) in
    smaller

pub loop-alloc-preserved : goal.loop-alloc-preserved
loop-alloc-preserved c =
    let goes = step_goes c.args.pool.now c.args.code_at c.loop-alloc.steps.items c.loop-alloc.cursor (c.step.new.steps.items, c.step.new.cursor) c.in_ok-step.ensures in
    record {
      walking = goes_on (step c.args.pool.now c.args.code_at) c.loop-alloc.steps.items c.step.new.steps.items c.loop-alloc.cursor c.step.new.cursor ((steps c.args.pool.now (length c.args.cursor.now.left) c.args.code_at).read c.args.cursor.now) c.in_ok-step.ensures goes c.loop-alloc.invariant.walking;
      whole = goes.whole ∙ c.loop-alloc.invariant.whole;
    }
