use Rattle.std.proofs.Common.{[], map}
use Rattle.std.proofs.lemmas.Result.{err_from_is_err_and}
use Rattle.ms_classfile.specs.ClassFile.{method}
use Rattle.ms_classfile.specs.ClassViews.{method_view}
use Rattle.ms_pool.specs.Formats.{added, repeated}
use Rattle.ms_pool.specs.Loops.{goes_on}
use Rattle.ms_classfile.proofs.Loops.{fails_ends}
use Rattle.ms_classfile.proofs.reading.methods.several.Goals as goal

pub returns-in_err-add : goal.returns-in_err-add
returns-in_err-add c =
    let p = err_from_is_err_and c.from_residual.result c.from_residual.ensures.1 in
    rw (p.1, p.2) (fails_ends (added (method c.args.pool.now)) (map method_view c.loop.rows.items) c.args.count c.loop.counter c.loop.cursor c.in_err-add.field-0.0 ((repeated c.args.count (added (method c.args.pool.now)) []).read c.args.cursor.now) c.loop-test.true c.in_err-add.ensures.read c.loop.invariant.0)

pub loop-preserved : goal.loop-preserved
loop-preserved c =
    (goes_on (added (method c.args.pool.now)) (map method_view c.loop.rows.items) (map method_view c.add.new.rows.items) c.args.count c.loop.counter c.loop.cursor c.add.new.cursor ((repeated c.args.count (added (method c.args.pool.now)) []).read c.args.cursor.now) c.loop-test.true c.in_ok-add.ensures.read c.loop.invariant.0, c.in_ok-add.ensures.keys)
