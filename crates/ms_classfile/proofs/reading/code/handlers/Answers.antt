use Rattle.std.proofs.Common.{List, []}
use Rattle.ms_pool.specs.declared.code.RawHandler.{RawHandler}
use Rattle.ms_classfile.specs.declared.fault.ClassFault.{ClassFault}
use Rattle.std.proofs.lemmas.Result.{err_from_is_err_and}
use Rattle.ms_classfile.specs.ClassFile.{handler}
use Rattle.ms_classfile.specs.ClassFinds.{short_of}
use Rattle.ms_pool.specs.Formats.{Format, added, repeated}
use Rattle.ms_pool.specs.Loops.{added_on}
use Rattle.ms_classfile.proofs.Loops.{added_ends, is_fault}
use Rattle.ms_classfile.proofs.reading.code.handlers.Goals as goal

pub returns-in_err-row : goal.returns-in_err-row
returns-in_err-row c =
    let p = err_from_is_err_and c.from_residual.result c.from_residual.ensures.1 in
    let part : List RawHandler → Format ClassFault RawHandler = λ before. handler (short_of c.args.inside) c.args.pool.now in
    rw (p.1, p.2) (added_ends part c.loop.rows.items c.args.count c.loop.counter c.loop.cursor c.in_err-row.field-0.0 ((repeated c.args.count (added part) []).read c.args.cursor.now) c.loop-test.true (is_fault c.in_err-row.field-0.0 _ c.in_err-row.ensures) c.loop.invariant)

pub loop-preserved : goal.loop-preserved
loop-preserved c =
    let part : List RawHandler → Format ClassFault RawHandler = λ before. handler (short_of c.args.inside) c.args.pool.now in
    rw c.in_ok-push.ensures.items (added_on part c.loop.rows.items c.in_ok-row.row c.args.count c.loop.counter c.loop.cursor c.handler.new.cursor ((repeated c.args.count (added part) []).read c.args.cursor.now) c.loop-test.true c.in_ok-row.ensures c.loop.invariant)
