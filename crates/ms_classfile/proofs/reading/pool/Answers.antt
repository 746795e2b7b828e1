use Rattle.ms_classfile.proofs.Exact.{pool_fails, pool_read_whole}
use Rattle.ms_classfile.proofs.reading.pool.Goals as goal

pub returns-in-Ok : goal.returns-in-Ok
returns-in-Ok c = pool_read_whole c.args.cursor.now c.read_pool.new.cursor c.in-Ok.pool c.requires c.in-Ok.ensures.pool

pub returns-in-Err : goal.returns-in-Err
returns-in-Err c = rw c.pool_fault.ensures (pool_fails c.args.cursor.now c.in-Err.broken c.requires c.in-Err.ensures.fault)
