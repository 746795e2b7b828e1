use Rattle.ms_pool.specs.Pools.{u2, u4}
use Rattle.ms_classwrite.proofs.Written.{three_written}
use Rattle.ms_classwrite.proofs.writing.header.Goals as goal

pub returns : goal.returns
returns c = three_written c.u2-2.result c.args.out.now c.u4.new.self c.u2.new.self c.u2-2.new.self (u4 0xCAFEBABE) (u2 0) (u2 52) c.in_ok-u4.ensures.ok c.in_ok-u2.ensures.ok c.u2-2.ensures.ok
