use Rattle.std.proofs.Common.{arith}
use Rattle.ms_code.specs.Rows.{code_with}
use Rattle.ms_code.proofs.Exact.{has_trouble, is_decoded}
use Rattle.ms_code.proofs.decoding.decoded.Goals as goal

pub returns-clause-decoded : goal.returns-clause-decoded
returns-clause-decoded c = is_decoded c.args.pool.now (code_with c.args.code.now c.args.code_at c.args.table.now c.args.table_at) c.read.result (λ i. omega (arith, c.type_inv.code i)) c.read.ensures

pub returns-clause-trouble : goal.returns-clause-trouble
returns-clause-trouble c = has_trouble c.args.pool.now (code_with c.args.code.now c.args.code_at c.args.table.now c.args.table_at) c.read.result (λ i. omega (arith, c.type_inv.code i)) c.read.ensures
