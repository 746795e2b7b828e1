use Rattle.std.proofs.Common.{arith}
use Rattle.std.proofs.lemmas.Result.{err_from_is_err_and}
use Rattle.ms_pool.proofs.Whole.{first_fault}
use Rattle.ms_pool.proofs.reading.read.Goals as goal

pub returns-in_err-places-clause-fault : goal.returns-in_err-places-clause-fault
returns-in_err-places-clause-fault c =
    let p = err_from_is_err_and c.from_residual.result c.from_residual.ensures.1 in
    rw (p.1, p.2) (first_fault c.args.bytes.now c.args.cursor.now c.in_err-places.field-0.0 (λ i. omega (arith, c.type_inv.bytes i)) c.requires c.in_err-places.ensures.fault)
