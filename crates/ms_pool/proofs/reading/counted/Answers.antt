use Rattle.std.proofs.Common.{arith}
use Rattle.std.proofs.lemmas.Result.{err_from_is_err_and}
use Rattle.ms_pool.proofs.Whole.{fails_behind, short_count}
use Rattle.ms_pool.proofs.reading.counted.Goals as goal

pub returns-in_err-count-clause-fault : goal.returns-in_err-count-clause-fault
returns-in_err-count-clause-fault c =
    let p = err_from_is_err_and c.from_residual.result c.from_residual.ensures.1 in
    rw (p.1, p.2) (short_count c.args.cursor.now c.in_err-count.field-0.0 c.in_err-count.ensures.0)

pub returns-clause-fault : goal.returns-clause-fault
returns-clause-fault c = fails_behind (λ places. places.items) c.args.cursor.now c.u2.new.self c.places.new.cursor c.in_ok-count.count c.places.result c.in_ok-count.ensures (omega (arith, c.if-count-eq0.false)) c.places.ensures.listed
