use Rattle.std.proofs.Common.{ℕ, ◌++◌, ◌∙◌, ap, inr, arith}
use Rattle.std.proofs.lemmas.Result.{err_from_is_err_and}
use Rattle.ms_pool.specs.Found.{entry_view}
use Rattle.ms_pool.specs.Pools.{slots_of}
use Rattle.ms_pool.specs.ByNumber.{places_of}
use Rattle.ms_pool.proofs.Placing.{begun, enough, fails, goes_on, is_done}
use Rattle.ms_pool.proofs.reading.places.Goals as goal

pub loop-left-init : goal.loop-left-init
loop-left-init c = rw (c.in_ok-push.ensures.items, c.new-places.ensures.items) (begun c.args.cursor.now c.args.numbers c.requires)

pub returns-in_err-entry-clause-listed : goal.returns-in_err-entry-clause-listed
returns-in_err-entry-clause-listed c =
    let p = err_from_is_err_and c.from_residual-in_err-entry.result c.from_residual-in_err-entry.ensures.1 in
    rw (p.1, p.2) (inr (fails c.args.cursor.now c.args.numbers c.loop-left.left c.loop-left.places.items c.loop-left.cursor c.in_err-entry.field-0.0 c.loop-left.invariant c.loop-left-test.true c.in_err-entry.ensures))

pub overflow_sub-left : goal.overflow_sub-left
overflow_sub-left c = rw c.in_ok-taken.ensures.taken (enough c.args.cursor.now c.args.numbers c.loop-left.left c.loop-left.places.items c.loop-left.cursor (entry_view c.in_ok-entry.entry) c.entry.new.cursor c.loop-left.invariant c.loop-left-test.true c.in_ok-entry.ensures)

pub loop-left-preserved : goal.loop-left-preserved
loop-left-preserved c = goes_on c.args.cursor.now c.args.numbers c.loop-left.left c.loop-left.places.items c.add.new.places.items c.loop-left.cursor (entry_view c.in_ok-entry.entry) c.entry.new.cursor c.in_ok-taken.taken c.loop-left.invariant c.loop-left-test.true c.in_ok-entry.ensures c.in_ok-taken.ensures.taken (c.in_ok-taken.ensures.added ∙ ap (λ (n : ℕ). c.loop-left.places.items ++ places_of (slots_of n (entry_view c.in_ok-entry.entry))) c.index-at.ensures)

pub returns-clause-listed : goal.returns-clause-listed
returns-clause-listed c = is_done c.args.cursor.now c.args.numbers c.loop-left.left c.loop-left.places.items c.loop-left.cursor c.loop-left.invariant c.loop-left-test.false

pub returns-clause-many : goal.returns-clause-many
returns-clause-many c = omega (arith, c.loop-left.invariant.many, c.loop-left-test.false)
