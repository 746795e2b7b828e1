use Rattle.std.proofs.Common.{List, []}
use Rattle.std.proofs.lemmas.Result.{err_from_is_err_and}
use Rattle.ms_pool.specs.Formats.{Format, added, repeated}
use Rattle.ms_pool.specs.Loops.{added_on}
use Rattle.ms_code.specs.declared.instruction.Case.{Case}
use Rattle.ms_code.specs.declared.trouble.Trouble.{Trouble}
use Rattle.ms_code.specs.Instructions.{lookup_case}
use Rattle.ms_code.proofs.Adding.{added_ends}
use Rattle.ms_code.proofs.switches.lookup_cases.Goals as goal

pub returns-in_err-case : goal.returns-in_err-case
returns-in_err-case c =
    let p = err_from_is_err_and c.from_residual.result c.from_residual.ensures.1 in
    let part : List Case → Format Trouble Case = λ before. lookup_case c.args.spot.place c.args.spot.offset in
    rw (p.1, p.2) (added_ends part c.loop.cases.items c.args.count c.loop.counter c.loop.cursor c.in_err-case.field-0.0 ((repeated c.args.count (added part) []).read c.args.cursor.now) c.loop-test.true c.in_err-case.ensures c.loop.invariant)

pub loop-preserved : goal.loop-preserved
loop-preserved c =
    let part : List Case → Format Trouble Case = λ before. lookup_case c.args.spot.place c.args.spot.offset in
    rw c.in_ok-push.ensures.items (added_on part c.loop.cases.items c.in_ok-case.case c.args.count c.loop.counter c.loop.cursor c.lookup_case.new.cursor ((repeated c.args.count (added part) []).read c.args.cursor.now) c.loop-test.true c.in_ok-case.ensures c.loop.invariant)
