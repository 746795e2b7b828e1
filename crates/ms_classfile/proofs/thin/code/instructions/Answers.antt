use Rattle.std.proofs.Common.{◌≡◌, ◌≢◌, [], true, false, refl}
use Rattle.std.proofs.lemmas.Result.{err_from_is_err_and}
use Rattle.ms_classfile.proofs.Decoding.{instruction_shorter, goes_on, ends, is_done}
use Rattle.ms_classfile.proofs.thin.code.instructions.Goals as goal

pub returns-in_err-found : goal.returns-in_err-found
returns-in_err-found c =
    let some : c.loop-cursor.cursor.left ≢ [] = λ none. let same : false ≡ true = c.loop-cursor-test.ensures.1 none in cc in
    let p = err_from_is_err_and c.from_residual.result c.from_residual.ensures.1 in
    rw (p.1, p.2) (ends c.args.code.now c.loop-cursor.instructions.items c.loop-cursor.cursor c.loop-cursor.invariant some c.in_err-found.ensures)

pub loop-cursor-smaller : goal.loop-cursor-smaller
loop-cursor-smaller c = instruction_shorter c.loop-cursor.cursor (c.in_ok-found.found, c.instruction.new.cursor) c.in_ok-found.ensures

pub loop-cursor-preserved : goal.loop-cursor-preserved
loop-cursor-preserved c =
    let some : c.loop-cursor.cursor.left ≢ [] = λ none. let same : false ≡ true = c.loop-cursor-test.ensures.1 none in cc in
    rw c.in_ok-push.ensures.items (goes_on c.args.code.now c.loop-cursor.instructions.items c.loop-cursor.cursor c.in_ok-found.found c.instruction.new.cursor c.loop-cursor.invariant some c.in_ok-found.ensures)

pub returns : goal.returns
returns c = is_done c.args.code.now c.loop-cursor.instructions.items c.loop-cursor.cursor c.loop-cursor.invariant (c.loop-cursor-test.ensures.0 refl)
