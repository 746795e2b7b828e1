use Rattle.std.proofs.Common.{◌≡◌, ℕ, List, ◌+◌, ◌∙◌, [], ℤ, arith, to_z, of_z, ◌-ℤ◌, pos, length, ◌+ℤ◌, Err, Ok, ap, sym, subst, rules}
use Rattle.std.specs.Int.{w32}
use Rattle.std.specs.Prelude.{FitsSigned, unsigned_abs}
use Rattle.std.proofs.lemmas.Int.{to_z-of_z}
use Rattle.std.proofs.lemmas.Result.{err_from_is_err_and}
use Rattle.ms_pool.specs.Formats.{Format, added, repeated}
use Rattle.ms_pool.specs.Loops.{added_on}
use Rattle.ms_code.specs.declared.instruction.Case.{Case}
use Rattle.ms_code.specs.declared.trouble.Trouble.{Trouble}
use Rattle.ms_code.specs.Finds.{Fails}
use Rattle.ms_code.specs.Instructions.{case_of, table_case}
use Rattle.ms_code.proofs.Adding.{added_ends}
use Rattle.ms_code.proofs.switches.table_cases.Goals as goal

pub returns-in_err-case : goal.returns-in_err-case
returns-in_err-case c =
    let p = err_from_is_err_and c.from_residual.result c.from_residual.ensures.1 in
    let low : ℤ = to_z w32 (of_z w32 c.args.low) in
    let part : List Case → Format Trouble Case = table_case c.args.spot.place c.args.spot.offset low in
    let fits : FitsSigned w32 c.key_at.result = search rules in
    let key : to_z w32 (of_z w32 c.key_at.result) ≡ low +ℤ pos (length c.loop-i.cases.items) =
    to_z-of_z w32 c.key_at.result fits ∙ c.key_at.ensures ∙ ap (λ (n : ℕ). low +ℤ pos n) (sym c.loop-i.invariant.many) in
    let fails = subst (λ (k : ℤ). (case_of c.args.spot.place c.args.spot.offset k).read c.loop-i.cursor ≡ Err c.in_err-case.field-0.0) key c.in_err-case.ensures in
    let all = added_ends part c.loop-i.cases.items (c.from-count.result + 1) c.loop-i.i c.loop-i.cursor c.in_err-case.field-0.0 ((repeated (c.from-count.result + 1) (added part) []).read c.args.cursor.now) c.loop-i-test.true fails c.loop-i.invariant.reading in
    let same_low : low ≡ c.args.low = to_z-of_z w32 c.args.low c.ranges.low in
    let same_high : to_z w32 (of_z w32 c.args.high) ≡ c.args.high = to_z-of_z w32 c.args.high c.ranges.high in
    let many : c.from-count.result ≡ unsigned_abs (c.args.high -ℤ c.args.low) = c.from-count.ensures ∙ c.abs_diff.ensures ∙ ap (λ (h : ℤ). unsigned_abs (h -ℤ low)) same_high ∙ ap (λ (l : ℤ). unsigned_abs (c.args.high -ℤ l)) same_low in
    rw (p.1, p.2)
    (subst (λ (l : ℤ). Fails c.in_err-case.field-0.0 ((repeated (unsigned_abs (c.args.high -ℤ c.args.low) + 1) (added (table_case c.args.spot.place c.args.spot.offset l)) []).read c.args.cursor.now)) same_low
    (subst (λ (n : ℕ). Fails c.in_err-case.field-0.0 ((repeated (n + 1) (added part) []).read c.args.cursor.now)) many all))

pub loop-i-preserved : goal.loop-i-preserved
loop-i-preserved c =
    let low : ℤ = to_z w32 (of_z w32 c.args.low) in
    let part : List Case → Format Trouble Case = table_case c.args.spot.place c.args.spot.offset low in
    let fits : FitsSigned w32 c.key_at.result = search rules in
    let key : to_z w32 (of_z w32 c.key_at.result) ≡ low +ℤ pos (length c.loop-i.cases.items) =
    to_z-of_z w32 c.key_at.result fits ∙ c.key_at.ensures ∙ ap (λ (n : ℕ). low +ℤ pos n) (sym c.loop-i.invariant.many) in
    let found = subst (λ (k : ℤ). (case_of c.args.spot.place c.args.spot.offset k).read c.loop-i.cursor ≡ Ok (c.in_ok-case.case, c.case_of.new.cursor)) key c.in_ok-case.ensures in
    record {
      reading = rw c.in_ok-push.ensures.items (added_on part c.loop-i.cases.items c.in_ok-case.case (c.from-count.result + 1) c.loop-i.i c.loop-i.cursor c.case_of.new.cursor ((repeated (c.from-count.result + 1) (added part) []).read c.args.cursor.now) c.loop-i-test.true found c.loop-i.invariant.reading);
      many = omega (arith, c.in_ok-push.ensures.len, c.loop-i.invariant.many);
    }
