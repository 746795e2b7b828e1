use Rattle.std.proofs.Common.{◌≡◌, ℕ, false, Ok, ℤ, pos, to_z, of_z, [], ap, sym, subst, ◌∙◌, rules}
use Rattle.std.specs.Int.{w32}
use Rattle.std.specs.Prelude.{FitsSigned, int_lt, unsigned_abs}
use Rattle.std.proofs.lemmas.Int.{to_z-of_z}
use Rattle.ms_pool.specs.Formats.{added, repeated}
use Rattle.ms_code.specs.Instructions.{lookup_case, target_from}
use Rattle.ms_code.specs.Keys.{keys_ascend}
use Rattle.ms_code.proofs.Lookups.{lookup_is}
use Rattle.ms_code.proofs.switches.lookup_switch.Goals as goal

pub returns : goal.returns
returns c =
    let count = c.in_ok-count.count in
    let otherwise = c.in_ok-otherwise.otherwise in
    let offset = c.args.spot.offset in
    let place = c.args.spot.place in
    let count_fits : FitsSigned w32 count = search rules in
    let otherwise_fits : FitsSigned w32 otherwise = search rules in
    let same : to_z w32 (of_z w32 count) ≡ count = to_z-of_z w32 count count_fits in
    let negative : int_lt count (pos 0) ≡ false = subst (λ (n : ℤ). int_lt n (pos 0) ≡ false) same c.if-count-lt0.false in
    let many : c.unsigned_abs.result ≡ unsigned_abs count = c.unsigned_abs.ensures.value ∙ ap unsigned_abs same in
    let cases = subst (λ (n : ℕ). (repeated n (added (λ before. lookup_case place offset)) []).read c.s4-2.new.cursor ≡ Ok (c.in_ok-cases.cases.items, c.lookup_cases.new.cursor)) many c.in_ok-cases.ensures in
    let switch = c.new.ensures ∙ ap (λ (t : ℕ). record { cases = c.in_ok-cases.cases.items; otherwise = t }) (c.target_from.ensures ∙ ap (target_from offset) (to_z-of_z w32 otherwise otherwise_fits)) in
    lookup_is place offset c.args.cursor.now c.gap.new.cursor c.s4.new.cursor c.s4-2.new.cursor c.lookup_cases.new.cursor c.in_ok-_gap._gap.now otherwise count c.in_ok-cases.cases.items c.new.result
    c.in_ok-_gap.ensures c.in_ok-otherwise.ensures c.in_ok-count.ensures negative cases (ap keys_ascend (sym c.deref.ensures.value) ∙ sym c.if-not-keys_ascend.ensures) switch
