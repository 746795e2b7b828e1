use Rattle.std.proofs.Common.{◌≡◌, ◌∙◌, None, Some, Ok, length, ap, sym, subst, arith}
use Rattle.std.specs.Prelude.{option_map}
use Rattle.ms_pool.specs.Places.{Place}
use Rattle.ms_code.specs.Codes.{DecodedCode, Steps, first_astray, first_misplaced, handlers_of, steps}
use Rattle.ms_code.specs.Rows.{code_with}
use Rattle.ms_code.proofs.Exact.{decoded_is, steps_many}
use Rattle.ms_code.proofs.decoding.read.Goals as goal

pub first_astray-requires : goal.first_astray-requires
first_astray-requires c =
    let read = subst (λ (p : Place). (steps c.args.pool.now (length p.left) c.args.code_at).read p ≡ Ok (c.in_ok-steps.steps.items, c.steps.new.cursor)) c.new-cursor.ensures c.in_ok-steps.ensures in
    let many = steps_many c.args.pool.now c.args.code_at c.args.code.now c.in_ok-steps.steps.items c.steps.new.cursor read in
    omega (arith, many, c.requires.code, ap (λ l. length l) c.deref.ensures.value)

pub returns : goal.returns
returns c =
    let read = subst (λ (p : Place). (steps c.args.pool.now (length p.left) c.args.code_at).read p ≡ Ok (c.in_ok-steps.steps.items, c.steps.new.cursor)) c.new-cursor.ensures c.in_ok-steps.ensures in
    let all = c.in_ok-steps.steps.items in
    let after = c.steps.new.cursor in
    let targets = subst (λ (l : Steps). first_astray l c.args.code_at l ≡ None) c.deref.ensures.value (sym c.in_default.ensures) in
    let entries = subst (λ (l : Steps). first_misplaced l (length c.args.code.now) c.args.table_at c.args.table.now ≡ None) c.deref-2.ensures.value (sym c.in_default-first_misplaced.ensures) in
    let handlers : handlers_of c.args.pool.now c.args.table.now ≡ Some c.in_ok-handlers.handlers.items =
    sym c.in_ok-handlers_of.ensures ∙ ap (option_map (λ handlers. handlers.items)) c.in_ok-handlers.ensures.ok_part in
    let code = code_with c.args.code.now c.args.code_at c.args.table.now c.args.table_at in
    (after, decoded_is c.args.pool.now code all after c.in_ok-handlers.handlers.items read targets entries handlers ∙ ap (λ (d : DecodedCode). Ok (d, after)) (sym c.new.ensures))
