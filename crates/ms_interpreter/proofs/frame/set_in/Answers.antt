use Rattle.std.proofs.Common.{◌≡◌, ◌+◌, ◌≤◌, ◌∷◌, [], ℕ, List, Option, None, length, refl, ap, ◌∙◌, arith}
use Rattle.std.proofs.lemmas.List.{length-append}
use Rattle.ms_interpreter.specs.Locals.{with_slot}
use Rattle.ms_interpreter.proofs.LocalsOf.{set_later, set_next, set_there}
use Rattle.ms_interpreter.proofs.frame.set_in.Goals as goal

pub returns-then-local-len : goal.returns-then-local-len
returns-then-local-len g c = set_there c.args.locals.now.items c.args.local c.args.slot (omega (arith, c.len.ensures, c.args.locals.now.ok, c.if-local-len.true))

pub loop-init : goal.loop-init
loop-init g c = (omega (arith, c.len-counter.ensures, c.args.locals.now.ok), omega (arith, c.if-local-len.false, c.len.ensures, c.len-counter.ensures), refl)

pub loop-preserved : goal.loop-preserved
loop-preserved g c =
    let behind : length c.loop.locals.items ≤ c.args.local = omega (arith, c.loop.invariant.0, c.loop-test.true) in (
      ap length c.in_ok-push.ensures.items ∙ length-append c.loop.locals.items (None ∷ []) ∙ ap (λ (n : ℕ). n + 1) c.loop.invariant.0,
      omega (arith, c.loop-test.true),
      ap (λ (locals : List (Option _)). with_slot locals c.args.local c.args.slot) c.in_ok-push.ensures.items ∙ set_later c.loop.locals.items c.args.local c.args.slot behind ∙ c.loop.invariant.2,
    )

pub returns : goal.returns
returns g c =
    let next : c.args.local ≡ length c.loop.locals.items = omega (arith, c.loop.invariant.0, c.loop.invariant.1, c.loop-test.false) in
    c.in_ok-push-2.ensures.items ∙ set_next c.loop.locals.items c.args.local c.args.slot next ∙ c.loop.invariant.2
