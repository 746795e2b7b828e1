use Rattle.std.proofs.Common.{◌≡◌, ℕ, suc, ◌+◌, Bool, true, false, cond, Some, None, map, drop, slice_get, sym, ap, ◌∙◌, arith}
use Rattle.ms_words.specs.Throwables.{is_a}
use Rattle.ms_linking.specs.Linked.{handler_of}
use Rattle.ms_machine.specs.Control.{catching}
use Rattle.ms_interpreter.proofs.Views.{next_handler, no_handler}
use Rattle.ms_interpreter.proofs.leading.handler_in.Goals as goal

pub returns-in_default : goal.returns-in_default
returns-in_default c =
    let none : slice_get c.args.view.now.handlers c.loop-i.i ≡ None = sym c.handler.ensures ∙ c.in_default.is in
    c.loop-i.invariant ∙ no_handler c.args.view.now.handlers c.loop-i.i c.args.class none

pub returns-then-is_a : goal.returns-then-is_a
returns-then-is_a c =
    let handlers = c.args.view.now.handlers in
    let there : slice_get handlers c.loop-i.i ≡ Some c.in-Some.part = sym c.handler.ensures ∙ c.in-Some.is in
    let catches : is_a c.args.class c.in-Some.part.catches ≡ true = sym c.is_a.ensures ∙ c.if-is_a.true in
    c.loop-i.invariant ∙ next_handler handlers c.loop-i.i c.in-Some.part c.args.class there
    ∙ ap (λ (catches : Bool). cond catches (Some c.in-Some.part.handler) (catching (map handler_of (drop (suc c.loop-i.i) handlers)) c.args.class)) catches

pub loop-i-preserved : goal.loop-i-preserved
loop-i-preserved c =
    let handlers = c.args.view.now.handlers in
    let there : slice_get handlers c.loop-i.i ≡ Some c.in-Some.part = sym c.handler.ensures ∙ c.in-Some.is in
    let passes : is_a c.args.class c.in-Some.part.catches ≡ false = sym c.is_a.ensures ∙ c.if-is_a.false in
    let next : suc c.loop-i.i ≡ c.loop-i.i + 1 = omega arith in
    c.loop-i.invariant ∙ next_handler handlers c.loop-i.i c.in-Some.part c.args.class there
    ∙ ap (λ (catches : Bool). cond catches (Some c.in-Some.part.handler) (catching (map handler_of (drop (suc c.loop-i.i) handlers)) c.args.class)) passes
    ∙ ap (λ (i : ℕ). catching (map handler_of (drop i handlers)) c.args.class) next
