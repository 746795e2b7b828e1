use Rattle.std.proofs.Common.{◌≡◌, ◌++◌, ◌∷◌, [], List, append_assoc, length, zero, sym, ap, ◌∙◌, arith}
use Rattle.std.proofs.lemmas.List.{length-append}
use Rattle.ms_interpreter.specs.declared.slot.Slot.{Slot}
use Rattle.ms_interpreter.specs.Frames.{Frame}
use Rattle.ms_interpreter.proofs.Taking.{put_all}
use Rattle.ms_interpreter.proofs.acting.shuffling.put_back.Goals as goal

pub returns-in_default : goal.returns-in_default
returns-in_default g c = absurd (let some = c.in_default.ensures.variant.1 (omega (arith, c.loop.invariant.0, c.loop-test.true, c.len-end.ensures, c.args.slots.ok, c.loop.left.ok)) in cc)

pub loop-preserved : goal.loop-preserved
loop-preserved g c =
    let fewer = ap length c.in-Some.ensures.items ∙ length-append c.pop.new.self.items (c.in-Some.slot ∷ []) in
    let stack = ap (λ (frame : Frame _). frame.stack) c.in_ok-push.ensures.ok in (
      omega (arith, fewer, c.loop.invariant.0),
      c.in_ok-push.ensures.ok ∙ ap (λ (frame : Frame _). record frame { stack = c.in-Some.slot ∷ c.loop.frame.stack }) c.loop.invariant.1 ∙ ap (λ (slots : List (Slot _)). record c.args.frame.now { stack = slots }) (sym stack),
      ap (λ (slots : List (Slot _)). c.pop.new.self.items ++ slots) stack ∙ sym (append_assoc c.pop.new.self.items (c.in-Some.slot ∷ []) c.loop.frame.stack)
          ∙ ap (λ (slots : List (Slot _)). slots ++ c.loop.frame.stack) (sym c.in-Some.ensures.items) ∙ c.loop.invariant.2,
    )

pub returns : goal.returns
returns g c =
    let none : length c.loop.left.items ≡ zero = omega (arith, c.loop.invariant.0, c.loop-test.false, c.len-end.ensures, c.args.slots.ok) in
    c.loop.invariant.1 ∙ ap (λ (slots : List (Slot _)). record c.args.frame.now { stack = slots }) (put_all c.loop.left.items c.loop.frame.stack none ∙ c.loop.invariant.2)
