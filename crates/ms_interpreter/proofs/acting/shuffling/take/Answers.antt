use Rattle.std.proofs.Common.{◌+◌, ◌++◌, ◌∷◌, [], List, sym, ap, ◌∙◌, arith}
use Rattle.ms_interpreter.specs.declared.slot.Slot.{Slot}
use Rattle.ms_interpreter.specs.Frames.{Frame}
use Rattle.ms_interpreter.proofs.Taking.{took_more}
use Rattle.ms_interpreter.proofs.acting.shuffling.take.Goals as goal

pub loop-preserved : goal.loop-preserved
loop-preserved g c =
    let next = sym (ap (λ (frame : Frame _). frame.stack) c.loop.invariant.2) ∙ c.in-Some.ensures.0 in
    let more = took_more c.args.frame.now.stack c.loop.counter (c.loop.counter + 1) c.in-Some.slot c.pop.new.self.stack (omega arith) next in (
      more.within,
      c.in_ok-push.ensures.items ∙ ap (λ (slots : List (Slot _)). slots ++ c.in-Some.slot ∷ []) c.loop.invariant.1 ∙ sym more.taken,
      c.in-Some.ensures.1 ∙ ap (λ (frame : Frame _). record frame { stack = c.pop.new.self.stack }) c.loop.invariant.2 ∙ ap (λ (stack : List (Slot _)). record c.args.frame.now { stack = stack }) (sym more.left),
    )
