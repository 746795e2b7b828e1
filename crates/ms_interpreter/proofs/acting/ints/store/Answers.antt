use Rattle.std.proofs.Common.{ap, ◌∙◌}
use Rattle.ms_linking.specs.Told.{sort_of}
use Rattle.ms_interpreter.specs.Frames.{Frame}
use Rattle.ms_interpreter.specs.Locals.{with_slot}
use Rattle.ms_interpreter.proofs.Acted.{stores}
use Rattle.ms_interpreter.proofs.acting.ints.store.Goals as goal

pub returns-clause-acts : goal.returns-clause-acts
returns-clause-acts g c =
    let stored = ap (λ (frame : Frame _). frame.locals) c.in_ok-set_local.ensures ∙ ap (λ (frame : Frame _). with_slot frame.locals c.args.local c.in-Some.slot) c.in-Some.ensures.1 in
    let left = ap (λ (frame : Frame _). frame.stack) c.in_ok-set_local.ensures in
    stores (sort_of c.args.sort) c.args.local c.args.frame.now c.set_local.new.self c.args.memory.now c.in-Some.slot c.pop.new.self.stack c.in-Some.ensures.0 stored left
