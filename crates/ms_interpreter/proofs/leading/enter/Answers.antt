use Rattle.std.proofs.Common.{◌≤◌, ◌<◌, length, List, [], ◌∷◌, map, reverse, sym, ap, ◌∙◌, arith}
use Rattle.ms_interpreter.specs.Leads.{below_of}
use Rattle.ms_machine.specs.Control as control
use Rattle.ms_machine.specs.Control.{Goes}
use Rattle.ms_interpreter.specs.Frames.{Frame}
use Rattle.ms_interpreter.specs.Seen.{frame_of, locals_of, memory_of}
use Rattle.ms_interpreter.proofs.Views.{enters_none, enters_one, one_waits}
use Rattle.ms_interpreter.proofs.leading.enter.Goals as goal

pub returns-then-len-ge-MOST_BELOW : goal.returns-then-len-ge-MOST_BELOW
returns-then-len-ge-MOST_BELOW g c = λ f texts.
    let many : 255 ≤ length c.args.state.now.below.items = omega (arith, c.len.ensures, c.args.state.now.below.ok, c.if-len-ge-MOST_BELOW.true) in
    enters_none f texts c.args.state.now c.args.item (locals_of f texts c.args.locals.items) c.args.initialises many

pub returns : goal.returns
returns g c = λ f texts.
    let state = c.args.state.now in
    let few : length state.below.items < 255 = omega (arith, c.len.ensures, state.below.ok, c.if-len-ge-MOST_BELOW.false) in
    let above = sym (c.replace-caller.ensures.after ∙ c.new.ensures) in
    let waits = one_waits f texts state.below.items c.push.new.self.items c.replace-caller.result c.in_ok-push.ensures.items ∙ ap (λ (frame : Frame _). frame_of f texts frame ∷ below_of f texts state) c.replace-caller.ensures.value in
    enters_one f texts state c.args.item (locals_of f texts c.args.locals.items) c.args.initialises few
    ∙ ap (λ (below : List (control.Frame _)). Goes (record { top = record { at = c.args.item; locals = locals_of f texts c.args.locals.items; stack = []; initialises = c.args.initialises }; below = below; memory = memory_of f texts state.memory })) (sym waits)
    ∙ ap (λ (top : Frame _). Goes (record { top = frame_of f texts top; below = map (frame_of f texts) (reverse c.push.new.self.items); memory = memory_of f texts state.memory })) above
