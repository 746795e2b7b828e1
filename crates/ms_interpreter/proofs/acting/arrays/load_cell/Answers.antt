use Rattle.std.proofs.Common.{List, Some, ◌∷◌, sym, ap, ◌∙◌}
use Rattle.ms_interpreter.specs.declared.slot.Slot.{Slot}
use Rattle.ms_interpreter.specs.declared.slot.Slot.TheVariants as slots
use Rattle.ms_interpreter.specs.Frames.{Frame}
use Rattle.std.proofs.lemmas.Option.{slice_get-get_or, slice_get_past}
use Rattle.ms_interpreter.proofs.Acted.{load_out_of_range, loads_cell, loads_from_none, loads_from_null}
use Rattle.ms_interpreter.proofs.acting.arrays.load_cell.Goals as goal

pub returns-in-Some-Null-clause-acts : goal.returns-in-Some-Null-clause-acts
returns-in-Some-Null-clause-acts g c =
    let stack = (c.in-Some-Int.ensures.0 ∙ ap (λ (slot : Slot _). slot ∷ c.pop.new.self.stack) c.in-Some-Int.field-0-is) ∙ ap (λ (below : List (Slot _)). slots.Int c.in-Some-Int.field-0-0 ∷ below) (c.in-Some-Null.ensures.0 ∙ ap (λ (slot : Slot _). slot ∷ c.pop-2.new.self.stack) c.in-Some-Null.field-0-is) in
    loads_from_null c.args.frame.now c.pop-2.new.self c.args.memory.now c.args.arm 0 c.in-Some-Int.field-0-0 c.pop-2.new.self.stack _ c.throw_new.result stack c.throw_new.ensures

pub returns-in_default-cells-clause-acts : goal.returns-in_default-cells-clause-acts
returns-in_default-cells-clause-acts g c =
    let stack = (c.in-Some-Int.ensures.0 ∙ ap (λ (slot : Slot _). slot ∷ c.pop.new.self.stack) c.in-Some-Int.field-0-is) ∙ ap (λ (below : List (Slot _)). slots.Int c.in-Some-Int.field-0-0 ∷ below) (c.in-Some-Array.ensures.0 ∙ ap (λ (slot : Slot _). slot ∷ c.pop-2.new.self.stack) c.in-Some-Array.field-0-is) in
    loads_from_none c.args.frame.now c.pop-2.new.self c.args.memory.now c.args.arm c.in-Some-Array.number c.in-Some-Int.field-0-0 c.pop-2.new.self.stack stack c.in_default-cells.ensures.cells

pub returns-in_default-get-clause-acts : goal.returns-in_default-get-clause-acts
returns-in_default-get-clause-acts g c =
    let stack = (c.in-Some-Int.ensures.0 ∙ ap (λ (slot : Slot _). slot ∷ c.pop.new.self.stack) c.in-Some-Int.field-0-is) ∙ ap (λ (below : List (Slot _)). slots.Int c.in-Some-Int.field-0-0 ∷ below) (c.in-Some-Array.ensures.0 ∙ ap (λ (slot : Slot _). slot ∷ c.pop-2.new.self.stack) c.in-Some-Array.field-0-is) in
    load_out_of_range c.args.frame.now c.pop-2.new.self c.args.memory.now c.args.arm c.in-Some-Array.number c.in-Some-Int.field-0-0 c.pop-2.new.self.stack c.in-Some.cells.now _ c.throw_new-in_default-get.result
    stack c.in-Some.ensures.cells (sym (slice_get_past c.in-Some.cells.now c.args.arm c.in_default-get.ensures.lookup.3)) c.throw_new-in_default-get.ensures

pub returns-clause-acts : goal.returns-clause-acts
returns-clause-acts g c =
    let stack = (c.in-Some-Int.ensures.0 ∙ ap (λ (slot : Slot _). slot ∷ c.pop.new.self.stack) c.in-Some-Int.field-0-is) ∙ ap (λ (below : List (Slot _)). slots.Int c.in-Some-Int.field-0-0 ∷ below) (c.in-Some-Array.ensures.0 ∙ ap (λ (slot : Slot _). slot ∷ c.pop-2.new.self.stack) c.in-Some-Array.field-0-is) in
    loads_cell c.args.frame.now c.push.new.self c.args.memory.now c.args.arm c.in-Some-Array.number c.in-Some-Int.field-0-0 c.pop-2.new.self.stack c.in-Some.cells.now c.in-Some-get.cell.now
    stack c.in-Some.ensures.cells (ap (λ (cell : _). Some cell) c.in-Some-get.ensures.lookup.1 ∙ sym (slice_get-get_or c.in-Some.cells.now c.args.arm c.in-Some-get.cell.now c.in-Some-get.ensures.lookup.3.0))
    (ap (λ (frame : Frame _). frame.locals) (c.in_ok-push.ensures.ok) ∙ ap (λ (frame : Frame _). frame.locals) c.in-Some-Array.ensures.1 ∙ ap (λ (frame : Frame _). frame.locals) c.in-Some-Int.ensures.1)
    (ap (λ (frame : Frame _). frame.stack) (c.in_ok-push.ensures.ok))
