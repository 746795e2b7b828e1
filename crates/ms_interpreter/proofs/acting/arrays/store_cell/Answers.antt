use Rattle.std.proofs.Common.{List, ◌∷◌, refl, ap, ◌∙◌, arith}
use Rattle.ms_interpreter.specs.declared.slot.Slot.{Slot}
use Rattle.ms_interpreter.specs.declared.slot.Slot.TheVariants as slots
use Rattle.ms_interpreter.specs.Frames.{Frame}
use Rattle.ms_interpreter.proofs.Acted.{store_out_of_range, stores_cell, stores_in_none, stores_in_null}
use Rattle.ms_interpreter.proofs.acting.arrays.store_cell.Goals as goal

pub returns-in-Some-Null-clause-acts : goal.returns-in-Some-Null-clause-acts
returns-in-Some-Null-clause-acts g c =
    let lowest = c.in-Some-Null.ensures.0 ∙ ap (λ (slot : Slot _). slot ∷ c.pop-3.new.self.stack) c.in-Some-Null.field-0-is in
    let lower = (c.in-Some-Int-pop.ensures.0 ∙ ap (λ (slot : Slot _). slot ∷ c.pop-2.new.self.stack) c.in-Some-Int-pop.field-0-is) ∙ ap (λ (below : List (Slot _)). slots.Int c.in-Some-Int-pop.field-0-0 ∷ below) lowest in
    let stack = (c.in-Some-Int.ensures.0 ∙ ap (λ (slot : Slot _). slot ∷ c.pop.new.self.stack) c.in-Some-Int.field-0-is) ∙ ap (λ (below : List (Slot _)). slots.Int c.in-Some-Int.a ∷ below) lower in
    stores_in_null c.args.frame.now c.pop-3.new.self c.args.memory.now c.args.arm 0 c.in-Some-Int-pop.field-0-0 c.pop-3.new.self.stack c.in-Some-Int.a _ c.throw_new.result stack c.throw_new.ensures

pub returns-in_default-cells-clause-acts : goal.returns-in_default-cells-clause-acts
returns-in_default-cells-clause-acts g c =
    let lowest = c.in-Some-Array.ensures.0 ∙ ap (λ (slot : Slot _). slot ∷ c.pop-3.new.self.stack) c.in-Some-Array.field-0-is in
    let lower = (c.in-Some-Int-pop.ensures.0 ∙ ap (λ (slot : Slot _). slot ∷ c.pop-2.new.self.stack) c.in-Some-Int-pop.field-0-is) ∙ ap (λ (below : List (Slot _)). slots.Int c.in-Some-Int-pop.field-0-0 ∷ below) lowest in
    let stack = (c.in-Some-Int.ensures.0 ∙ ap (λ (slot : Slot _). slot ∷ c.pop.new.self.stack) c.in-Some-Int.field-0-is) ∙ ap (λ (below : List (Slot _)). slots.Int c.in-Some-Int.a ∷ below) lower in
    stores_in_none c.args.frame.now c.pop-3.new.self c.args.memory.now c.args.arm c.in-Some-Array.number c.in-Some-Int-pop.field-0-0 c.pop-3.new.self.stack c.in-Some-Int.a stack c.in_default-cells.ensures.cells

pub returns-then-arm-cells-clause-acts : goal.returns-then-arm-cells-clause-acts
returns-then-arm-cells-clause-acts g c =
    let lowest = c.in-Some-Array.ensures.0 ∙ ap (λ (slot : Slot _). slot ∷ c.pop-3.new.self.stack) c.in-Some-Array.field-0-is in
    let lower = (c.in-Some-Int-pop.ensures.0 ∙ ap (λ (slot : Slot _). slot ∷ c.pop-2.new.self.stack) c.in-Some-Int-pop.field-0-is) ∙ ap (λ (below : List (Slot _)). slots.Int c.in-Some-Int-pop.field-0-0 ∷ below) lowest in
    let stack = (c.in-Some-Int.ensures.0 ∙ ap (λ (slot : Slot _). slot ∷ c.pop.new.self.stack) c.in-Some-Int.field-0-is) ∙ ap (λ (below : List (Slot _)). slots.Int c.in-Some-Int.a ∷ below) lower in
    store_out_of_range c.args.frame.now c.pop-3.new.self c.args.memory.now c.args.arm c.in-Some-Array.number c.in-Some-Int-pop.field-0-0 c.pop-3.new.self.stack c.in-Some-Int.a c.in-Some.cells.now _ c.throw_new-then-arm-cells.result
    stack c.in-Some.ensures.cells c.if-arm-cells.true c.throw_new-then-arm-cells.ensures

pub returns-clause-acts : goal.returns-clause-acts
returns-clause-acts g c =
    let lowest = c.in-Some-Array.ensures.0 ∙ ap (λ (slot : Slot _). slot ∷ c.pop-3.new.self.stack) c.in-Some-Array.field-0-is in
    let lower = (c.in-Some-Int-pop.ensures.0 ∙ ap (λ (slot : Slot _). slot ∷ c.pop-2.new.self.stack) c.in-Some-Int-pop.field-0-is) ∙ ap (λ (below : List (Slot _)). slots.Int c.in-Some-Int-pop.field-0-0 ∷ below) lowest in
    let stack = (c.in-Some-Int.ensures.0 ∙ ap (λ (slot : Slot _). slot ∷ c.pop.new.self.stack) c.in-Some-Int.field-0-is) ∙ ap (λ (below : List (Slot _)). slots.Int c.in-Some-Int.a ∷ below) lower in
    stores_cell c.args.frame.now c.pop-3.new.self c.args.memory.now c.args.arm c.in-Some-Array.number c.in-Some-Int-pop.field-0-0 c.pop-3.new.self.stack c.in-Some-Int.a c.in-Some.cells.now c.set_cell.new.self
    stack c.in-Some.ensures.cells (omega (arith, c.if-arm-cells.false))
    (ap (λ (frame : Frame _). frame.locals) c.in-Some-Array.ensures.1 ∙ ap (λ (frame : Frame _). frame.locals) c.in-Some-Int-pop.ensures.1 ∙ ap (λ (frame : Frame _). frame.locals) c.in-Some-Int.ensures.1)
    refl c.set_cell.ensures
