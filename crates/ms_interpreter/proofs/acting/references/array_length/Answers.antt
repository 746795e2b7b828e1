use Rattle.std.proofs.Common.{◌∷◌, ap, ◌∙◌, w32, length, arith}
use Rattle.std.proofs.lemmas.Int.{to_z_pos}
use Rattle.ms_interpreter.specs.declared.slot.Slot.{Slot}
use Rattle.ms_interpreter.proofs.Acted.{has_length, no_array, null_has_no_length}
use Rattle.ms_interpreter.proofs.acting.references.array_length.Goals as goal

pub overflow_cast-result : goal.overflow_cast-result
overflow_cast-result g c = let few = c.in-Some.ensures.few in grind arith

pub returns-in-Some-clause-acts : goal.returns-in-Some-clause-acts
returns-in-Some-clause-acts g c =
    has_length c.args.frame.now c.pop.new.self c.args.memory.now c.in-Some-Array.number c.in-Some.cells.now c.pop.new.self.stack _
    (c.in-Some-Array.ensures.0 ∙ ap (λ (slot : Slot _). slot ∷ c.pop.new.self.stack) c.in-Some-Array.field-0-is) c.in-Some.ensures.cells (to_z_pos w32 (length c.in-Some.cells.now) (omega (arith, c.in-Some.ensures.few))) c.in-Some-Array.ensures.1

pub returns-in-None-clause-acts : goal.returns-in-None-clause-acts
returns-in-None-clause-acts g c =
    no_array c.args.frame.now c.pop.new.self c.args.memory.now c.in-Some-Array.number c.pop.new.self.stack
    (c.in-Some-Array.ensures.0 ∙ ap (λ (slot : Slot _). slot ∷ c.pop.new.self.stack) c.in-Some-Array.field-0-is) c.in-None.ensures.cells

pub returns-in-Some-Null-clause-acts : goal.returns-in-Some-Null-clause-acts
returns-in-Some-Null-clause-acts g c =
    null_has_no_length c.args.frame.now c.pop.new.self c.args.memory.now _ c.throw_new.result c.pop.new.self.stack
    (c.in-Some-Null.ensures.0 ∙ ap (λ (slot : Slot _). slot ∷ c.pop.new.self.stack) c.in-Some-Null.field-0-is) c.throw_new.ensures
