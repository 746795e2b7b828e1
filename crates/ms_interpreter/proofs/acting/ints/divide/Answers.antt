use Rattle.std.proofs.Common.{List, ◌∷◌, ap, ◌∙◌}
use Rattle.ms_interpreter.specs.declared.slot.Slot.{Slot}
use Rattle.ms_interpreter.specs.declared.slot.Slot.TheVariants as slots
use Rattle.ms_interpreter.proofs.Acted.{divides_by_zero}
use Rattle.ms_interpreter.proofs.acting.ints.divide.Goals as goal

pub returns-clause-acts : goal.returns-clause-acts
returns-clause-acts g c =
    let lower = c.in-Some-Int-pop.ensures.0 ∙ ap (λ (slot : Slot _). slot ∷ c.pop-2.new.self.stack) c.in-Some-Int-pop.field-0-is in
    let upper = c.in-Some-Int.ensures.0 ∙ ap (λ (slot : Slot _). slot ∷ c.pop.new.self.stack) c.in-Some-Int.field-0-is in
    divides_by_zero c.args.op c.args.arm c.args.frame.now c.pop-2.new.self c.args.memory.now _ c.throw_new.result c.in-Some-Int-pop.a c.in-Some-Int.b c.pop-2.new.self.stack
    (upper ∙ ap (λ (stack : List (Slot _)). slots.Int c.in-Some-Int.b ∷ stack) lower) c.if-arm-eq0.false c.throw_new.ensures
