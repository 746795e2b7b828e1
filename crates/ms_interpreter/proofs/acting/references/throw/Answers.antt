use Rattle.std.proofs.Common.{◌∷◌, ap, ◌∙◌}
use Rattle.ms_interpreter.specs.declared.slot.Slot.{Slot}
use Rattle.ms_interpreter.proofs.Acted.{throws_null}
use Rattle.ms_interpreter.proofs.acting.references.throw.Goals as goal

pub returns-in-Some-Null-clause-acts : goal.returns-in-Some-Null-clause-acts
returns-in-Some-Null-clause-acts g c =
    throws_null c.args.frame.now c.pop.new.self c.args.memory.now _ c.throw_new.result c.pop.new.self.stack
    (c.in-Some-Null.ensures.0 ∙ ap (λ (slot : Slot _). slot ∷ c.pop.new.self.stack) c.in-Some-Null.field-0-is) c.throw_new.ensures
