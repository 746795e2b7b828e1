use Rattle.std.proofs.Common.{List, ap, ◌∙◌}
use Rattle.ms_interpreter.specs.Fields.{found_in}
use Rattle.ms_interpreter.specs.Frames.{Field}
use Rattle.ms_interpreter.proofs.FieldsOf.{found}
use Rattle.ms_interpreter.proofs.statics.Statics.get.Goals as goal

pub returns : goal.returns
returns g c = c.copied.ensures ∙ c.get.ensures.value ∙ found c.args.class c.args.name.now c.args.descriptor.now c.self.inside.slots.entries
    ∙ ap (λ (fields : List (Field _)). found_in fields c.args.class c.args.name.now c.args.descriptor.now) c.self.view_is
