use Rattle.std.proofs.Common.{ℕ, List, map, ap, ◌∙◌}
use Rattle.ms_interpreter.specs.Fields.{with_field}
use Rattle.ms_interpreter.specs.Frames.{Field}
use Rattle.ms_interpreter.specs.declared.statics.Kept.{Kept}
use Rattle.ms_interpreter.proofs.FieldsOf.{field_of, stored}
use Rattle.ms_interpreter.proofs.statics.Statics.set.Goals as goal

pub returns : goal.returns
returns g c =
    let key : Kept = record { class = c.args.class; name = c.in_ok-name.name; descriptor = c.in_ok-descriptor.descriptor } in
    ap (map field_of) c.in_ok-insert.ensures.entries
    ∙ stored key c.args.slot c.self.inside.slots.entries
    ∙ ap (λ (fields : List (Field _)). with_field fields c.args.class key.name.items key.descriptor.items c.args.slot) c.self.view_is
    ∙ ap (λ (name : List ℕ). with_field c.args.self.now c.args.class name key.descriptor.items c.args.slot) c.in_ok-name.ensures.items
    ∙ ap (λ (descriptor : List ℕ). with_field c.args.self.now c.args.class c.args.name.now descriptor c.args.slot) c.in_ok-descriptor.ensures.items
