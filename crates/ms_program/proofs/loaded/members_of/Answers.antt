use Rattle.std.proofs.Common.{List, ap, map, sym, ◌∙◌}
use Rattle.std.proofs.lemmas.Simd.{map-map}
use Rattle.ms_classfile.specs.declared.class.FieldRow.{FieldRow}
use Rattle.ms_classfile.specs.declared.class.MethodRow.{MethodRow}
use Rattle.ms_classfile.specs.ClassFile.{field_key, method_key}
use Rattle.ms_classfile.specs.ClassViews.{field_view, method_view}
use Rattle.ms_program.specs.Programs.{static_of}
use Rattle.ms_program.proofs.loaded.members_of.Goals as goal

pub returns : goal.returns
returns c = record {
  name_is = c.in_ok-name.ensures.items;
  fields_are = c.in_ok-fields.ensures ∙ ap (λ (rows : List FieldRow). map (λ row. field_key (field_view row)) rows) c.rows.ensures ∙ sym (map-map field_key field_view c.args.class.now.fields);
  statics_are = c.in_ok-statics.ensures ∙ ap (λ (rows : List FieldRow). map (λ row. static_of (field_view row)) rows) c.rows-2.ensures ∙ sym (map-map static_of field_view c.args.class.now.fields);
  methods_are = c.in_ok-methods.ensures ∙ ap (λ (rows : List MethodRow). map (λ row. method_key (method_view row)) rows) c.rows-3.ensures ∙ sym (map-map method_key method_view c.args.class.now.methods);
}
