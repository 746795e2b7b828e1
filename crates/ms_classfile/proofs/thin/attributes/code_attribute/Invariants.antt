use Rattle.std.proofs.Common.{◌≡◌, map, drop, filter, codes}
use Rattle.std.specs.Option.{option_map}
use Rattle.ms_classfile.specs.ThinFile.{is_named}
use Rattle.ms_classfile.specs.Reading.{only}
use Rattle.ms_classfile.specs.Found.{entry_view, attribute_view}
use Rattle.ms_classfile.proofs.Only.{only_after}
use Rattle.ms_classfile.proofs.thin.attributes.code_attribute.Given as goal

abbrev pub invariant-loop-attribute : goal.invariant-loop-attribute
invariant-loop-attribute l =
    only_after (option_map attribute_view l.code) (filter (is_named (map entry_view l.pool) (codes "Code")) (map attribute_view (drop l.attribute-index l.attributes)))
    ≡ only (filter (is_named (map entry_view l.pool) (codes "Code")) (map attribute_view l.attributes))
