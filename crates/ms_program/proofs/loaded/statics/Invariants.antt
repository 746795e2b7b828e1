use Rattle.std.proofs.Common.{◌≡◌, map, take}
use Rattle.ms_classfile.specs.declared.class.FieldRow.{FieldRow}
use Rattle.ms_classfile.specs.ClassViews.{field_view}
use Rattle.ms_program.specs.Programs.{static_of}
use Rattle.ms_program.proofs.loaded.statics.Given as goal

-- the ints so far are those of the fields before the next one
abbrev pub invariant-loop-row : goal.invariant-loop-row
invariant-loop-row l = l.statics.items ≡ map (λ (row : FieldRow). static_of (field_view row)) (take l.row-index l.rows)
