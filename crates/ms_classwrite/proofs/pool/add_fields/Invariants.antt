use Rattle.std.proofs.Common.{◌≡◌, fold, take}
use Rattle.ms_classwrite.specs.Layout.{with_field}
use Rattle.ms_classwrite.proofs.pool.add_fields.Given as goal

abbrev pub invariant-loop-field : goal.invariant-loop-field
invariant-loop-field l = l.lines ≡ fold with_field l.fn.lines (take l.field-index l.fields)
