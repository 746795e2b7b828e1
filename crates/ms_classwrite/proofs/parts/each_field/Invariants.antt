use Rattle.std.proofs.Common.{◌≡◌, ◌++◌, take}
use Rattle.std.specs.List.{flat_map}
use Rattle.ms_classwrite.specs.Layout.{spelled_field}
use Rattle.ms_classwrite.proofs.parts.each_field.Given as goal

abbrev pub invariant-loop-each : goal.invariant-loop-each
invariant-loop-each l = l.out ≡ l.fn.out ++ flat_map (spelled_field l.lines) (take l.each-index l.fields)
