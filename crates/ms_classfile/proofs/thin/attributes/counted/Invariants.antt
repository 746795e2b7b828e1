use Rattle.std.proofs.Common.{◌≡◌, ◌-◌, map}
use Rattle.ms_classfile.specs.Reading.{repeated, attribute_at}
use Rattle.ms_classfile.specs.Found.{entry_view, attribute_view}
use Rattle.ms_classfile.proofs.Repeated.{with_front}
use Rattle.ms_classfile.proofs.thin.attributes.counted.Given as goal

abbrev pub invariant-loop : goal.invariant-loop
invariant-loop l = with_front (map attribute_view l.attributes.items) (repeated (attribute_at (map entry_view l.pool)) (l.count - l.counter) l.cursor) ≡ repeated (attribute_at (map entry_view l.pool)) l.count l.fn.cursor
