use Rattle.std.proofs.Common.{◌≡◌, ◌-◌, map}
use Rattle.ms_classfile.specs.Reading.{repeated, entry_at}
use Rattle.ms_classfile.specs.Found.{entry_view}
use Rattle.ms_classfile.proofs.Repeated.{with_front}
use Rattle.ms_classfile.proofs.thin.pool.entries.Given as goal

abbrev pub invariant-loop : goal.invariant-loop
invariant-loop l = with_front (map entry_view l.entries.items) (repeated entry_at (l.count - l.counter) l.cursor) ≡ repeated entry_at l.count l.fn.cursor
