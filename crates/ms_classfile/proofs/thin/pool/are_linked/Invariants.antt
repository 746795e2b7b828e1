use Rattle.std.proofs.Common.{◌≡◌, map, drop}
use Rattle.std.specs.List.{list_all}
use Rattle.ms_classfile.specs.ThinFile.{is_linked}
use Rattle.ms_classfile.specs.Found.{entry_view}
use Rattle.ms_classfile.proofs.thin.pool.are_linked.Given as goal

abbrev pub invariant-loop-entry : goal.invariant-loop-entry
invariant-loop-entry l = list_all (is_linked (map entry_view l.pool)) (map entry_view (drop l.entry-index l.pool)) ≡ list_all (is_linked (map entry_view l.pool)) (map entry_view l.pool)
