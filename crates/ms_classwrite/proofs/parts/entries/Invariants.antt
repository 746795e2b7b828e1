use Rattle.std.proofs.Common.{◌≡◌, ◌++◌, take}
use Rattle.std.specs.List.{flat_map}
use Rattle.ms_pool.specs.Pools.{spelled_entry}
use Rattle.ms_classwrite.specs.Lines.{line_view}
use Rattle.ms_classwrite.specs.Plans.{entry_of}
use Rattle.ms_classwrite.proofs.parts.entries.Given as goal

abbrev pub invariant-loop-each : goal.invariant-loop-each
invariant-loop-each l = l.out ≡ l.fn.out ++ flat_map (λ line. spelled_entry (entry_of (line_view line))) (take l.each-index l.lines)
