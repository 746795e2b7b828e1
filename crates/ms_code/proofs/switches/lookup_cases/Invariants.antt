use Rattle.std.proofs.Common.{◌-◌, []}
use Rattle.ms_pool.specs.Formats.{added, repeated}
use Rattle.ms_pool.specs.Loops.{IsReading}
use Rattle.ms_code.specs.Instructions.{lookup_case}
use Rattle.ms_code.proofs.switches.lookup_cases.Given as goal

abbrev pub invariant-loop : goal.invariant-loop
invariant-loop l = IsReading (added (λ before. lookup_case l.spot.place l.spot.offset)) l.cases.items (l.count - l.counter) l.cursor ((repeated l.count (added (λ before. lookup_case l.spot.place l.spot.offset)) []).read l.fn.cursor)
