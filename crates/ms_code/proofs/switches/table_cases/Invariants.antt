use Rattle.std.proofs.Common.{◌≡◌, ◌-◌, [], length}
use Rattle.ms_pool.specs.Formats.{added, repeated}
use Rattle.ms_pool.specs.Loops.{IsReading}
use Rattle.ms_code.specs.Instructions.{table_case}
use Rattle.ms_code.proofs.switches.table_cases.Given as goal

abbrev pub invariant-loop-i : goal.invariant-loop-i
invariant-loop-i l = record {
  reading : IsReading (added (table_case l.spot.place l.spot.offset l.low)) l.cases.items (l.count - l.i) l.cursor ((repeated l.count (added (table_case l.spot.place l.spot.offset l.low)) []).read l.fn.cursor);
  many : length l.cases.items ≡ l.i;
}
