use Rattle.std.proofs.Common.{◌≡◌, ◌+◌, ◌*◌, drop}
use Rattle.ms_code.specs.Codes.{first_misplaced}
use Rattle.ms_code.proofs.checking.first_misplaced.Given as goal

abbrev pub invariant-loop-i : goal.invariant-loop-i
invariant-loop-i l = first_misplaced l.steps l.size (l.table_at + 8 * l.i) (drop l.i l.rows) ≡ first_misplaced l.steps l.size l.table_at l.rows
