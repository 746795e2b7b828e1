use Rattle.std.proofs.Common.{◌≡◌, ◌+◌, length}
use Rattle.ms_code.specs.Codes.{step, steps}
use Rattle.ms_code.proofs.Walks.{IsWalking}
use Rattle.ms_code.proofs.walking.steps.Given as goal

abbrev pub invariant-loop-alloc : goal.invariant-loop-alloc
invariant-loop-alloc l = record {
  walking : IsWalking (step l.pool l.code_at) l.steps.items l.cursor ((steps l.pool (length l.fn.cursor.left) l.code_at).read l.fn.cursor);
  whole : l.cursor.at + length l.cursor.left ≡ l.fn.cursor.at + length l.fn.cursor.left;
}

abbrev pub decreases-loop-alloc : goal.decreases-loop-alloc
decreases-loop-alloc l = length l.cursor.left
