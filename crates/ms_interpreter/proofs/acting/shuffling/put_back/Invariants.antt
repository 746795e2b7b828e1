use Rattle.std.proofs.Common.{◌≡◌, ◌+◌, ◌++◌, length}
use Rattle.ms_interpreter.proofs.acting.shuffling.put_back.Given as goal

-- those that are left and those that were put back are all
abbrev pub invariant-loop : goal.invariant-loop
invariant-loop g l = (length l.left.items + l.counter ≡ length l.fn.slots.items) × (l.frame ≡ record l.fn.frame { stack = l.frame.stack }) × (l.left.items ++ l.frame.stack ≡ l.fn.slots.items ++ l.fn.frame.stack)
