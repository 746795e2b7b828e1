use Rattle.std.proofs.Common.{◌≡◌, ◌≤◌, length, take, drop}
use Rattle.ms_interpreter.proofs.acting.shuffling.take.Given as goal

-- so many were taken
abbrev pub invariant-loop : goal.invariant-loop
invariant-loop g l = (l.counter ≤ length l.fn.frame.stack) × (l.slots.items ≡ take l.counter l.fn.frame.stack) × (l.frame ≡ record l.fn.frame { stack = drop l.counter l.fn.frame.stack })
