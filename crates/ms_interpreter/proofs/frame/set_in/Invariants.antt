use Rattle.std.proofs.Common.{◌≡◌, ◌≤◌, length}
use Rattle.ms_interpreter.specs.Locals.{with_slot}
use Rattle.ms_interpreter.proofs.frame.set_in.Given as goal

abbrev pub invariant-loop : goal.invariant-loop
invariant-loop g l = (length l.locals.items ≡ l.counter) × (l.counter ≤ l.local) × (with_slot l.locals.items l.local l.slot ≡ with_slot l.fn.locals.items l.local l.slot)
