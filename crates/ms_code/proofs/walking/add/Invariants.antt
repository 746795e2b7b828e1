use Rattle.std.proofs.Common.{◌≡◌, ◌∷◌, ◌++◌, Some, None, replicate}
use Rattle.ms_code.proofs.walking.add.Given as goal

abbrev pub invariant-loop : goal.invariant-loop
invariant-loop l = l.steps.items ≡ l.fn.steps.items ++ Some l.fn.step ∷ replicate l.counter None
