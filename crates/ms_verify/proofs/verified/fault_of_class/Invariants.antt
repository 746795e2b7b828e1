use Rattle.std.proofs.Common.{ℕ, ◌<◌}
use Rattle.ms_verify.specs.Checking.{Passes}
use Rattle.ms_verify.proofs.verified.fault_of_class.Given as goal

-- the methods so far are accepted
abbrev pub invariant-loop-method : goal.invariant-loop-method
invariant-loop-method l = (number : ℕ) → number < l.method → Passes l.program l.class number
