use Rattle.std.proofs.Common.{ℕ, ◌<◌}
use Rattle.ms_verify.specs.Checking.{Passes}
use Rattle.ms_verify.proofs.verified.fault_of_program.Given as goal

-- the methods of the classes so far are accepted
abbrev pub invariant-loop-class : goal.invariant-loop-class
invariant-loop-class l = (class number : ℕ) → class < l.class → Passes l.program class number
