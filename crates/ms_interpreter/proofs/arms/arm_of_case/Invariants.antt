use Rattle.ms_interpreter.proofs.Cases.{IsBehind}
use Rattle.ms_interpreter.proofs.arms.arm_of_case.Given as goal

abbrev pub invariant-loop-i : goal.invariant-loop-i
invariant-loop-i l = IsBehind l.word l.cases l.i
