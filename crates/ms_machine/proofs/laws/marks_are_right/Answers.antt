use Rattle.ms_machine.proofs.Runs.{marks_are_right}
use Rattle.ms_machine.proofs.laws.marks_are_right.Goals as goal

pub returns : goal.returns
returns c = marks_are_right
