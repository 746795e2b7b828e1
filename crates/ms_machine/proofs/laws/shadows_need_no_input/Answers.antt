use Rattle.ms_machine.proofs.Runs.{shadows_need_no_input}
use Rattle.ms_machine.proofs.laws.shadows_need_no_input.Goals as goal

pub returns : goal.returns
returns c = shadows_need_no_input
