use Rattle.ms_machine.proofs.Least.{least_exists}
use Rattle.ms_machine.proofs.laws.least_exists.Goals as goal

pub returns : goal.returns
returns c = least_exists
