use Rattle.ms_machine.proofs.Order.{least_is_first}
use Rattle.ms_machine.proofs.laws.least_is_first.Goals as goal

pub returns : goal.returns
returns c = least_is_first
