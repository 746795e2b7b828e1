use Rattle.ms_session.proofs.Least.{least_comes_first}
use Rattle.ms_session.proofs.laws.least_inputs_come_first.Goals as goal

pub returns : goal.returns
returns c = least_comes_first
