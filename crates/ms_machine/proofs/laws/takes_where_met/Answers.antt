use Rattle.ms_machine.proofs.Paths.{takes_where_met}
use Rattle.ms_machine.proofs.laws.takes_where_met.Goals as goal

pub returns : goal.returns
returns c = takes_where_met
