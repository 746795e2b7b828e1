use Rattle.ms_machine.proofs.Paths.{law_of_the_string}
use Rattle.ms_machine.proofs.laws.takes_where_literals_hold.Goals as goal

pub returns : goal.returns
returns c = law_of_the_string
