use Rattle.ms_pathcond.proofs.SliceLaws.{least_of_slices}
use Rattle.ms_pathcond.proofs.laws.least_inputs_are_put_together.Goals as goal

pub returns : goal.returns
returns c = λ P. least_of_slices P (c.takes_where_literals_hold.ensures P) (c.takes_where_met.ensures P)
