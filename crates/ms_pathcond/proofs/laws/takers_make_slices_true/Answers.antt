use Rattle.ms_pathcond.proofs.SliceLaws.{takers_meet_slices}
use Rattle.ms_pathcond.proofs.laws.takers_make_slices_true.Goals as goal

pub returns : goal.returns
returns c = λ P. takers_meet_slices P (c.takes_where_literals_hold.ensures P)
