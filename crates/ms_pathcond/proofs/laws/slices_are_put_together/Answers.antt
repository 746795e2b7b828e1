use Rattle.ms_pathcond.proofs.SliceLaws.{law_of_slices}
use Rattle.ms_pathcond.proofs.laws.slices_are_put_together.Goals as goal

pub returns : goal.returns
returns c = law_of_slices
