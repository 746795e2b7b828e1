use Rattle.ms_pathcond.proofs.Kept.{law_of_growing}
use Rattle.ms_pathcond.proofs.laws.tables_that_grow_keep_slices.Goals as goal

pub returns : goal.returns
returns c = law_of_growing
