use Rattle.ms_session.proofs.Determined.{list_unique}
use Rattle.ms_session.proofs.laws.path_list_is_unique.Goals as goal

pub returns : goal.returns
returns c = λ P depth. list_unique P depth (c.least_is_unique.ensures P)
