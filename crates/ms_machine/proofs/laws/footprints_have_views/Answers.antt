use Rattle.ms_machine.proofs.Bounds.{footprints_have_views}
use Rattle.ms_machine.proofs.laws.footprints_have_views.Goals as goal

pub returns : goal.returns
returns c = footprints_have_views
