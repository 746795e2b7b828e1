use Rattle.ms_program.proofs.WholeCodes.{body_is_whole}
use Rattle.ms_program.proofs.Leading.{leads}
use Rattle.ms_program.proofs.laws.views_lead_to_views.Goals as goal

pub returns : goal.returns
returns c = λ P item v is seen. leads P is (body_is_whole c.decoded_codes_are_whole.ensures c.codes_lie_in_their_file.ensures c.pools_hold_what_they_name.ensures.integer c.pools_hold_what_they_name.ensures.text P is) item v seen
