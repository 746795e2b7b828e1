use Rattle.ms_program.proofs.WholeCodes.{body_is_whole}
use Rattle.ms_program.proofs.Begun.{body_stands}
use Rattle.ms_program.proofs.laws.bodies_have_whole_codes.Goals as goal

pub returns : goal.returns
returns c = λ P id body is seen. body_stands P (body_is_whole c.decoded_codes_are_whole.ensures c.codes_lie_in_their_file.ensures c.pools_hold_what_they_name.ensures.integer c.pools_hold_what_they_name.ensures.text P is) id body seen
