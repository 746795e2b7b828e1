use Rattle.ms_program.proofs.WholeCodes.{body_is_whole}
use Rattle.ms_program.proofs.Subset.{of_subset}
use Rattle.ms_program.proofs.laws.instructions_are_of_the_subset.Goals as goal

pub returns : goal.returns
returns c = λ P class method offset v is seen. of_subset P (body_is_whole c.decoded_codes_are_whole.ensures c.codes_lie_in_their_file.ensures c.pools_hold_what_they_name.ensures.integer c.pools_hold_what_they_name.ensures.text P is) class method offset v seen
