use Rattle.ms_program.proofs.Either.{file_or_fault}
use Rattle.ms_program.proofs.laws.files_are_whole_or_have_a_fault.Goals as goal

pub returns : goal.returns
returns c = file_or_fault c.class_files_are_whole_or_have_a_fault.ensures.either c.faults_have_places.ensures c.codes_lie_in_their_file.ensures c.codes_are_decoded_foreign_or_at_fault.ensures.one_of_three
