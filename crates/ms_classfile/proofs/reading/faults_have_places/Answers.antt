use Rattle.ms_classfile.proofs.Places.{first_placed}
use Rattle.ms_classfile.proofs.reading.faults_have_places.Goals as goal

pub returns : goal.returns
returns c = first_placed
