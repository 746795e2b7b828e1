use Rattle.ms_pool.specs.Numbers.{bytes_from_all}
use Rattle.ms_classfile.proofs.Lying.{codes_lie}
use Rattle.ms_classfile.proofs.reading.codes_lie_in_their_file.Goals as goal

pub returns : goal.returns
returns c = λ bytes class all is. codes_lie bytes class (bytes_from_all bytes all) is
