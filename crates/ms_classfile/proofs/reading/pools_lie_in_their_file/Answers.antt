use Rattle.ms_pool.specs.Numbers.{bytes_from_all}
use Rattle.ms_classfile.proofs.Held.{pool_held}
use Rattle.ms_classfile.proofs.reading.pools_lie_in_their_file.Goals as goal

pub returns : goal.returns
returns c = λ bytes class all is. pool_held c.pools_hold_what_they_name.ensures.index bytes class (bytes_from_all bytes all) is
