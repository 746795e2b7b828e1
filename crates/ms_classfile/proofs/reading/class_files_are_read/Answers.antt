use Rattle.ms_pool.specs.Numbers.{bytes_from_all}
use Rattle.ms_pool.specs.Places.{beginning}
use Rattle.ms_classfile.proofs.Exact.{class_file_exact, class_found}
use Rattle.ms_classfile.proofs.reading.class_files_are_read.Goals as goal

pub returns-clause-class : goal.returns-clause-class
returns-clause-class c = λ bytes class all. (λ is. (is.after, class_file_exact.reads (beginning bytes) class is.after (bytes_from_all bytes all) is.is), λ found. class_found bytes class found.0 (bytes_from_all bytes all) found.1)

pub returns-clause-fault : goal.returns-clause-fault
returns-clause-fault c = λ bytes fault all. (class_file_exact.faults (beginning bytes) fault (bytes_from_all bytes all), class_file_exact.breaks (beginning bytes) fault (bytes_from_all bytes all))
