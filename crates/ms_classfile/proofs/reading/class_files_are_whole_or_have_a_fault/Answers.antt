use Rattle.ms_classfile.proofs.Exact.{class_or_fault, no_fault, one_class, one_fault}
use Rattle.ms_pool.specs.Numbers.{bytes_from_all}
use Rattle.ms_classfile.proofs.reading.class_files_are_whole_or_have_a_fault.Goals as goal

pub returns-clause-either : goal.returns-clause-either
returns-clause-either c = λ bytes all. class_or_fault bytes (bytes_from_all bytes all)

pub returns-clause-not_both : goal.returns-clause-not_both
returns-clause-not_both c = λ bytes class fault all is broken. no_fault bytes class fault (bytes_from_all bytes all) is broken

pub returns-clause-one_class : goal.returns-clause-one_class
returns-clause-one_class c = λ bytes first second all p q. one_class bytes first second (bytes_from_all bytes all) p q

pub returns-clause-one_fault : goal.returns-clause-one_fault
returns-clause-one_fault c = λ bytes first second all p q. one_fault bytes first second (bytes_from_all bytes all) p q
