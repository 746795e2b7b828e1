use Rattle.ms_program.proofs.Reading.{fault_is, file_is}
use Rattle.ms_program.proofs.laws.files_are_read.Goals as goal

pub returns-clause-file : goal.returns-clause-file
returns-clause-file c = file_is c.codes_are_read.ensures.decoded c.codes_are_read.ensures.foreign c.codes_are_read.ensures.fault c.class_files_are_read.ensures.class c.class_files_are_read.ensures.fault c.codes_lie_in_their_file.ensures

pub returns-clause-fault : goal.returns-clause-fault
returns-clause-fault c = fault_is c.codes_are_read.ensures.decoded c.codes_are_read.ensures.foreign c.codes_are_read.ensures.fault c.class_files_are_read.ensures.class c.class_files_are_read.ensures.fault c.codes_lie_in_their_file.ensures
