use Rattle.ms_classfile.proofs.Files.{file_takes, file_reaches, method_is_thin, one_method}
use Rattle.ms_pool.specs.Numbers.{bytes_from_all}
use Rattle.ms_classfile.proofs.thin.thin_files_are_read.Goals as goal

pub returns-clause-read : goal.returns-clause-read
returns-clause-read c = λ bytes method all found. file_takes bytes method (bytes_from_all bytes all) found

pub returns-clause-method : goal.returns-clause-method
returns-clause-method c = λ bytes method all found. method_is_thin bytes method (bytes_from_all bytes all) found

pub returns-clause-only : goal.returns-clause-only
returns-clause-only c = λ bytes method thin. file_reaches bytes method thin

pub returns-clause-one : goal.returns-clause-one
returns-clause-one c = λ bytes first second is_first is_second. one_method bytes first second is_first is_second
