-- A file that was read, without where its bytes lie in memory.
use Rattle.ms_classfile.specs.ClassViews.{class_view}
use Rattle.ms_program.specs.declared.file.File as declared
use Rattle.ms_program.specs.Files.{File}

abbrev pub file_view : declared.File → File
file_view file = record { class = class_view file.class; bodies = file.bodies }
