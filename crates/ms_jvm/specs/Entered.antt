-- Runs of a method of a program as its entry.
use Rattle.std.specs.Prelude.{Option, Some}
use Rattle.ms_program.specs.declared.method.MethodId.{MethodId}
use Rattle.ms_program.specs.Programs as programs
use Rattle.ms_machine.specs.Control.{Program}
use Rattle.ms_linking.specs.Linked.{program_of}

-- the program that the machine runs, with this method as the entry; its own is of no account
abbrev pub entered : programs.Program → MethodId → Option Program
entered P id = program_of (record P { entry = Some id })
