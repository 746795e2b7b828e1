use Rattle.std.proofs.Common.{◌≡◌, take}
use Rattle.ms_session.specs.Once.{names_of}
use Rattle.ms_session.proofs.names.class_names.Given as goal

-- the names of the classes before the next one
abbrev pub invariant-loop-class : goal.invariant-loop-class
invariant-loop-class l = l.names.items ≡ take l.class (names_of l.program)
