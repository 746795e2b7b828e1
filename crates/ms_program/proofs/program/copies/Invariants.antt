use Rattle.std.proofs.Common.{◌≡◌, take}
use Rattle.ms_program.proofs.program.copies.Given as goal

-- the classes before the next one are copied
abbrev pub invariant-loop-class : goal.invariant-loop-class
invariant-loop-class l = l.copies.items ≡ take l.class-index l.classes
