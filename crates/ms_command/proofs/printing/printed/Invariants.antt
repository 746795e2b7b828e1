use Rattle.std.proofs.Common.{◌≡◌, take}
use Rattle.ms_command.specs.Names.{printed_name}
use Rattle.ms_command.proofs.printing.printed.Given as goal

-- what was printed so far
abbrev pub invariant-loop-byte : goal.invariant-loop-byte
invariant-loop-byte l = l.text.items ≡ printed_name (take l.byte-index l.name)
