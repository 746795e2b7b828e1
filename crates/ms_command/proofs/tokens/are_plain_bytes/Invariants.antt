use Rattle.std.proofs.Common.{◌≡◌, take, true}
use Rattle.std.specs.List.{list_all}
use Rattle.ms_command.specs.Lines.{is_plain_byte}
use Rattle.ms_command.proofs.tokens.are_plain_bytes.Given as goal

-- what was looked at so far is plain
abbrev pub invariant-loop-byte : goal.invariant-loop-byte
invariant-loop-byte l = list_all is_plain_byte (take l.byte-index l.line) ≡ true
