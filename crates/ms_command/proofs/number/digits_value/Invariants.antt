use Rattle.std.proofs.Common.{◌≡◌, ◌<◌, ◌^◌, take, true}
use Rattle.std.specs.Char.{is_ascii_digit}
use Rattle.std.specs.List.{list_all}
use Rattle.std.specs.Str.Parse as digits
use Rattle.ms_command.proofs.number.digits_value.Given as goal

-- what was read so far are digits, and the value is theirs
abbrev pub invariant-loop-byte : goal.invariant-loop-byte
invariant-loop-byte l = record {
  read : list_all is_ascii_digit (take l.byte-index l.text) ≡ true;
  value : l.value ≡ digits.digits_value 10 (take l.byte-index l.text);
  small : l.value < 10 ^ l.byte-index;
}
