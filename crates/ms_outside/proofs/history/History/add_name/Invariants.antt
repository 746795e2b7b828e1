use Rattle.std.proofs.Common.{◌≡◌, take, fold}
use Rattle.ms_outside.specs.Histories.{asked_in, with_byte}
use Rattle.ms_outside.proofs.history.History.add_name.Given as goal

abbrev pub invariant-loop-byte : goal.invariant-loop-byte
invariant-loop-byte l = asked_in l.self-inside.notes.items ≡ fold with_byte (asked_in l.initial.self-inside.notes.items) (take l.byte-index l.name)
