use Rattle.std.proofs.Common.{rules, ℕ, take, ◌≡◌, ap, Some, true}
use Rattle.std.proofs.lemmas.List.{take_all}
use Rattle.std.specs.Char.{is_ascii_digit}
use Rattle.std.specs.List.{list_all}
use Rattle.std.specs.Str.Parse.{digits_value}
use Rattle.ms_command.proofs.Digits.{grows}
use Rattle.ms_command.proofs.number.digits_value.Goals as goal

pub loop-byte-preserved : goal.loop-byte-preserved
loop-byte-preserved c =
    let more = grows c.args.text.now c.loop-byte.byte-index c.loop-byte.value c.from.result c.loop-byte-test.true c.loop-byte.invariant.read
    (search rules) (search rules) c.from.ensures c.loop-byte.invariant.value c.loop-byte.invariant.small in
    record { read = more.read; value = more.value; small = more.small }

pub returns : goal.returns
returns c =
    let whole : take c.loop-byte.byte-index c.args.text.now ≡ c.args.text.now = take_all _ _ c.loop-byte-test.false in
    let read : list_all is_ascii_digit c.args.text.now ≡ true = rw whole at c.loop-byte.invariant.read in
    let value : c.loop-byte.value ≡ digits_value 10 c.args.text.now = rw whole at c.loop-byte.invariant.value in
    record { value = rw read (ap (λ (n : ℕ). Some n) value); small = search rules }
