use Rattle.std.specs.Int.{w8}
use Rattle.ms_words.proofs.Wrapping.{narrowed, byte_fits}
use Rattle.ms_words.proofs.operator.signed_byte.Goals as goal

pub returns : goal.returns
returns c = narrowed w8 c.args.a c.rem_euclid-low.result c.cast_signed.result c.from.result byte_fits c.ranges.a (record { sfits = c.rem_euclid-low.type_inv })
    c.rem_euclid-low.ensures.value c.cast_signed.ensures c.from.ensures
