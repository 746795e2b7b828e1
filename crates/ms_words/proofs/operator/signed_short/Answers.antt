use Rattle.std.specs.Int.{w16}
use Rattle.ms_words.proofs.Wrapping.{narrowed, short_fits}
use Rattle.ms_words.proofs.operator.signed_short.Goals as goal

pub returns : goal.returns
returns c = narrowed w16 c.args.a c.rem_euclid-low.result c.cast_signed.result c.from.result short_fits c.ranges.a (record { sfits = c.rem_euclid-low.type_inv })
    c.rem_euclid-low.ensures.value c.cast_signed.ensures c.from.ensures
