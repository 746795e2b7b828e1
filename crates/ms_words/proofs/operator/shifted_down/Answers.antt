use Rattle.ms_words.proofs.Wrapping.{unsigned_shift}
use Rattle.ms_words.proofs.operator.shifted_down.Goals as goal

pub returns : goal.returns
returns c = unsigned_shift c.args.a c.args.b c.cast_unsigned.result c.cast_unsigned-2.result c.wrapping_shr.result c.cast_signed.result c.ranges.a c.ranges.b (record { sfits = c.cast_signed.type_inv })
    c.cast_unsigned.ensures c.cast_unsigned-2.ensures c.wrapping_shr.ensures c.cast_signed.ensures
