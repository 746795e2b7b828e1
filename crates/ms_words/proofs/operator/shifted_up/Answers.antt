use Rattle.std.proofs.Common.{ap, ◌∙◌, ◌%◌, of_z, to_z, w32}
use Rattle.std.specs.Int.{int_shl}
use Rattle.ms_words.proofs.Wrapping.{shift_wraps}
use Rattle.ms_words.proofs.operator.shifted_up.Goals as goal

pub returns : goal.returns
returns c = shift_wraps c.args.a c.args.b c.wrapping_shl.result c.ranges.a c.ranges.b (record { sfits = c.wrapping_shl.type_inv })
    (c.wrapping_shl.ensures ∙ ap (λ n. int_shl w32 (to_z w32 (of_z w32 c.args.a)) (n % 32)) c.cast_unsigned.ensures)
