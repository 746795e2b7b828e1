use Rattle.ms_words.proofs.Wrapping.{division_wraps}
use Rattle.ms_words.proofs.operator.divided.Goals as goal

pub returns : goal.returns
returns c = division_wraps c.args.a c.args.b c.wrapping_div.result c.ranges.a c.ranges.b (record { sfits = c.wrapping_div.type_inv }) c.if-b-eq0.false c.wrapping_div.ensures
