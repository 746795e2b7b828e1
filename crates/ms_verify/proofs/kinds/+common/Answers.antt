use Rattle.std.proofs.Common.{arith, ap, length, sym, ◌∙◌}
use Rattle.ms_verify.proofs.Common.{common_goes_up, lineage_goes_up}
use Rattle.ms_verify.proofs.kinds.+common.Goals as goal

pub common-requires : goal.common-requires
common-requires t c = (omega (arith, c.decreases, ap length (lineage_goes_up c.args.class c.in-Some.above (sym c.parent.ensures ∙ c.in-Some.is))), tt)

pub returns-in-Some : goal.returns-in-Some
returns-in-Some t c = c.common.ensures ∙ sym (common_goes_up c.args.class c.args.other c.in-Some.above (sym c.parent.ensures ∙ c.in-Some.is) (sym c.is_a.ensures ∙ c.if-is_a.false))
