use Rattle.std.proofs.Common.{arith, sym, ◌∙◌}
use Rattle.ms_words.proofs.Tree.{up_is_lower}
use Rattle.ms_words.proofs.thrown.Thrown.+is_a.Goals as goal

pub is_a-requires : goal.is_a-requires
is_a-requires t c = (omega (arith, c.decreases, up_is_lower c.args.self c.in-Some.above (sym c.parent.ensures ∙ c.in-Some.is)), tt)
