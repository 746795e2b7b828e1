use Rattle.std.proofs.Common.{sym, ◌∙◌}
use Rattle.ms_interpreter.proofs.Symbolic.{known_of_none, known_of_one}
use Rattle.ms_interpreter.proofs.terms.TermsArithmetic.known.Goals as goal

pub returns-then-not-has : goal.returns-then-not-has
returns-then-not-has c = known_of_none c.args.self.now c.args.a (sym c.has.ensures ∙ c.if-not-has.true)

pub returns : goal.returns
returns c = c.is_constant.ensures ∙ known_of_one c.args.self.now c.args.a (sym c.has.ensures ∙ c.if-not-has.false)
