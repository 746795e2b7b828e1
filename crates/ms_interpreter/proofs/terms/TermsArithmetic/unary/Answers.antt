use Rattle.std.proofs.Common.{sym, ◌∙◌}
use Rattle.std.proofs.lemmas.Result.{IfOk-weaker}
use Rattle.ms_interpreter.proofs.Symbolic.{symbols_stay, unary_of_none, unary_of_one}
use Rattle.ms_interpreter.proofs.terms.TermsArithmetic.unary.Goals as goal

pub returns-then-not-has-clause-is : goal.returns-then-not-has-clause-is
returns-then-not-has-clause-is c = unary_of_none c.args.self.now c.args.op c.args.a (sym c.has.ensures ∙ c.if-not-has.true)

pub returns-clause-is : goal.returns-clause-is
returns-clause-is c = IfOk-weaker c.unary.result _ _ (λ id adds.
    unary_of_one c.args.self.now c.unary.new.self c.args.op c.args.a id c.unary.ensures.grows (sym c.has.ensures ∙ c.if-not-has.false) adds) c.unary.ensures.adds

pub returns-clause-stay : goal.returns-clause-stay
returns-clause-stay c = symbols_stay c.args.self.now c.unary.new.self c.unary.ensures.grows
