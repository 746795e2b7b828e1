use Rattle.std.proofs.Common.{sym, ◌∙◌}
use Rattle.std.proofs.lemmas.Result.{IfOk-weaker}
use Rattle.ms_interpreter.proofs.Symbolic.{binary_of_no_first, binary_of_no_second, binary_of_two, symbols_stay}
use Rattle.ms_interpreter.proofs.terms.TermsArithmetic.binary.Goals as goal

pub returns-then-not-has-clause-is : goal.returns-then-not-has-clause-is
returns-then-not-has-clause-is c = binary_of_no_first c.args.self.now c.args.op c.args.a c.args.b (sym c.has.ensures ∙ c.if-not-has.true)

pub returns-then-not-has-2-clause-is : goal.returns-then-not-has-2-clause-is
returns-then-not-has-2-clause-is c = binary_of_no_second c.args.self.now c.args.op c.args.a c.args.b (sym c.has-2.ensures ∙ c.if-not-has-2.true)

pub returns-clause-is : goal.returns-clause-is
returns-clause-is c = IfOk-weaker c.binary.result _ _ (λ id adds.
    binary_of_two c.args.self.now c.binary.new.self c.args.op c.args.a c.args.b id c.binary.ensures.grows (sym c.has.ensures ∙ c.if-not-has.false) (sym c.has-2.ensures ∙ c.if-not-has-2.false) adds) c.binary.ensures.adds

pub returns-clause-stay : goal.returns-clause-stay
returns-clause-stay c = symbols_stay c.args.self.now c.binary.new.self c.binary.ensures.grows
