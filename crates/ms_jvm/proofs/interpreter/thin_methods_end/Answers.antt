use Rattle.ms_jvm.proofs.Ending.{method_ends, method_returns, method_two_arms}
use Rattle.ms_jvm.proofs.interpreter.thin_methods_end.Goals as goal

pub returns-clause-returns : goal.returns-clause-returns
returns-clause-returns c = method_returns

pub returns-clause-ends : goal.returns-clause-ends
returns-clause-ends c = method_ends

pub returns-clause-arms : goal.returns-clause-arms
returns-clause-arms c = method_two_arms

pub returns-clause-inputs : goal.returns-clause-inputs
returns-clause-inputs c = λ method x kinds fit. record { kinds = kinds; words = fit }
