use Rattle.ms_typing.specs.Verifier.{start}
use Rattle.ms_typing.proofs.Sound.{accepted_sound}
use Rattle.ms_typing.proofs.Total.{one_outcome, outcome_exists}
use Rattle.ms_typing.proofs.Complete.{last_least, solution_accepted}
use Rattle.ms_typing.proofs.laws.methods_have_one_outcome.Goals as goal

pub returns-clause-outcome : goal.returns-clause-outcome
returns-clause-outcome c = λ method l. let found = outcome_exists method l in
    record { outcome = found.0; is = found.1; only = λ other h. one_outcome method (start method) other found.0 h found.1 }

pub returns-clause-accepted : goal.returns-clause-accepted
returns-clause-accepted c = λ method l. ((λ a. (a.0, accepted_sound method a.0 l a.1)), (λ a. solution_accepted method a.0 l a.1))

pub returns-clause-last : goal.returns-clause-last
returns-clause-last c = λ method last l h. record { solution = accepted_sound method last l h; least = λ cells rules. last_least method cells rules l last h }
