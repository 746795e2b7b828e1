use Rattle.std.proofs.Common.{rules}
use Rattle.std.proofs.lemmas.Int.{wraps}
use Rattle.ms_words.proofs.operator.apply1.Goals as goal

pub returns-in-Neg : goal.returns-in-Neg
returns-in-Neg c = search (rules, wraps)
