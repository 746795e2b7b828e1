use Rattle.std.proofs.Common.{rules}
use Rattle.std.proofs.lemmas.Int.{wraps}
use Rattle.ms_words.proofs.Wrapping.{and_is, or_is, xor_is}
use Rattle.ms_words.proofs.operator.apply2.Goals as goal

pub returns-in-Add : goal.returns-in-Add
returns-in-Add c = search (rules, wraps)

pub returns-in-Sub : goal.returns-in-Sub
returns-in-Sub c = search (rules, wraps)

pub returns-in-And : goal.returns-in-And
returns-in-And c = rw c.in-And.is (and_is c.args.a c.args.b c.ranges.a c.ranges.b)

pub returns-in-Or : goal.returns-in-Or
returns-in-Or c = rw c.in-Or.is (or_is c.args.a c.args.b c.ranges.a c.ranges.b)

pub returns-in-Xor : goal.returns-in-Xor
returns-in-Xor c = rw c.in-Xor.is (xor_is c.args.a c.args.b c.ranges.a c.ranges.b)
