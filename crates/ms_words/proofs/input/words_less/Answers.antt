use Rattle.std.proofs.Common.{pos, arith, rules}
use Rattle.std.proofs.lemmas.Bool.Decides.{nat_tests}
use Rattle.ms_words.specs.declared.kind.Kind.TheVariants.{Z}
use Rattle.ms_words.proofs.Places.{comes_before_more}
use Rattle.ms_words.proofs.input.words_less.Goals as goal

pub returns-then-first-second : goal.returns-then-first-second
returns-then-first-second c =
    let more = comes_before_more c.args.kinds.now c.args.a.now c.args.b.now c.loop-i.i _ _ Z (pos 0) (pos 0) (omega arith) (omega arith) (omega arith) (search rules) (search rules) c.unsigned-first.ensures c.unsigned-second.ensures in
    grind (arith, nat_tests, more, c.loop-i.invariant)

pub loop-i-preserved : goal.loop-i-preserved
loop-i-preserved c =
    let more = comes_before_more c.args.kinds.now c.args.a.now c.args.b.now c.loop-i.i _ _ Z (pos 0) (pos 0) (omega arith) (omega arith) (omega arith) (search rules) (search rules) c.unsigned-first.ensures c.unsigned-second.ensures in
    grind (arith, nat_tests, more, c.loop-i.invariant)
