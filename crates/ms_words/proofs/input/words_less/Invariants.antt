use Rattle.std.proofs.Common.{◌≡◌, drop}
use Rattle.ms_words.specs.Inputs.{comes_before}
use Rattle.ms_words.proofs.input.words_less.Given as goal

-- the words from here on decide
abbrev pub invariant-loop-i : goal.invariant-loop-i
invariant-loop-i l = comes_before (drop l.i l.kinds) (drop l.i l.a) (drop l.i l.b) ≡ comes_before l.kinds l.a l.b
