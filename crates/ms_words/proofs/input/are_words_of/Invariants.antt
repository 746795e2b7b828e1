use Rattle.std.proofs.Common.{◌≡◌, drop}
use Rattle.ms_words.specs.Inputs.{are_of}
use Rattle.ms_words.proofs.input.are_words_of.Given as goal

-- the words from here on decide
abbrev pub invariant-loop-i : goal.invariant-loop-i
invariant-loop-i l = are_of (drop l.i l.kinds) (drop l.i l.words) ≡ are_of l.kinds l.words
