use Rattle.std.proofs.Common.{drop}
use Rattle.ms_words.proofs.Descriptors.{AreTypes}
use Rattle.ms_words.proofs.descriptor.types.Given as goal

-- the types that were read and what is left are the parameters
abbrev pub invariant-loop-letter : goal.invariant-loop-letter
invariant-loop-letter l = AreTypes l.text l.types.items l.in_array (drop l.letter-index l.text)
