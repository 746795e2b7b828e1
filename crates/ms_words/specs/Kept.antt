-- What holds of the eight places in which the kinds of an input are kept, and the eight of its words.
use Rattle.std.specs.Prelude.{ℕ, List, ℤ, pos, take, IsTrue}
use Rattle.ms_words.specs.declared.kind.Kind.{Kind}
use Rattle.ms_words.specs.declared.kind.Kind.TheVariants.{Z}
use Rattle.ms_words.specs.Inputs.{are_of}
use Rattle.ms_words.specs.Padding.{IsPadded}

-- `count` places are filled, and the words in them are of the kinds in them
pub record IsKept (kinds : List Kind) (words : List ℤ) (count : ℕ) : Type 0 where
  pub kinds_kept : IsPadded Z kinds count
  pub words_kept : IsPadded (pos 0) words count
  pub of_kinds : IsTrue (are_of (take count kinds) (take count words))
