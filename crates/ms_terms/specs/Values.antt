-- The words of the terms of a table, from the words of earlier ones.
use Rattle.std.specs.Prelude.{ℤ, pos, List, slice_get, unwrap_or}
use Rattle.ms_words.specs.Words.{applied1, applied2}
use Rattle.ms_terms.specs.declared.term.Term.{Term as Node}
use Rattle.ms_terms.specs.declared.term.Term.TheVariants as node

-- the word of a node's term, by those of the terms before it and of the parameters
abbrev pub word_over : List ℤ → List ℤ → Node → ℤ
word_over words parameters (node.Constant word) = word
word_over words parameters (node.Param index kind) = unwrap_or (slice_get parameters index) (pos 0)
word_over words parameters (node.Unary op a) = applied1 op (unwrap_or (slice_get words a) (pos 0))
word_over words parameters (node.Binary op a b) = applied2 op (unwrap_or (slice_get words a) (pos 0)) (unwrap_or (slice_get words b) (pos 0))
