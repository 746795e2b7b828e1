-- Laws: `least_of` gives least inputs, and `report` the list of paths, said without the tree of strings.
use Rattle.std.specs.Prelude.{◌≡◌, ℕ, ℤ, List, map, All, AllPairs, Contains, Some, None}
use Rattle.std.specs.declared.cmp.Ordering.TheVariants.{Less}
use Rattle.ms_words.specs.declared.end.PathEnd.{PathEnd}
use Rattle.ms_words.specs.Inputs.{Words}
use Rattle.ms_trie.specs.Choices.{choice_order}
use Rattle.ms_trie.specs.declared.row.Outcome.TheVariants.{Path}
use Rattle.ms_trie.specs.declared.row.PathRow.{PathRow}
use Rattle.ms_machine.specs.Control.{Program}
use Rattle.ms_machine.specs.Runs.{IsInputOf, IsLeast, Takes, end_of, string}
use Rattle.ms_jvm.specs.Ends.{path_end_of}
use Rattle.ms_session.specs.Paths.{input_with, least_of}

-- LEAST INPUTS

-- What `least_of` gives is the least input that takes the string, and it gives the least one where there is
-- one. Where it gives none, no input of the entry takes the string.
pub record LeastComesFirst (P : Program) (p : List ℕ) : Type 0 where
  pub found : (words : List ℤ) → least_of P p ≡ Some words → IsLeast P p (input_with P words)
  pub least : (x : Words) → IsLeast P p x → least_of P p ≡ Some x.words
  pub absent : least_of P p ≡ None → (x : Words) → IsInputOf P x → Takes P x p → ⊥

-- REPORTS

-- The row of a path: its string is the whole string, to this depth, of the least input that takes it; its
-- outcome is that input and the end of its run.
pub record IsPathRow (P : Program) (depth : ℕ) (row : PathRow) : Type 0 where
  pub input : Words
  pub end : PathEnd
  pub least : IsLeast P row.choices input
  pub choices : string P input depth ≡ row.choices
  pub ends : path_end_of (end_of P input depth) ≡ Some end
  pub outcome : row.outcome ≡ Path input end

-- p comes before q in choice order
abbrev pub Precedes : List ℕ → List ℕ → Type 0
Precedes p q = choice_order p q ≡ Less

-- the strings of the rows, in the order of the rows
abbrev pub strings_of : List PathRow → List (List ℕ)
strings_of rows = map (λ row. row.choices) rows

-- These rows list the paths to a depth: each is that of a path; the string of each input's run has a row; and they stand
-- in choice order, so that each string has one row alone.
pub record ListsPaths (P : Program) (depth : ℕ) (rows : List PathRow) : Type 0 where
  pub sound : All (IsPathRow P depth) rows
  pub complete : (x : Words) → IsInputOf P x → Contains (strings_of rows) (string P x depth)
  pub ordered : AllPairs Precedes (strings_of rows)

-- there is one such list at most
abbrev pub PathListIsUnique : Program → ℕ → Type 0
PathListIsUnique P depth = (rows others : List PathRow) → ListsPaths P depth rows → ListsPaths P depth others → rows ≡ others
