-- Literals over a table of terms.
use Rattle.std.specs.Prelude.{◌≡◌, ℕ, ◌<◌, List, Some, map, slice_get}
use Rattle.std.specs.Int.Bits.{bit_or}
use Rattle.std.specs.List.{AllByRecursion}
use Rattle.ms_terms.specs.declared.term.Term.{Term as Node}
use Rattle.ms_terms.specs.Terms.{Term, params}
use Rattle.ms_terms.specs.Nodes.{term_of, terms_of}
use Rattle.ms_machine.specs.Tests.{Literal as Relation}
use Rattle.ms_pathcond.specs.declared.literal.Literal.{Literal}

-- the relation of two terms that a literal is
abbrev pub relation_of : List Node → Literal → Relation Term
relation_of nodes literal = record { rel = literal.rel; a = term_of nodes literal.a; b = term_of nodes literal.b }

-- the numbers of a literal are of a table of so many terms
pub record IsOf (count : ℕ) (literal : Literal) : Type 0 where
  pub a : literal.a < count
  pub b : literal.b < count

-- so are those of each of these
abbrev pub AreOf : ℕ → List Literal → Type 0
AreOf count literals = AllByRecursion (IsOf count) literals

-- the parameters in a relation: the bit of each, counted from the lowest
abbrev pub support_of : Relation Term → ℕ
support_of relation = bit_or (params relation.a) (params relation.b)

-- those of each literal
abbrev pub supports : List Node → List Literal → List ℕ
supports nodes literals = map (λ literal. support_of (relation_of nodes literal)) literals

-- each number of a table is that of the same term in the other
abbrev pub Keeps : List Node → List Node → Type 0
Keeps old new = (number : ℕ) (term : Term) → slice_get (terms_of old) number ≡ Some term → slice_get (terms_of new) number ≡ Some term
