-- The table of terms: nodes that name their operands by the places of earlier ones.
use Rattle.std.specs.Prelude.{◌≡◌, ◌⊎◌, ◌<◌, ◌≤◌, ℕ, pos, List, [], ◌∷◌, ◌++◌, length, Some, map, slice_get, unwrap_or}
use Rattle.ms_terms.specs.declared.term.Term.{Term as Node}
use Rattle.ms_terms.specs.declared.term.Term.TheVariants as node
use Rattle.ms_terms.specs.Terms.{Term, Constant, Param, Unary, Binary, params}

-- the term at a place
abbrev pub term_at : List Term → ℕ → Term
term_at terms place = unwrap_or (slice_get terms place) (Constant (pos 0))

-- the term of a node, where its operands are at places of these terms
abbrev pub over : List Term → Node → Term
over terms (node.Constant word) = Constant word
over terms (node.Param index kind) = Param index kind
over terms (node.Unary op a) = Unary op (term_at terms a)
over terms (node.Binary op a b) = Binary op (term_at terms a) (term_at terms b)

-- these terms and, behind them, those of nodes over what stands before each
abbrev pub terms_behind : List Term → List Node → List Term
terms_behind terms [] = terms
terms_behind terms (first ∷ rest) = terms_behind (terms ++ over terms first ∷ []) rest

-- the terms of a table
abbrev pub terms_of : List Node → List Term
terms_of nodes = terms_behind [] nodes

-- the term of a number
abbrev pub term_of : List Node → ℕ → Term
term_of nodes number = term_at (terms_of nodes) number

-- the operands of a node are at places before this one, and the number of a parameter is at most 7
abbrev pub IsBelow : ℕ → Node → Type 0
IsBelow place (node.Constant word) = Unit {0}
IsBelow place (node.Param index kind) = index < 8
IsBelow place (node.Unary op a) = a < place
IsBelow place (node.Binary op a b) = (a < place) × (b < place)

-- each node is over earlier ones, and their numbers are of 32 bits
pub record IsTable (nodes : List Node) : Type 0 where
  pub earlier : (place : ℕ) (node : Node) → slice_get nodes place ≡ Some node → IsBelow place node
  pub few : length nodes ≤ 4294967295

-- each node has the parameters of its term beside it
abbrev pub AreParams : List (Node × ℕ) → Type 0
AreParams entries = map (λ entry. entry.1) entries ≡ map params (terms_of (map (λ entry. entry.0) entries))

-- each term is at one place: equal terms have equal numbers
abbrev pub EachOnce : List Term → Type 0
EachOnce terms = (term : Term) (i j : ℕ) → slice_get terms i ≡ Some term → slice_get terms j ≡ Some term → i ≡ j

-- no term of a table is this one
abbrev pub IsAbsent : List Node → Term → Type 0
IsAbsent nodes term = (place : ℕ) → slice_get (terms_of nodes) place ≡ Some term → ⊥

-- A table has grown to another: nodes may stand behind its own. So each of its numbers is that of the same term.
pub record Grows (old new : List Node) : Type 0 where
  pub more : List Node
  pub is : new ≡ old ++ more

-- A term has this number in the new table, in which each term has one number. It is the old table where the term is in
-- that, and else has the term behind those of the old one.
pub record Adds (old : List Node) (term : Term) (number : ℕ) (new : List Node) : Type 0 where
  pub is : slice_get (terms_of new) number ≡ Some term
  pub added : (new ≡ old) ⊎ (terms_of new ≡ terms_of old ++ term ∷ [])
  pub once : EachOnce (terms_of new)
