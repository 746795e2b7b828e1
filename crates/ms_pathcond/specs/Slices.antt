-- The slice of a condition: the literals that share parameters, transitively, with the last ones.
use Rattle.std.specs.Prelude.{◌≡◌, ◌≢◌, ◌≤◌, ℕ, suc, List, [], ◌∷◌, Some, fold, slice_get}
use Rattle.std.specs.Int.Bits.{bit_and, bit_or}
use Rattle.ms_terms.specs.declared.term.Term.{Term as Node}
use Rattle.ms_pathcond.specs.declared.literal.Literal.{Literal}
use Rattle.ms_pathcond.specs.Literals.{supports}

-- Which literals belong, by their places and the parameters of each, a bit for each: the least set that has
-- those at a place and after it, and each literal that shares a parameter with one that belongs.
pub data Belongs (supports : List ℕ) (first : ℕ) : ℕ → Type 0 where
  Last : (place : ℕ) → first ≤ place → Belongs supports first place
  Shares : (other place support its : ℕ) → Belongs supports first other → slice_get supports other ≡ Some its → slice_get supports place ≡ Some support → bit_and support its ≢ 0 → Belongs supports first place

-- the items at the places of a set, counted from a place on, in their order
pub data Picks {X : Type 0} (IsIn : ℕ → Type 0) : ℕ → List X → List X → Type 0 where
  Ends : (place : ℕ) → Picks IsIn place [] []
  Takes : (place : ℕ) (x : X) (xs picked : List X) → IsIn place → Picks IsIn (suc place) xs picked → Picks IsIn place (x ∷ xs) (x ∷ picked)
  Leaves : (place : ℕ) (x : X) (xs picked : List X) → (IsIn place → ⊥) → Picks IsIn (suc place) xs picked → Picks IsIn place (x ∷ xs) picked

-- the parameters in any of these
abbrev pub params_of : List ℕ → ℕ
params_of supports = fold bit_or 0 supports

-- some literals and the parameters in them
pub record Slice : Type 0 where
  pub literals : List Literal
  pub params : ℕ

-- The slice of literals over a table from a place on: those that belong, in their order, and the parameters
-- in them.
pub record IsSlice (nodes : List Node) (all : List Literal) (first : ℕ) (slice : Slice) : Type 0 where
  pub literals : Picks (Belongs (supports nodes all) first) 0 all slice.literals
  pub params : slice.params ≡ params_of (supports nodes slice.literals)
