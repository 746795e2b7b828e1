-- Literals and slices where a table grows.
use Rattle.std.specs.Prelude.{◌≡◌, ◌≤◌, ℕ, List, length}
use Rattle.ms_terms.specs.declared.term.Term.{Term as Node}
use Rattle.ms_terms.specs.Nodes.{Grows}
use Rattle.ms_pathcond.specs.declared.literal.Literal.{Literal}
use Rattle.ms_pathcond.specs.Literals.{AreOf, Keeps}
use Rattle.ms_pathcond.specs.Mixing.{relations}
use Rattle.ms_pathcond.specs.Slices.{IsSlice, Slice}

-- A table that has grown keeps its numbers. One that keeps those of another has as many terms at least. Literals over
-- the other are over it, are the same relations there, and have the same slices.
pub record LawOfGrowing : Type 0 where
  pub grown : (old new : List Node) → Grows old new → Keeps old new
  pub many : (old new : List Node) → Keeps old new → length old ≤ length new
  pub are_of : (old new : List Node) (literals : List Literal) → Keeps old new → AreOf (length old) literals → AreOf (length new) literals
  pub relations_are : (old new : List Node) (literals : List Literal) → Keeps old new → AreOf (length old) literals → relations new literals ≡ relations old literals
  pub slices : (old new : List Node) (all : List Literal) (first : ℕ) (slice : Slice) → Keeps old new → AreOf (length old) all → IsSlice old all first slice → IsSlice new all first slice
