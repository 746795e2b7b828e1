-- An input put together from two, parameter by parameter, and what a slice says of it.
use Rattle.std.specs.Prelude.{◌≡◌, ◌==◌, cond, IsTrue, ℕ, suc, ℤ, Bool, List, [], ◌∷◌, ◌++◌, length, map, take}
use Rattle.std.specs.Int.{bit_at}
use Rattle.std.specs.List.{AllByRecursion}
use Rattle.ms_words.specs.Inputs.{Words, are_of, comes_before}
use Rattle.ms_words.specs.declared.kind.Kind.{Kind}
use Rattle.ms_terms.specs.declared.term.Term.{Term as Node}
use Rattle.ms_terms.specs.Terms.{Term}
use Rattle.ms_machine.specs.Control.{Program}
use Rattle.ms_machine.specs.Runs.{IsInputOf, IsLeast, IsMet, Takes}
use Rattle.ms_machine.specs.Tests.{Literal as Relation}
use Rattle.ms_machine.specs.Laws.{HasArm, IsWhole, KeysDiffer, condition, shadow_after}
use Rattle.ms_pathcond.specs.declared.literal.Literal.{Literal}
use Rattle.ms_pathcond.specs.Literals.{relation_of}
use Rattle.ms_pathcond.specs.Slices.{IsSlice, Slice}

-- whether the bit of a parameter is set
abbrev pub has : ℕ → ℕ → Bool
has params index = bit_at params index == 1

-- the first words at the places of a set, counted from a place on, and the second at the others; both are as many
abbrev pub mixed_from : (ℕ → Bool) → ℕ → List ℤ → List ℤ → List ℤ
mixed_from is_first index [] ys = ys
mixed_from is_first index (x ∷ xs) [] = []
mixed_from is_first index (x ∷ xs) (y ∷ ys) = cond (is_first index) x y ∷ mixed_from is_first (suc index) xs ys

-- the input that has these parameters from the first input and the others from the second
abbrev pub mixed : ℕ → Words → Words → Words
mixed params x y = record { kinds = y.kinds; words = mixed_from (has params) 0 x.words y.words }

-- the relations of literals
abbrev pub relations : List Node → List Literal → List (Relation Term)
relations nodes literals = map (relation_of nodes) literals

-- An input that makes a slice true, and one that makes the literals before the last ones true, are put
-- together to one that makes all true: the slice's parameters from the first, the others from the second.
abbrev pub LawOfSlices : Type 0
LawOfSlices = (nodes : List Node) (all : List Literal) (first : ℕ) (slice : Slice) → IsSlice nodes all first slice → (x y : Words) → IsWhole x → IsWhole y → x.kinds ≡ y.kinds
    → AllByRecursion (IsMet x) (relations nodes slice.literals) → AllByRecursion (IsMet y) (relations nodes (take first all)) → AllByRecursion (IsMet (mixed slice.params x y)) (relations nodes all)

-- x is the first input of these kinds that makes these true
pub record IsLeastMet (kinds : List Kind) (literals : List (Relation Term)) (x : Words) : Type 0 where
  pub kinds_are : x.kinds ≡ kinds
  pub words : IsTrue (are_of kinds x.words)
  pub met : AllByRecursion (IsMet x) literals
  pub first : (y : Words) → y.kinds ≡ kinds → IsTrue (are_of kinds y.words) → AllByRecursion (IsMet y) literals → IsTrue (comes_before kinds y.words x.words) → ⊥

-- The first input that takes p with an arm is the first of the slice on the slice's parameters, and the first
-- input that takes p on the others. The slice is that of the literals on the way through p with the arm, from
-- those of the arm on. The keys of each switch differ, and the choice has the arm.
abbrev pub LeastOfSlices : Program → Type 0
LeastOfSlices P = KeysDiffer P → (p : List ℕ) (arm : ℕ) → HasArm (shadow_after P P.entry.kinds p).after arm
    → (nodes : List Node) (all : List Literal) (slice : Slice) → relations nodes all ≡ condition P P.entry.kinds (p ++ arm ∷ []) → IsSlice nodes all (length (condition P P.entry.kinds p)) slice
    → (x y : Words) → IsLeastMet P.entry.kinds (relations nodes slice.literals) x → IsLeast P p y → IsLeast P (p ++ arm ∷ []) (mixed slice.params x y)

-- An input that takes p with an arm makes the slice true: so where no input of the entry's kinds does, none takes
-- it. The keys of each switch differ, some input y takes p, and the choice has the arm.
abbrev pub TakersMeetSlices : Program → Type 0
TakersMeetSlices P = KeysDiffer P → (p : List ℕ) (arm : ℕ) → HasArm (shadow_after P P.entry.kinds p).after arm
    → (nodes : List Node) (all : List Literal) (slice : Slice) → relations nodes all ≡ condition P P.entry.kinds (p ++ arm ∷ []) → IsSlice nodes all (length (condition P P.entry.kinds p)) slice
    → (x y : Words) → IsInputOf P x → IsInputOf P y → Takes P y p → Takes P x (p ++ arm ∷ []) → AllByRecursion (IsMet x) (relations nodes slice.literals)
