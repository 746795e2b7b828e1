-- How parameters are gathered.
use Rattle.std.specs.Prelude.{◌≡◌, ◌==◌, ◌<◌, ◌||◌, not, nat_le, ℕ, Bool, true, List, Some, get_or, map, slice_get, take}
use Rattle.std.specs.Int.Bits.{bit_and, bit_or}
use Rattle.ms_pathcond.specs.declared.literal.Literal.{Literal}
use Rattle.ms_pathcond.specs.Slices.{Belongs, Picks, Slice, params_of}

-- whether a literal is one of the last, or shares a parameter with those gathered
abbrev pub is_met : ℕ → ℕ → ℕ → ℕ → Bool
is_met place support first gathered = nat_le first place || not (bit_and support gathered == 0)

-- all that is gathered is of literals that belong
abbrev pub IsSound : List ℕ → ℕ → ℕ → Type 0
IsSound supports first gathered = (place support : ℕ) → slice_get supports place ≡ Some support → is_met place support first gathered ≡ true → Belongs supports first place

-- among the first places each literal that is met has its parameters gathered
abbrev pub IsClosed : List ℕ → ℕ → ℕ → ℕ → Type 0
IsClosed supports first gathered places = (place support : ℕ) → place < places → slice_get supports place ≡ Some support → is_met place support first gathered ≡ true → bit_or gathered support ≡ gathered

-- Of the first places the literals that are met are these, in their order, and these are their parameters.
pub record ArePicked (supports : List ℕ) (first gathered : ℕ) (all : List Literal) (places : ℕ) (slice : Slice) : Type 0 where
  pub literals : Picks (λ place. is_met place (get_or supports place 0) first gathered ≡ true) 0 (take places all) slice.literals
  pub params : (support : Literal → ℕ) → supports ≡ map support all → slice.params ≡ params_of (map support slice.literals)
