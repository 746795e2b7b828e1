-- How much may be made.
use Rattle.std.proofs.Common.{◌≡◌, ℕ, ◌+◌, ◌<◌, ◌≤◌, Bool, true, false, ◌&&◌, nat_le, nat_lt, nat_eq, List, [], ◌∷◌, refl, ap, arith}
use Rattle.std.specs.Prelude.{IsTrue, ◌==◌, ◌||◌}
use Rattle.std.specs.List.{list_any}
use Rattle.std.proofs.lemmas.Bool.{and_parts, leb-true, ltb-true}
use Rattle.ms_machine.specs.Effects.{greatest_length, most_cells, most_made}
use Rattle.ms_machine.specs.Values.{cells_of, is_started}
use Rattle.ms_interpreter.specs.Frames.{Shared, has_room, made_in}

pub made_is : {I : Type 0} (shared : Shared I) (made : ℕ) → made ≡ made_in shared → nat_lt made 4096 ≡ nat_lt (made_in shared) most_made
unfolding most_made
made_is shared made is = ap (λ (n : ℕ). nat_lt n 4096) is

pub too_long : {I : Type 0} (shared : Shared I) (size : ℕ) → 256 < size → has_room shared size ≡ false
unfolding greatest_length
too_long shared size long = grind arith

pub too_many : {I : Type 0} (shared : Shared I) (size : ℕ) → size ≤ 256 → 4096 < cells_of shared.arrays + size → has_room shared size ≡ false
unfolding greatest_length most_cells
too_many shared size short many = grind arith

pub room_is : {I : Type 0} (shared : Shared I) (size : ℕ) → size ≤ 256 → cells_of shared.arrays + size ≤ 4096 → has_room shared size ≡ nat_lt (made_in shared) most_made
unfolding greatest_length most_cells
room_is shared size short few = grind arith

-- what room means
pub record Fits {I : Type 0} (shared : Shared I) (size : ℕ) : Type 0 where
  pub short : size ≤ 256
  pub few : cells_of shared.arrays + size ≤ 4096
  pub made : made_in shared < 4096

pub room_fits : {I : Type 0} (shared : Shared I) (size : ℕ) → IsTrue (has_room shared size) → Fits shared size
unfolding greatest_length most_cells most_made
room_fits shared size room =
    let parts = and_parts (nat_le size 256) (nat_le (cells_of shared.arrays + size) 4096 && nat_lt (made_in shared) 4096) room in
    let others = and_parts (nat_le (cells_of shared.arrays + size) 4096) (nat_lt (made_in shared) 4096) parts.1 in
    record { short = leb-true _ _ parts.0; few = leb-true _ _ others.0; made = ltb-true _ _ others.1 }

pub made_fits : {I : Type 0} (shared : Shared I) → nat_lt (made_in shared) most_made ≡ true → made_in shared < 4096
unfolding most_made
made_fits shared fits = ltb-true _ _ fits

-- whether a class is among those that were started
pub among_started : (class : ℕ) (started : List ℕ) → list_any (λ (first : ℕ). nat_eq first class) started ≡ is_started started class
among_started class [] = refl
among_started class (first ∷ started) = ap (λ (b : Bool). first == class || b) (among_started class started)
