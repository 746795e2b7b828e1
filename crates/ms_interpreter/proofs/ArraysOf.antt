-- Arrays as they are kept: a vector of cells each.
use Rattle.std.proofs.Common.{◌≡◌, ℕ, zero, suc, ◌+◌, ◌<◌, ◌≤◌, List, [], ◌∷◌, ◌++◌, length, get_or, slice_get, slice_set, replicate, refl, ap, ◌∙◌, arith}
use Rattle.std.specs.Prelude.{option_map}
use Rattle.std.specs.Global.{Vec}
use Rattle.std.proofs.lemmas.Option.{slice_get-map}
use Rattle.std.proofs.lemmas.List.{length-replicate, length-set, map-append}
use Rattle.ms_machine.specs.Values.{cells_of}
use Rattle.ms_interpreter.specs.Frames.{lists_in}

-- the cells of an array
pub list_at : {I : Type 0} (arrays : List (Vec I)) (number : ℕ) → slice_get (lists_in arrays) number ≡ option_map (λ vector. vector.items) (slice_get arrays number)
list_at arrays number = slice_get-map (λ (vector : Vec _). vector.items) arrays number

-- one array more has its cells more
pub cells_more : {V : Type 0} (arrays : List (List V)) (cells : List V) → cells_of (arrays ++ cells ∷ []) ≡ cells_of arrays + length cells
cells_more [] cells = omega arith
cells_more (first ∷ arrays) cells = omega (arith, cells_more arrays cells)

-- a cell changed leaves their number
pub cells_as_many : {V : Type 0} (arrays : List (List V)) (number place : ℕ) (a : V) → cells_of (slice_set arrays number (slice_set (get_or arrays number []) place a)) ≡ cells_of arrays
cells_as_many [] number place a = refl
cells_as_many (first ∷ arrays) zero place a = ap (λ (n : ℕ). n + cells_of arrays) (length-set first place a)
cells_as_many (first ∷ arrays) (suc number) place a = ap (λ (n : ℕ). length first + n) (cells_as_many arrays number place a)

-- the cells of all arrays and of one more
pub added_cells : {I : Type 0} (arrays : List (Vec I)) (array : Vec I) (cell : I) (size : ℕ) → array.items ≡ replicate size cell
    → cells_of (lists_in (arrays ++ array ∷ [])) ≡ cells_of (lists_in arrays) + size
added_cells arrays array cell size is =
    ap cells_of (map-append (λ (vector : Vec _). vector.items) arrays (array ∷ [])) ∙ cells_more (lists_in arrays) array.items
    ∙ ap (λ (n : ℕ). cells_of (lists_in arrays) + n) (ap length is ∙ length-replicate size cell)

-- an array changed in one cell
pub changed : {I : Type 0} (arrays : List (Vec I)) (number place : ℕ) (a : I) (old new : Vec I) → number < length arrays → old ≡ get_or arrays number old → new.items ≡ slice_set old.items place a
    → lists_in (slice_set arrays number new) ≡ slice_set (lists_in arrays) number (slice_set (get_or (lists_in arrays) number []) place a)
changed [] number place a old new within is set = absurd (omega (arith, within))
changed (first ∷ arrays) zero place a old new within is set = ap (λ (cells : List _). cells ∷ lists_in arrays) (set ∙ ap (λ (vector : Vec _). slice_set vector.items place a) is)
changed (first ∷ arrays) (suc number) place a old new within is set = ap (λ (others : List (List _)). first.items ∷ others) (changed arrays number place a old new (omega (arith, within)) is set)

-- no array has more cells than all have
pub fewer : {I : Type 0} (arrays : List (Vec I)) (number : ℕ) (cells : Vec I) → number < length arrays → cells ≡ get_or arrays number cells → length cells.items ≤ cells_of (lists_in arrays)
fewer [] number cells within is = absurd (omega (arith, within))
fewer (first ∷ arrays) zero cells within is = let same = ap (λ (vector : Vec _). length vector.items) is in omega (arith, same)
fewer (first ∷ arrays) (suc number) cells within is = omega (arith, fewer arrays number cells (omega (arith, within)) is)
