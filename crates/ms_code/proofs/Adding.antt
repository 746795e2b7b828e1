-- A loop over parts that may fail for want of memory.
use Rattle.std.proofs.Common.{◌≡◌, ℕ, ◌-◌, ◌<◌, List, ◌∷◌, ◌++◌, [], Result, Ok, Err, ap}
use Rattle.ms_pool.specs.Places.{Place}
use Rattle.ms_pool.specs.Formats.{Format, added, and_then}
use Rattle.ms_pool.specs.Loops.{IsReading, ends}
use Rattle.ms_code.specs.declared.trouble.Trouble.{Trouble}
use Rattle.ms_code.specs.declared.trouble.Trouble.TheVariants.{Foreign, At, NoMemory}
use Rattle.ms_code.specs.Finds.{Fails}

pub is_trouble : {Y : Type 0} (trouble : Trouble) (read : Result Y Trouble) → read ≡ Err trouble → Fails trouble read
is_trouble Foreign read is = is
is_trouble (At kind at) read is = is
is_trouble NoMemory read is = tt

pub added_ends : {X : Type 0} (part : List X → Format Trouble X) (before : List X) (count i : ℕ) (place : Place) (trouble : Trouble) (total : Result (List X × Place) Trouble) → i < count → (part before).read place ≡ Err trouble → IsReading (added part) before (count - i) place total → Fails trouble total
added_ends {X = X} part before count i place trouble total below fails so_far =
    is_trouble trouble total (ends (added part) before count i place trouble total below (ap (λ (r : Result (X × Place) Trouble). and_then r (λ (y : X × Place). Ok (before ++ y.0 ∷ [], y.1))) fails) so_far)
