-- A loop over parts reads what is repeated: lemmas for the crates that read formats.
use Rattle.std.proofs.Common.{◌≡◌, ℕ, suc, ◌+◌, ◌-◌, ◌<◌, ◌≤◌, List, [], ◌∷◌, ◌++◌, Result, Ok, Err, sym, ap, ◌∙◌, arith}
use Rattle.ms_pool.specs.Places.{Place}
use Rattle.ms_pool.specs.Formats.{Format, added, and_then, repeated}

-- what is read behind so many parts is what is read from the start
abbrev pub IsReading : {Fault X : Type 0} → (X → Format Fault X) → X → (left : ℕ) → Place → Result (X × Place) Fault → Type 0
IsReading part known left place total = (repeated left part known).read place ≡ total

pub goes_on : {Fault X : Type 0} (part : X → Format Fault X) (known x : X) (count i : ℕ) (place after : Place) (total : Result (X × Place) Fault) → i < count → (part known).read place ≡ Ok (x, after) → IsReading part known (count - i) place total → IsReading part x (count - (i + 1)) after total
goes_on {Fault = Fault} {X = X} part known x count i place after total below found so_far =
    let more : count - i ≡ suc (count - (i + 1)) = omega arith in
    let one : (repeated (count - i) part known).read place ≡ and_then ((part known).read place) (λ (y : X × Place). (repeated (count - (i + 1)) part y.0).read y.1) = ap (λ (n : ℕ). (repeated n part known).read place) more in
    sym (one ∙ ap (λ (r : Result (X × Place) Fault). and_then r (λ (y : X × Place). (repeated (count - (i + 1)) part y.0).read y.1)) found) ∙ so_far

pub ends : {Fault X : Type 0} (part : X → Format Fault X) (known : X) (count i : ℕ) (place : Place) (fault : Fault) (total : Result (X × Place) Fault) → i < count → (part known).read place ≡ Err fault → IsReading part known (count - i) place total → total ≡ Err fault
ends {Fault = Fault} {X = X} part known count i place fault total below fails so_far =
    let more : count - i ≡ suc (count - (i + 1)) = omega arith in
    let one : (repeated (count - i) part known).read place ≡ and_then ((part known).read place) (λ (y : X × Place). (repeated (count - (i + 1)) part y.0).read y.1) = ap (λ (n : ℕ). (repeated n part known).read place) more in
    sym so_far ∙ one ∙ ap (λ (r : Result (X × Place) Fault). and_then r (λ (y : X × Place). (repeated (count - (i + 1)) part y.0).read y.1)) fails

pub is_done : {Fault X : Type 0} (part : X → Format Fault X) (known : X) (count i : ℕ) (place : Place) (total : Result (X × Place) Fault) → count ≤ i → IsReading part known (count - i) place total → total ≡ Ok (known, place)
is_done part known count i place total past so_far =
    let none : count - i ≡ 0 = omega arith in
    sym so_far ∙ ap (λ (n : ℕ). (repeated n part known).read place) none

-- PARTS THAT ARE KEPT

pub added_on : {Fault X : Type 0} (part : List X → Format Fault X) (before : List X) (x : X) (count i : ℕ) (place after : Place) (total : Result (List X × Place) Fault) → i < count → (part before).read place ≡ Ok (x, after) → IsReading (added part) before (count - i) place total
    → IsReading (added part) (before ++ x ∷ []) (count - (i + 1)) after total
added_on {Fault = Fault} {X = X} part before x count i place after total below found so_far =
    goes_on (added part) before (before ++ x ∷ []) count i place after total below (ap (λ (r : Result (X × Place) Fault). and_then r (λ (y : X × Place). Ok (before ++ y.0 ∷ [], y.1))) found) so_far
