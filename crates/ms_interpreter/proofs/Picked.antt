-- Values of places, picked one after the other.
use Rattle.std.proofs.Common.{◌≡◌, ℕ, zero, suc, ◌+◌, ◌<◌, ◌≤◌, List, [], ◌∷◌, ◌++◌, append_assoc, append-nil, length, drop, get_or, slice_get, Option, Some, None, refl, sym, ap, subst, arith}
use Rattle.std.specs.Prelude.{option_map}
use Rattle.std.proofs.lemmas.Option.{slice_get-get_or, slice_get_past}
use Rattle.ms_machine.specs.Effects.{values_at, with_value}

-- those that were picked, and those of the places that are left
abbrev pub picked_and : {A : Type 0} → List A → List A → ℕ → List ℕ → Option (List A)
picked_and picked values i places = option_map (λ others. picked ++ others) (values_at values (drop i places))

joined : {A : Type 0} (picked : List A) (value : A) (found : Option (List A)) → option_map (λ others. picked ++ others) (with_value (Some value) found) ≡ option_map (λ others. (picked ++ value ∷ []) ++ others) found
joined picked value None = refl
joined picked value (Some others) = ap (λ (l : List _). Some l) (sym (append_assoc picked (value ∷ []) others))

none_before : {A : Type 0} (found : Option (List A)) → found ≡ option_map (λ others. [] ++ others) found
none_before None = refl
none_before (Some others) = refl

-- nothing was picked yet
pub none_picked : {A : Type 0} (values : List A) (places : List ℕ) → values_at values places ≡ picked_and [] values 0 places
none_picked values places = none_before (values_at values places)

found_next : {A : Type 0} (picked values : List A) (i : ℕ) (places : List ℕ) (place : ℕ) (value : A) → slice_get places i ≡ Some place → slice_get values place ≡ Some value
    → picked_and picked values i places ≡ picked_and (picked ++ value ∷ []) values (suc i) places
found_next picked values zero [] place value is there = absurd (let e = is in cc)
found_next picked values (suc i) [] place value is there = absurd (let e = is in cc)
found_next picked values zero (first ∷ places) place value is there = let same : first ≡ place = cc in rw (same, there) (joined picked value (values_at values places))
found_next picked values (suc i) (first ∷ places) place value is there = found_next picked values i places place value is there

missed_next : {A : Type 0} (picked values : List A) (i : ℕ) (places : List ℕ) (place : ℕ) → slice_get places i ≡ Some place → slice_get values place ≡ None → picked_and picked values i places ≡ None
missed_next picked values zero [] place is there = absurd (let e = is in cc)
missed_next picked values (suc i) [] place is there = absurd (let e = is in cc)
missed_next picked values zero (first ∷ places) place is there = let same : first ≡ place = cc in rw (same, there) refl
missed_next picked values (suc i) (first ∷ places) place is there = missed_next picked values i places place is there

-- one more is picked
pub one_picked : {A : Type 0} (picked values : List A) (i : ℕ) (places : List ℕ) (p : ℕ) (v : A) → i < length places → get_or places i p < length values
    → picked_and picked values i places ≡ picked_and (picked ++ get_or values (get_or places i p) v ∷ []) values (i + 1) places
one_picked picked values i places p v within there =
    let more : suc i ≡ i + 1 = omega arith in
    let value = get_or values (get_or places i p) v in
    subst (λ (n : ℕ). picked_and picked values i places ≡ picked_and (picked ++ value ∷ []) values n places) more
    (found_next picked values i places (get_or places i p) value (slice_get-get_or places i p within) (slice_get-get_or values (get_or places i p) v there))

-- one isn't there
pub one_missing : {A : Type 0} (picked values : List A) (i : ℕ) (places : List ℕ) (p : ℕ) → i < length places → length values ≤ get_or places i p → picked_and picked values i places ≡ None
one_missing picked values i places p within past = missed_next picked values i places (get_or places i p) (slice_get-get_or places i p within) (slice_get_past values (get_or places i p) past)

-- all are picked
pub all_picked : {A : Type 0} (picked values : List A) (i : ℕ) (places : List ℕ) → length places ≤ i → picked_and picked values i places ≡ Some picked
all_picked picked values zero [] long = ap (λ (l : List _). Some l) (append-nil picked)
all_picked picked values (suc i) [] long = ap (λ (l : List _). Some l) (append-nil picked)
all_picked picked values zero (first ∷ places) long = absurd (omega (arith, long))
all_picked picked values (suc i) (first ∷ places) long = all_picked picked values i places (omega (arith, long))
