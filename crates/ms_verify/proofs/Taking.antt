-- What is taken from a stack and from locals, place by place.
use Rattle.std.proofs.Common.{◌≡◌, ℕ, zero, suc, ◌+◌, ◌<◌, ◌≤◌, Bool, true, false, ◌&&◌, List, [], ◌∷◌, ◌++◌, length, map, drop, replicate, slice_get, get_or, Option, Some, None, refl, sym, ap, subst, append_assoc, arith}
use Rattle.std.specs.Prelude.{option_map}
use Rattle.std.proofs.lemmas.Option.{slice_get-get_or, slice_get_past}
use Rattle.ms_typing.specs.declared.kind.PlaceKind.{PlaceKind}
use Rattle.ms_typing.specs.declared.kind.PlaceKind.TheVariants.{Unset}
use Rattle.ms_typing.specs.Rules as rules
use Rattle.ms_typing.specs.Rules.{all_meet, kind_at, meets, or_none}
use Rattle.ms_machine.specs.Effects.{values_at, with_value}
use Rattle.ms_verify.specs.declared.line.Want.{Want}
use Rattle.ms_verify.specs.declared.line.Want.TheVariants.{Anything}
use Rattle.ms_verify.specs.Told.{want_told}

some_is : {A : Type 0} (x y : A) → Some x ≡ Some y → x ≡ y
some_is x y e = cc

-- ONE PLACE

kind_found : (kinds : List PlaceKind) (place : ℕ) (kind : PlaceKind) → slice_get kinds place ≡ Some kind → kind ≡ kind_at kinds place
kind_found [] place kind is = absurd (let e = is in cc)
kind_found (first ∷ kinds) zero kind is = sym (some_is first kind is)
kind_found (first ∷ kinds) (suc place) kind is = kind_found kinds place kind is

kind_missing : (kinds : List PlaceKind) (place : ℕ) → slice_get kinds place ≡ None → Unset ≡ kind_at kinds place
kind_missing [] place is = refl
kind_missing (first ∷ kinds) zero is = absurd (let e = is in cc)
kind_missing (first ∷ kinds) (suc place) is = kind_missing kinds place is

pub kind_there : (kinds : List PlaceKind) (place : ℕ) (d : PlaceKind) → place < length kinds → get_or kinds place d ≡ kind_at kinds place
kind_there kinds place d within = kind_found kinds place (get_or kinds place d) (slice_get-get_or kinds place d within)

pub no_kind : (kinds : List PlaceKind) (place : ℕ) → length kinds ≤ place → Unset ≡ kind_at kinds place
no_kind kinds place past = kind_missing kinds place (slice_get_past kinds place past)

-- WANTS

-- whether those from a place on are ones that may be taken
abbrev pub all_left : ℕ → List Want → List PlaceKind → Bool
all_left i wants kinds = all_meet (map want_told (drop i wants)) (drop i kinds)

want_found : (i : ℕ) (wants : List Want) (kinds : List PlaceKind) (want : Want) (kind : PlaceKind) → slice_get wants i ≡ Some want → slice_get kinds i ≡ Some kind → all_left i wants kinds ≡ (meets (want_told want) kind && all_left (suc i) wants kinds)
want_found i [] kinds want kind is there = absurd (let e = is in cc)
want_found i (first ∷ wants) [] want kind is there = absurd (let e = there in cc)
want_found zero (first ∷ wants) (top ∷ kinds) want kind is there = rw (some_is first want is, some_is top kind there) refl
want_found (suc i) (first ∷ wants) (top ∷ kinds) want kind is there = want_found i wants kinds want kind is there

want_missing : (i : ℕ) (wants : List Want) (kinds : List PlaceKind) (want : Want) → slice_get wants i ≡ Some want → slice_get kinds i ≡ None → all_left i wants kinds ≡ false
want_missing i [] kinds want is none = absurd (let e = is in cc)
want_missing zero (first ∷ wants) [] want is none = refl
want_missing (suc i) (first ∷ wants) [] want is none = by_rest (drop i wants) (slice_left wants i want is)
  where
    slice_left : (xs : List Want) (i : ℕ) (x : Want) → slice_get xs i ≡ Some x → 0 < length (drop i xs)
    slice_left [] i x e = absurd (let f = e in cc)
    slice_left (y ∷ xs) zero x e = omega arith
    slice_left (y ∷ xs) (suc i) x e = slice_left xs i x e

    by_rest : (xs : List Want) → 0 < length xs → all_meet (map want_told xs) [] ≡ false
    by_rest [] some = absurd (omega (arith, some))
    by_rest (x ∷ xs) some = refl
want_missing zero (first ∷ wants) (top ∷ kinds) want is none = absurd (let e = none in cc)
want_missing (suc i) (first ∷ wants) (top ∷ kinds) want is none = want_missing i wants kinds want is none

-- one more may be taken
pub one_meets : (i : ℕ) (wants : List Want) (kinds : List PlaceKind) (w : Want) (k : PlaceKind) → i < length wants → i < length kinds → all_left i wants kinds ≡ (meets (want_told (get_or wants i w)) (get_or kinds i k) && all_left (i + 1) wants kinds)
one_meets i wants kinds w k within there =
    let more : suc i ≡ i + 1 = omega arith in
    subst (λ n. all_left i wants kinds ≡ (meets (want_told (get_or wants i w)) (get_or kinds i k) && all_left n wants kinds)) more
    (want_found i wants kinds (get_or wants i w) (get_or kinds i k) (slice_get-get_or wants i w within) (slice_get-get_or kinds i k there))

-- there is no more
pub none_there : (i : ℕ) (wants : List Want) (kinds : List PlaceKind) (w : Want) → i < length wants → length kinds ≤ i → all_left i wants kinds ≡ false
none_there i wants kinds w within past = want_missing i wants kinds (get_or wants i w) (slice_get-get_or wants i w within) (slice_get_past kinds i past)

-- all wants were met
pub none_left : (i : ℕ) (wants : List Want) (kinds : List PlaceKind) → length wants ≤ i → all_left i wants kinds ≡ true
none_left zero [] kinds past = refl
none_left (suc i) [] kinds past = refl
none_left zero (first ∷ wants) kinds past = absurd (omega (arith, past))
none_left (suc i) (first ∷ wants) [] past = rw (none_after i wants (omega (arith, past))) refl
  where
    none_after : (i : ℕ) (wants : List Want) → length wants ≤ i → drop i wants ≡ []
    none_after zero [] past = refl
    none_after (suc i) [] past = refl
    none_after zero (w ∷ wants) past = absurd (omega (arith, past))
    none_after (suc i) (w ∷ wants) past = none_after i wants (omega (arith, past))
none_left (suc i) (first ∷ wants) (top ∷ kinds) past = none_left i wants kinds (omega (arith, past))

-- so many of anything
pub anything_told : (count : ℕ) → map want_told (replicate count Anything) ≡ replicate count rules.Anything
anything_told zero = refl
anything_told (suc count) = ap (λ wants. rules.Anything ∷ wants) (anything_told count)

-- PLACES

-- with these in front
abbrev pub before : List PlaceKind → List PlaceKind → List PlaceKind
before kinds others = kinds ++ others

-- those that were picked, and those of the places from one on
abbrev pub picked_and : List PlaceKind → List PlaceKind → ℕ → List ℕ → Option (List PlaceKind)
picked_and picked kinds i places = option_map (before picked) (values_at kinds (drop i places))

joined : (picked : List PlaceKind) (kind : PlaceKind) (found : Option (List PlaceKind)) → option_map (before picked) (with_value (Some kind) found) ≡ option_map (before (picked ++ kind ∷ [])) found
joined picked kind None = refl
joined picked kind (Some others) = ap (λ (l : List PlaceKind). Some l) (sym (append_assoc picked (kind ∷ []) others))

-- nothing was picked yet
pub none_picked : (kinds : List PlaceKind) (places : List ℕ) → values_at kinds places ≡ picked_and [] kinds 0 places
none_picked kinds places = by_found (values_at kinds places)
  where
    by_found : (found : Option (List PlaceKind)) → found ≡ option_map (before []) found
    by_found None = refl
    by_found (Some x) = refl

place_found : (picked kinds : List PlaceKind) (i : ℕ) (places : List ℕ) (place : ℕ) (kind : PlaceKind) → slice_get places i ≡ Some place → slice_get kinds place ≡ Some kind → picked_and picked kinds i places ≡ picked_and (picked ++ kind ∷ []) kinds (suc i) places
place_found picked kinds i [] place kind is there = absurd (let e = is in cc)
place_found picked kinds zero (first ∷ places) place kind is there = rw (some_is first place is, there) (joined picked kind (values_at kinds places))
place_found picked kinds (suc i) (first ∷ places) place kind is there = place_found picked kinds i places place kind is there

place_missing : (picked kinds : List PlaceKind) (i : ℕ) (places : List ℕ) (place : ℕ) → slice_get places i ≡ Some place → slice_get kinds place ≡ None → picked_and picked kinds i places ≡ None
place_missing picked kinds i [] place is none = absurd (let e = is in cc)
place_missing picked kinds zero (first ∷ places) place is none = rw (some_is first place is, none) refl
place_missing picked kinds (suc i) (first ∷ places) place is none = place_missing picked kinds i places place is none

-- one more is picked
pub one_picked : (picked kinds : List PlaceKind) (i : ℕ) (places : List ℕ) (p : ℕ) (k : PlaceKind) → i < length places → get_or places i p < length kinds → picked_and picked kinds i places ≡ picked_and (picked ++ get_or kinds (get_or places i p) k ∷ []) kinds (i + 1) places
one_picked picked kinds i places p k within there =
    let more : suc i ≡ i + 1 = omega arith in
    let kind = get_or kinds (get_or places i p) k in
    subst (λ n. picked_and picked kinds i places ≡ picked_and (picked ++ kind ∷ []) kinds n places) more
    (place_found picked kinds i places (get_or places i p) kind (slice_get-get_or places i p within) (slice_get-get_or kinds (get_or places i p) k there))

-- one isn't there
pub one_missing : (picked kinds : List PlaceKind) (i : ℕ) (places : List ℕ) (p : ℕ) → i < length places → length kinds ≤ get_or places i p → picked_and picked kinds i places ≡ None
one_missing picked kinds i places p within past = place_missing picked kinds i places (get_or places i p) (slice_get-get_or places i p within) (slice_get_past kinds (get_or places i p) past)

-- all are picked
pub all_picked : (picked kinds : List PlaceKind) (i : ℕ) (places : List ℕ) → length places ≤ i → picked_and picked kinds i places ≡ Some (picked ++ [])
all_picked picked kinds zero [] long = refl
all_picked picked kinds (suc i) [] long = refl
all_picked picked kinds zero (first ∷ places) long = absurd (omega (arith, long))
all_picked picked kinds (suc i) (first ∷ places) long = all_picked picked kinds i places (omega (arith, long))
