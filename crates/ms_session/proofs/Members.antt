-- What is in a list, and lists in which each element stands in a relation to all later ones.
use Rattle.std.proofs.Common.{◌≡◌, ℕ, zero, suc, ◌+◌, ◌<◌, ◌≤◌, Bool, true, false, cond, List, [], ◌∷◌, ◌++◌, map, filter, Option, Some, None, ◌⊎◌, inl, inr, refl, sym, ap, ◌∙◌, subst, arith}
use Rattle.std.specs.List.{All, AllByRecursion, AllPairs, Contains, cons_option, filter_map, flat_map, list_any, range_with_len}
use Rattle.std.proofs.lemmas.List.Elements.{All-from_recursion}
use Rattle.std.proofs.lemmas.Bool.{cases_eq, or_cases, or_right}
use Rattle.ms_session.specs.Strings.{below}
use Rattle.ms_session.specs.Paths.{first_of}

-- ---- WHAT IS IN A LIST

-- x is one of the list
abbrev pub IsIn : {X : Type 0} → X → List X → Type 0
IsIn x [] = ⊥
IsIn x (y ∷ ys) = (y ≡ x) ⊎ IsIn x ys

in_left : {X : Type 0} (x : X) (xs ys : List X) → IsIn x xs → IsIn x (xs ++ ys)
in_left x [] ys is = absurd is
in_left x (y ∷ xs) ys (inl here) = inl here
in_left x (y ∷ xs) ys (inr later) = inr (in_left x xs ys later)

in_right : {X : Type 0} (x : X) (xs ys : List X) → IsIn x ys → IsIn x (xs ++ ys)
in_right x [] ys is = is
in_right x (y ∷ xs) ys is = inr (in_right x xs ys is)

from_both : {X : Type 0} (x : X) (xs ys : List X) → IsIn x (xs ++ ys) → IsIn x xs ⊎ IsIn x ys
from_both x [] ys is = inr is
from_both x (y ∷ xs) ys (inl here) = inl (inl here)
from_both x (y ∷ xs) ys (inr later) = elim (from_both x xs ys later) [
  | inl left ↦ inl (inr left)
  | inr right ↦ inr right
]

pub in_map : {X Y : Type 0} (f : X → Y) (x : X) (xs : List X) → IsIn x xs → IsIn (f x) (map f xs)
in_map f x [] is = absurd is
in_map f x (y ∷ xs) (inl here) = inl (ap f here)
in_map f x (y ∷ xs) (inr later) = inr (in_map f x xs later)

-- an element of the list that y is made of
pub record Origin {X : Type 0} (xs : List X) (Makes : X → Type 0) : Type 0 where
  pub x : X
  pub is : IsIn x xs
  pub makes : Makes x

origin_more : {X : Type 0} (x : X) (xs : List X) (Makes : X → Type 0) → Origin xs Makes → Origin (x ∷ xs) Makes
origin_more x xs Makes origin = record { x = origin.x; is = inr origin.is; makes = origin.makes }

pub from_map : {X Y : Type 0} (f : X → Y) (y : Y) (xs : List X) → IsIn y (map f xs) → Origin xs (λ x. f x ≡ y)
from_map f y [] is = absurd is
from_map f y (x ∷ xs) (inl here) = record { x = x; is = inl refl; makes = here }
from_map f y (x ∷ xs) (inr later) = origin_more x xs _ (from_map f y xs later)

pub in_flat : {X Y : Type 0} (f : X → List Y) (x : X) (y : Y) (xs : List X) → IsIn x xs → IsIn y (f x) → IsIn y (flat_map f xs)
in_flat f x y [] is part = absurd is
in_flat f x y (z ∷ xs) (inl here) part = in_left y (f z) (flat_map f xs) (subst (λ w. IsIn y (f w)) (sym here) part)
in_flat f x y (z ∷ xs) (inr later) part = in_right y (f z) (flat_map f xs) (in_flat f x y xs later part)

pub from_flat : {X Y : Type 0} (f : X → List Y) (y : Y) (xs : List X) → IsIn y (flat_map f xs) → Origin xs (λ x. IsIn y (f x))
from_flat f y [] is = absurd is
from_flat f y (x ∷ xs) is = elim (from_both y (f x) (flat_map f xs) is) [
  | inl here ↦ record { x = x; is = inl refl; makes = here }
  | inr later ↦ origin_more x xs _ (from_flat f y xs later)
]

pub in_filter : {X : Type 0} (test : X → Bool) (x : X) (xs : List X) → IsIn x xs → test x ≡ true → IsIn x (filter test xs)
in_filter test x [] is passes = absurd is
in_filter test x (y ∷ xs) (inl here) passes =
    subst (λ b. IsIn x (cond b (y ∷ filter test xs) (filter test xs))) (sym (ap test here ∙ passes)) (inl here)
in_filter test x (y ∷ xs) (inr later) passes = kept (test y) (in_filter test x xs later passes)
  where
    kept : (b : Bool) → IsIn x (filter test xs) → IsIn x (cond b (y ∷ filter test xs) (filter test xs))
    kept true is = inr is
    kept false is = is

pub from_filter : {X : Type 0} (test : X → Bool) (x : X) (xs : List X) → IsIn x (filter test xs) → IsIn x xs × (test x ≡ true)
from_filter test x [] is = absurd is
from_filter test x (y ∷ xs) is = by_test (test y) refl is (from_filter test x xs)
  where
    by_test : (b : Bool) → test y ≡ b → IsIn x (cond b (y ∷ filter test xs) (filter test xs)) → (IsIn x (filter test xs) → IsIn x xs × (test x ≡ true)) → IsIn x (y ∷ xs) × (test x ≡ true)
    by_test true e (inl here) rest = (inl here, ap test (sym here) ∙ e)
    by_test true e (inr later) rest = (inr (rest later).0, (rest later).1)
    by_test false e later rest = (inr (rest later).0, (rest later).1)

pub from_filter_map : {X Y : Type 0} (f : X → Option Y) (y : Y) (xs : List X) → IsIn y (filter_map f xs) → Origin xs (λ x. f x ≡ Some y)
from_filter_map f y [] is = absurd is
from_filter_map f y (x ∷ xs) is = by_value (f x) refl is (from_filter_map f y xs)
  where
    by_value : (o : _) → f x ≡ o → IsIn y (cons_option o (filter_map f xs)) → (IsIn y (filter_map f xs) → Origin xs (λ z. f z ≡ Some y)) → Origin (x ∷ xs) (λ z. f z ≡ Some y)
    by_value None e later rest = origin_more x xs _ (rest later)
    by_value (Some z) e (inl here) rest = record { x = x; is = inl refl; makes = e ∙ ap Some here }
    by_value (Some z) e (inr later) rest = origin_more x xs _ (rest later)

pub in_any : {X : Type 0} (test : X → Bool) (x : X) (xs : List X) → IsIn x xs → test x ≡ true → list_any test xs ≡ true
in_any test x [] is passes = absurd is
in_any test x (y ∷ xs) (inl here) passes = rw (ap test here ∙ passes) refl
in_any test x (y ∷ xs) (inr later) passes = or_right (test y) (list_any test xs) (in_any test x xs later passes)

pub from_any : {X : Type 0} (test : X → Bool) (xs : List X) → list_any test xs ≡ true → Origin xs (λ x. test x ≡ true)
from_any test [] is = absurd cc
from_any test (x ∷ xs) is = elim (or_cases (test x) (list_any test xs) is) [
  | inl here ↦ record { x = x; is = inl refl; makes = here }
  | inr later ↦ origin_more x xs _ (from_any test xs later)
]

in_range : (n a many : ℕ) → a ≤ n → n < a + many → IsIn n (range_with_len a many)
in_range n a zero low high = absurd (omega arith)
in_range n a (suc many) low high = elim (cases_eq a n) [
  | inl here ↦ inl here
  | inr other ↦ inr (in_range n (a + 1) many (omega arith) (omega arith))
]

from_range : (n a many : ℕ) → IsIn n (range_with_len a many) → (a ≤ n) × (n < a + many)
from_range n a zero is = absurd is
from_range n a (suc many) (inl here) = (omega arith, omega arith)
from_range n a (suc many) (inr later) = let both = from_range n (a + 1) many later in (omega arith, omega arith)

pub in_below : (n many : ℕ) → n < many → IsIn n (below many)
in_below n many high = in_range n 0 many (omega arith) (omega arith)

pub from_below : (n many : ℕ) → IsIn n (below many) → n < many
from_below n many is = let both = from_range n 0 many is in omega arith

-- ---- IN THE STANDARD'S WORDS

pub all_in : {X : Type 0} (P : X → Type 0) (xs : List X) → ((x : X) → IsIn x xs → P x) → AllByRecursion P xs
all_in P [] each = tt
all_in P (x ∷ xs) each = (each x (inl refl), all_in P xs (λ y is. each y (inr is)))

at_in : {X : Type 0} (P : X → Type 0) (x : X) (xs : List X) → AllByRecursion P xs → IsIn x xs → P x
at_in P x [] all is = absurd is
at_in P x (y ∷ xs) all (inl here) = subst P here all.0
at_in P x (y ∷ xs) all (inr later) = at_in P x xs all.1 later

pub All-from_in : {X : Type 0} (P : X → Type 0) (xs : List X) → ((x : X) → IsIn x xs → P x) → All P xs
All-from_in P xs each = All-from_recursion P xs (all_in P xs each)

pub Contains-from_in : {X : Type 0} (x : X) (xs : List X) → IsIn x xs → Contains xs x
Contains-from_in x [] is = absurd is
Contains-from_in x (y ∷ xs) (inl here) = (0, omega arith, here)
Contains-from_in x (y ∷ xs) (inr later) = let found = Contains-from_in x xs later in (suc found.0, omega arith, found.2)

-- ---- LISTS IN ORDER

-- R holds of each element and each later one
abbrev pub IsOrdered : {X : Type 0} → (X → X → Type 0) → List X → Type 0
IsOrdered R [] = Unit {0}
IsOrdered R (x ∷ xs) = AllByRecursion (R x) xs × IsOrdered R xs

pub AllPairs-from_ordered : {X : Type 0} (R : X → X → Type 0) (xs : List X) → IsOrdered R xs → AllPairs R xs
AllPairs-from_ordered R [] ordered i j d less within = absurd (omega arith)
AllPairs-from_ordered R (x ∷ xs) ordered i zero d less within = absurd (omega arith)
AllPairs-from_ordered R (x ∷ xs) ordered zero (suc j) d less within = All-from_recursion (R x) xs ordered.0 j d (omega arith)
AllPairs-from_ordered R (x ∷ xs) ordered (suc i) (suc j) d less within = AllPairs-from_ordered R xs ordered.1 i j d (omega arith) (omega arith)

ordered_both : {X : Type 0} (R : X → X → Type 0) (xs ys : List X) → IsOrdered R xs → IsOrdered R ys → ((x y : X) → IsIn x xs → IsIn y ys → R x y) → IsOrdered R (xs ++ ys)
ordered_both R [] ys first second between = second
ordered_both R (x ∷ xs) ys first second between = (
  all_in (R x) (xs ++ ys) (λ y is. elim (from_both y xs ys is) [
    | inl left ↦ at_in (R x) y xs first.0 left
    | inr right ↦ between x y (inl refl) right
  ]),
  ordered_both R xs ys first.1 second (λ z y is other. between z y (inr is) other),
)

pub ordered_map : {X Y : Type 0} (R : X → X → Type 0) (S : Y → Y → Type 0) (f : X → Y) (xs : List X) → IsOrdered R xs
    → ((x y : X) → IsIn x xs → IsIn y xs → R x y → S (f x) (f y)) → IsOrdered S (map f xs)
ordered_map R S f [] ordered keeps = tt
ordered_map R S f (x ∷ xs) ordered keeps = (
  all_in (S (f x)) (map f xs) (λ y is. let origin = from_map f y xs is in
      subst (S (f x)) origin.makes (keeps x origin.x (inl refl) (inr origin.is) (at_in (R x) origin.x xs ordered.0 origin.is))),
  ordered_map R S f xs ordered.1 (λ z y is other. keeps z y (inr is) (inr other)),
)

pub ordered_flat : {X Y : Type 0} (R : X → X → Type 0) (S : Y → Y → Type 0) (f : X → List Y) (xs : List X) → IsOrdered R xs
    → ((x : X) → IsOrdered S (f x)) → ((x x' : X) (y y' : Y) → R x x' → IsIn y (f x) → IsIn y' (f x') → S y y') → IsOrdered S (flat_map f xs)
ordered_flat R S f [] ordered within between = tt
ordered_flat R S f (x ∷ xs) ordered within between =
    ordered_both S (f x) (flat_map f xs) (within x) (ordered_flat R S f xs ordered.1 within between)
    (λ y y' is other. let origin = from_flat f y' xs other in between x origin.x y y' (at_in (R x) origin.x xs ordered.0 origin.is) is origin.makes)

pub ordered_filter : {X : Type 0} (R : X → X → Type 0) (test : X → Bool) (xs : List X) → IsOrdered R xs → IsOrdered R (filter test xs)
ordered_filter R test [] ordered = tt
ordered_filter R test (x ∷ xs) ordered = kept (test x) (ordered_filter R test xs ordered.1)
  where
    kept : (b : Bool) → IsOrdered R (filter test xs) → IsOrdered R (cond b (x ∷ filter test xs) (filter test xs))
    kept true rest = (all_in (R x) (filter test xs) (λ y is. at_in (R x) y xs ordered.0 (from_filter test y xs is).0), rest)
    kept false rest = rest

ordered_range : (a many : ℕ) → IsOrdered (λ n m. n < m) (range_with_len a many)
ordered_range a zero = tt
ordered_range a (suc many) = (
  all_in (λ m. a < m) (range_with_len (a + 1) many) (λ m is. let low = (from_range m (a + 1) many is).0 in omega arith),
  ordered_range (a + 1) many,
)

pub ordered_below : (many : ℕ) → IsOrdered (λ n m. n < m) (below many)
ordered_below many = ordered_range 0 many

-- ---- THE FIRST

pub first_in : {X : Type 0} (x : X) (xs : List X) → first_of xs ≡ Some x → IsIn x xs
first_in x [] found = absurd cc
first_in x (y ∷ xs) found = inl cc

pub first_before : {X : Type 0} (R : X → X → Type 0) (x y : X) (xs : List X) → IsOrdered R xs → first_of xs ≡ Some x → IsIn y xs → (x ≡ y) ⊎ R x y
first_before R x y [] ordered found is = absurd is
first_before R x y (z ∷ xs) ordered found (inl here) = inl cc
first_before R x y (z ∷ xs) ordered found (inr later) = let same : z ≡ x = cc in inr (subst (λ w. R w y) same (at_in (R z) y xs ordered.0 later))

pub first_none : {X : Type 0} (x : X) (xs : List X) → first_of xs ≡ None → IsIn x xs → ⊥
first_none x [] none is = is
first_none x (y ∷ xs) none is = cc
