-- Lists, filtered and searched.
use Rattle.std.proofs.Common.{◌≡◌, ℕ, suc, Bool, true, false, cond, List, [], ◌∷◌, ◌++◌, length, take, map, filter, Some, slice_get, refl, ap, subst, ◌∙◌, arith}
use Rattle.std.specs.Prelude.{◌&&◌, ◌||◌, ◌==◌}
use Rattle.std.proofs.lemmas.Bool.Decides.{nat_tests}
use Rattle.std.specs.Option.{option_map}
use Rattle.std.specs.List.{AllByRecursion, list_any}
use Rattle.std.specs.Str.{bytes_eq}
use Rattle.ms_session.specs.Growing.{is_arm}
use Rattle.ms_session.specs.Paths.{first_of}

filter_one : {X : Type 0} (a b : Bool) (x : X) (xs ys : List X) (f : X → Bool) → f x ≡ b → xs ≡ filter f ys → cond (a && b) (x ∷ xs) xs ≡ filter f (cond a (x ∷ ys) ys)
filter_one true true x xs ys f at_x same = rw (at_x, same) refl
filter_one true false x xs ys f at_x same = rw (at_x, same) refl
filter_one false b x xs ys f at_x same = same

-- two tests at once
pub filter_both : {X : Type 0} (f g : X → Bool) (xs : List X) → filter (λ x. f x && g x) xs ≡ filter g (filter f xs)
filter_both f g [] = refl
filter_both f g (x ∷ xs) = filter_one (f x) (g x) x (filter (λ y. f y && g y) xs) (filter f xs) g refl (filter_both f g xs)

pub filter_same : {X : Type 0} (f g : X → Bool) (xs : List X) → ((x : X) → f x ≡ g x) → filter f xs ≡ filter g xs
filter_same f g [] same = refl
filter_same f g (x ∷ xs) same = rw (same x, filter_same f g xs same) refl

map_if : {X Y : Type 0} (f : X → Y) (a : Bool) (x : X) (xs : List X) → cond a (f x ∷ map f xs) (map f xs) ≡ map f (cond a (x ∷ xs) xs)
map_if f true x xs = refl
map_if f false x xs = refl

pub filter_mapped : {X Y : Type 0} (g : Y → Bool) (f : X → Y) (xs : List X) → filter g (map f xs) ≡ map f (filter (λ x. g (f x)) xs)
filter_mapped g f [] = refl
filter_mapped g f (x ∷ xs) = ap (λ l. cond (g (f x)) (f x ∷ l) l) (filter_mapped g f xs) ∙ map_if f (g (f x)) x (filter (λ y. g (f y)) xs)

pub first_mapped : {X Y : Type 0} (f : X → Y) (xs : List X) → first_of (map f xs) ≡ option_map f (first_of xs)
first_mapped f [] = refl
first_mapped f (x ∷ xs) = refl

any_one : {X : Type 0} (a b rest : Bool) (x : X) (xs : List X) (g : X → Bool) → g x ≡ b → list_any g xs ≡ rest → list_any g (cond a (x ∷ xs) xs) ≡ ((a && b) || rest)
any_one true b rest x xs g at_x same = rw (at_x, same) refl
any_one false b rest x xs g at_x same = same

-- one of those that pass a test
pub any_filtered : {X : Type 0} (f g : X → Bool) (xs : List X) → list_any g (filter f xs) ≡ list_any (λ x. f x && g x) xs
any_filtered f g [] = refl
any_filtered f g (x ∷ xs) = any_one (f x) (g x) (list_any (λ y. f y && g y) xs) x (filter f xs) g refl (any_filtered f g xs)

pub any_same : {X : Type 0} (f g : X → Bool) (xs : List X) → ((x : X) → f x ≡ g x) → list_any f xs ≡ list_any g xs
any_same f g [] same = refl
any_same f g (x ∷ xs) same = rw (same x, any_same f g xs same) refl

pub any_mapped : {X Y : Type 0} (g : Y → Bool) (f : X → Y) (xs : List X) → list_any g (map f xs) ≡ list_any (λ x. g (f x)) xs
any_mapped g f [] = refl
any_mapped g f (x ∷ xs) = ap (λ b. g (f x) || b) (any_mapped g f xs)

-- the first of those that pass a test passes it, and is one of all
passes_by : {X : Type 0} (f : X → Bool) (Q : X → Type 0) (y : X) (xs : List X) (x : X) (test : Bool) → f y ≡ test → Q y → first_of (cond test (y ∷ xs) xs) ≡ Some x → (first_of xs ≡ Some x → (f x ≡ true) × Q x) → (f x ≡ true) × Q x
passes_by {X = X} f Q y xs x true e here found later = let same : y ≡ x = cc in subst (λ (z : X). (f z ≡ true) × Q z) same (e, here)
passes_by f Q y xs x false e here found later = later found

pub first_passes : {X : Type 0} (f : X → Bool) (Q : X → Type 0) (xs : List X) (x : X) → AllByRecursion Q xs → first_of (filter f xs) ≡ Some x → (f x ≡ true) × Q x
first_passes f Q [] x all found = absurd cc
first_passes f Q (y ∷ ys) x all found = passes_by f Q y (filter f ys) x (f y) refl all.0 found (λ later. first_passes f Q ys x all.1 later)

-- ---- STRINGS

-- a string with one arm more begins another
pub same_more : (s p : List ℕ) (arm : ℕ) → bytes_eq (take (length (p ++ arm ∷ [])) s) (p ++ arm ∷ []) ≡ (bytes_eq (take (length p) s) p && is_arm arm (slice_get s (length p)))
same_more [] [] arm = refl
same_more (x ∷ s) [] arm = and_true (x == arm)
  where
    and_true : (b : Bool) → (b && true) ≡ b
    and_true true = refl
    and_true false = refl
same_more [] (y ∷ p) arm = refl
same_more (x ∷ s) (y ∷ p) arm = ap (λ b. (x == y) && b) (same_more s p arm) ∙ regroup (x == y) (bytes_eq (take (length p) s) p) (is_arm arm (slice_get s (length p)))
  where
    regroup : (a b c : Bool) → (a && (b && c)) ≡ (a && b && c)
    regroup true b c = refl
    regroup false b c = refl

-- a string begins another one that is no longer
pub same_whole : (s p : List ℕ) → (bytes_eq (take (length p) s) p && (length s == length p)) ≡ bytes_eq s p
same_whole [] [] = refl
same_whole (x ∷ s) [] = omega_false (length s)
  where
    omega_false : (n : ℕ) → (suc n == 0) ≡ false
    omega_false n = grind (arith, nat_tests)
same_whole [] (y ∷ p) = refl
same_whole (x ∷ s) (y ∷ p) = ap (λ b. (x == y) && bytes_eq (take (length p) s) p && b) (one_less (length s) (length p)) ∙ regroup (x == y) (bytes_eq (take (length p) s) p) (length s == length p) ∙ ap (λ b. (x == y) && b) (same_whole s p)
  where
    one_less : (n m : ℕ) → (suc n == suc m) ≡ (n == m)
    one_less n m = grind (arith, nat_tests)

    regroup : (a b c : Bool) → (a && b && c) ≡ (a && (b && c))
    regroup true b c = refl
    regroup false b c = refl
