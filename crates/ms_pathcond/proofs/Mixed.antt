-- Inputs that are put together.
use Rattle.std.proofs.Common.{◌≡◌, ◌⊎◌, inl, inr, ◌+◌, ◌==◌, ℕ, zero, suc, ℤ, Bool, true, false, cond, IsTrue, List, [], ◌∷◌, length, slice_get, nat_lt, Some, refl, sym, ap, subst, ◌∙◌, arith}
use Rattle.std.specs.Prelude.{if◌then◌else◌, ◌&&◌}
use Rattle.std.proofs.lemmas.Bool.{eqb-false}
use Rattle.ms_words.specs.declared.kind.Kind.{Kind}
use Rattle.ms_words.specs.Inputs.{are_of, comes_before, is_of, unsigned_of}
use Rattle.ms_pathcond.specs.Mixing.{mixed_from}

-- PLACES

-- at a place of the set the first word stands, and at another the second
pub mixed_first : (is_first : ℕ → Bool) (n : ℕ) (xs ys : List ℤ) (i : ℕ) → length xs ≡ length ys → is_first (n + i) ≡ true → slice_get (mixed_from is_first n xs ys) i ≡ slice_get xs i
mixed_first is_first n [] [] i many set = refl
mixed_first is_first n [] (y ∷ ys) i many set = absurd (omega (arith, many))
mixed_first is_first n (x ∷ xs) [] i many set = absurd (omega (arith, many))
mixed_first is_first n (x ∷ xs) (y ∷ ys) zero many set = ap (λ b. Some (cond b x y)) (subst (λ k. is_first k ≡ true) (let e : n + 0 ≡ n = omega arith in e) set)
mixed_first is_first n (x ∷ xs) (y ∷ ys) (suc i) many set = mixed_first is_first (suc n) xs ys i (omega (arith, many)) (subst (λ k. is_first k ≡ true) (let e : n + suc i ≡ suc n + i = omega arith in e) set)

pub mixed_second : (is_first : ℕ → Bool) (n : ℕ) (xs ys : List ℤ) (i : ℕ) → length xs ≡ length ys → is_first (n + i) ≡ false → slice_get (mixed_from is_first n xs ys) i ≡ slice_get ys i
mixed_second is_first n [] [] i many set = refl
mixed_second is_first n [] (y ∷ ys) i many set = absurd (omega (arith, many))
mixed_second is_first n (x ∷ xs) [] i many set = absurd (omega (arith, many))
mixed_second is_first n (x ∷ xs) (y ∷ ys) zero many set = ap (λ b. Some (cond b x y)) (subst (λ k. is_first k ≡ false) (let e : n + 0 ≡ n = omega arith in e) set)
mixed_second is_first n (x ∷ xs) (y ∷ ys) (suc i) many set = mixed_second is_first (suc n) xs ys i (omega (arith, many)) (subst (λ k. is_first k ≡ false) (let e : n + suc i ≡ suc n + i = omega arith in e) set)

pub mixed_many : (is_first : ℕ → Bool) (n : ℕ) (xs ys : List ℤ) → length xs ≡ length ys → length (mixed_from is_first n xs ys) ≡ length ys
mixed_many is_first n [] ys many = refl
mixed_many is_first n (x ∷ xs) [] many = absurd (omega (arith, many))
mixed_many is_first n (x ∷ xs) (y ∷ ys) many = ap suc (mixed_many is_first (suc n) xs ys (omega (arith, many)))

-- words of kinds are as many as these
pub as_many : (kinds : List Kind) (xs : List ℤ) → IsTrue (are_of kinds xs) → length xs ≡ length kinds
as_many [] [] are = refl
as_many [] (x ∷ xs) are = absurd (let e = are in cc)
as_many (kind ∷ kinds) [] are = absurd (let e = are in cc)
as_many (kind ∷ kinds) (x ∷ xs) are = by_test (is_of kind x) are (as_many kinds xs)
  where
    by_test : (b : Bool) → IsTrue (b && are_of kinds xs) → (IsTrue (are_of kinds xs) → length xs ≡ length kinds) → length (x ∷ xs) ≡ length (kind ∷ kinds)
    by_test true rest later = ap suc (later rest)
    by_test false rest later = absurd (let e = rest in cc)

-- words put together are of the kinds that both are of
pub mixed_are_of : (is_first : ℕ → Bool) (n : ℕ) (kinds : List Kind) (xs ys : List ℤ) → IsTrue (are_of kinds xs) → IsTrue (are_of kinds ys) → IsTrue (are_of kinds (mixed_from is_first n xs ys))
mixed_are_of is_first n [] [] ys are_x are_y = are_y
mixed_are_of is_first n [] (x ∷ xs) ys are_x are_y = absurd (let e = are_x in cc)
mixed_are_of is_first n (kind ∷ kinds) [] ys are_x are_y = absurd (let e = are_x in cc)
mixed_are_of is_first n (kind ∷ kinds) (x ∷ xs) [] are_x are_y = absurd (let e = are_y in cc)
mixed_are_of is_first n (kind ∷ kinds) (x ∷ xs) (y ∷ ys) are_x are_y =
    by_tests (is_first n) (is_of kind x) (is_of kind y) refl refl are_x are_y (mixed_are_of is_first (suc n) kinds xs ys)
  where
    by_tests : (c b d : Bool) → is_of kind x ≡ b → is_of kind y ≡ d → IsTrue (b && are_of kinds xs) → IsTrue (d && are_of kinds ys)
        → (IsTrue (are_of kinds xs) → IsTrue (are_of kinds ys) → IsTrue (are_of kinds (mixed_from is_first (suc n) xs ys)))
        → IsTrue (is_of kind (cond c x y) && are_of kinds (mixed_from is_first (suc n) xs ys))
    by_tests c false d is_x is_y rest_x rest_y later = absurd (let e = rest_x in cc)
    by_tests c true false is_x is_y rest_x rest_y later = absurd (let e = rest_y in cc)
    by_tests true true true is_x is_y rest_x rest_y later = subst (λ b. IsTrue (b && are_of kinds (mixed_from is_first (suc n) xs ys))) (sym is_x) (later rest_x rest_y)
    by_tests false true true is_x is_y rest_x rest_y later = subst (λ b. IsTrue (b && are_of kinds (mixed_from is_first (suc n) xs ys))) (sym is_y) (later rest_x rest_y)

-- ORDER

same_number : (n : ℕ) → (n == n) ≡ true
same_number n = by_test (n == n) refl
  where
    by_test : (b : Bool) → (n == n) ≡ b → b ≡ true
    by_test true is = refl
    by_test false is = absurd (eqb-false n n is refl)

-- where the first words are as great, the others decide
as_great : (u v : ℕ) (rest : Bool) → (u == v) ≡ true → (if u == v then rest else nat_lt u v) ≡ rest
as_great u v rest same = ap (λ b. if b then rest else nat_lt u v) same

-- What comes before words that are put together does so by the first ones, on the set, or by the second ones, on
-- the other places.
pub before_mixed : (is_first : ℕ → Bool) (n : ℕ) (kinds : List Kind) (ws xs ys : List ℤ) → length ws ≡ length kinds → length xs ≡ length kinds → length ys ≡ length kinds → comes_before kinds ws (mixed_from is_first n xs ys) ≡ true
    → (comes_before kinds (mixed_from is_first n ws xs) xs ≡ true) ⊎ (comes_before kinds (mixed_from is_first n ys ws) ys ≡ true)
before_mixed is_first n [] ws xs ys many_w many_x many_y before = absurd (let e = before in cc)
before_mixed is_first n (kind ∷ kinds) [] xs ys many_w many_x many_y before = absurd (omega (arith, many_w))
before_mixed is_first n (kind ∷ kinds) (w ∷ ws) [] ys many_w many_x many_y before = absurd (omega (arith, many_x))
before_mixed is_first n (kind ∷ kinds) (w ∷ ws) (x ∷ xs) [] many_w many_x many_y before = absurd (omega (arith, many_y))
before_mixed is_first n (kind ∷ kinds) (w ∷ ws) (x ∷ xs) (y ∷ ys) many_w many_x many_y before =
    by_place (is_first n) before (before_mixed is_first (suc n) kinds ws xs ys (omega (arith, many_w)) (omega (arith, many_x)) (omega (arith, many_y)))
  where
    by_place : (c : Bool) → (if unsigned_of kind w == unsigned_of kind (cond c x y) then comes_before kinds ws (mixed_from is_first (suc n) xs ys) else nat_lt (unsigned_of kind w) (unsigned_of kind (cond c x y))) ≡ true
        → (comes_before kinds ws (mixed_from is_first (suc n) xs ys) ≡ true → (comes_before kinds (mixed_from is_first (suc n) ws xs) xs ≡ true) ⊎ (comes_before kinds (mixed_from is_first (suc n) ys ws) ys ≡ true))
        → ((if unsigned_of kind (cond c w x) == unsigned_of kind x then comes_before kinds (mixed_from is_first (suc n) ws xs) xs else nat_lt (unsigned_of kind (cond c w x)) (unsigned_of kind x)) ≡ true)
        ⊎ ((if unsigned_of kind (cond c y w) == unsigned_of kind y then comes_before kinds (mixed_from is_first (suc n) ys ws) ys else nat_lt (unsigned_of kind (cond c y w)) (unsigned_of kind y)) ≡ true)
    by_place true is later = by_test (unsigned_of kind w == unsigned_of kind x) refl is
      where
        by_test : (b : Bool) → (unsigned_of kind w == unsigned_of kind x) ≡ b → (if b then comes_before kinds ws (mixed_from is_first (suc n) xs ys) else nat_lt (unsigned_of kind w) (unsigned_of kind x)) ≡ true
            → ((if unsigned_of kind w == unsigned_of kind x then comes_before kinds (mixed_from is_first (suc n) ws xs) xs else nat_lt (unsigned_of kind w) (unsigned_of kind x)) ≡ true)
            ⊎ ((if unsigned_of kind y == unsigned_of kind y then comes_before kinds (mixed_from is_first (suc n) ys ws) ys else nat_lt (unsigned_of kind y) (unsigned_of kind y)) ≡ true)
        by_test true same rest = elim (later rest) [
          | inl first ↦ inl (as_great (unsigned_of kind w) (unsigned_of kind x) (comes_before kinds (mixed_from is_first (suc n) ws xs) xs) same ∙ first)
          | inr second ↦ inr (as_great (unsigned_of kind y) (unsigned_of kind y) (comes_before kinds (mixed_from is_first (suc n) ys ws) ys) (same_number (unsigned_of kind y)) ∙ second)
        ]
        by_test false same rest = inl (ap (λ b. if b then comes_before kinds (mixed_from is_first (suc n) ws xs) xs else nat_lt (unsigned_of kind w) (unsigned_of kind x)) same ∙ rest)
    by_place false is later = by_test (unsigned_of kind w == unsigned_of kind y) refl is
      where
        by_test : (b : Bool) → (unsigned_of kind w == unsigned_of kind y) ≡ b → (if b then comes_before kinds ws (mixed_from is_first (suc n) xs ys) else nat_lt (unsigned_of kind w) (unsigned_of kind y)) ≡ true
            → ((if unsigned_of kind x == unsigned_of kind x then comes_before kinds (mixed_from is_first (suc n) ws xs) xs else nat_lt (unsigned_of kind x) (unsigned_of kind x)) ≡ true)
            ⊎ ((if unsigned_of kind w == unsigned_of kind y then comes_before kinds (mixed_from is_first (suc n) ys ws) ys else nat_lt (unsigned_of kind w) (unsigned_of kind y)) ≡ true)
        by_test true same rest = elim (later rest) [
          | inl first ↦ inl (as_great (unsigned_of kind x) (unsigned_of kind x) (comes_before kinds (mixed_from is_first (suc n) ws xs) xs) (same_number (unsigned_of kind x)) ∙ first)
          | inr second ↦ inr (as_great (unsigned_of kind w) (unsigned_of kind y) (comes_before kinds (mixed_from is_first (suc n) ys ws) ys) same ∙ second)
        ]
        by_test false same rest = inr (ap (λ b. if b then comes_before kinds (mixed_from is_first (suc n) ys ws) ys else nat_lt (unsigned_of kind w) (unsigned_of kind y)) same ∙ rest)
