-- Which parameters are in which terms.
use Rattle.std.proofs.Common.{◌≡◌, ◌≢◌, ◌⊎◌, inl, inr, ◌==◌, ◌^◌, ℕ, zero, suc, ℤ, pos, Bool, true, false, IsTrue, List, [], ◌∷◌, slice_get, Some, refl, ap, subst, arith}
use Rattle.std.specs.Prelude.{fold, unwrap_or}
use Rattle.std.specs.Int.{bit_at}
use Rattle.std.specs.Int.Bits.{bit_and, bit_or}
use Rattle.std.proofs.lemmas.Bool.{eqb-false, eqb-true}
use Rattle.std.proofs.lemmas.Nat.Bits.{bit_at-lt, bit_at-pow_same, bit_at-zero, bit_at_and, bit_at_or}
use Rattle.ms_words.specs.Inputs.{Words}
use Rattle.ms_words.specs.Relations.{related}
use Rattle.ms_words.specs.Words.{applied1, applied2}
use Rattle.ms_terms.specs.Terms.{Binary, Constant, Param, Term, Unary, params, value}
use Rattle.ms_machine.specs.Runs.{IsMet}
use Rattle.ms_machine.specs.Tests.{Literal as Relation}
use Rattle.ms_pathcond.specs.Literals.{support_of}
use Rattle.ms_pathcond.specs.Mixing.{has}

-- SETS

is_one : (a i : ℕ) → has a i ≡ true → bit_at a i ≡ 1
is_one a i set = eqb-true (bit_at a i) 1 set

pub one_is : (n : ℕ) → n ≡ 1 → (n == 1) ≡ true
one_is n is = ap (λ m. m == 1) is

pub one_is_not : (n : ℕ) → n ≢ 1 → (n == 1) ≡ false
one_is_not n is_not = by_test (n == 1) refl
  where
    by_test : (b : Bool) → (n == 1) ≡ b → b ≡ false
    by_test true is = absurd (is_not (eqb-true n 1 is))
    by_test false is = refl

pub has_left : (a b i : ℕ) → has a i ≡ true → has (bit_or a b) i ≡ true
has_left a b i set = one_is (bit_at (bit_or a b) i) (omega (arith, is_one a i set, bit_at_or a b i, bit_at-lt b i, bit_at-lt (bit_or a b) i))

pub has_right : (a b i : ℕ) → has b i ≡ true → has (bit_or a b) i ≡ true
has_right a b i set = one_is (bit_at (bit_or a b) i) (omega (arith, is_one b i set, bit_at_or a b i, bit_at-lt a i, bit_at-lt (bit_or a b) i))

pub has_either : (a b i : ℕ) → has (bit_or a b) i ≡ true → (has a i ≡ true) ⊎ (has b i ≡ true)
has_either a b i set = by_test (has a i) refl
  where
    by_test : (c : Bool) → has a i ≡ c → (has a i ≡ true) ⊎ (has b i ≡ true)
    by_test true is = inl is
    by_test false is = inr (one_is (bit_at b i) (omega (arith, is_one (bit_or a b) i set, eqb-false (bit_at a i) 1 is, bit_at_or a b i, bit_at-lt a i, bit_at-lt b i)))

-- sets with a common member share
pub has_both : (a b i : ℕ) → has a i ≡ true → has b i ≡ true → bit_and a b ≢ 0
has_both a b i set_a set_b = λ none. absurd (omega (arith, is_one a i set_a, is_one b i set_b, bit_at_and a b i, ap (λ n. bit_at n i) none, bit_at-zero i))

-- TERMS

-- words that agree on the parameters of a term give it one value
pub value_same : (xs ys : List ℤ) (t : Term) → ((i : ℕ) → has (params t) i ≡ true → slice_get xs i ≡ slice_get ys i) → value xs t ≡ value ys t
value_same xs ys (Constant word) agree = refl
value_same xs ys (Param index kind) agree = ap (λ o. unwrap_or o (pos 0)) (agree index (one_is (bit_at (2 ^ index) index) (bit_at-pow_same index)))
value_same xs ys (Unary op a) agree = ap (applied1 op) (value_same xs ys a agree)
value_same xs ys (Binary op a b) agree =
    let left = value_same xs ys a (λ i set. agree i (has_left (params a) (params b) i set)) in
    let right = value_same xs ys b (λ i set. agree i (has_right (params a) (params b) i set)) in
    λ j. applied2 op (left j) (right j)

pub met_same : (x y : Words) (relation : Relation Term) → ((i : ℕ) → has (support_of relation) i ≡ true → slice_get x.words i ≡ slice_get y.words i) → IsMet x relation → IsMet y relation
met_same x y relation agree met =
    let left = value_same x.words y.words relation.a (λ i set. agree i (has_left (params relation.a) (params relation.b) i set)) in
    let right = value_same x.words y.words relation.b (λ i set. agree i (has_right (params relation.a) (params relation.b) i set)) in
    subst IsTrue (λ j. related relation.rel (left j) (right j)) met

-- FOLDS

pub has_start : (all : ℕ) (supports : List ℕ) (i : ℕ) → has all i ≡ true → has (fold bit_or all supports) i ≡ true
has_start all [] i set = set
has_start all (s ∷ supports) i set = has_start (bit_or all s) supports i (has_left all s i set)

-- the parameters of one are among those of all
pub has_one : (all : ℕ) (supports : List ℕ) (n s i : ℕ) → slice_get supports n ≡ Some s → has s i ≡ true → has (fold bit_or all supports) i ≡ true
has_one all [] n s i at set = absurd (let e = at in cc)
has_one all (first ∷ supports) zero s i at set = has_start (bit_or all first) supports i (has_right all first i (subst (λ m. has m i ≡ true) (let e : s ≡ first = (let f = at in cc) in e) set))
has_one all (first ∷ supports) (suc n) s i at set = has_one (bit_or all first) supports n s i at set

-- each of all is of one
pub record Of (supports : List ℕ) (i : ℕ) : Type 0 where
  pub n : ℕ
  pub s : ℕ
  pub at : slice_get supports n ≡ Some s
  pub set : has s i ≡ true

pub has_some : (all : ℕ) (supports : List ℕ) (i : ℕ) → has (fold bit_or all supports) i ≡ true → (has all i ≡ true) ⊎ Of supports i
has_some all [] i set = inl set
has_some all (first ∷ supports) i set = elim (has_some (bit_or all first) supports i set) [
  | inl start ↦ elim (has_either all first i start) [
    | inl before ↦ inl before
    | inr here ↦ inr (record { n = 0; s = first; at = refl; set = here })
  ]
  | inr later ↦ inr (record { n = suc later.n; s = later.s; at = later.at; set = later.set })
]
