-- An arm is taken exactly where its literals are true.
use Rattle.std.proofs.Common.{◌≡◌, ℕ, zero, suc, ◌<◌, ◌==◌, ◌↔◌, ℤ, pos, negsuc, Bool, true, false, not, ◌&&◌, cond, nat_le, nat_lt, List, [], ◌∷◌, length, IsTrue, refl, sym, ap, subst, arith}
use Rattle.std.specs.List.{AllByRecursion, list_all}
use Rattle.std.proofs.lemmas.Bool.{eqb-true, eqb-false, leb-true, le-leb, ltb-true, ltb-false}
use Rattle.ms_words.specs.declared.operator.Rel.TheVariants.{Eq, Uge}
use Rattle.ms_words.specs.Relations.{int_eq, related, unsigned_ge}
use Rattle.ms_words.specs.Inputs.{Words}
use Rattle.ms_terms.specs.Terms.{Term, Constant, value}
use Rattle.ms_machine.specs.Instructions.{Comparison, Equal, NotEqual, Less, AtLeast, Greater, AtMost, relation}
use Rattle.ms_machine.specs.Effects.{Test, Compares, Divides, Selects, Indexes}
use Rattle.ms_machine.specs.Tests.{arm_of, arms_of, case_of, index_arm, literals, map_test, none_of, opposite, selected}
use Rattle.ms_machine.specs.Runs.{IsMet, word_arm}
use Rattle.ms_machine.specs.Laws.{int_of, keys_differ}
use Rattle.ms_machine.proofs.EffectKeeps.{IsOf}

twice_not : (b : Bool) → not (not b) ≡ b
twice_not true = refl
twice_not false = refl

opposite_is : (comparison : Comparison) (v w : ℤ) → related (relation (opposite comparison)) v w ≡ not (related (relation comparison) v w)
opposite_is Equal v w = refl
opposite_is NotEqual v w = sym (twice_not (int_eq v w))
opposite_is Less v w = refl
opposite_is AtLeast v w = sym (twice_not _)
opposite_is Greater v w = refl
opposite_is AtMost v w = sym (twice_not _)

not_so : {A : Type 0} → IsTrue false → A
not_so h = absurd (cc)

falls : (b c : Bool) → c ≡ not b → (◌≡◌ {A = ℕ} (cond b 1 0) 0) ↔ (IsTrue c × Unit {0})
falls true true is = absurd (cc)
falls true false is = (λ h. absurd (omega arith), λ h. not_so h.0)
falls false true is = (λ h. (refl, tt), λ h. refl)
falls false false is = absurd (cc)

taken : (b : Bool) → (◌≡◌ {A = ℕ} (cond b 1 0) 1) ↔ (IsTrue b × Unit {0})
taken true = (λ h. (refl, tt), λ h. refl)
taken false = (λ h. absurd (omega arith), λ h. not_so h.0)

-- SWITCHES

int_same : (a b : ℤ) → int_eq a b ≡ true → a ≡ b
int_same (pos a) (pos b) is = ap pos (eqb-true a b is)
int_same (negsuc a) (negsuc b) is = ap negsuc (eqb-true a b is)
int_same (pos a) (negsuc b) is = absurd (let e = is in cc)
int_same (negsuc a) (pos b) is = absurd (let e = is in cc)

module _ (x : Words) (a : Term) where
  abbrev word : ℤ
  word = value x.words a

  -- the word is one of these keys
  abbrev IsAt : List ℤ → ℕ → Type 0
  IsAt keys arm = AllByRecursion (IsMet x) (selected Constant a [] keys arm)

  -- the default of no keys at all asks nothing
  any_default : (all keys : List ℤ) (arm : ℕ) → arm < length keys → selected Constant a all keys arm ≡ selected Constant a [] keys arm
  any_default all [] arm within = absurd (omega arith)
  any_default all (key ∷ keys) zero within = refl
  any_default all (key ∷ keys) (suc arm) within = any_default all keys arm (omega (arith, within))

  -- a key that is none of these is at none of their places
  none_there : (key : ℤ) (keys : List ℤ) (arm : ℕ) → arm < length keys → IsTrue (list_all (λ other. not (int_eq key other)) keys) → word ≡ key → IsAt keys arm → ⊥
  none_there key [] arm within none same there = omega (arith, within)
  none_there key (other ∷ keys) zero within none same there =
      let is : int_eq key other ≡ true = subst (λ w. int_eq w other ≡ true) same there.0 in
      not_both (int_eq key other) (list_all (λ other. not (int_eq key other)) keys) is none
    where
      not_both : (b c : Bool) → b ≡ true → (not b && c) ≡ true → ⊥
      not_both true c is e = absurd (let f = e in cc)
      not_both false c is e = absurd (let f = is in cc)
  none_there key (other ∷ keys) (suc arm) within none same there = none_there key keys arm (omega (arith, within)) (second (not (int_eq key other)) (list_all (λ other. not (int_eq key other)) keys) none) same there
    where
      second : (b c : Bool) → (b && c) ≡ true → c ≡ true
      second true c e = e
      second false c e = absurd (let f = e in cc)

  first_is : (b : Bool) (n : ℕ) → (◌≡◌ {A = ℕ} (cond b 0 (suc n)) 0) ↔ (IsTrue b × Unit {0})
  first_is true n = (λ h. (refl, tt), λ h. refl)
  first_is false n = (λ h. absurd (omega (arith, h)), λ h. not_so h.0)

  -- the place behind a key that is not the word's
  later_is : (b : Bool) (n arm : ℕ) (There : Type 0) → (b ≡ true → There → ⊥) → (n ≡ arm) ↔ There → (◌≡◌ {A = ℕ} (cond b 0 (suc n)) (suc arm)) ↔ There
  later_is true n arm There not_there is = (λ h. absurd (omega (arith, h)), λ h. absurd (not_there refl h))
  later_is false n arm There not_there is = (λ h. is.0 (omega (arith, h)), λ h. ap suc (is.1 h))

  both : (b c : Bool) → (b && c) ≡ true → (b ≡ true) × (c ≡ true)
  both true c e = (refl, e)
  both false c e = absurd (let f = e in cc)

  case_is : (keys : List ℤ) (arm : ℕ) → arm < length keys → IsTrue (keys_differ keys) → (case_of word keys ≡ arm) ↔ IsAt keys arm
  case_is [] arm within differ = absurd (omega arith)
  case_is (key ∷ keys) zero within differ = first_is (int_eq word key) (case_of word keys)
  case_is (key ∷ keys) (suc arm) within differ =
      let parts = both (list_all (λ other. not (int_eq key other)) keys) (keys_differ keys) differ in
      later_is (int_eq word key) (case_of word keys) arm (IsAt keys arm) (λ is. none_there key keys arm (omega (arith, within)) parts.0 (int_same word key is))
      (case_is keys arm (omega (arith, within)) parts.1)

  behind_all : (b : Bool) (n len : ℕ) (None' : Type 0) → (n ≡ len) ↔ None' → (◌≡◌ {A = ℕ} (cond b 0 (suc n)) (suc len)) ↔ (IsTrue (not b) × None')
  behind_all true n len None' is = (λ h. absurd (omega (arith, h)), λ h. not_so h.0)
  behind_all false n len None' is = (λ h. (refl, is.0 (omega (arith, h))), λ h. ap suc (is.1 h.1))

  default_is : (keys : List ℤ) → (case_of word keys ≡ length keys) ↔ AllByRecursion (IsMet x) (none_of Constant a keys)
  default_is [] = (λ h. tt, λ h. refl)
  default_is (key ∷ keys) = behind_all (int_eq word key) (case_of word keys) (length keys) (AllByRecursion (IsMet x) (none_of Constant a keys)) (default_is keys)

  at_default : (all keys : List ℤ) (arm : ℕ) → arm ≡ length keys → selected Constant a all keys arm ≡ none_of Constant a all
  at_default all [] arm is = refl
  at_default all (key ∷ keys) zero is = absurd (omega arith)
  at_default all (key ∷ keys) (suc arm) is = at_default all keys arm (omega arith)

  switch_is : (keys : List ℤ) (arm : ℕ) → arm < suc (length keys) → IsTrue (keys_differ keys) → (case_of word keys ≡ arm) ↔ AllByRecursion (IsMet x) (selected Constant a keys keys arm)
  switch_is keys arm within differ = by_place (nat_lt arm (length keys)) refl
    where
      by_place : (b : Bool) → nat_lt arm (length keys) ≡ b → (case_of word keys ≡ arm) ↔ AllByRecursion (IsMet x) (selected Constant a keys keys arm)
      by_place true e = subst (λ ls. (case_of word keys ≡ arm) ↔ AllByRecursion (IsMet x) ls) (sym (any_default keys keys arm (ltb-true arm (length keys) e))) (case_is keys arm (ltb-true arm (length keys) e) differ)
      by_place false e =
          let last : arm ≡ length keys = omega (arith, within, ltb-false arm (length keys) e) in
          subst (λ ls. (case_of word keys ≡ arm) ↔ AllByRecursion (IsMet x) ls) (sym (at_default keys keys arm last))
          (subst (λ n. (case_of word keys ≡ n) ↔ AllByRecursion (IsMet x) (none_of Constant a keys)) (sym last) (default_is keys))

below_all : (word : ℤ) (keys : List ℤ) → case_of word keys < suc (length keys)
below_all word [] = omega arith
below_all word (key ∷ keys) = by_test (int_eq word key) (below_all word keys)
  where
    by_test : (b : Bool) → case_of word keys < suc (length keys) → cond b 0 (suc (case_of word keys)) < suc (suc (length keys))
    by_test true below = omega arith
    by_test false below = omega (arith, below)

-- INDEXES

equal_to_itself : (n : ℕ) → (n == n) ≡ true
equal_to_itself n = by_test (n == n) refl
  where
    by_test : (b : Bool) → (n == n) ≡ b → (n == n) ≡ true
    by_test true is = is
    by_test false is = absurd (eqb-false n n is refl)

abbrev MetAt : ℤ → ℕ → ℕ → Bool → Type 0
MetAt word arm len within = IsTrue (cond within (int_eq word (pos arm)) (unsigned_ge word (pos len)))

index_is : (word : ℤ) (arm len : ℕ) → arm < suc len → (within : Bool) → nat_lt arm len ≡ within → (index_arm word len ≡ arm) ↔ MetAt word arm len within
index_is (pos n) arm len below true is = by_test (nat_lt n len) refl
  where
    by_test : (b : Bool) → nat_lt n len ≡ b → (◌≡◌ {A = ℕ} (cond b n len) arm) ↔ IsTrue (n == arm)
    by_test true e = (λ h. subst (λ m. (n == m) ≡ true) h (equal_to_itself n), λ h. eqb-true n arm h)
    by_test false e = (λ h. absurd (omega (arith, h, ltb-true arm len is)), λ h. absurd (omega (arith, eqb-true n arm h, ltb-true arm len is, ltb-false n len e)))
index_is (pos n) arm len below false is = by_test (nat_lt n len) refl
  where
    last : arm ≡ len
    last = omega (arith, below, ltb-false arm len is)

    by_test : (b : Bool) → nat_lt n len ≡ b → (◌≡◌ {A = ℕ} (cond b n len) arm) ↔ IsTrue (nat_le len n)
    by_test true e = (λ h. absurd (omega (arith, h, last, ltb-true n len e)), λ h. absurd (omega (arith, leb-true len n h, ltb-true n len e)))
    by_test false e = (λ h. le-leb len n (ltb-false n len e), λ h. sym last)
index_is (negsuc n) arm len below true is = (λ h. absurd (omega (arith, h, ltb-true arm len is)), λ h. not_so h)
index_is (negsuc n) arm len below false is = (λ h. refl, λ h. omega (arith, below, ltb-false arm len is))

-- ALL TESTS

-- the arm that a test takes on an input
abbrev pub arm_on : Words → Test Term → ℕ
arm_on x test = word_arm (map_test (int_of x.words) test)

-- the keys of a test differ, if it is one of a switch
abbrev pub HasArmsApart : Test Term → Type 0
HasArmsApart test = IsOf (λ keys. IsTrue (keys_differ keys)) test

pub arm_is_met : (x : Words) (test : Test Term) → HasArmsApart test → (arm : ℕ) → arm < arms_of test → (◌≡◌ {A = ℕ} (arm_on x test) arm) ↔ AllByRecursion (IsMet x) (literals Constant test arm)
arm_is_met x (Compares comparison a b) apart zero within = falls (related (relation comparison) (value x.words a) (value x.words b)) (related (relation (opposite comparison)) (value x.words a) (value x.words b)) (opposite_is comparison (value x.words a) (value x.words b))
arm_is_met x (Compares comparison a b) apart (suc zero) within = taken (related (relation comparison) (value x.words a) (value x.words b))
arm_is_met x (Compares comparison a b) apart (suc (suc n)) within = absurd (omega arith)
arm_is_met x (Divides b) apart zero within = falls (int_eq (value x.words b) (pos 0)) (not (int_eq (value x.words b) (pos 0))) refl
arm_is_met x (Divides b) apart (suc zero) within = taken (int_eq (value x.words b) (pos 0))
arm_is_met x (Divides b) apart (suc (suc n)) within = absurd (omega arith)
arm_is_met x (Selects a keys) apart arm within = switch_is x a keys arm within apart
arm_is_met x (Indexes a len) apart arm within = by_place (nat_lt arm len) refl
  where
    by_place : (b : Bool) → nat_lt arm len ≡ b → (index_arm (value x.words a) len ≡ arm)
        ↔ AllByRecursion (IsMet x) (cond b (record { rel = Eq; a = a; b = Constant (pos arm) } ∷ []) (record { rel = Uge; a = a; b = Constant (pos len) } ∷ []))
    by_place true is = (λ h. ((index_is (value x.words a) arm len within true is).0 h, tt), λ h. (index_is (value x.words a) arm len within true is).1 h.0)
    by_place false is = (λ h. ((index_is (value x.words a) arm len within false is).0 h, tt), λ h. (index_is (value x.words a) arm len within false is).1 h.0)

either_below : (b : Bool) → cond b 1 0 < 2
either_below true = omega arith
either_below false = omega arith

index_below : (word : ℤ) (len : ℕ) → index_arm word len < suc len
index_below (pos n) len = by_test (nat_lt n len) refl
  where
    by_test : (b : Bool) → nat_lt n len ≡ b → cond b n len < suc len
    by_test true e = omega (arith, ltb-true n len e)
    by_test false e = omega arith
index_below (negsuc n) len = omega arith

-- the arm that a test of words takes is one of the test's
pub words_take_an_arm : (test : Test ℤ) → arm_of test < arms_of test
words_take_an_arm (Compares comparison a b) = either_below (related (relation comparison) a b)
words_take_an_arm (Divides b) = either_below (int_eq b (pos 0))
words_take_an_arm (Selects a keys) = below_all a keys
words_take_an_arm (Indexes a len) = index_below a len

-- and so is that of an input
pub arm_within : (x : Words) (test : Test Term) → arm_on x test < arms_of test
arm_within x (Compares comparison a b) = words_take_an_arm (Compares comparison (value x.words a) (value x.words b))
arm_within x (Divides b) = words_take_an_arm (Divides (value x.words b))
arm_within x (Selects a keys) = words_take_an_arm (Selects (value x.words a) keys)
arm_within x (Indexes a len) = words_take_an_arm (Indexes (value x.words a) len)
