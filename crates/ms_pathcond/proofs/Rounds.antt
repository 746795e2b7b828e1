-- Gathering parameters.
use Rattle.std.proofs.Common.{◌≡◌, ◌≢◌, ◌⊎◌, inl, inr, ◌≤◌, ◌+◌, ◌==◌, ◌||◌, nat_le, nat_lt, ℕ, Bool, true, false, not, List, Some, slice_get, refl, sym, ap, ◌∙◌, arith}
use Rattle.std.specs.Int.Bits.{bit_and, bit_or}
use Rattle.std.proofs.lemmas.Bool.{eqb-false, eqb-true, leb-false, leb-true, ltb-false, ltb-true}
use Rattle.std.proofs.lemmas.Nat.{and_assoc, and_comm, and_le_l, and_le_r, and_or_apart, and_or_self, le_or_l}
use Rattle.ms_pathcond.specs.Slices.{Belongs, Last, Shares}
use Rattle.ms_pathcond.specs.Gathered.{IsClosed, IsSound, is_met}

-- MASKS

-- what shares with the union of two shares with one of them
shares_with_one : (support gathered more : ℕ) → bit_and support (bit_or gathered more) ≢ 0 → (bit_and support gathered ≢ 0) ⊎ (bit_and support more ≢ 0)
shares_with_one support gathered more shares = by_test (bit_and support gathered == 0) refl
  where
    by_test : (b : Bool) → (bit_and support gathered == 0) ≡ b → (bit_and support gathered ≢ 0) ⊎ (bit_and support more ≢ 0)
    by_test true is =
        let none : bit_and support gathered ≡ 0 = eqb-true (bit_and support gathered) 0 is in
        inr (λ zero_too. shares (and_comm support (bit_or gathered more) ∙ and_or_apart support gathered more (and_comm more support ∙ zero_too) ∙ and_comm gathered support ∙ none))
    by_test false is = inl (eqb-false (bit_and support gathered) 0 is)

-- what shares with a part shares with the whole
pub shares_with_all : (support gathered part : ℕ) → bit_or gathered part ≡ gathered → bit_and support part ≢ 0 → bit_and support gathered ≢ 0
shares_with_all support gathered part within shares = λ none.
    let is : part ≡ bit_and gathered part = sym (and_or_self part gathered) ∙ ap (λ all. bit_and all part) within in
    let whole : bit_and support part ≡ bit_and 0 part = ap (bit_and support) is ∙ sym (and_assoc part support gathered) ∙ ap (λ z. bit_and z part) none in
    let zero_part : bit_and 0 part ≡ 0 = omega (arith, and_le_l 0 part) in
    shares (whole ∙ zero_part)

-- WHAT IS MET

pub met_last : (place support first gathered : ℕ) → first ≤ place → is_met place support first gathered ≡ true
met_last place support first gathered last = by_test (nat_le first place) refl
  where
    by_test : (b : Bool) → nat_le first place ≡ b → (b || not (bit_and support gathered == 0)) ≡ true
    by_test true is = refl
    by_test false is = absurd (omega (arith, leb-false first place is, last))

pub met_shares : (place support first gathered : ℕ) → bit_and support gathered ≢ 0 → is_met place support first gathered ≡ true
met_shares place support first gathered shares = by_tests (nat_le first place) (bit_and support gathered == 0) refl
  where
    by_tests : (b c : Bool) → (bit_and support gathered == 0) ≡ c → (b || not c) ≡ true
    by_tests true c is = refl
    by_tests false true is = absurd (shares (eqb-true (bit_and support gathered) 0 is))
    by_tests false false is = refl

pub met_cases : (place support first gathered : ℕ) → is_met place support first gathered ≡ true → (first ≤ place) ⊎ (bit_and support gathered ≢ 0)
met_cases place support first gathered met = by_tests (nat_le first place) (bit_and support gathered == 0) refl refl met
  where
    by_tests : (b c : Bool) → nat_le first place ≡ b → (bit_and support gathered == 0) ≡ c → (b || not c) ≡ true → (first ≤ place) ⊎ (bit_and support gathered ≢ 0)
    by_tests true c is other true_is = inl (leb-true first place is)
    by_tests false true is other true_is = absurd (let e = true_is in cc)
    by_tests false false is other true_is = inr (eqb-false (bit_and support gathered) 0 other)

-- ROUNDS

-- what a round keeps
pub record Gathered (supports : List ℕ) (first start places all : ℕ) : Type 0 where
  pub grown : start ≤ all
  pub sound : IsSound supports first start → IsSound supports first all
  pub closed : all ≡ start → IsClosed supports first start places

pub begun : (supports : List ℕ) (first start : ℕ) → Gathered supports first start 0 start
begun supports first start = record { grown = omega arith; sound = λ h. h; closed = λ same place support less. absurd (omega (arith, less)) }

module _ (supports : List ℕ) (first start places all support : ℕ) (at : slice_get supports places ≡ Some support) (so_far : Gathered supports first start places all) where
  -- a literal that is met
  pub taken : is_met places support first all ≡ true → Gathered supports first start (places + 1) (bit_or all support)
  taken met = record { grown = omega (arith, so_far.grown, le_or_l all support); sound = sound; closed = closed }
    where
      sound : IsSound supports first start → IsSound supports first (bit_or all support)
      sound h place its at_place met_here =
          let it : Belongs supports first places = so_far.sound h places support at met in
          elim (met_cases place its first (bit_or all support) met_here) [
            | inl last ↦ Last place last
            | inr shares ↦ elim (shares_with_one its all support shares) [
              | inl before ↦ so_far.sound h place its at_place (met_shares place its first all before)
              | inr now ↦ Shares places place its support it at at_place now
            ]
          ]

      closed : bit_or all support ≡ start → IsClosed supports first start (places + 1)
      closed same place its less at_place met_here =
          let before : all ≡ start = omega (arith, so_far.grown, le_or_l all support, same) in
          by_place (nat_lt place places) refl before
        where
          by_place : (b : Bool) → nat_lt place places ≡ b → all ≡ start → bit_or start its ≡ start
          by_place true is before = so_far.closed before place its (ltb-true place places is) at_place met_here
          by_place false is before =
              let here : place ≡ places = omega (arith, ltb-false place places is, less) in
              let it : support ≡ its = (let e = sym at ∙ ap (slice_get supports) (sym here) ∙ at_place in cc) in
              (λ j. bit_or (sym before j) (sym it j)) ∙ same

  -- a literal that is not
  pub left : is_met places support first all ≡ false → Gathered supports first start (places + 1) all
  left unmet = record { grown = so_far.grown; sound = so_far.sound; closed = closed }
    where
      closed : all ≡ start → IsClosed supports first start (places + 1)
      closed same place its less at_place met_here = by_place (nat_lt place places) refl
        where
          by_place : (b : Bool) → nat_lt place places ≡ b → bit_or start its ≡ start
          by_place true is = so_far.closed same place its (ltb-true place places is) at_place met_here
          by_place false is =
              let here : place ≡ places = omega (arith, ltb-false place places is, less) in
              let it : support ≡ its = (let e = sym at ∙ ap (slice_get supports) (sym here) ∙ at_place in cc) in
              absurd (let e : is_met places support first all ≡ true = (λ j. is_met (sym here j) (it j) first (same j)) ∙ met_here in let f = unmet in cc)

-- before the first round
pub sound_at_first : (supports : List ℕ) (first : ℕ) → IsSound supports first 0
sound_at_first supports first place support at met = elim (met_cases place support first 0 met) [
  | inl last ↦ Last place last
  | inr shares ↦ absurd (shares (omega (arith, and_le_r support 0)))
]
