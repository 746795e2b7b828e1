-- An entry that is spelled is read again.
use Rattle.std.proofs.Common.{◌≡◌, ℕ, ◌^◌, ◌<◌, ◌⊎◌, Bool, true, false, List, ◌++◌, length, Result, Ok, refl, sym, ap, subst, arith, inl, inr}
use Rattle.std.specs.Prelude.{◌==◌, ◌||◌}
use Rattle.std.proofs.lemmas.Bool.{eqb-true}
use Rattle.ms_pool.specs.declared.pool.PoolFault.{PoolFault}
use Rattle.ms_pool.specs.Places.{Place, behind, number_at, number_bytes, run_at}
use Rattle.ms_pool.specs.Numbers.{number_again, run_again}
use Rattle.ms_pool.specs.Pools.{Entry, Utf8, Word, Wide, One, Two, Handle, IsEntry, is_one_tag, is_two_tag, is_wide_tag, is_word_tag, spelled_entry, tag_of, u1, u2, u4}
use Rattle.ms_pool.specs.PoolReading.{of_short, text_at, word_at, wide_at, one_at, two_at, handle_at, behind_tag, entry_at}

-- this is read there, and these bytes are left then
pub record Reaches {X : Type 0} (read : Result (X × Place) PoolFault) (x : X) (rest : List ℕ) : Type 0 where
  pub after : Place
  pub found : read ≡ Ok (x, after)
  pub left : after.left ≡ rest

pub number_reaches : (n x : ℕ) (place : Place) (rest : List ℕ) → x < 256 ^ n → place.left ≡ number_bytes n x ++ rest → Reaches (of_short (number_at n place)) x rest
number_reaches n x place rest below spelled =
    let again = number_again n x place rest below spelled in
    record { after = behind place n; found = ap of_short again.0; left = again.1 }

run_reaches : (text : List ℕ) (place : Place) (rest : List ℕ) → place.left ≡ text ++ rest → Reaches (of_short (run_at (length text) place)) text rest
run_reaches text place rest spelled =
    let again = run_again text place rest spelled in
    record { after = behind place (length text); found = ap of_short again.0; left = again.1 }

pub or_cases : (b c : Bool) → (b || c) ≡ true → (b ≡ true) ⊎ (c ≡ true)
or_cases true c is = inl refl
or_cases false c is = inr is

pub at_tag : (P : ℕ → Type 0) (tag k : ℕ) → (tag == k) ≡ true → P k → P tag
at_tag P tag k is p = subst P (sym (eqb-true tag k is)) p

-- a tag fits in a byte, and these tests of the chain fail before the one of its form
abbrev PastText : ℕ → Type 0
PastText tag = (tag < 256) × ((tag == 1) ≡ false)

abbrev PastWord : ℕ → Type 0
PastWord tag = (tag < 256) × ((tag == 1) ≡ false) × (is_word_tag tag ≡ false)

abbrev PastWide : ℕ → Type 0
PastWide tag = (tag < 256) × ((tag == 1) ≡ false) × (is_word_tag tag ≡ false) × (is_wide_tag tag ≡ false)

abbrev PastOne : ℕ → Type 0
PastOne tag = (tag < 256) × ((tag == 1) ≡ false) × (is_word_tag tag ≡ false) × (is_wide_tag tag ≡ false) × (is_one_tag tag ≡ false)

word_tags : (tag : ℕ) → is_word_tag tag ≡ true → PastText tag
word_tags tag is = elim (or_cases (tag == 3) (tag == 4) is) [
  | inl e ↦ at_tag PastText tag 3 e (omega arith, refl)
  | inr e ↦ at_tag PastText tag 4 e (omega arith, refl)
]

wide_tags : (tag : ℕ) → is_wide_tag tag ≡ true → PastWord tag
wide_tags tag is = elim (or_cases (tag == 5) (tag == 6) is) [
  | inl e ↦ at_tag PastWord tag 5 e (omega arith, refl, refl)
  | inr e ↦ at_tag PastWord tag 6 e (omega arith, refl, refl)
]

one_tags : (tag : ℕ) → is_one_tag tag ≡ true → PastWide tag
one_tags tag is = elim (or_cases (tag == 7) _ is) [
  | inl e ↦ at_tag PastWide tag 7 e (omega arith, refl, refl, refl)
  | inr more ↦ elim (or_cases (tag == 8) (tag == 16) more) [
    | inl e ↦ at_tag PastWide tag 8 e (omega arith, refl, refl, refl)
    | inr e ↦ at_tag PastWide tag 16 e (omega arith, refl, refl, refl)
  ]
]

two_tags : (tag : ℕ) → is_two_tag tag ≡ true → PastOne tag
two_tags tag is = elim (or_cases (tag == 9) _ is) [
  | inl e ↦ at_tag PastOne tag 9 e (omega arith, refl, refl, refl, refl)
  | inr more ↦ elim (or_cases (tag == 10) _ more) [
    | inl e ↦ at_tag PastOne tag 10 e (omega arith, refl, refl, refl, refl)
    | inr more ↦ elim (or_cases (tag == 11) _ more) [
      | inl e ↦ at_tag PastOne tag 11 e (omega arith, refl, refl, refl, refl)
      | inr more ↦ elim (or_cases (tag == 12) (tag == 18) more) [
        | inl e ↦ at_tag PastOne tag 12 e (omega arith, refl, refl, refl, refl)
        | inr e ↦ at_tag PastOne tag 18 e (omega arith, refl, refl, refl, refl)
      ]
    ]
  ]
]

pub entry_reaches : (left : ℕ) (entry : Entry) (place : Place) (rest : List ℕ) → IsEntry entry → (is_wide_tag (tag_of entry) ≡ true → (left == 1) ≡ false) → place.left ≡ spelled_entry entry ++ rest
    → Reaches (entry_at left place) entry rest
unfolding entry_at behind_tag text_at word_at wide_at one_at two_at handle_at
entry_reaches left (Utf8 text) place rest sound room spelled =
    let tag = number_reaches 1 1 place (u2 (length text) ++ (text ++ rest)) (omega arith) spelled in
    let size = number_reaches 2 (length text) tag.after (text ++ rest) sound tag.left in
    let run = run_reaches text size.after rest size.left in
    record { after = run.after; found = rw (tag.found, size.found, run.found) refl; left = run.left }
entry_reaches left (Word kind number) place rest sound room spelled =
    let past = word_tags kind sound.0 in
    let tag = number_reaches 1 kind place (u4 number ++ rest) past.0 spelled in
    let value = number_reaches 4 number tag.after rest sound.1 tag.left in
    record { after = value.after; found = rw (tag.found, past.1, sound.0, value.found) refl; left = value.left }
entry_reaches left (Wide kind bytes) place rest sound room spelled =
    let past = wide_tags kind sound.0 in
    let tag = number_reaches 1 kind place (bytes ++ rest) past.0 spelled in
    let run = run_reaches bytes tag.after rest tag.left in
    let eight : of_short (run_at 8 tag.after) ≡ Ok (bytes, run.after) = subst (λ (n : ℕ). of_short (run_at n tag.after) ≡ Ok (bytes, run.after)) sound.1 run.found in
    record { after = run.after; found = rw (tag.found, past.1, past.2, sound.0, room sound.0, eight) refl; left = run.left }
entry_reaches left (One kind index) place rest sound room spelled =
    let past = one_tags kind sound.0 in
    let tag = number_reaches 1 kind place (u2 index ++ rest) past.0 spelled in
    let value = number_reaches 2 index tag.after rest sound.1 tag.left in
    record { after = value.after; found = rw (tag.found, past.1, past.2, past.3, sound.0, value.found) refl; left = value.left }
entry_reaches left (Two kind first second) place rest sound room spelled =
    let past = two_tags kind sound.0 in
    let tag = number_reaches 1 kind place (u2 first ++ (u2 second ++ rest)) past.0 spelled in
    let one = number_reaches 2 first tag.after (u2 second ++ rest) sound.1 tag.left in
    let two = number_reaches 2 second one.after rest sound.2 one.left in
    record { after = two.after; found = rw (tag.found, past.1, past.2, past.3, past.4, sound.0, one.found, two.found) refl; left = two.left }
entry_reaches left (Handle kind index) place rest sound room spelled =
    let tag = number_reaches 1 15 place (u1 kind ++ (u2 index ++ rest)) (omega arith) spelled in
    let one = number_reaches 1 kind tag.after (u2 index ++ rest) sound.0 tag.left in
    let two = number_reaches 2 index one.after rest sound.1 one.left in
    record { after = two.after; found = rw (tag.found, one.found, two.found) refl; left = two.left }
