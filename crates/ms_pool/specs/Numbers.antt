-- What is read at a place is spelled there, and what is spelled there is read.
use Rattle.std.proofs.Common.{◌≡◌, ℕ, ◌+◌, ◌^◌, ◌<◌, ◌≤◌, Bool, true, false, cond, ltb, List, [], ◌∷◌, ◌++◌, length, take, drop, Ok, Err, refl, sym, ap, subst, ◌∙◌, arith, inl, inr, All}
use Rattle.std.specs.Prelude.{slice_index}
use Rattle.std.proofs.lemmas.Bool.{cases_lt, ltb-false, le-ltb}
use Rattle.std.proofs.lemmas.List.{take_at, drop_at, length-append, length-take, get_or-drop, get_or-take, get_or_default, get_or_past}
use Rattle.std.proofs.lemmas.Nat.{be_bytes_2, be_bytes_4}
use Rattle.byteorder.specs.Endian.{big_number}
use Rattle.byteorder.specs.Numbers.{big_from-lt, big_from-take, big_number-reads_back, length-bytes_high_first}
use Rattle.ms_pool.specs.Places.{Place, behind, number_bytes, number_at, run_at}
use Rattle.ms_pool.specs.declared.cursor.Short.{Short}

-- each number is a byte
abbrev pub IsBytes : List ℕ → Type 0
IsBytes bytes = (i : ℕ) → slice_index bytes i < 256

-- the same, element by element
pub bytes_from_all : (bytes : List ℕ) → All (λ byte. byte < 256) bytes → IsBytes bytes
bytes_from_all bytes all i =
    elim (cases_lt i (length bytes)) [
      | inl lt ↦ all i 0 lt
      | inr le ↦ rw (get_or_past bytes i 0 le) (omega arith)
    ]

-- and back
pub all_from_bytes : (bytes : List ℕ) → IsBytes bytes → All (λ byte. byte < 256) bytes
all_from_bytes bytes is i d within = subst (λ (n : ℕ). n < 256) (get_or_default bytes i 0 d within) (is i)

pub IsBytes-drop : (n : ℕ) (bytes : List ℕ) → IsBytes bytes → IsBytes (drop n bytes)
IsBytes-drop n bytes fits i = rw get_or-drop (fits (n + i))

pub IsBytes-take : (n : ℕ) (bytes : List ℕ) → IsBytes bytes → IsBytes (take n bytes)
IsBytes-take n bytes fits i =
    elim (cases_lt i n) [
      | inl lt ↦ rw (get_or-take n bytes i 0 lt) (fits i)
      | inr le ↦ rw (get_or_past (take n bytes) i 0 (omega (arith, length-take n bytes))) (omega arith)
    ]

-- n bytes are spelled back as they were
pub record IsWidth (n : ℕ) : Type 0 where
  pub back : (bytes : List ℕ) → length bytes ≡ n → IsBytes bytes → number_bytes n (big_number n bytes) ≡ bytes

one_back : (bytes : List ℕ) → length bytes ≡ 1 → IsBytes bytes → number_bytes 1 (big_number 1 bytes) ≡ bytes
one_back [] len fits = absurd (omega arith)
one_back (byte ∷ []) len fits = ap (λ (b : ℕ). b ∷ []) (omega (arith, fits 0))
one_back (byte ∷ next ∷ bytes) len fits = absurd (omega arith)

pub width1 : IsWidth 1
width1 = record { back = one_back }

pub width2 : IsWidth 2
width2 = record { back = λ bytes len fits. be_bytes_2 bytes (big_number 2 bytes) len fits (omega arith) }

pub width4 : IsWidth 4
width4 = record { back = λ bytes len fits. be_bytes_4 bytes (big_number 4 bytes) len fits (omega arith) }

-- what was read is in front, and the place is the one behind it
pub record IsRead (n : ℕ) (text : List ℕ) (place after : Place) : Type 0 where
  pub front : text ≡ take n place.left
  pub enough : n ≤ length place.left
  pub moved : after ≡ behind place n

long_enough : {A : Type 0} (short : Bool) (fault : Short) (x y : A) → cond short (Err fault) (Ok x) ≡ Ok y → (short ≡ false) × (x ≡ y)
long_enough true fault x y found = absurd cc
long_enough false fault x y found = (refl, cc)

-- a number that is read is spelled so, and is small enough for its bytes
pub number_is_read : (n : ℕ) → IsWidth n → (place : Place) (x : ℕ × Place) → IsBytes place.left → number_at n place ≡ Ok x → IsRead n (number_bytes n x.0) place x.1 × (x.0 < 256 ^ n)
number_is_read n wide place x fits found =
    let g = long_enough (ltb (length place.left) n) (record { at = place.at }) (big_number n place.left, behind place n) x found in
    let long : n ≤ length place.left = ltb-false _ _ g.0 in
    let same : number_bytes n (big_number n place.left) ≡ take n place.left =
    ap (number_bytes n) (sym (big_from-take 0 n n place.left (omega arith))) ∙ wide.back (take n place.left) (omega (arith, length-take n place.left)) (IsBytes-take n place.left fits) in
    subst (λ (y : ℕ × Place). IsRead n (number_bytes n y.0) place y.1 × (y.0 < 256 ^ n)) g.1
    (record { front = same; enough = long; moved = refl }, big_from-lt 0 n place.left fits)

-- a run of bytes that is read stands there
pub run_is_read : (n : ℕ) (place : Place) (x : List ℕ × Place) → run_at n place ≡ Ok x → IsRead n x.0 place x.1
run_is_read n place x found =
    let g = long_enough (ltb (length place.left) n) (record { at = place.at }) (take n place.left, behind place n) x found in
    subst (λ (y : List ℕ × Place). IsRead n y.0 place y.1) g.1 (record { front = refl; enough = ltb-false _ _ g.0; moved = refl })

-- a number that is spelled is read
pub number_again : (n x : ℕ) (place : Place) (rest : List ℕ) → x < 256 ^ n → place.left ≡ number_bytes n x ++ rest → (number_at n place ≡ Ok (x, behind place n)) × (drop n place.left ≡ rest)
number_again n x place rest below spelled =
    let len = length-bytes_high_first n x in
    let long : ltb (length place.left) n ≡ false = le-ltb _ _ (omega (arith, length-append (number_bytes n x) rest, ap length spelled)) in
    let value : big_number n place.left ≡ x = ap (big_number n) spelled ∙ big_number-reads_back n x rest below in
    (rw (long, value) refl, ap (drop n) spelled ∙ drop_at (number_bytes n x) rest n len)

-- a run of bytes that stands there is read
pub run_again : (text : List ℕ) (place : Place) (rest : List ℕ) → place.left ≡ text ++ rest → (run_at (length text) place ≡ Ok (text, behind place (length text))) × (drop (length text) place.left ≡ rest)
run_again text place rest spelled =
    let long : ltb (length place.left) (length text) ≡ false = le-ltb _ _ (omega (arith, length-append text rest, ap length spelled)) in
    let value : take (length text) place.left ≡ text = ap (take (length text)) spelled ∙ take_at text rest (length text) refl in
    (rw (long, value) refl, ap (drop (length text)) spelled ∙ drop_at text rest (length text) refl)
