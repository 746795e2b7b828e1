-- The inputs of an entry are listed: all of them, and in their order.
use Rattle.std.proofs.Common.{◌≡◌, ℕ, suc, ◌<◌, ◌^◌, ◌-◌, Bool, ◌==◌, nat_lt, IsTrue, if◌then◌else◌, List, [], ◌∷◌, length, map, inl, inr, refl, ap, subst, arith}
use Rattle.std.specs.Prelude.{ℤ}
use Rattle.std.proofs.lemmas.Bool.{and_from, and_parts, cases_lt, cases_order, le-ltb}
use Rattle.std.proofs.lemmas.Bool.Decides.{nat_tests}
use Rattle.std.specs.Int.{w8, w16, w32}
use Rattle.std.proofs.lemmas.Int.{to_z_pos}
use Rattle.ms_words.specs.declared.kind.Kind.{Kind}
use Rattle.ms_words.specs.declared.kind.Kind.TheVariants.{Z, B, C, S, I}
use Rattle.ms_words.specs.Inputs.{are_of, bits_of, comes_before, is_of, unsigned_of}
use Rattle.ms_machine.proofs.Order.{same_word}
use Rattle.ms_session.specs.Strings.{below}
use Rattle.ms_session.specs.Paths.{inputs_of, word_with, words_of}
use Rattle.ms_session.proofs.Members.{IsIn, IsOrdered, Origin, from_flat, from_map, from_below, in_below, in_flat, in_map, ordered_below, ordered_flat, ordered_map}

-- ---- THE WORDS OF A KIND

-- the word is one of the kind, and this is its number
record IsNumbered (kind : Kind) (n : ℕ) (word : ℤ) : Type 0 where
  is : IsTrue (is_of kind word)
  number : unsigned_of kind word ≡ n

less : (n m : ℕ) → n < m → IsTrue (nat_lt n m)
less n m h = grind (arith, nat_tests)

-- the word of a number is one of the kind, and has that number
numbered : (kind : Kind) (n : ℕ) → n < 2 ^ bits_of kind → IsNumbered kind n (word_with kind n)
numbered Z n h = record { is = less n 2 h; number = omega arith }
numbered C n h = record { is = less n 65536 h; number = omega arith }
numbered B n h = elim (cases_lt n 128) [
  | inl low ↦ rw (to_z_pos w8 n low) (record { is = less n 128 low; number = omega arith })
  | inr high ↦ rw (le-ltb n 128 high) (record { is = less (256 - suc n) 128 (omega arith); number = omega arith })
]
numbered S n h = elim (cases_lt n 32768) [
  | inl low ↦ rw (to_z_pos w16 n low) (record { is = less n 32768 low; number = omega arith })
  | inr high ↦ rw (le-ltb n 32768 high) (record { is = less (65536 - suc n) 32768 (omega arith); number = omega arith })
]
numbered I n h = elim (cases_lt n 2147483648) [
  | inl low ↦ rw (to_z_pos w32 n low) (record { is = less n 2147483648 low; number = omega arith })
  | inr high ↦ rw (le-ltb n 2147483648 high) (record { is = less (4294967296 - suc n) 2147483648 (omega arith); number = omega arith })
]

number_below : (kind : Kind) (word : ℤ) → unsigned_of kind word < 2 ^ bits_of kind
number_below Z word = omega arith
number_below B word = omega arith
number_below C word = omega arith
number_below S word = omega arith
number_below I word = omega arith

-- a word that is listed has a number
word_numbered : (kind : Kind) (word : ℤ) → IsIn word (words_of kind) → Origin (below (2 ^ bits_of kind)) (λ n. word_with kind n ≡ word)
unfolding words_of
word_numbered kind word is = from_map (word_with kind) word (below (2 ^ bits_of kind)) is

-- a word that is listed is one of the kind
word_is : (kind : Kind) (word : ℤ) → IsIn word (words_of kind) → IsTrue (is_of kind word)
word_is kind word is =
    let origin = word_numbered kind word is in
    subst (λ w. IsTrue (is_of kind w)) origin.makes (numbered kind origin.x (from_below origin.x (2 ^ bits_of kind) origin.is)).is

-- a word of the kind is listed
word_in : (kind : Kind) (word : ℤ) → IsTrue (is_of kind word) → IsIn word (words_of kind)
unfolding words_of
word_in kind word is =
    let n = unsigned_of kind word in
    let of_number : IsNumbered kind n (word_with kind n) = numbered kind n (number_below kind word) in
    let same : word_with kind n ≡ word = same_word kind (word_with kind n) word of_number.is is of_number.number in
    subst (λ w. IsIn w (map (word_with kind) (below (2 ^ bits_of kind)))) same
    (in_map (word_with kind) n (below (2 ^ bits_of kind)) (in_below n (2 ^ bits_of kind) (number_below kind word)))

-- the words of a kind are listed by their numbers
words_ordered : (kind : Kind) → IsOrdered (λ v w. unsigned_of kind v < unsigned_of kind w) (words_of kind)
unfolding words_of
words_ordered kind =
    ordered_map (λ n m. n < m) (λ v w. unsigned_of kind v < unsigned_of kind w) (word_with kind) (below (2 ^ bits_of kind)) (ordered_below (2 ^ bits_of kind))
    (λ n m in_n in_m lower. rises kind n m (from_below n (2 ^ bits_of kind) in_n) (from_below m (2 ^ bits_of kind) in_m) lower)
  where
    rises : (k : Kind) (n m : ℕ) → n < 2 ^ bits_of k → m < 2 ^ bits_of k → n < m → unsigned_of k (word_with k n) < unsigned_of k (word_with k m)
    rises k n m within within' lower = rw ((numbered k n within).number, (numbered k m within').number) lower

-- ---- THE WORDS OF ALL INPUTS

-- there is a word for each kind
pub are_whole : (kinds : List Kind) (words : List ℤ) → IsTrue (are_of kinds words) → length words ≡ length kinds
are_whole [] [] are = refl
are_whole [] (word ∷ words) are = absurd cc
are_whole (kind ∷ kinds) [] are = absurd cc
are_whole (kind ∷ kinds) (word ∷ words) are = ap suc (are_whole kinds words (and_parts _ _ are).1)

-- words that are listed are an input
pub inputs_are : (kinds : List Kind) (words : List ℤ) → IsIn words (inputs_of kinds) → IsTrue (are_of kinds words)
inputs_are [] words (inl here) = subst (λ ws. IsTrue (are_of [] ws)) here refl
inputs_are [] words (inr later) = absurd later
inputs_are (kind ∷ kinds) words is =
    let first = from_flat (λ word. map (λ rest. word ∷ rest) (inputs_of kinds)) words (words_of kind) is in
    let others = from_map (λ rest. first.x ∷ rest) words (inputs_of kinds) first.makes in
    subst (λ ws. IsTrue (are_of (kind ∷ kinds) ws)) others.makes (and_from _ _ (word_is kind first.x first.is) (inputs_are kinds others.x others.is))

-- the words of an input are listed
pub input_in : (kinds : List Kind) (words : List ℤ) → IsTrue (are_of kinds words) → IsIn words (inputs_of kinds)
input_in [] [] are = inl refl
input_in [] (word ∷ words) are = absurd cc
input_in (kind ∷ kinds) [] are = absurd cc
input_in (kind ∷ kinds) (word ∷ words) are =
    let both = and_parts _ _ are in
    in_flat (λ first. map (λ rest. first ∷ rest) (inputs_of kinds)) word (word ∷ words) (words_of kind) (word_in kind word both.0)
    (in_map (λ rest. word ∷ rest) words (inputs_of kinds) (input_in kinds words both.1))

first_lower : (n m : ℕ) (later : Bool) → n < m → IsTrue (if n == m then later else nat_lt n m)
first_lower n m later h = grind (arith, nat_tests)

first_same : (n : ℕ) (later : Bool) → IsTrue later → IsTrue (if n == n then later else nat_lt n n)
first_same n later h = grind (arith, nat_tests)

lower_first : (kind : Kind) (kinds : List Kind) (v w : ℤ) (xs ys : List ℤ) → unsigned_of kind v < unsigned_of kind w → IsTrue (comes_before (kind ∷ kinds) (v ∷ xs) (w ∷ ys))
lower_first kind kinds v w xs ys h = first_lower (unsigned_of kind v) (unsigned_of kind w) (comes_before kinds xs ys) h

-- inputs are listed in their order
pub inputs_ordered : (kinds : List Kind) → IsOrdered (λ xs ys. IsTrue (comes_before kinds xs ys)) (inputs_of kinds)
inputs_ordered [] = (tt, tt)
inputs_ordered (kind ∷ kinds) =
    ordered_flat (λ v w. unsigned_of kind v < unsigned_of kind w) (λ xs ys. IsTrue (comes_before (kind ∷ kinds) xs ys)) (λ word. map (λ rest. word ∷ rest) (inputs_of kinds)) (words_of kind)
    (words_ordered kind)
    (λ word. ordered_map (λ xs ys. IsTrue (comes_before kinds xs ys)) (λ xs ys. IsTrue (comes_before (kind ∷ kinds) xs ys)) (λ rest. word ∷ rest) (inputs_of kinds) (inputs_ordered kinds)
    (λ xs ys is other before. first_same (unsigned_of kind word) (comes_before kinds xs ys) before))
    (λ v w xs ys lower is other.
    let of_v = from_map (λ rest. v ∷ rest) xs (inputs_of kinds) is in
    let of_w = from_map (λ rest. w ∷ rest) ys (inputs_of kinds) other in
    subst (λ l. IsTrue (comes_before (kind ∷ kinds) l ys)) of_v.makes (subst (λ l. IsTrue (comes_before (kind ∷ kinds) (v ∷ of_v.x) l)) of_w.makes (lower_first kind kinds v w of_v.x of_w.x lower)))

-- ---- THE ORDER

one_way : (n m : ℕ) (later later' : Bool) → (IsTrue later → IsTrue later' → ⊥) → IsTrue (if n == m then later else nat_lt n m) → IsTrue (if m == n then later' else nat_lt m n) → ⊥
one_way n m later later' never h k = elim (cases_order n m) [
  | inl same ↦ never (grind (arith, nat_tests)) (grind (arith, nat_tests))
  | inr other ↦ grind (arith, nat_tests)
]

-- of two inputs at most one comes before the other
pub not_both : (kinds : List Kind) (xs ys : List ℤ) → IsTrue (comes_before kinds xs ys) → IsTrue (comes_before kinds ys xs) → ⊥
not_both [] xs ys h k = cc
not_both (kind ∷ kinds) [] ys h k = cc
not_both (kind ∷ kinds) (x ∷ xs) [] h k = cc
not_both (kind ∷ kinds) (x ∷ xs) (y ∷ ys) h k =
    one_way (unsigned_of kind x) (unsigned_of kind y) (comes_before kinds xs ys) (comes_before kinds ys xs) (not_both kinds xs ys) h k
