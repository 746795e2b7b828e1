-- Lemmas on the words of an input, place by place.
use Rattle.std.proofs.Common.{Bool, false, ◌≡◌, ℕ, zero, suc, ◌+◌, ◌<◌, ◌≤◌, List, [], ◌∷◌, length, take, drop, replicate, get_or, slice_get, slice_set, ℤ, pos, to_z, of_z, w32, FitsSigned, Some, IsTrue, IfSome, ◌==◌, ◌&&◌, ◌≢◌, nat_lt, if◌then◌else◌, refl, subst, ap, ◌∙◌, ◌-◌, arith}
use Rattle.std.proofs.lemmas.Bool.{and_from, and_parts}
use Rattle.std.proofs.lemmas.Bool.Decides.{nat_tests}
use Rattle.std.proofs.lemmas.Int.{to_z-of_z}
use Rattle.std.proofs.lemmas.List.{drop_more, drop-replicate, drop-set-lt, get_or-take, length-set, length-take, take_at, take-replicate}
use Rattle.std.proofs.lemmas.Option.{slice_get-get_or}
use Rattle.std.proofs.Math.Bool.{and-false}
use Rattle.std.proofs.Math.Seq.{take-set-lt}
use Rattle.ms_words.specs.declared.kind.Kind.{Kind}
use Rattle.ms_words.specs.declared.kind.Kind.TheVariants.{Z, B, C, S, I}
use Rattle.ms_words.specs.Inputs.{IsInput, is_of, are_of, comes_before, unsigned_of}
use Rattle.ms_words.specs.Kept.{IsKept}
use Rattle.ms_words.specs.Padding.{IsPadded, length_unpadded, padded, padded_is_padded}

-- 0 is a word of each kind
pub is_of_zero : (kind : Kind) → IsTrue (is_of kind (pos 0))
is_of_zero Z = refl
is_of_zero B = refl
is_of_zero C = refl
is_of_zero S = refl
is_of_zero I = refl

-- words that are all 0 are of any kinds
pub are_of_zero : (kinds : List Kind) → IsTrue (are_of kinds (replicate (length kinds) (pos 0)))
are_of_zero [] = refl
are_of_zero (kind ∷ kinds) = and_from _ _ (is_of_zero kind) (are_of_zero kinds)

-- there is one word for each kind
pub length_are_of : (kinds : List Kind) (words : List ℤ) → IsTrue (are_of kinds words) → length words ≡ length kinds
length_are_of [] [] fit = refl
length_are_of [] (word ∷ words) fit = (cc)
length_are_of (kind ∷ kinds) [] fit = (cc)
length_are_of (kind ∷ kinds) (word ∷ words) fit = ap suc (length_are_of kinds words (and_parts (is_of kind word) (are_of kinds words) fit).1)

-- where there are more words or fewer, they are not of the kinds
pub not_as_many : (kinds : List Kind) (words : List ℤ) → (length kinds ≢ length words) → are_of kinds words ≡ false
not_as_many [] [] other = absurd (other refl)
not_as_many [] (word ∷ words) other = refl
not_as_many (kind ∷ kinds) [] other = refl
not_as_many (kind ∷ kinds) (word ∷ words) other =
    rw (not_as_many kinds words (λ same. other (ap suc same))) (and-false (is_of kind word))

-- the words from place i on, by whether the one there is of its kind
pub are_of_more : (kinds : List Kind) (words : List ℤ) (i : ℕ) (kind : Kind) (word : ℤ) (fits : Bool) → i < length kinds → i < length words
    → FitsSigned w32 (get_or words i word) → fits ≡ is_of (get_or kinds i kind) (to_z w32 (of_z w32 (get_or words i word)))
    → are_of (drop i kinds) (drop i words) ≡ (fits && are_of (drop (i + 1) kinds) (drop (i + 1) words))
are_of_more kinds words i kind word fits in_kinds in_words word_fits fits_is =
    rw (drop_more kinds i kind in_kinds, drop_more words i word in_words, simp to_z-of_z at fits_is) refl

-- the places of an input with these words
pub kept_words : (kinds : List Kind) (words : List ℤ) → length kinds ≤ 8 → IsTrue (are_of kinds words) → IsKept (padded Z kinds) (padded (pos 0) words) (length kinds)
kept_words kinds words small fit =
    let many = length_are_of kinds words fit in
    record {
      kinds_kept = padded_is_padded Z kinds small;
      words_kept = subst (λ (n : ℕ). IsPadded (pos 0) (padded (pos 0) words) n) many (padded_is_padded (pos 0) words (omega arith));
      of_kinds = rw (take_at kinds (replicate (8 - length kinds) Z) (length kinds) refl, take_at words (replicate (8 - length words) (pos 0)) (length kinds) many) fit;
    }

-- a word of its kind in place of another
pub are_of-set : (kinds : List Kind) (words : List ℤ) (i : ℕ) (word : ℤ) → IsTrue (are_of kinds words) → IfSome (slice_get kinds i) (λ kind. IsTrue (is_of kind word)) → IsTrue (are_of kinds (slice_set words i word))
are_of-set [] [] i word fit new = refl
are_of-set [] (old ∷ words) i word fit new = (cc)
are_of-set (kind ∷ kinds) [] i word fit new = (cc)
are_of-set (kind ∷ kinds) (old ∷ words) zero word fit new = and_from _ _ new (and_parts (is_of kind old) (are_of kinds words) fit).1
are_of-set (kind ∷ kinds) (old ∷ words) (suc i) word fit new =
    let parts = and_parts (is_of kind old) (are_of kinds words) fit in
    and_from _ _ parts.0 (are_of-set kinds words i word parts.1 new)

-- what is read in the first n places
pub slice_get-take : {X : Type 0} (n : ℕ) (list : List X) (i : ℕ) (d : X) → i < n → n ≤ length list → slice_get (take n list) i ≡ Some (get_or list i d)
slice_get-take n list i d within long =
    slice_get-get_or (take n list) i d (omega (arith, length-take n list)) ∙ ap Some (get_or-take n list i d within)

-- the words from place i on, by what the code computes of those there, and the words behind them
pub comes_before_more : (kinds : List Kind) (xs ys : List ℤ) (i first second : ℕ) (kind : Kind) (x y : ℤ) → i < length kinds → i < length xs → i < length ys
    → FitsSigned w32 (get_or xs i x) → FitsSigned w32 (get_or ys i y)
    → first ≡ unsigned_of (get_or kinds i kind) (to_z w32 (of_z w32 (get_or xs i x)))
    → second ≡ unsigned_of (get_or kinds i kind) (to_z w32 (of_z w32 (get_or ys i y)))
    → comes_before (drop i kinds) (drop i xs) (drop i ys)
    ≡ (if first == second then comes_before (drop (i + 1) kinds) (drop (i + 1) xs) (drop (i + 1) ys) else nat_lt first second)
comes_before_more kinds xs ys i first second kind x y in_kinds in_xs in_ys x_fits y_fits first_is second_is =
    rw (drop_more kinds i kind in_kinds, drop_more xs i x in_xs, drop_more ys i y in_ys, simp to_z-of_z at first_is, simp to_z-of_z at second_is) refl

-- what is kept of an input is what each input keeps
pub is_input : (kinds : List Kind) (words : List ℤ) (count : ℕ) → IsKept kinds words count → IsInput (record { kinds = take count kinds; words = take count words })
is_input kinds words count kept = record {
  few = omega (arith, length_unpadded Z kinds count kept.kinds_kept, kept.kinds_kept.small);
  as_many = length_are_of (take count kinds) (take count words) kept.of_kinds;
  of_kinds = kept.of_kinds;
}

-- one word is replaced by another of its kind
pub kept-set : (kinds : List Kind) (words : List ℤ) (count i : ℕ) (kind : Kind) (word : ℤ) → i < count → IsKept kinds words count → IsTrue (is_of (get_or kinds i kind) word) → IsKept kinds (slice_set words i word) count
kept-set kinds words count i kind word within kept new = record {
  kinds_kept = kept.kinds_kept;
  words_kept = record {
    small = kept.words_kept.small;
    whole = length-set words i word ∙ kept.words_kept.whole;
    rest = drop-set-lt count words i word within ∙ kept.words_kept.rest;
  };
  of_kinds =
      let there = slice_get-take count kinds i kind within (omega (arith, kept.kinds_kept.small, kept.kinds_kept.whole)) in
      rw (take-set-lt count words i word within)
      (are_of-set (take count kinds) (take count words) i word kept.of_kinds (rw there new));
}

-- the places of an input whose words are all 0
pub kept_zero : (kinds : List Kind) → length kinds ≤ 8 → IsKept (padded Z kinds) (replicate 8 (pos 0)) (length kinds)
kept_zero kinds small = record {
  kinds_kept = padded_is_padded Z kinds small;
  words_kept = record { small = small; whole = refl; rest = drop-replicate (length kinds) 8 (pos 0) };
  of_kinds =
      rw (take_at kinds (replicate (8 - length kinds) Z) (length kinds) refl, take-replicate (length kinds) 8 (pos 0) small)
      (are_of_zero kinds);
}

pub taken_zero : (kinds : List Kind) → length kinds ≤ 8 → take (length kinds) (replicate 8 (pos 0)) ≡ replicate (length kinds) (pos 0)
taken_zero kinds small = take-replicate (length kinds) 8 (pos 0) small

pub unsigned_of_zero : (kind : Kind) → unsigned_of kind (pos 0) ≡ 0
unsigned_of_zero Z = refl
unsigned_of_zero B = refl
unsigned_of_zero C = refl
unsigned_of_zero S = refl
unsigned_of_zero I = refl

no_less_than_zero : (n least : ℕ) (later : Bool) → least ≡ 0 → later ≡ false → (if n == least then later else nat_lt n least) ≡ false
no_less_than_zero n least later is_zero is_false = grind (arith, nat_tests)

-- no words come before those that are all 0
pub none_before_zero : (kinds : List Kind) (words : List ℤ) → comes_before kinds words (replicate (length kinds) (pos 0)) ≡ false
none_before_zero [] words = refl
none_before_zero (kind ∷ kinds) [] = refl
none_before_zero (kind ∷ kinds) (word ∷ words) =
    no_less_than_zero (unsigned_of kind word) (unsigned_of kind (pos 0)) _ (unsigned_of_zero kind) (none_before_zero kinds words)
