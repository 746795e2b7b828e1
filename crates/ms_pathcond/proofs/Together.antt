-- Words that are put together place by place.
use Rattle.std.proofs.Common.{◌≡◌, ◌<◌, ◌+◌, ℕ, zero, suc, ℤ, pos, Bool, true, false, cond, IsTrue, List, [], ◌∷◌, length, get_or, slice_get, slice_set, Some, refl, sym, ap, subst, ◌∙◌, arith}
use Rattle.std.specs.Prelude.{◌&&◌, IfSome}
use Rattle.std.proofs.lemmas.Option.{slice_get-get_or, slice_get_within}
use Rattle.ms_words.specs.declared.kind.Kind.{Kind}
use Rattle.ms_words.specs.Inputs.{IsInput, Words, are_of, is_of}
use Rattle.ms_terms.proofs.Growing.{stands}
use Rattle.ms_pathcond.specs.Mixing.{mixed_from}

-- the words put together at so many places, counted from one on, and the second ones behind them
abbrev pub mixed_until : (ℕ → Bool) → ℕ → ℕ → List ℤ → List ℤ → List ℤ
mixed_until is_first index zero xs ys = ys
mixed_until is_first index (suc n) [] ys = ys
mixed_until is_first index (suc n) (x ∷ xs) [] = []
mixed_until is_first index (suc n) (x ∷ xs) (y ∷ ys) = cond (is_first index) x y ∷ mixed_until is_first (suc index) n xs ys

-- at all places
pub until_all : (is_first : ℕ → Bool) (index n : ℕ) (xs ys : List ℤ) → n ≡ length ys → length xs ≡ length ys → mixed_until is_first index n xs ys ≡ mixed_from is_first index xs ys
until_all is_first index zero [] ys all many = refl
until_all is_first index zero (x ∷ xs) ys all many = absurd (omega (arith, all, many))
until_all is_first index (suc n) [] ys all many = refl
until_all is_first index (suc n) (x ∷ xs) [] all many = refl
until_all is_first index (suc n) (x ∷ xs) (y ∷ ys) all many = ap (λ zs. cond (is_first index) x y ∷ zs) (until_all is_first (suc index) n xs ys (omega (arith, all)) (omega (arith, many)))

-- at one place more, where the first word is written
pub until_first : (is_first : ℕ → Bool) (index n : ℕ) (xs ys : List ℤ) (x : ℤ) → length xs ≡ length ys → slice_get xs n ≡ Some x → is_first (index + n) ≡ true
    → slice_set (mixed_until is_first index n xs ys) n x ≡ mixed_until is_first index (suc n) xs ys
until_first is_first index n [] ys x many at set = absurd (let e = at in cc)
until_first is_first index n (v ∷ xs) [] x many at set = absurd (omega (arith, many))
until_first is_first index zero (v ∷ xs) (y ∷ ys) x many at set =
    let here : is_first index ≡ true = subst (λ k. is_first k ≡ true) (let e : index + 0 ≡ index = omega arith in e) set in
    let is : x ≡ v = (let e = sym at in cc) in
    (λ j. is j ∷ ys) ∙ ap (λ b. cond b v y ∷ ys) (sym here)
until_first is_first index (suc n) (v ∷ xs) (y ∷ ys) x many at set =
    ap (λ zs. cond (is_first index) v y ∷ zs)
    (until_first is_first (suc index) n xs ys x (omega (arith, many)) at (subst (λ k. is_first k ≡ true) (let e : index + suc n ≡ suc index + n = omega arith in e) set))

-- and where it isn't
pub until_second : (is_first : ℕ → Bool) (index n : ℕ) (xs ys : List ℤ) → length xs ≡ length ys → is_first (index + n) ≡ false → mixed_until is_first index n xs ys ≡ mixed_until is_first index (suc n) xs ys
until_second is_first index zero [] ys many unset = refl
until_second is_first index (suc n) [] ys many unset = refl
until_second is_first index n (x ∷ xs) [] many unset = absurd (omega (arith, many))
until_second is_first index zero (x ∷ xs) (y ∷ ys) many unset = ap (λ b. cond b x y ∷ ys) (sym (subst (λ k. is_first k ≡ false) (let e : index + 0 ≡ index = omega arith in e) unset))
until_second is_first index (suc n) (x ∷ xs) (y ∷ ys) many unset =
    ap (λ zs. cond (is_first index) x y ∷ zs) (until_second is_first (suc index) n xs ys (omega (arith, many)) (subst (λ k. is_first k ≡ false) (let e : index + suc n ≡ suc index + n = omega arith in e) unset))

-- a word of an input is of its kind
pub fits_at : (kinds : List Kind) (words : List ℤ) (n : ℕ) (kind : Kind) (word : ℤ) → IsTrue (are_of kinds words) → slice_get kinds n ≡ Some kind → slice_get words n ≡ Some word → is_of kind word ≡ true
fits_at [] words n kind word are at at_word = absurd (let e = at in cc)
fits_at (k ∷ kinds) [] n kind word are at at_word = absurd (let e = at_word in cc)
fits_at (k ∷ kinds) (w ∷ words) n kind word are at at_word = by_test (is_of k w) refl are n at at_word (λ rest m at_kind at_here. fits_at kinds words m kind word rest at_kind at_here)
  where
    by_test : (b : Bool) → is_of k w ≡ b → IsTrue (b && are_of kinds words) → (n : ℕ) → slice_get (k ∷ kinds) n ≡ Some kind → slice_get (w ∷ words) n ≡ Some word
        → (IsTrue (are_of kinds words) → (m : ℕ) → slice_get kinds m ≡ Some kind → slice_get words m ≡ Some word → is_of kind word ≡ true) → is_of kind word ≡ true
    by_test false is rest n at at_word later = absurd (let e = rest in cc)
    by_test true is rest zero at at_word later = let e = at in let f = at_word in let g = is in cc
    by_test true is rest (suc n) at at_word later = later rest n at at_word

-- a word that is read
pub read_at : (words read : List ℤ) (n : ℕ) → read ≡ words → n < length words → slice_get words n ≡ Some (get_or read n (pos 0))
read_at words read n same less = ap (λ ws. slice_get ws n) (sym same) ∙ slice_get-get_or read n (pos 0) (omega (arith, less, ap length same))

-- inputs of the same kinds have as many words
pub many_words : (x y : Words) → IsInput x → IsInput y → x.kinds ≡ y.kinds → length x.words ≡ length y.words
many_words x y is_x is_y same = is_x.as_many ∙ ap length same ∙ sym is_y.as_many

-- a word of one is of its kind in the other
pub fits_there : (x y : Words) (n : ℕ) (word : ℤ) (fits : Bool) → IsInput x → x.kinds ≡ y.kinds → slice_get x.words n ≡ Some word → IfSome (slice_get y.kinds n) (λ kind. fits ≡ is_of kind word) → fits ≡ true
fits_there x y n word fits is_x same at its =
    let there = stands x.kinds n (omega (arith, slice_get_within x.words n word at, is_x.as_many)) in
    subst (λ o. IfSome o (λ kind. fits ≡ is_of kind word)) (ap (λ ks. slice_get ks n) (sym same) ∙ there.1) its ∙ fits_at x.kinds x.words n there.0 word is_x.of_kinds there.1 at
