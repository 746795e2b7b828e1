-- The order of inputs decides between any two of them.
use Rattle.std.proofs.Common.{◌≡◌, ℕ, ◌<◌, ℤ, pos, negsuc, Bool, true, false, ◌==◌, nat_lt, IsTrue, if◌then◌else◌, List, [], ◌∷◌, refl, sym, ap, ◌∙◌, subst, arith}
use Rattle.std.proofs.lemmas.Bool.{and_parts}
use Rattle.std.proofs.lemmas.Bool.Decides.{nat_tests}
use Rattle.ms_words.specs.declared.kind.Kind.{Kind}
use Rattle.ms_words.specs.declared.kind.Kind.TheVariants.{Z, B, C, S, I}
use Rattle.ms_words.specs.Inputs.{are_of, comes_before, is_of, unsigned_of}
use Rattle.ms_machine.specs.Control.{Program}
use Rattle.ms_machine.specs.Laws.{LeastIsFirst, LeastIsUnique}

low : (n m : ℕ) → IsTrue (nat_lt n m) → n < m
low n m h = grind (arith, nat_tests)

pub same_word : (kind : Kind) (v w : ℤ) → IsTrue (is_of kind v) → IsTrue (is_of kind w) → unsigned_of kind v ≡ unsigned_of kind w → v ≡ w
same_word Z (pos m) (pos n) h k same = let a = low m 2 h in let b = low n 2 k in ap pos (omega arith)
same_word Z (pos m) (negsuc n) h k same = absurd (cc)
same_word Z (negsuc m) w h k same = absurd (cc)
same_word B (pos m) (pos n) h k same = let a = low m 128 h in let b = low n 128 k in ap pos (omega arith)
same_word B (pos m) (negsuc n) h k same = let a = low m 128 h in let b = low n 128 k in absurd (omega arith)
same_word B (negsuc m) (pos n) h k same = let a = low m 128 h in let b = low n 128 k in absurd (omega arith)
same_word B (negsuc m) (negsuc n) h k same = let a = low m 128 h in let b = low n 128 k in ap negsuc (omega arith)
same_word C (pos m) (pos n) h k same = let a = low m 65536 h in let b = low n 65536 k in ap pos (omega arith)
same_word C (pos m) (negsuc n) h k same = absurd (cc)
same_word C (negsuc m) w h k same = absurd (cc)
same_word S (pos m) (pos n) h k same = let a = low m 32768 h in let b = low n 32768 k in ap pos (omega arith)
same_word S (pos m) (negsuc n) h k same = let a = low m 32768 h in let b = low n 32768 k in absurd (omega arith)
same_word S (negsuc m) (pos n) h k same = let a = low m 32768 h in let b = low n 32768 k in absurd (omega arith)
same_word S (negsuc m) (negsuc n) h k same = let a = low m 32768 h in let b = low n 32768 k in ap negsuc (omega arith)
same_word I (pos m) (pos n) h k same = let a = low m 2147483648 h in let b = low n 2147483648 k in ap pos (omega arith)
same_word I (pos m) (negsuc n) h k same = let a = low m 2147483648 h in let b = low n 2147483648 k in absurd (omega arith)
same_word I (negsuc m) (pos n) h k same = let a = low m 2147483648 h in let b = low n 2147483648 k in absurd (omega arith)
same_word I (negsuc m) (negsuc n) h k same = let a = low m 2147483648 h in let b = low n 2147483648 k in ap negsuc (omega arith)

-- where neither is less, both are the same, and what decides is what comes later
neither_less : (n m : ℕ) (later later' : Bool)
    → (if n == m then later else nat_lt n m) ≡ false → (if m == n then later' else nat_lt m n) ≡ false
    → (n ≡ m) × ((later ≡ false) × (later' ≡ false))
neither_less n m later later' h k = (grind (arith, nat_tests), (grind (arith, nat_tests), grind (arith, nat_tests)))

pub same_words : (kinds : List Kind) (xs ys : List ℤ) → IsTrue (are_of kinds xs) → IsTrue (are_of kinds ys) → comes_before kinds xs ys ≡ false → comes_before kinds ys xs ≡ false → xs ≡ ys
same_words [] [] [] h k less more = refl
same_words [] [] (y ∷ ys) h k less more = absurd (cc)
same_words [] (x ∷ xs) ys h k less more = absurd (cc)
same_words (kind ∷ kinds) [] ys h k less more = absurd (cc)
same_words (kind ∷ kinds) (x ∷ xs) [] h k less more = absurd (cc)
same_words (kind ∷ kinds) (x ∷ xs) (y ∷ ys) h k less more =
    let fits = and_parts _ _ h in
    let fits' = and_parts _ _ k in
    let both = neither_less (unsigned_of kind x) (unsigned_of kind y) _ _ less more in
    let first : x ≡ y = same_word kind x y fits.0 fits'.0 both.0 in
    let others : xs ≡ ys = same_words kinds xs ys fits.1 fits'.1 both.1.0 both.1.1 in
    λ i. first i ∷ others i

not_so : (b : Bool) → (IsTrue b → ⊥) → b ≡ false
not_so true h = absurd (h refl)
not_so false h = refl

pub least_is_first : (P : Program) → LeastIsFirst P
least_is_first P p x y least input takes not_before =
    let words : x.words ≡ y.words = same_words P.entry.kinds x.words y.words
    (subst (λ ks. IsTrue (are_of ks x.words)) least.input.kinds least.input.words)
    (subst (λ ks. IsTrue (are_of ks y.words)) input.kinds input.words)
    not_before
    (not_so _ (least.first y input takes)) in
    let kinds : x.kinds ≡ y.kinds = least.input.kinds ∙ sym input.kinds in
    λ i. record { kinds = kinds i; words = words i }

pub least_is_unique : (P : Program) → LeastIsUnique P
least_is_unique P p x y least least' = least_is_first P p x y least least'.input least'.takes (not_so _ (least'.first x least.input least.takes))
