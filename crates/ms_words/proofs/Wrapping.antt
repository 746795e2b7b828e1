-- What is left of whole numbers in 32 bits.
use Rattle.std.proofs.Common.{◌≡◌, ℕ, zero, suc, ◌/◌, ◌^◌, ◌%◌, ◌<◌, ◌≤◌, ℤ, pos, negsuc, neg_ℤ, ◌*ℤ◌, FitsSigned, to_z, of_z, refl, sym, ap, ◌∙◌, arith, div-le_self, w8, w32}
use Rattle.std.specs.Prelude.{bit_and, bit_or, bit_xor, unsigned_abs}
use Rattle.std.specs.Int.{Width, int_rem_euclid, int_shl, int_wrap, int_wrapping_div, w16}
use Rattle.std.specs.Int.Bits.{and_lt}
use Rattle.std.proofs.Math.Facts.{Fits-of_z}
use Rattle.std.proofs.Math.Pow.{pow-lt}
use mir.Val.{bits}
use Rattle.std.proofs.lemmas.Int.{to_z-of_z, int_wrap_fits, SFits-int_wrap, wrapping_mul-bits, int_wrap-mul_right}
use Rattle.std.proofs.lemmas.Nat.{or_lt, xor_lt}
use Rattle.ms_words.specs.Words.{IsWord, quotient, shift_of, unsigned, word_of}

-- a number of 32 bits is the word of these bits
pub bits_are : (n : ℕ) → n < 2 ^ 32 → to_z w32 n ≡ word_of (pos n)
unfolding int_wrap
bits_are n small = ap (to_z w32) (omega arith)

-- a word is what is left of it
pub word_is : (z : ℤ) → IsWord z → to_z w32 (of_z w32 z) ≡ word_of z
word_is z fits = to_z-of_z w32 z fits ∙ sym (int_wrap_fits w32 z fits)

pub below : (a : ℤ) → IsWord a → unsigned a < 2 ^ 32
below a fits = (Fits-of_z {w = w32} fits).fits

-- what is negative of a number of 31 bits, or of 2^31, is a word
negative : (n : ℕ) → n ≤ 2 ^ 31 → IsWord (neg_ℤ (pos n))
negative zero small = record { sfits = omega arith }
negative (suc n) small = record { sfits = omega (arith, small) }

fewer : (n d : ℕ) → n / suc d ≤ n
fewer n d = div-le_self n (suc d)

pub quotient_wraps : (a b : ℤ) → IsWord a → IsWord b → (of_z w32 b ≡ 0 → ⊥) → int_wrapping_div w32 a b ≡ word_of (quotient a b)
quotient_wraps a (pos zero) fits other some = absurd (some refl)
quotient_wraps (pos a) (pos (suc b)) fits other some = bits_are (a / suc b) (omega (arith, fewer a b, fits.sfits))
quotient_wraps (pos a) (negsuc b) fits other some = word_is (neg_ℤ (pos (a / suc b))) (negative (a / suc b) (omega (arith, fewer a b, fits.sfits)))
quotient_wraps (negsuc a) (pos (suc b)) fits other some = word_is (neg_ℤ (pos (suc a / suc b))) (negative (suc a / suc b) (omega (arith, fewer (suc a) b, fits.sfits)))
quotient_wraps (negsuc a) (negsuc b) fits other some = bits_are (suc a / suc b) (omega (arith, fewer (suc a) b, fits.sfits))

-- what the code's `wrapping_div` gives
pub division_wraps : (a b r : ℤ) → IsWord a → IsWord b → IsWord r → (of_z w32 b ≡ 0 → ⊥) → r ≡ int_wrapping_div w32 (to_z w32 (of_z w32 a)) (to_z w32 (of_z w32 b)) → to_z w32 (of_z w32 r) ≡ word_of (quotient a b)
division_wraps a b r fits other result some is =
    to_z-of_z w32 r result ∙ is ∙ (λ i. int_wrapping_div w32 (to_z-of_z w32 a fits i) (to_z-of_z w32 b other i)) ∙ quotient_wraps a b fits other some

-- BITS

module _ (a b : ℤ) (fits : IsWord a) (other : IsWord b) where
  pub and_is : to_z w32 (bit_and (unsigned a) (unsigned b)) ≡ word_of (pos (bit_and (unsigned a) (unsigned b)))
  and_is = bits_are _ (and_lt 32 (unsigned a) (unsigned b) (below a fits) (below b other))

  pub or_is : to_z w32 (bit_or (unsigned a) (unsigned b)) ≡ word_of (pos (bit_or (unsigned a) (unsigned b)))
  or_is = bits_are _ (or_lt 32 (unsigned a) (unsigned b) (below a fits) (below b other))

  pub xor_is : to_z w32 (bit_xor (unsigned a) (unsigned b)) ≡ word_of (pos (bit_xor (unsigned a) (unsigned b)))
  xor_is = bits_are _ (xor_lt 32 (unsigned a) (unsigned b) (below a fits) (below b other))

-- SHIFTS

bounded : (k : ℕ) → k < 32 → 2 ^ k < 2 ^ 32
bounded k small = pow-lt {i = k} {j = 32} small

-- what the code's `wrapping_shl` gives
pub shift_wraps : (a b r : ℤ) → IsWord a → IsWord b → IsWord r → r ≡ int_shl w32 (to_z w32 (of_z w32 a)) (of_z w32 (to_z w32 (of_z w32 b)) % 32) → to_z w32 (of_z w32 r) ≡ word_of (a *ℤ pos (2 ^ shift_of b))
shift_wraps a b r fits other result is =
    let small : shift_of b < 32 = omega arith in
    to_z-of_z w32 r result ∙ is ∙ (λ i. int_shl w32 (to_z-of_z w32 a fits i) (of_z w32 (to_z-of_z w32 b other i) % 32))
    ∙ wrapping_mul-bits w32 (unsigned a) (2 ^ shift_of b) (below a fits) (bounded (shift_of b) small)
    ∙ (λ i. int_wrap w32 (to_z-of_z w32 a fits i *ℤ bits_are (2 ^ shift_of b) (bounded (shift_of b) small) i))
    ∙ int_wrap-mul_right w32 a (pos (2 ^ shift_of b))

-- what the code's `wrapping_shr` gives of unsigned numbers
pub unsigned_shift : (a b : ℤ) (up count low : ℕ) (r : ℤ) → IsWord a → IsWord b → IsWord r → up ≡ of_z w32 (to_z w32 (of_z w32 a)) → count ≡ of_z w32 (to_z w32 (of_z w32 b)) → low ≡ up / 2 ^ (count % 32) → r ≡ to_z w32 low
    → to_z w32 (of_z w32 r) ≡ word_of (pos (unsigned a / 2 ^ shift_of b))
unsigned_shift a b up count low r fits other result is_up is_count is_low is =
    let same : low ≡ unsigned a / 2 ^ shift_of b = is_low ∙ (λ i. is_up i / 2 ^ (is_count i % 32)) ∙ (λ i. of_z w32 (to_z-of_z w32 a fits i) / 2 ^ (of_z w32 (to_z-of_z w32 b other i) % 32)) in
    to_z-of_z w32 r result ∙ is ∙ ap (to_z w32) same ∙ bits_are (unsigned a / 2 ^ shift_of b) (omega (arith, div-le_self (unsigned a) (2 ^ shift_of b), below a fits))

-- NARROW NUMBERS

-- what the code gives as the signed number of fewer bits
pub narrowed : (w : Width) (a low cast r : ℤ) → ((z : ℤ) → FitsSigned w z → IsWord z) → IsWord a → IsWord low → low ≡ int_rem_euclid (to_z w32 (of_z w32 a)) (pos (2 ^ bits w)) → cast ≡ to_z w (unsigned_abs (to_z w32 (of_z w32 low))) → r ≡ to_z w (of_z w cast)
    → to_z w32 (of_z w32 r) ≡ word_of (int_wrap w a)
unfolding int_wrap
narrowed w a low cast r wider fits low_fits is_low is_cast is =
    let same : cast ≡ int_wrap w a = is_cast ∙ (λ i. to_z w (unsigned_abs (to_z-of_z w32 low low_fits i))) ∙ ap (λ z. to_z w (unsigned_abs z)) is_low ∙ (λ i. to_z w (unsigned_abs (int_rem_euclid (to_z-of_z w32 a fits i) (pos (2 ^ bits w))))) in
    let narrow : FitsSigned w (int_wrap w a) = SFits-int_wrap w a in
    ap (λ z. to_z w32 (of_z w32 z)) (is ∙ ap (λ z. to_z w (of_z w z)) same ∙ to_z-of_z w (int_wrap w a) narrow) ∙ word_is (int_wrap w a) (wider (int_wrap w a) narrow)

pub byte_fits : (z : ℤ) → FitsSigned w8 z → IsWord z
byte_fits z fits = record { sfits = omega (arith, fits.sfits) }

pub short_fits : (z : ℤ) → FitsSigned w16 z → IsWord z
short_fits z fits = record { sfits = omega (arith, fits.sfits) }
