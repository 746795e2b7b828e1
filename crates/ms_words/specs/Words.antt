-- Words, and what the operators compute (JVMS SE 8, sections 2.3 and 6.5).
use Rattle.std.specs.Prelude.{ℕ, zero, ◌/◌, ◌%◌, ◌^◌, ℤ, pos, negsuc, neg_ℤ, ◌+ℤ◌, ◌-ℤ◌, ◌*ℤ◌, int_div, int_rem, bit_and, bit_or, bit_xor, FitsSigned}
use Rattle.std.specs.Int.{cast_unsigned, int_div_euclid, int_rem_euclid, int_wrap, w8, w16, w32}
use Rattle.ms_words.specs.declared.operator.Un.{Un}
use Rattle.ms_words.specs.declared.operator.Un.TheVariants.{Neg, I2b, I2c, I2s}
use Rattle.ms_words.specs.declared.operator.Bin.{Bin}
use Rattle.ms_words.specs.declared.operator.Bin.TheVariants.{Add, Sub, Mul, Div, Rem, Shl, Shr, Ushr, And, Or, Xor}

-- a whole number that is a word: from -2^31 to 2^31 - 1
abbrev pub IsWord : ℤ → Type 0
IsWord z = FitsSigned w32 z

-- the word that a whole number is reduced to: the one that differs from it by a multiple of 2^32
abbrev pub word_of : ℤ → ℤ
word_of z = int_wrap w32 z

-- the number that the 32 bits of a word are, unsigned
abbrev pub unsigned : ℤ → ℕ
unsigned a = cast_unsigned w32 a

-- ONE WORD

-- The whole number that an operator of one word computes. `I2b` gives the number from -128 to 127 that differs from the word
-- by a multiple of 2^8, `I2c` that from 0 to 65,535, and `I2s` that from -32,768 to 32,767, that differ by one of 2^16.
abbrev pub computed1 : Un → ℤ → ℤ
computed1 Neg a = neg_ℤ a
computed1 I2b a = int_wrap w8 a
computed1 I2c a = int_rem_euclid a (pos (2 ^ 16))
computed1 I2s a = int_wrap w16 a

-- the word that an operator of one word gives
abbrev pub applied1 : Un → ℤ → ℤ
applied1 op a = word_of (computed1 op a)

-- TWO WORDS

-- The quotient, rounded toward zero. By zero, where no instruction divides, it is this project's: -1, or 1 of a negative
-- word.
abbrev pub quotient : ℤ → ℤ → ℤ
quotient (pos a) (pos zero) = negsuc 0
quotient (negsuc a) (pos zero) = pos 1
quotient a b = int_div a b

-- the remainder of that quotient, which has the sign of the first word; by zero the first word
abbrev pub remainder : ℤ → ℤ → ℤ
remainder a (pos zero) = a
remainder a b = int_rem a b

-- how far a shift goes: the lowest five bits of the count
abbrev pub shift_of : ℤ → ℕ
shift_of b = unsigned b % 32

-- The whole number that an operator of two words computes. A shift to the right rounds down, and `Ushr` takes the first
-- word as unsigned.
abbrev pub computed2 : Bin → ℤ → ℤ → ℤ
computed2 Add a b = a +ℤ b
computed2 Sub a b = a -ℤ b
computed2 Mul a b = a *ℤ b
computed2 Div a b = quotient a b
computed2 Rem a b = remainder a b
computed2 Shl a b = a *ℤ pos (2 ^ shift_of b)
computed2 Shr a b = int_div_euclid a (pos (2 ^ shift_of b))
computed2 Ushr a b = pos (unsigned a / 2 ^ shift_of b)
computed2 And a b = pos (bit_and (unsigned a) (unsigned b))
computed2 Or a b = pos (bit_or (unsigned a) (unsigned b))
computed2 Xor a b = pos (bit_xor (unsigned a) (unsigned b))

-- the word that an operator of two words gives
abbrev pub applied2 : Bin → ℤ → ℤ → ℤ
applied2 op a b = word_of (computed2 op a b)
