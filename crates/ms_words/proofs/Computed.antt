-- The definitions of inputs and operators, computed on a few values.
use Rattle.std.specs.Prelude.{◌≡◌, [], ◌∷◌, pos, negsuc, true, false, refl}
use Rattle.std.specs.Int.{int_wrap}
use Rattle.ms_words.specs.declared.kind.Kind.TheVariants.{Z, B, C, S, I}
use Rattle.ms_words.specs.declared.operator.Un.TheVariants.{Neg, I2b, I2c, I2s}
use Rattle.ms_words.specs.declared.operator.Bin.TheVariants.{Mul, Div, Rem, Shl, Shr, Ushr, And, Or, Xor}
use Rattle.ms_words.specs.Words.{applied1, applied2}
use Rattle.ms_words.specs.Inputs.{is_of, are_of, unsigned_of, bit_of, comes_before}

-- -1 is the last of kind I, and of kind B
int_last : unsigned_of I (negsuc 0) ≡ 0xFFFF_FFFF
int_last = refl

byte_last : unsigned_of B (negsuc 0) ≡ 255
byte_last = refl

-- of kind B, 127 comes before -128, and -128 before -1
byte_turn : comes_before (B ∷ []) (pos 127 ∷ []) (negsuc 127 ∷ []) ≡ true
byte_turn = refl

byte_end : comes_before (B ∷ []) (negsuc 127 ∷ []) (negsuc 0 ∷ []) ≡ true
byte_end = refl

byte_turned : comes_before (B ∷ []) (negsuc 0 ∷ []) (pos 0 ∷ []) ≡ false
byte_turned = refl

-- the first parameter decides before the second, the second where the first are equal, and none comes before itself
first_decides : comes_before (I ∷ S ∷ []) (pos 1 ∷ negsuc 0 ∷ []) (pos 2 ∷ pos 0 ∷ []) ≡ true
first_decides = refl

second_decides : comes_before (I ∷ S ∷ []) (pos 1 ∷ negsuc 0 ∷ []) (pos 1 ∷ pos 0 ∷ []) ≡ false
second_decides = refl

not_itself : comes_before (I ∷ S ∷ []) (pos 1 ∷ pos 3 ∷ []) (pos 1 ∷ pos 3 ∷ []) ≡ false
not_itself = refl

-- the ends of the kinds
boolean_end : are_of (Z ∷ Z ∷ []) (pos 0 ∷ pos 1 ∷ []) ≡ true
boolean_end = refl

boolean_past : is_of Z (pos 2) ≡ false
boolean_past = refl

byte_lowest : are_of (B ∷ B ∷ []) (negsuc 127 ∷ pos 127 ∷ []) ≡ true
byte_lowest = refl

byte_past : is_of B (pos 128) ≡ false
byte_past = refl

char_ends : are_of (C ∷ C ∷ []) (pos 0 ∷ pos 65_535 ∷ []) ≡ true
char_ends = refl

char_past : is_of C (negsuc 0) ≡ false
char_past = refl

short_ends : are_of (S ∷ S ∷ []) (negsuc 32_767 ∷ pos 32_767 ∷ []) ≡ true
short_ends = refl

short_past : is_of S (negsuc 32_768) ≡ false
short_past = refl

-- bits of -2: only the lowest is 0
lowest_bit : bit_of (negsuc 1) 0 ≡ false
lowest_bit = refl

highest_bit : bit_of (negsuc 1) 31 ≡ true
highest_bit = refl

-- OPERATORS

-- the least word is its own negative; a conversion keeps the lowest bits
neg_least : applied1 Neg (negsuc 2_147_483_647) ≡ negsuc 2_147_483_647
unfolding int_wrap
neg_least = refl

byte_of_200 : applied1 I2b (pos 200) ≡ negsuc 55
unfolding int_wrap
byte_of_200 = refl

char_of_minus_1 : applied1 I2c (negsuc 0) ≡ pos 65_535
unfolding int_wrap
char_of_minus_1 = refl

short_of_70000 : applied1 I2s (pos 70_000) ≡ pos 4_464
unfolding int_wrap
short_of_70000 = refl

short_of_40000 : applied1 I2s (pos 40_000) ≡ negsuc 25_535
unfolding int_wrap
short_of_40000 = refl

-- a product wraps
product : applied2 Mul (pos 65_536) (pos 65_537) ≡ pos 65_536
unfolding int_wrap
product = refl

-- a quotient is rounded toward zero, and a remainder has the sign of the first word
quotient_down : applied2 Div (pos 7) (negsuc 1) ≡ negsuc 2
unfolding int_wrap
quotient_down = refl

remainder_up : applied2 Rem (pos 7) (negsuc 1) ≡ pos 1
unfolding int_wrap
remainder_up = refl

remainder_down : applied2 Rem (negsuc 6) (pos 2) ≡ negsuc 0
unfolding int_wrap
remainder_down = refl

least_quotient : applied2 Div (negsuc 2_147_483_647) (negsuc 0) ≡ negsuc 2_147_483_647
unfolding int_wrap
least_quotient = refl

least_remainder : applied2 Rem (negsuc 2_147_483_647) (negsuc 0) ≡ pos 0
unfolding int_wrap
least_remainder = refl

-- by zero, which no run computes
by_zero : applied2 Div (pos 5) (pos 0) ≡ negsuc 0
unfolding int_wrap
by_zero = refl

negative_by_zero : applied2 Div (negsuc 4) (pos 0) ≡ pos 1
unfolding int_wrap
negative_by_zero = refl

remainder_by_zero : applied2 Rem (negsuc 4) (pos 0) ≡ negsuc 4
unfolding int_wrap
remainder_by_zero = refl

-- a shift uses five bits of its count
shift_33 : applied2 Shl (pos 3) (pos 33) ≡ pos 6
unfolding int_wrap
shift_33 = refl

shift_up : applied2 Shl (pos 1) (pos 31) ≡ negsuc 2_147_483_647
unfolding int_wrap
shift_up = refl

shift_down : applied2 Shr (negsuc 6) (pos 1) ≡ negsuc 3
unfolding int_wrap
shift_down = refl

shift_minus_1 : applied2 Shr (negsuc 2_147_483_647) (negsuc 0) ≡ negsuc 0
unfolding int_wrap
shift_minus_1 = refl

unsigned_shift : applied2 Ushr (negsuc 0) (pos 28) ≡ pos 15
unfolding int_wrap
unsigned_shift = refl

unsigned_shift_none : applied2 Ushr (negsuc 0) (pos 32) ≡ negsuc 0
unfolding int_wrap
unsigned_shift_none = refl

-- bit by bit
bits_and : applied2 And (negsuc 3) (pos 7) ≡ pos 4
unfolding int_wrap
bits_and = refl

bits_or : applied2 Or (negsuc 3) (pos 1) ≡ negsuc 2
unfolding int_wrap
bits_or = refl

bits_xor : applied2 Xor (negsuc 0) (pos 5) ≡ negsuc 5
unfolding int_wrap
bits_xor = refl
