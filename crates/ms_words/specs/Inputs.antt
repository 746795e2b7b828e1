-- Kinds, inputs and their order.
use Rattle.std.specs.Prelude.{◌≡◌, ℕ, ◌^◌, ◌≤◌, ◌%◌, List, [], ◌∷◌, length, replicate, ℤ, pos, negsuc, Bool, true, false, ◌&&◌, ◌==◌, nat_lt, IsTrue, if◌then◌else◌}
use Rattle.std.specs.Int.{w32, cast_unsigned, bit_at}
use Rattle.ms_words.specs.declared.kind.Kind.{Kind}
use Rattle.ms_words.specs.declared.kind.Kind.TheVariants.{Z, B, C, S, I}

-- how many bits a word of the kind has
abbrev pub bits_of : Kind → ℕ
bits_of Z = 1
bits_of B = 8
bits_of C = 16
bits_of S = 16
bits_of I = 32

-- whether a word is one of the kind: 0 or 1; -128 to 127; 0 to 65,535; -32,768 to 32,767; -2^31 to 2^31 - 1
abbrev pub is_of : Kind → ℤ → Bool
is_of Z (pos n) = nat_lt n 2
is_of Z (negsuc n) = false
is_of B (pos n) = nat_lt n (2 ^ 7)
is_of B (negsuc n) = nat_lt n (2 ^ 7)
is_of C (pos n) = nat_lt n (2 ^ 16)
is_of C (negsuc n) = false
is_of S (pos n) = nat_lt n (2 ^ 15)
is_of S (negsuc n) = nat_lt n (2 ^ 15)
is_of I (pos n) = nat_lt n (2 ^ 31)
is_of I (negsuc n) = nat_lt n (2 ^ 31)

-- the number that the bits of a word of the kind are, unsigned
abbrev pub unsigned_of : Kind → ℤ → ℕ
unsigned_of kind word = cast_unsigned w32 word % 2 ^ bits_of kind

-- whether bit b of a word is 1, counted from the lowest of its 32
abbrev pub bit_of : ℤ → ℕ → Bool
bit_of word b = bit_at (cast_unsigned w32 word) b == 1

-- an input: the kinds of the parameters, and a word for each
pub record Words : Type 0 where
  pub kinds : List Kind
  pub words : List ℤ

-- whether there is one word for each kind, and each is one of its kind
abbrev pub are_of : List Kind → List ℤ → Bool
are_of [] [] = true
are_of [] (word ∷ words) = false
are_of (kind ∷ kinds) [] = false
are_of (kind ∷ kinds) (word ∷ words) = is_of kind word && are_of kinds words

-- what each input of the program keeps: at most eight parameters, and for each a word of its kind
pub record IsInput (input : Words) : Type 0 where
  pub few : length input.kinds ≤ 8
  pub as_many : length input.words ≡ length input.kinds
  pub of_kinds : IsTrue (are_of input.kinds input.words)

-- the input of these kinds whose words are all 0
abbrev pub zero_of : List Kind → Words
zero_of kinds = record { kinds = kinds; words = replicate (length kinds) (pos 0) }

-- Whether the first words come before the second: parameter by parameter, the first whose bits differ
-- decides, by their unsigned values.
abbrev pub comes_before : List Kind → List ℤ → List ℤ → Bool
comes_before (kind ∷ kinds) (x ∷ xs) (y ∷ ys) =
    if unsigned_of kind x == unsigned_of kind y then comes_before kinds xs ys else nat_lt (unsigned_of kind x) (unsigned_of kind y)
comes_before [] xs ys = false
comes_before (kind ∷ kinds) [] ys = false
comes_before (kind ∷ kinds) (x ∷ xs) [] = false
