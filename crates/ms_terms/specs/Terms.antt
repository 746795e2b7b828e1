-- Terms over the parameters of the entry, and their values.
use Rattle.std.specs.Prelude.{ℕ, ◌^◌, ℤ, pos, Bool, true, false, List, Option, Some, None, slice_get, unwrap_or}
use Rattle.std.specs.Int.Bits.{bit_or}
use Rattle.ms_words.specs.declared.kind.Kind.{Kind}
use Rattle.ms_words.specs.declared.operator.Un.{Un}
use Rattle.ms_words.specs.declared.operator.Bin.{Bin}
use Rattle.ms_words.specs.Words.{applied1, applied2}

-- a constant word, the parameter of a number and its kind, or an operator of one term or of two
pub data Term : Type 0 where
  Constant : ℤ → Term
  Param : ℕ → Kind → Term
  Unary : Un → Term → Term
  Binary : Bin → Term → Term → Term

-- the word of a term, where the parameters, counted from 0, are these words; one without a word counts as 0
abbrev pub value : List ℤ → Term → ℤ
value words (Constant word) = word
value words (Param index kind) = unwrap_or (slice_get words index) (pos 0)
value words (Unary op a) = applied1 op (value words a)
value words (Binary op a b) = applied2 op (value words a) (value words b)

-- the word of a constant
abbrev pub constant_of : Term → Option ℤ
constant_of (Constant word) = Some word
constant_of (Param index kind) = None
constant_of (Unary op a) = None
constant_of (Binary op a b) = None

-- whether a term is constant
abbrev pub is_constant : Term → Bool
is_constant (Constant word) = true
is_constant (Param index kind) = false
is_constant (Unary op a) = false
is_constant (Binary op a b) = false

-- the term of an operator's result, by the word of its operand, where this is a constant
abbrev pub folded1 : Un → Term → Option ℤ → Term
folded1 op a (Some v) = Constant (applied1 op v)
folded1 op a None = Unary op a

-- the term of an operator's result: a constant exactly where the operand is one
abbrev pub unary : Un → Term → Term
unary op a = folded1 op a (constant_of a)

-- the same, by the words of two operands
abbrev pub folded2 : Bin → Term → Term → Option ℤ → Option ℤ → Term
folded2 op a b (Some v) (Some w) = Constant (applied2 op v w)
folded2 op a b (Some v) None = Binary op a b
folded2 op a b None w = Binary op a b

-- the term of an operator's result: a constant exactly where both operands are constants
abbrev pub binary : Bin → Term → Term → Term
binary op a b = folded2 op a b (constant_of a) (constant_of b)

-- the parameters in a term: the bit of each, counted from the lowest
abbrev pub params : Term → ℕ
params (Constant word) = 0
params (Param index kind) = 2 ^ index
params (Unary op a) = params a
params (Binary op a b) = bit_or (params a) (params b)
