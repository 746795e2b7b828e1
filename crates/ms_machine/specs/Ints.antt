-- The ints of the machine. What it does to them is the same for each kind of ints.
use Rattle.std.specs.Prelude.{ℤ, Bool, true, ◌&&◌, cond, Option, Some, None}
use Rattle.ms_words.specs.declared.operator.Un.{Un}
use Rattle.ms_words.specs.declared.operator.Bin.{Bin}
use Rattle.ms_words.specs.Words.{applied1, applied2}
use Rattle.ms_terms.specs.Terms.{Term, Constant, unary, binary, constant_of, is_constant}

-- what the machine asks of its ints
pub record Ints (V : Type 0) : Type 0 where
  -- the int of a constant word
  pub constant : ℤ → V
  -- the int that an operator gives, of one int and of two
  pub unary : Un → V → V
  pub binary : Bin → V → V → V
  -- the word of an int that no parameter entered
  pub known : V → Option ℤ

-- A RUN ON ONE INPUT: an int is a word and its shadow, a term over the parameters

-- a word with its shadow
pub record Int : Type 0 where
  pub word : ℤ
  pub shadow : Term

-- the ints that are words with shadows
abbrev pub ints : Ints Int
ints = record {
  constant = λ word. record { word = word; shadow = Constant word };
  unary = λ op a. record { word = applied1 op a.word; shadow = unary op a.shadow };
  binary = λ op a b. record { word = applied2 op a.word b.word; shadow = binary op a.shadow b.shadow };
  known = λ a. cond (is_constant a.shadow) (Some a.word) None;
}

-- WITHOUT AN INPUT: an int is a term

-- the ints that are shadows alone
abbrev pub shadows : Ints Term
shadows = record { constant = Constant; unary = unary; binary = binary; known = constant_of }

-- WITH MARKS: an int is a word, and whether no parameter entered it

-- a word, and whether its shadow is constant
pub record Marked : Type 0 where
  pub word : ℤ
  pub plain : Bool

-- the ints that are words with marks
abbrev pub marks : Ints Marked
marks = record {
  constant = λ word. record { word = word; plain = true };
  unary = λ op a. record { word = applied1 op a.word; plain = a.plain };
  binary = λ op a b. record { word = applied2 op a.word b.word; plain = a.plain && b.plain };
  known = λ a. cond a.plain (Some a.word) None;
}
