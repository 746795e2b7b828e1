-- Tests of ints: which arm a test takes, and what an arm says of its ints. Arms in choice order: of a
-- comparison 0 falls through and 1 is taken; of a divisor 0 is nonzero and 1 zero; of a switch the cases in
-- table order and then the default; of an index k is index k, and the arm numbered by the length is out
-- of range.
use Rattle.std.specs.Prelude.{ℕ, zero, suc, ℤ, pos, negsuc, cond, nat_lt, List, [], ◌∷◌, length, Option, Some, None}
use Rattle.ms_words.specs.declared.operator.Rel.{Rel}
use Rattle.ms_words.specs.declared.operator.Rel.TheVariants.{Eq, Ne, Uge}
use Rattle.ms_words.specs.Relations.{int_eq, related}
use Rattle.ms_machine.specs.Ints.{Ints}
use Rattle.ms_machine.specs.Instructions.{Comparison, Equal, NotEqual, Less, AtLeast, Greater, AtMost, relation}
use Rattle.ms_machine.specs.Effects.{Test, Compares, Divides, Selects, Indexes}

-- ARMS

-- the place of the first key that is the word, or the number of keys
abbrev pub case_of : ℤ → List ℤ → ℕ
case_of word [] = 0
case_of word (key ∷ keys) = cond (int_eq word key) 0 (suc (case_of word keys))

-- the index, where it is in range, and else the length
abbrev pub index_arm : ℤ → ℕ → ℕ
index_arm (pos n) len = cond (nat_lt n len) n len
index_arm (negsuc n) len = len

-- the arm that a test of words takes
abbrev pub arm_of : Test ℤ → ℕ
arm_of (Compares comparison a b) = cond (related (relation comparison) a b) 1 0
arm_of (Divides b) = cond (int_eq b (pos 0)) 1 0
arm_of (Selects a keys) = case_of a keys
arm_of (Indexes a len) = index_arm a len

-- how many arms a test has
abbrev pub arms_of : {V : Type 0} → Test V → ℕ
arms_of (Compares comparison a b) = 2
arms_of (Divides b) = 2
arms_of (Selects a keys) = suc (length keys)
arms_of (Indexes a len) = suc len

-- a map of ints carried to a test
abbrev pub map_test : {V W : Type 0} → (V → W) → Test V → Test W
map_test f (Compares comparison a b) = Compares comparison (f a) (f b)
map_test f (Divides b) = Divides (f b)
map_test f (Selects a keys) = Selects (f a) keys
map_test f (Indexes a len) = Indexes (f a) len

-- WHERE A TEST IS NO CHOICE: no parameter entered its ints

-- the comparison of two words, where both are known
abbrev pub both_known : Comparison → Option ℤ → Option ℤ → Option (Test ℤ)
both_known comparison None b = None
both_known comparison (Some v) None = None
both_known comparison (Some v) (Some w) = Some (Compares comparison v w)

-- the test of one word, where it is known
abbrev pub one_known : (ℤ → Test ℤ) → Option ℤ → Option (Test ℤ)
one_known test None = None
one_known test (Some word) = Some (test word)

-- the test of words, where each int of it is known
abbrev pub known_test : {V : Type 0} → Ints V → Test V → Option (Test ℤ)
known_test I (Compares comparison a b) = both_known comparison (I.known a) (I.known b)
known_test I (Divides b) = one_known Divides (I.known b)
known_test I (Selects a keys) = one_known (λ word. Selects word keys) (I.known a)
known_test I (Indexes a len) = one_known (λ word. Indexes word len) (I.known a)

-- LITERALS

-- a relation between two ints
pub record Literal (V : Type 0) : Type 0 where
  pub rel : Rel
  pub a : V
  pub b : V

-- a map of ints carried to a literal
abbrev pub map_literal : {V W : Type 0} → (V → W) → Literal V → Literal W
map_literal f literal = record { rel = literal.rel; a = f literal.a; b = f literal.b }

-- the comparison that holds where another does not
abbrev pub opposite : Comparison → Comparison
opposite Equal = NotEqual
opposite NotEqual = Equal
opposite Less = AtLeast
opposite AtLeast = Less
opposite Greater = AtMost
opposite AtMost = Greater

-- the value is none of the keys
abbrev pub none_of : {V : Type 0} → (ℤ → V) → V → List ℤ → List (Literal V)
none_of constant a [] = []
none_of constant a (key ∷ keys) = record { rel = Ne; a = a; b = constant key } ∷ none_of constant a keys

-- the value is the key of the case (the keys of a switch differ), or for the default none of all keys
abbrev pub selected : {V : Type 0} → (ℤ → V) → V → List ℤ → List ℤ → ℕ → List (Literal V)
selected constant a all [] arm = none_of constant a all
selected constant a all (key ∷ keys) zero = record { rel = Eq; a = a; b = constant key } ∷ []
selected constant a all (key ∷ keys) (suc arm) = selected constant a all keys arm

-- what an arm says of the test's ints: one relation, and for the default of a switch one for each key
abbrev pub literals : {V : Type 0} → (ℤ → V) → Test V → ℕ → List (Literal V)
literals constant (Compares comparison a b) zero = record { rel = relation (opposite comparison); a = a; b = b } ∷ []
literals constant (Compares comparison a b) (suc arm) = record { rel = relation comparison; a = a; b = b } ∷ []
literals constant (Divides b) zero = record { rel = Ne; a = b; b = constant (pos 0) } ∷ []
literals constant (Divides b) (suc arm) = record { rel = Eq; a = b; b = constant (pos 0) } ∷ []
literals constant (Selects a keys) arm = selected constant a keys keys arm
literals constant (Indexes a len) arm =
    cond (nat_lt arm len) (record { rel = Eq; a = a; b = constant (pos arm) } ∷ []) (record { rel = Uge; a = a; b = constant (pos len) } ∷ [])
