-- The arithmetic of terms.
use Rattle.std.proofs.Common.{◌≡◌, ◌<◌, ℕ, zero, suc, true, false, nat_lt, pos, List, [], ◌∷◌, length, slice_get, Option, Some, None, refl, sym, ap, ◌∙◌, arith}
use Rattle.std.specs.Prelude.{IsSome, unwrap_or}
use Rattle.std.proofs.lemmas.Bool.{ltb-false, ltb-true}
use Rattle.ms_words.specs.declared.operator.Un.{Un}
use Rattle.ms_words.specs.declared.operator.Bin.{Bin}
use Rattle.ms_terms.specs.declared.term.Term.{Term as Node}
use Rattle.ms_terms.specs.Terms.{Term, Constant, unary, binary, constant_of}
use Rattle.ms_terms.specs.Nodes.{Adds, Grows, term_of, terms_of}
use Rattle.ms_terms.proofs.Growing.{as_many, stands}
use Rattle.ms_terms.proofs.Grown.{still_there}
use Rattle.ms_interpreter.specs.Staying.{Stay}
use Rattle.ms_interpreter.specs.Symbols.{symbol, symbols}

behind_none : {X : Type 0} (xs : List X) (i : ℕ) → (i < length xs → ⊥) → slice_get xs i ≡ None
behind_none [] i within = refl
behind_none (x ∷ xs) zero within = absurd (within (omega arith))
behind_none (x ∷ xs) (suc i) within = behind_none xs i (λ less. within (omega (arith, less)))

-- a number of no term
pub none_there : (nodes : List Node) (id : ℕ) → nat_lt id (length nodes) ≡ false → symbol nodes id ≡ None
none_there nodes id is = behind_none (terms_of nodes) id (λ less. omega (arith, less, ltb-false id (length nodes) is, as_many nodes))

-- a number of a term
pub some_there : (nodes : List Node) (id : ℕ) → nat_lt id (length nodes) ≡ true → symbol nodes id ≡ Some (term_of nodes id)
some_there nodes id is =
    let s = stands (terms_of nodes) id (omega (arith, ltb-true id (length nodes) is, as_many nodes)) in
    s.1 ∙ ap Some (sym (ap (λ o. unwrap_or o (Constant (pos 0))) s.1))

-- the terms of numbers stay
pub symbols_stay : (old new : List Node) → Grows old new → Stay (λ v. IsSome v) (symbol old) (symbol new)
symbols_stay old new grows a has = by_term (symbol old a) refl has
  where
    by_term : (term : Option Term) → symbol old a ≡ term → IsSome term → symbol new a ≡ symbol old a
    by_term None is some = absurd (let e = some in cc)
    by_term (Some term) is some = still_there old new a term grows is ∙ sym is

-- it is still that of a term
later : (old new : List Node) (id : ℕ) → Grows old new → nat_lt id (length old) ≡ true → symbol new id ≡ Some (term_of old id)
later old new id grows is = still_there old new id (term_of old id) grows (some_there old id is)

pub unary_of_none : (nodes : List Node) (op : Un) (a : ℕ) → nat_lt a (length nodes) ≡ false → symbol nodes a ≡ symbols.unary op (symbol nodes a)
unary_of_none nodes op a is = none_there nodes a is ∙ sym (ap (symbols.unary op) (none_there nodes a is))

pub unary_of_one : (old new : List Node) (op : Un) (a id : ℕ) → Grows old new → nat_lt a (length old) ≡ true → Adds old (unary op (term_of old a)) id new → symbol new id ≡ symbols.unary op (symbol new a)
unary_of_one old new op a id grows is adds = adds.is ∙ sym (ap (symbols.unary op) (later old new a grows is))

none_first : (op : Bin) (b : Option Term) → symbols.binary op None b ≡ None
none_first op None = refl
none_first op (Some b) = refl

none_second : (op : Bin) (a : Option Term) → symbols.binary op a None ≡ None
none_second op None = refl
none_second op (Some a) = refl

pub binary_of_no_first : (nodes : List Node) (op : Bin) (a b : ℕ) → nat_lt a (length nodes) ≡ false → symbol nodes a ≡ symbols.binary op (symbol nodes a) (symbol nodes b)
binary_of_no_first nodes op a b is =
    none_there nodes a is ∙ sym (ap (λ v. symbols.binary op v (symbol nodes b)) (none_there nodes a is) ∙ none_first op (symbol nodes b))

pub binary_of_no_second : (nodes : List Node) (op : Bin) (a b : ℕ) → nat_lt b (length nodes) ≡ false → symbol nodes b ≡ symbols.binary op (symbol nodes a) (symbol nodes b)
binary_of_no_second nodes op a b is =
    none_there nodes b is ∙ sym (ap (symbols.binary op (symbol nodes a)) (none_there nodes b is) ∙ none_second op (symbol nodes a))

pub binary_of_two : (old new : List Node) (op : Bin) (a b id : ℕ) → Grows old new → nat_lt a (length old) ≡ true → nat_lt b (length old) ≡ true → Adds old (binary op (term_of old a) (term_of old b)) id new
    → symbol new id ≡ symbols.binary op (symbol new a) (symbol new b)
binary_of_two old new op a b id grows is_a is_b adds =
    adds.is ∙ sym (λ j. symbols.binary op (later old new a grows is_a j) (later old new b grows is_b j))

pub known_of_none : (nodes : List Node) (a : ℕ) → nat_lt a (length nodes) ≡ false → None ≡ symbols.known (symbol nodes a)
known_of_none nodes a is = sym (ap symbols.known (none_there nodes a is))

pub known_of_one : (nodes : List Node) (a : ℕ) → nat_lt a (length nodes) ≡ true → constant_of (term_of nodes a) ≡ symbols.known (symbol nodes a)
known_of_one nodes a is = sym (ap symbols.known (some_there nodes a is))
