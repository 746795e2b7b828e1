-- Ints that are terms of a table, or none.
use Rattle.std.specs.Prelude.{◌≡◌, ℕ, ℤ, IsSome, List, Option, Some, None, option_and_then, option_map, slice_get}
use Rattle.std.proofs.Common.{refl}
use Rattle.ms_terms.specs.declared.term.Term.{Term as Node}
use Rattle.ms_terms.specs.Nodes.{terms_of}
use Rattle.ms_terms.specs.Terms.{Term, Constant, unary, binary, constant_of}
use Rattle.ms_machine.specs.Ints.{Ints}

-- the term of a number, where the table has one
abbrev pub symbol : List Node → ℕ → Option Term
symbol nodes id = slice_get (terms_of nodes) id

-- what is made of two terms, where both are there
abbrev pub of_both : (Term → Term → Term) → Option Term → Option Term → Option Term
of_both make None b = None
of_both make (Some a) None = None
of_both make (Some a) (Some b) = Some (make a b)

-- the ints that are terms, or none
abbrev pub symbols : Ints (Option Term)
symbols = record {
  constant = λ word. Some (Constant word);
  unary = λ op a. option_map (unary op) a;
  binary = λ op a b. of_both (binary op) a b;
  known = λ a. option_and_then constant_of a;
}

-- what is known is of a term
pub has_known : (v : Option Term) (word : ℤ) → symbols.known v ≡ Some word → IsSome v
has_known None word is = absurd (let e = is in cc)
has_known (Some term) word is = refl
