-- The first input that takes a string is the least one.
use Rattle.std.proofs.Common.{◌≡◌, ℕ, List, length, Option, Some, None, ◌⊎◌, inl, inr, IsTrue, refl, ap, subst}
use Rattle.std.specs.Prelude.{ℤ}
use Rattle.std.proofs.lemmas.Slice.Eq.{bytes_eq-Decides}
use Rattle.ms_words.specs.Inputs.{Words, are_of, comes_before}
use Rattle.ms_machine.specs.Control.{Program}
use Rattle.ms_machine.specs.Runs.{IsInputOf, IsLeast, Takes, string}
use Rattle.ms_session.specs.Strings.{same}
use Rattle.ms_session.specs.Paths.{input_with, inputs_of, least_of, takers}
use Rattle.ms_session.specs.Laws.{LeastComesFirst}
use Rattle.ms_session.proofs.Members.{IsIn, first_before, first_in, first_none, from_filter, in_filter, ordered_filter}
use Rattle.ms_session.proofs.Listing.{input_in, inputs_are, inputs_ordered, not_both}

-- an input of the entry is that with its words
pub input_is : (P : Program) (x : Words) → IsInputOf P x → x ≡ input_with P x.words
input_is P x input = λ i. record { kinds = input.kinds i; words = x.words }

-- an input of the entry is listed
pub listed : (P : Program) (x : Words) → IsInputOf P x → IsIn x.words (inputs_of P.entry.kinds)
listed P x input = input_in P.entry.kinds x.words (subst (λ ks. IsTrue (are_of ks x.words)) input.kinds input.words)

-- an input that takes the string is one of the takers
taker_in : (P : Program) (p : List ℕ) (x : Words) → IsInputOf P x → Takes P x p → IsIn x.words (takers P p)
taker_in P p x input takes =
    in_filter (λ words. same (string P (input_with P words) (length p)) p) x.words (inputs_of P.entry.kinds) (listed P x input)
    ((bytes_eq-Decides (string P (input_with P x.words) (length p)) p).1 (subst (λ (y : Words). Takes P y p) (input_is P x input) takes))

-- an input of the entry that takes the string
record IsTaker (P : Program) (p : List ℕ) (x : Words) : Type 0 where
  input : IsInputOf P x
  takes : Takes P x p

-- each of the takers is an input, and takes the string
taker_is : (P : Program) (p : List ℕ) (words : List ℤ) → IsIn words (takers P p) → IsTaker P p (input_with P words)
taker_is P p words is =
    let both = from_filter (λ (ws : List ℤ). same (string P (input_with P ws) (length p)) p) words (inputs_of P.entry.kinds) is in
    record {
      input = record { kinds = refl; words = inputs_are P.entry.kinds words both.0 };
      takes = (bytes_eq-Decides (string P (input_with P words) (length p)) p).0 both.1;
    }

-- the first taker is each other one, or comes before it
first_of_takers : (P : Program) (p : List ℕ) (first words : List ℤ) → least_of P p ≡ Some first → IsIn words (takers P p) → (first ≡ words) ⊎ IsTrue (comes_before P.entry.kinds first words)
first_of_takers P p first words found is =
    let Before : List ℤ → List ℤ → Type 0 = λ xs ys. IsTrue (comes_before P.entry.kinds xs ys) in
    first_before Before first words (takers P p) (ordered_filter Before (λ ws. same (string P (input_with P ws) (length p)) p) (inputs_of P.entry.kinds) (inputs_ordered P.entry.kinds)) found is

-- so none of the others comes before it
none_before : (P : Program) (p : List ℕ) (first words : List ℤ) → (first ≡ words) ⊎ IsTrue (comes_before P.entry.kinds first words) → IsTrue (comes_before P.entry.kinds words first) → ⊥
none_before P p first words (inl here) before =
    let itself = subst (λ ws. IsTrue (comes_before P.entry.kinds words ws)) here before in
    not_both P.entry.kinds words words itself itself
none_before P p first words (inr after) before = not_both P.entry.kinds words first before after

least_found : (P : Program) (p : List ℕ) (words : List ℤ) → least_of P p ≡ Some words → IsLeast P p (input_with P words)
least_found P p words found =
    let taker = taker_is P p words (first_in words (takers P p) found) in
    record {
      input = taker.input;
      takes = taker.takes;
      first = λ y input takes before. none_before P p words y.words (first_of_takers P p words y.words found (taker_in P p y input takes)) before;
    }

none_found : (P : Program) (p : List ℕ) → least_of P p ≡ None → (x : Words) → IsInputOf P x → Takes P x p → ⊥
none_found P p none x input takes = first_none x.words (takers P p) none (taker_in P p x input takes)

-- the least input is found
least_is : (P : Program) (p : List ℕ) (x : Words) → IsLeast P p x → (found : Option (List ℤ)) → least_of P p ≡ found → found ≡ Some x.words
least_is P p x least None is = absurd (none_found P p is x least.input least.takes)
least_is P p x least (Some words) is =
    let taker = taker_is P p words (first_in words (takers P p) is) in
    elim (first_of_takers P p words x.words is (taker_in P p x least.input least.takes)) [
      | inl here ↦ ap Some here
      | inr after ↦ absurd (least.first (input_with P words) taker.input taker.takes after)
    ]

pub least_comes_first : (P : Program) (p : List ℕ) → LeastComesFirst P p
least_comes_first P p = record {
  found = least_found P p;
  least = λ x least. least_is P p x least (least_of P p) refl;
  absent = none_found P p;
}
