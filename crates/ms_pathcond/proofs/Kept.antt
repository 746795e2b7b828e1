-- Literals over a table that keeps the numbers of another.
use Rattle.std.proofs.Common.{◌≡◌, ◌<◌, ◌≤◌, ℕ, zero, suc, pos, List, [], ◌∷◌, length, map, slice_get, refl, sym, ap, subst, ◌∙◌, arith}
use Rattle.std.specs.Prelude.{unwrap_or}
use Rattle.std.specs.List.{AllByRecursion}
use Rattle.std.proofs.lemmas.Option.{slice_get_within}
use Rattle.ms_terms.specs.declared.term.Term.{Term as Node}
use Rattle.ms_terms.specs.Nodes.{terms_of}
use Rattle.ms_terms.specs.Terms.{Constant}
use Rattle.ms_terms.proofs.Growing.{as_many, stands}
use Rattle.ms_terms.proofs.Grown.{still_there}
use Rattle.ms_pathcond.specs.declared.literal.Literal.{Literal}
use Rattle.ms_pathcond.specs.Growing.{LawOfGrowing}
use Rattle.ms_pathcond.specs.Literals.{AreOf, IsOf, Keeps, relation_of, support_of, supports}
use Rattle.ms_pathcond.specs.Slices.{Belongs, IsSlice, Picks, Slice, params_of}
use Rattle.ms_pathcond.proofs.Picking.{all_picked}

-- functions that agree on all of a list map it to the same
map_same : {X Y : Type 0} (Q : X → Type 0) (f g : X → Y) (xs : List X) → AllByRecursion Q xs → ((x : X) → Q x → f x ≡ g x) → map f xs ≡ map g xs
map_same Q f g [] all same = refl
map_same Q f g (x ∷ xs) all same = λ j. same x all.0 j ∷ map_same Q f g xs all.1 same j

all_weaker : {X : Type 0} (Q R : X → Type 0) (xs : List X) → ((x : X) → Q x → R x) → AllByRecursion Q xs → AllByRecursion R xs
all_weaker Q R [] weaker all = tt
all_weaker Q R (x ∷ xs) weaker all = (weaker x all.0, all_weaker Q R xs weaker all.1)

module _ (old new : List Node) (keeps : Keeps old new) where
  same_at : (number : ℕ) → number < length old → slice_get (terms_of new) number ≡ slice_get (terms_of old) number
  same_at number less =
      let there = stands (terms_of old) number (omega (arith, less, as_many old)) in
      keeps number there.0 there.1 ∙ sym there.1

  within : (number : ℕ) → number < length old → number < length new
  within number less =
      let there = stands (terms_of old) number (omega (arith, less, as_many old)) in
      omega (arith, slice_get_within (terms_of new) number there.0 (keeps number there.0 there.1), as_many new)

  many : length old ≤ length new
  many = by_test (length old) refl
    where
      by_test : (count : ℕ) → length old ≡ count → count ≤ length new
      by_test zero is = omega arith
      by_test (suc n) is = omega (arith, within n (omega (arith, is)))

  are_of : (literals : List Literal) → AreOf (length old) literals → AreOf (length new) literals
  are_of literals are = all_weaker (IsOf (length old)) (IsOf (length new)) literals (λ literal is. record { a = within literal.a is.a; b = within literal.b is.b }) are

  same_relation : (literal : Literal) → IsOf (length old) literal → relation_of new literal ≡ relation_of old literal
  same_relation literal is = λ j. record { rel = literal.rel; a = unwrap_or (same_at literal.a is.a j) (Constant (pos 0)); b = unwrap_or (same_at literal.b is.b j) (Constant (pos 0)) }

  same_supports : (literals : List Literal) → AreOf (length old) literals → supports new literals ≡ supports old literals
  same_supports literals are =
      map_same (IsOf (length old)) (λ literal. support_of (relation_of new literal)) (λ literal. support_of (relation_of old literal)) literals are (λ literal is. ap support_of (same_relation literal is))

  still_slice : (all : List Literal) (first : ℕ) (slice : Slice) → AreOf (length old) all → IsSlice old all first slice → IsSlice new all first slice
  still_slice all first slice are is = record {
    literals = subst (λ ss. Picks (Belongs ss first) 0 all slice.literals) (sym (same_supports all are)) is.literals;
    params = is.params ∙ ap params_of (sym (same_supports slice.literals (all_picked (IsOf (length old)) _ 0 all slice.literals are is.literals)));
  }

pub law_of_growing : LawOfGrowing
law_of_growing = record {
  grown = λ old new grows number term at. still_there old new number term grows at;
  many = many;
  are_of = λ old new literals keeps are. are_of old new keeps literals are;
  relations_are = λ old new literals keeps are. map_same (IsOf (length old)) (relation_of new) (relation_of old) literals are (same_relation old new keeps);
  slices = λ old new all first slice keeps are is. still_slice old new keeps all first slice are is;
}
