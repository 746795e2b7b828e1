-- A table that has grown keeps the terms of its numbers.
use Rattle.std.proofs.Common.{◌≡◌, ◌<◌, ℕ, List, [], ◌∷◌, ◌++◌, length, slice_get, Some, pos, refl, sym, ap, ◌∙◌, arith}
use Rattle.std.specs.Prelude.{unwrap_or}
use Rattle.std.proofs.lemmas.List.{append-nil, append_assoc}
use Rattle.std.proofs.lemmas.Option.{slice_get_within}
use Rattle.ms_terms.specs.declared.term.Term.{Term as Node}
use Rattle.ms_terms.specs.Terms.{Term, Constant}
use Rattle.ms_terms.specs.Nodes.{Grows, over, term_of, terms_behind, terms_of}
use Rattle.ms_terms.proofs.Growing.{as_many, stays}

-- a table has grown to itself
pub same_table : (nodes : List Node) → Grows nodes nodes
same_table nodes = record { more = []; is = sym (append-nil nodes) }

-- and where it grows again
pub grows_on : (old between new : List Node) → Grows old between → Grows between new → Grows old new
grows_on old between new first second =
    record { more = first.more ++ second.more; is = second.is ∙ ap (λ nodes. nodes ++ second.more) first.is ∙ append_assoc old first.more second.more }

-- the terms behind those of the first nodes
behind_these : (terms : List Term) (old more : List Node) → terms_behind terms (old ++ more) ≡ terms_behind (terms_behind terms old) more
behind_these terms [] more = refl
behind_these terms (first ∷ old) more = behind_these (terms ++ over terms first ∷ []) old more

-- what stands at a place of the old terms stands there
pub stands_there : (old new : List Node) (place : ℕ) → Grows old new → place < length old → slice_get (terms_of new) place ≡ slice_get (terms_of old) place
stands_there old new place grows within =
    ap (λ nodes. slice_get (terms_of nodes) place) grows.is ∙ ap (λ terms. slice_get terms place) (behind_these [] old grows.more)
    ∙ stays (terms_of old) grows.more place (omega (arith, within, as_many old))

pub still_there : (old new : List Node) (place : ℕ) (term : Term) → Grows old new → slice_get (terms_of old) place ≡ Some term → slice_get (terms_of new) place ≡ Some term
still_there old new place term grows at = stands_there old new place grows (omega (arith, slice_get_within (terms_of old) place term at, as_many old)) ∙ at

pub same_term : (old new : List Node) (place : ℕ) → Grows old new → place < length old → term_of new place ≡ term_of old place
same_term old new place grows within = ap (λ o. unwrap_or o (Constant (pos 0))) (stands_there old new place grows within)
