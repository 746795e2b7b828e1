-- The words of the terms of a table, from the front on.
use Rattle.std.proofs.Common.{◌≡◌, ◌<◌, ◌+◌, ℕ, zero, suc, ℤ, pos, List, [], ◌∷◌, ◌++◌, length, map, take, slice_get, refl, sym, ap, subst, ◌∙◌, arith}
use Rattle.std.specs.Prelude.{unwrap_or}
use Rattle.ms_words.specs.Words.{applied1, applied2}
use Rattle.ms_terms.specs.declared.term.Term.{Term as Node}
use Rattle.ms_terms.specs.declared.term.Term.TheVariants as node
use Rattle.ms_terms.specs.Terms.{Term, value}
use Rattle.ms_terms.specs.Nodes.{IsBelow, over, term_at}
use Rattle.ms_terms.specs.Values.{word_over}

-- the word at a place is that of the term there
pub word_there : (parameters : List ℤ) (terms : List Term) (n a : ℕ) → a < n → unwrap_or (slice_get (map (value parameters) (take n terms)) a) (pos 0) ≡ value parameters (term_at terms a)
word_there parameters terms zero a less = absurd (omega (arith, less))
word_there parameters [] (suc n) a less = refl
word_there parameters (term ∷ terms) (suc n) zero less = refl
word_there parameters (term ∷ terms) (suc n) (suc a) less = word_there parameters terms n a (omega (arith, less))

-- a term more
pub take_more : (terms : List Term) (n : ℕ) → n < length terms → take (suc n) terms ≡ take n terms ++ term_at terms n ∷ []
take_more [] n less = absurd (omega (arith, less))
take_more (term ∷ terms) zero less = refl
take_more (term ∷ terms) (suc n) less = ap (λ ts. term ∷ ts) (take_more terms n (omega (arith, less)))

map_more : (parameters : List ℤ) (terms : List Term) (term : Term) → map (value parameters) (terms ++ term ∷ []) ≡ map (value parameters) terms ++ value parameters term ∷ []
map_more parameters [] term = refl
map_more parameters (t ∷ terms) term = ap (λ ws. value parameters t ∷ ws) (map_more parameters terms term)

-- the word of a node is that of its term
pub word_is : (parameters : List ℤ) (terms : List Term) (n : ℕ) (it : Node) → IsBelow n it → word_over (map (value parameters) (take n terms)) parameters it ≡ value parameters (over terms it)
word_is parameters terms n (node.Constant word) below = refl
word_is parameters terms n (node.Param index kind) below = refl
word_is parameters terms n (node.Unary op a) below = ap (applied1 op) (word_there parameters terms n a below)
word_is parameters terms n (node.Binary op a b) below = λ j. applied2 op (word_there parameters terms n a below.0 j) (word_there parameters terms n b below.1 j)

-- one word more
pub word_more : (parameters : List ℤ) (terms : List Term) (words : List ℤ) (n : ℕ) (it : Node) (word : ℤ) → n < length terms → words ≡ map (value parameters) (take n terms) → IsBelow n it → over terms it ≡ term_at terms n → word ≡ word_over words parameters it
    → words ++ word ∷ [] ≡ map (value parameters) (take (n + 1) terms)
word_more parameters terms words n it word less are below is last =
    let that : word ≡ value parameters (term_at terms n) = last ∙ ap (λ ws. word_over ws parameters it) are ∙ word_is parameters terms n it below ∙ ap (value parameters) is in
    (λ j. are j ++ that j ∷ []) ∙ sym (map_more parameters (take n terms) (term_at terms n)) ∙ ap (map (value parameters)) (sym (take_more terms n less)) ∙ ap (λ k. map (value parameters) (take k terms)) (let e : suc n ≡ n + 1 = omega arith in e)

-- all of them
pub take_all : (terms : List Term) (n : ℕ) → n ≡ length terms → take n terms ≡ terms
take_all terms n is = subst (λ k. take k terms ≡ terms) (sym is) (whole terms)
  where
    whole : (ts : List Term) → take (length ts) ts ≡ ts
    whole [] = refl
    whole (t ∷ ts) = ap (λ us. t ∷ us) (whole ts)
