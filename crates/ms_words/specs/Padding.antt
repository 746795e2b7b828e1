-- A list of at most eight elements, kept in eight places, of which those behind it hold one value.
use Rattle.std.specs.Prelude.{◌≡◌, ℕ, ◌-◌, ◌≤◌, List, ◌++◌, length, take, drop, replicate, refl}
use Rattle.std.proofs.Common.{ap, sym, ◌∙◌, arith, take-append-drop}
use Rattle.std.proofs.lemmas.List.{length-take, length-append, length-replicate, drop_at}

-- eight places, of which the first `count` are filled
pub record IsPadded {K : Type 0} (fill : K) (places : List K) (count : ℕ) : Type 0 where
  pub small : count ≤ 8
  pub whole : length places ≡ 8
  pub rest : drop count places ≡ replicate (8 - count) fill

-- the eight places of a list
abbrev pub padded : {K : Type 0} → K → List K → List K
padded fill list = list ++ replicate (8 - length list) fill

-- as many elements are kept as are counted
pub length_unpadded : {K : Type 0} (fill : K) (places : List K) (count : ℕ) → IsPadded fill places count → length (take count places) ≡ count
length_unpadded fill places count p = omega (arith, length-take count places, p.small, p.whole)

-- the elements that are kept give the eight places back
pub padded_unpadded : {K : Type 0} (fill : K) (places : List K) (count : ℕ) → IsPadded fill places count → padded fill (take count places) ≡ places
padded_unpadded fill places count p =
    ap (λ n. take count places ++ replicate (8 - n) fill) (length_unpadded fill places count p)
    ∙ ap (λ l. take count places ++ l) (sym p.rest) ∙ take-append-drop count places

-- the eight places of a list keep it
pub padded_is_padded : {K : Type 0} (fill : K) (list : List K) → length list ≤ 8 → IsPadded fill (padded fill list) (length list)
padded_is_padded fill list small = record {
  small = small;
  whole = omega (arith, length-append list (replicate (8 - length list) fill), length-replicate (8 - length list) fill);
  rest = drop_at list (replicate (8 - length list) fill) (length list) refl;
}
