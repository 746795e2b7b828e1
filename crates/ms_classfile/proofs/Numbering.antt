-- The numbers of the texts of a pool.
use Rattle.std.proofs.Common.{◌≡◌, ℕ, ◌+◌, ◌<◌, ◌≤◌, Bool, true, false, List, [], ◌∷◌, ◌++◌, length, Option, Some, None, refl, sym, ap, subst, ◌∙◌, arith, inl, inr, Bor, get_or}
use Rattle.std.specs.Prelude.{◌==◌, slice_index}
use Rattle.std.specs.Str.{bytes_eq}
use Rattle.std.specs.Bool.{Decides}
use Rattle.std.proofs.lemmas.Bool.{cases_lt, eq-eqb, eqb-true}
use Rattle.std.proofs.lemmas.List.{get_or_push, length-append}
use Rattle.std.proofs.lemmas.List.Quantifiers.{position-Some}
use Rattle.std.proofs.lemmas.Option.{slice_get_past}
use Rattle.std.proofs.lemmas.Slice.Eq.{bytes_eq-Decides}
use Rattle.std.proofs.Math.ListN.{get_or-append}
use Rattle.ms_pool.specs.Pools.{Placed}
use Rattle.ms_pool.specs.ByNumber.{utf8}
use Rattle.ms_classfile.specs.Seen.{AreNumbers, IsPlaced, place_of}

-- each text of the first numbers of a pool has the place at which it stands
pub record IsNumbering (pool : List (Option Placed)) (keys : List (Bor (List ℕ))) (numbers : List ℕ) (many : ℕ) : Type 0 where
  pub long : length numbers ≡ many
  pub each : (k : ℕ) (s : List ℕ) → k < many → utf8 pool k ≡ Some s → place_of s keys ≡ Some (slice_index numbers k)

pub begun : (pool : List (Option Placed)) → IsNumbering pool [] [] 0
begun pool = record { long = refl; each = λ k s below found. absurd (omega (arith, below)) }

pub goes_on : (pool : List (Option Placed)) (old new : List (Bor (List ℕ))) (numbers : List ℕ) (i number : ℕ) → IsNumbering pool old numbers i → IsPlaced pool i old new number → IsNumbering pool new (numbers ++ number ∷ []) (i + 1)
goes_on pool old new numbers i number so_far placed = record {
  long = omega (arith, length-append numbers (number ∷ []), so_far.long);
  each = λ k s below found. elim (cases_lt k i) [
    | inl before ↦
        let same : slice_index (numbers ++ number ∷ []) k ≡ slice_index numbers k = get_or-append numbers (number ∷ []) 0 k (omega (arith, before, so_far.long)) in
        placed.kept s (slice_index numbers k) (so_far.each k s before found) ∙ ap (λ (n : ℕ). Some n) (sym same)
    | inr past ↦
        let last : i ≡ k = omega (arith, past, below) in
        let at_last : slice_index (numbers ++ number ∷ []) k ≡ number = get_or_push numbers number 0 k (so_far.long ∙ last) in
        subst (λ (n : ℕ). utf8 pool n ≡ Some s → place_of s new ≡ Some (slice_index (numbers ++ number ∷ []) k)) last (λ here. placed.here s here ∙ ap (λ (n : ℕ). Some n) (sym at_last)) found
  ];
}

same_text : (keys : List (Bor (List ℕ))) (s t : List ℕ) (n : ℕ) → place_of s keys ≡ Some n → place_of t keys ≡ Some n → s ≡ t
same_text [] s t n first second = absurd cc
same_text (key ∷ keys) s t n first second =
    let one = position-Some (λ (k : Bor (List ℕ)). bytes_eq s k.now) (key ∷ keys) n key first in
    let two = position-Some (λ (k : Bor (List ℕ)). bytes_eq t k.now) (key ∷ keys) n key second in
    is_equal s (get_or (key ∷ keys) n key).now one.1 ∙ sym (is_equal t (get_or (key ∷ keys) n key).now two.1)
  where
    is_equal : (s t : List ℕ) → bytes_eq s t ≡ true → s ≡ t
    is_equal s t is = (bytes_eq-Decides s t).0 is

within : (pool : List (Option Placed)) (k : ℕ) (s : List ℕ) → utf8 pool k ≡ Some s → k < length pool
within pool k s found = elim (cases_lt k (length pool)) [
  | inl below ↦ below
  | inr past ↦
      let none : utf8 pool k ≡ None = rw (slice_get_past pool k past) refl in
      absurd (let e = sym none ∙ found in cc)
]

some_is : (m n : ℕ) → ◌≡◌ {A = Option ℕ} (Some m) (Some n) → m ≡ n
some_is m n e = cc

pub all_numbered : (pool : List (Option Placed)) (keys : List (Bor (List ℕ))) (numbers : List ℕ) (many : ℕ) → IsNumbering pool keys numbers many → length pool ≤ many → AreNumbers pool numbers
all_numbered pool keys numbers many numbering all i j s t first second =
    by_text (bytes_eq s t) refl (bytes_eq-Decides s t)
    (numbering.each i s (omega (arith, all, within pool i s first)) first)
    (numbering.each j t (omega (arith, all, within pool j t second)) second)
  where
    by_number : (b : Bool) → (slice_index numbers i == slice_index numbers j) ≡ b → (s ≡ t → ⊥) → place_of s keys ≡ Some (slice_index numbers i) → place_of t keys ≡ Some (slice_index numbers j) → b ≡ false
    by_number false is other p q = refl
    by_number true is other p q = absurd (other (same_text keys s t (slice_index numbers i) p (q ∙ ap (λ (n : ℕ). Some n) (sym (eqb-true (slice_index numbers i) (slice_index numbers j) is)))))

    by_text : (b : Bool) → bytes_eq s t ≡ b → Decides b (s ≡ t) → place_of s keys ≡ Some (slice_index numbers i) → place_of t keys ≡ Some (slice_index numbers j) → (slice_index numbers i == slice_index numbers j) ≡ b
    by_text true is decides p q =
        let n : slice_index numbers i ≡ slice_index numbers j = some_is (slice_index numbers i) (slice_index numbers j) (sym p ∙ ap (λ (u : List ℕ). place_of u keys) (decides.0 refl) ∙ q) in
        ap (λ (m : ℕ). m == slice_index numbers j) n ∙ eq-eqb (slice_index numbers j) (slice_index numbers j) refl
    by_text false is decides p q = by_number (slice_index numbers i == slice_index numbers j) refl (λ equal. absurd (let e = decides.1 equal in cc)) p q
