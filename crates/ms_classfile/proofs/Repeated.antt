-- Reading a number of the same kind one after another, as a loop does.
use Rattle.std.proofs.Common.{◌≡◌, ℕ, suc, ◌-◌, ◌+◌, ◌≤◌, ◌<◌, List, [], ◌∷◌, ◌++◌, Option, Some, None, refl, sym, ap, ◌∙◌, append_assoc, arith}
use Rattle.std.proofs.lemmas.List.{append-nil}
use Rattle.ms_pool.specs.Places.{Place}
use Rattle.ms_classfile.specs.Reading.{◌>>=◌, repeated}

-- what was read before, and what is still read
abbrev pub with_front : {X : Type 0} → List X → Option (List X × Place) → Option (List X × Place)
with_front front read = read >>= λ x. Some (front ++ x.0, x.1)

regroup : {X : Type 0} (front : List X) (first : X) (read : Option (List X × Place)) → with_front front (read >>= λ x. Some (first ∷ x.0, x.1)) ≡ with_front (front ++ first ∷ []) read
regroup {X = X} front first (Some x) = ap (λ (all : List X). Some (all, x.1)) (simp append_assoc)
regroup front first None = refl

pub goes_on : {X : Type 0} (read : Place → Option (X × Place)) (front : List X) (count i : ℕ) (place : Place) (first : X) (after : Place) (total : Option (List X × Place)) → i < count → read place ≡ Some (first, after)
    → with_front front (repeated read (count - i) place) ≡ total → with_front (front ++ first ∷ []) (repeated read (count - (i + 1)) after) ≡ total
unfolding repeated
goes_on read front count i place first after total below found so_far =
    let more : count - i ≡ suc (count - (i + 1)) = omega arith in
    let one : with_front front (repeated read (count - i) place) ≡ with_front (front ++ first ∷ []) (repeated read (count - (i + 1)) after) = rw (more, found) (regroup front first (repeated read (count - (i + 1)) after)) in
    sym one ∙ so_far

pub ends : {X : Type 0} (read : Place → Option (X × Place)) (front : List X) (count i : ℕ) (place : Place) (total : Option (List X × Place)) → i < count → read place ≡ None
    → with_front front (repeated read (count - i) place) ≡ total → total ≡ None
unfolding repeated
ends read front count i place total below fails so_far =
    let more : count - i ≡ suc (count - (i + 1)) = omega arith in
    let one : with_front front (repeated read (count - i) place) ≡ None = rw (more, fails) refl in
    sym so_far ∙ one

pub is_done : {X : Type 0} (read : Place → Option (X × Place)) (front : List X) (count i : ℕ) (place : Place) (total : Option (List X × Place)) → count ≤ i → with_front front (repeated read (count - i) place) ≡ total → total ≡ Some (front, place)
unfolding repeated
is_done {X = X} read front count i place total past so_far =
    let no_more : count - i ≡ 0 = omega arith in
    let one : with_front front (repeated read (count - i) place) ≡ Some (front, place) = rw no_more (ap (λ (all : List X). Some (all, place)) (append-nil front)) in
    sym so_far ∙ one
