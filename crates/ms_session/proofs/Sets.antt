-- Sets of strings, when one is added.
use Rattle.std.proofs.Common.{◌≡◌, ℕ, Bool, true, false, List, [], ◌∷◌, Ordering, Less, Equal, Greater, refl}
use Rattle.std.specs.Prelude.{◌||◌}
use Rattle.std.specs.Ordering.{is_eq, match_ordering, ordering_reverse}
use Rattle.ms_trie.specs.Choices.{choice_order}
use Rattle.std.specs.BTreeMap.{is_at}
use Rattle.std.proofs.lemmas.Cmp.{nat_list_cmp_total}
use Rattle.ms_session.specs.Strings.{holds, with_string}

equal_alone : (o : Ordering) → o ≡ ordering_reverse o → is_eq o ≡ true
equal_alone Less same = absurd cc
equal_alone Equal same = refl
equal_alone Greater same = absurd cc

-- a string is at its own place
itself : (p : List ℕ) → is_at (choice_order p) p ≡ true
itself p = equal_alone (choice_order p p) (nat_list_cmp_total.antisymm p p)

or_true : (b : Bool) → (b || true) ≡ true
or_true true = refl
or_true false = refl

-- a string that was there is there
pub holds_more : (strings : List (List ℕ)) (p q : List ℕ) → holds strings q ≡ true → holds (with_string strings p) q ≡ true
holds_more [] p q there = absurd cc
holds_more (x ∷ strings) p q there = by_order (choice_order p x) (is_at (choice_order q) x) refl there (λ rest. holds_more strings p q rest)
  where
    by_order : (o : Ordering) (at_x : Bool) → is_at (choice_order q) x ≡ at_x → (at_x || holds strings q) ≡ true → (holds strings q ≡ true → holds (with_string strings p) q ≡ true)
        → holds (match_ordering o (p ∷ x ∷ strings) (x ∷ strings) (x ∷ with_string strings p)) q ≡ true
    by_order Less at_x e there more = rw (e, there) (or_true (is_at (choice_order q) p))
    by_order Equal at_x e there more = rw e there
    by_order Greater true e there more = rw e refl
    by_order Greater false e there more = rw e (more there)

-- the string that is added is there
pub holds_added : (strings : List (List ℕ)) (p : List ℕ) → holds (with_string strings p) p ≡ true
holds_added [] p = rw (itself p) refl
holds_added (x ∷ strings) p = by_order (choice_order p x) refl (holds_added strings p)
  where
    by_order : (o : Ordering) → choice_order p x ≡ o → holds (with_string strings p) p ≡ true → holds (match_ordering o (p ∷ x ∷ strings) (x ∷ strings) (x ∷ with_string strings p)) p ≡ true
    by_order Less e more = rw (itself p) refl
    by_order Equal e more = rw e refl
    by_order Greater e more = rw more (or_true (is_at (choice_order p) x))
