-- Two lists of kinds of which the first places are joined.
use Rattle.std.proofs.Common.{◌≡◌, ℕ, zero, suc, ◌+◌, ◌<◌, ◌≤◌, Bool, true, false, cond, not, ◌&&◌, List, [], ◌∷◌, length, get_or, slice_set, refl, sym, ap, ap₂, ◌∙◌, arith, add-one}
use Rattle.std.proofs.lemmas.Bool.{eq-eqb}
use Rattle.ms_typing.specs.declared.kind.PlaceKind.{PlaceKind}
use Rattle.ms_words.specs.Throwables.{number_of}
use Rattle.ms_typing.specs.declared.kind.PlaceKind.TheVariants.{Int, Null, Array, Text, Ref, New, Unset}
use Rattle.ms_typing.specs.declared.kind.PlaceKind.TheVariants as kinds
use Rattle.ms_typing.specs.Kinds.{is_reference, joined_kind, joined_kinds, joined_references, same_kind, same_kinds}

-- so many first places are joined
abbrev pub joined_first : ℕ → List PlaceKind → List PlaceKind → List PlaceKind
joined_first zero kinds others = kinds
joined_first (suc n) (kind ∷ kinds) (other ∷ others) = joined_kind kind other ∷ joined_first n kinds others
joined_first n kinds others = kinds

-- whether that changes none of them
abbrev pub same_first : ℕ → List PlaceKind → List PlaceKind → Bool
same_first zero kinds others = true
same_first (suc n) (kind ∷ kinds) (other ∷ others) = same_kind (joined_kind kind other) kind && same_first n kinds others
same_first n kinds others = true

-- ONE PLACE

-- a kind is equal to itself
self_same : (kind : PlaceKind) → same_kind kind kind ≡ true
self_same Int = refl
self_same Null = refl
self_same Array = refl
self_same Text = refl
self_same (kinds.Thrown class) = eq-eqb (number_of class) (number_of class) refl
self_same Ref = refl
self_same (New offset class) = ap₂ (λ a b. a && b) (eq-eqb offset offset refl) (eq-eqb (number_of class) (number_of class) refl)
self_same Unset = refl

-- one that is equal stays, and that doesn't change it
pub same_joined : (kind other : PlaceKind) → same_kind kind other ≡ true → kind ≡ joined_kind kind other
same_joined kind other e = sym (ap (λ b. cond b kind (cond (is_reference kind && is_reference other) (joined_references kind other) Unset)) e)

pub same_stays : (kind other : PlaceKind) → same_kind kind other ≡ true → false ≡ not (same_kind (joined_kind kind other) kind)
same_stays kind other e = ap not (sym (ap (λ k. same_kind k kind) (sym (same_joined kind other e)) ∙ self_same kind))

-- ONE PLACE MORE

-- the next place is joined
next_joined : (n : ℕ) (kinds others : List PlaceKind) (d : PlaceKind) → n < length kinds → length kinds ≡ length others
    → slice_set (joined_first n kinds others) n (joined_kind (get_or kinds n d) (get_or others n d)) ≡ joined_first (suc n) kinds others
next_joined n [] others d l e = absurd (omega arith)
next_joined n (kind ∷ kinds) [] d l e = absurd (omega arith)
next_joined zero (kind ∷ kinds) (other ∷ others) d l e = refl
next_joined (suc n) (kind ∷ kinds) (other ∷ others) d l e = ap (λ x. joined_kind kind other ∷ x) (next_joined n kinds others d (omega arith) (omega arith))

-- and was as it is before
next_kept : (n : ℕ) (kinds others : List PlaceKind) (d : PlaceKind) → get_or (joined_first n kinds others) n d ≡ get_or kinds n d
next_kept zero kinds others d = refl
next_kept (suc n) [] others d = refl
next_kept (suc n) (kind ∷ kinds) [] d = refl
next_kept (suc n) (kind ∷ kinds) (other ∷ others) d = next_kept n kinds others d

and_regroups : (a b c : Bool) → (a && (b && c)) ≡ ((a && b) && c)
and_regroups true b c = refl
and_regroups false b c = refl

and_true : (a : Bool) → (a && true) ≡ a
and_true true = refl
and_true false = refl

-- whether it changes counts too
next_same : (n : ℕ) (kinds others : List PlaceKind) (d : PlaceKind) → n < length kinds → length kinds ≡ length others
    → same_first (suc n) kinds others ≡ (same_first n kinds others && same_kind (joined_kind (get_or kinds n d) (get_or others n d)) (get_or kinds n d))
next_same n [] others d l e = absurd (omega arith)
next_same n (kind ∷ kinds) [] d l e = absurd (omega arith)
next_same zero (kind ∷ kinds) (other ∷ others) d l e = and_true _
next_same (suc n) (kind ∷ kinds) (other ∷ others) d l e =
    ap (λ x. same_kind (joined_kind kind other) kind && x) (next_same n kinds others d (omega arith) (omega arith)) ∙ and_regroups (same_kind (joined_kind kind other) kind) (same_first n kinds others) _

-- the same, of the list as the loop has it
pub joins_next : (n : ℕ) (now kinds others : List PlaceKind) (d kind : PlaceKind) → n < length kinds → length kinds ≡ length others → now ≡ joined_first n kinds others → kind ≡ joined_kind (get_or now n d) (get_or others n d)
    → slice_set now n kind ≡ joined_first (n + 1) kinds others
joins_next n now kinds others d kind l e f g =
    ap₂ (λ x y. slice_set x n y) f (g ∙ ap (λ x. joined_kind x (get_or others n d)) (ap (λ x. get_or x n d) f ∙ next_kept n kinds others d))
    ∙ (next_joined n kinds others d l e ∙ ap (λ x. joined_first x kinds others) (sym (add-one n)))

pub same_next : (n : ℕ) (now kinds others : List PlaceKind) (d : PlaceKind) → n < length kinds → length kinds ≡ length others → now ≡ joined_first n kinds others
    → same_first (n + 1) kinds others ≡ (same_first n kinds others && same_kind (joined_kind (get_or now n d) (get_or others n d)) (get_or now n d))
same_next n now kinds others d l e f =
    let kept : get_or now n d ≡ get_or kinds n d = ap (λ x. get_or x n d) f ∙ next_kept n kinds others d in
    ap (λ x. same_first x kinds others) (add-one n)
    ∙ (next_same n kinds others d l e ∙ ap (λ x. same_first n kinds others && same_kind (joined_kind x (get_or others n d)) x) (sym kept))

-- what is changed by a place that changes, and by one that doesn't
pub changes : (before same after one : Bool) → after ≡ (before && same) → one ≡ not same → one ≡ true → true ≡ not after
changes before true after one e f g = absurd (let h = sym g ∙ f in cc)
changes true false after one e f g = ap not (sym e)
changes false false after one e f g = ap not (sym e)

pub stays : (before same after changed one : Bool) → after ≡ (before && same) → one ≡ not same → one ≡ false → changed ≡ not before → changed ≡ not after
stays before false after changed one e f g h = absurd (let i = sym g ∙ f in cc)
stays true true after changed one e f g h = h ∙ ap not (sym e)
stays false true after changed one e f g h = h ∙ ap not (sym e)

-- ALL PLACES

all_first : (kinds others : List PlaceKind) (n : ℕ) → length kinds ≤ n → length kinds ≡ length others → joined_first n kinds others ≡ joined_kinds kinds others
all_first [] others zero l e = refl
all_first [] others (suc n) l e = refl
all_first (kind ∷ kinds) others zero l e = absurd (omega arith)
all_first (kind ∷ kinds) [] (suc n) l e = absurd (omega arith)
all_first (kind ∷ kinds) (other ∷ others) (suc n) l e = ap (λ x. joined_kind kind other ∷ x) (all_first kinds others n (omega arith) (omega arith))

same_all : (kinds others : List PlaceKind) (n : ℕ) → length kinds ≤ n → length kinds ≡ length others → same_first n kinds others ≡ same_kinds (joined_kinds kinds others) kinds
same_all [] others zero l e = refl
same_all [] others (suc n) l e = refl
same_all (kind ∷ kinds) others zero l e = absurd (omega arith)
same_all (kind ∷ kinds) [] (suc n) l e = absurd (omega arith)
same_all (kind ∷ kinds) (other ∷ others) (suc n) l e = ap (λ x. same_kind (joined_kind kind other) kind && x) (same_all kinds others n (omega arith) (omega arith))

pub all_joined : (kinds others now : List PlaceKind) (n : ℕ) → length kinds ≤ n → length kinds ≡ length others → now ≡ joined_first n kinds others → now ≡ joined_kinds kinds others
all_joined kinds others now n l e f = f ∙ all_first kinds others n l e

pub all_changed : (kinds others : List PlaceKind) (n : ℕ) (changed : Bool) → length kinds ≤ n → length kinds ≡ length others → changed ≡ not (same_first n kinds others)
    → changed ≡ not (same_kinds (joined_kinds kinds others) kinds)
all_changed kinds others n changed l e f = f ∙ ap not (same_all kinds others n l e)
