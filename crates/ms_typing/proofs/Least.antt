-- A join is the least of the kinds that hold what both hold.
use Rattle.std.proofs.Common.{◌≡◌, ◌⊎◌, ℕ, Bool, true, false, cond, ◌&&◌, ◌==◌, List, [], ◌∷◌, refl, sym, ap₂, subst, inl, inr}
use Rattle.std.proofs.lemmas.Bool.{and_from, and_parts, eq-eqb, eqb-true}
use Rattle.ms_words.specs.declared.thrown.Thrown.{Thrown}
use Rattle.ms_typing.specs.declared.kind.PlaceKind.{PlaceKind}
use Rattle.ms_typing.specs.declared.kind.PlaceKind.TheVariants.{Int, Null, Array, Text, Ref, New, Unset}
use Rattle.ms_typing.specs.declared.kind.PlaceKind.TheVariants as kinds
use Rattle.ms_typing.specs.Kinds.{AreWithin, IsArray, IsInt, IsNew, IsNull, IsText, IsThrown, IsWithin, Shape, Within, common, holds, is_reference, joined, joined_kind, joined_kinds, joined_references, same_kind}
use Rattle.ms_typing.proofs.Classes.{common_least, is_a_self, same_class_is, same_class_self}
use Rattle.ms_typing.proofs.Joins.{same_kind_self, thrown_within, within_ref}

-- WHAT IS WITHIN A KIND

-- a new throwable is held by its own kind
pub new_held : (offset : ℕ) (class : Thrown) → holds (New offset class) (IsNew offset class) ≡ true
new_held offset class = and_from _ _ (eq-eqb offset offset refl) (same_class_self class)

-- and by no other, so that no two kinds of new throwables are within one another
new_is : (offset other_offset : ℕ) (class other : Thrown) → holds (New offset class) (IsNew other_offset other) ≡ true → New offset class ≡ New other_offset other
new_is offset other_offset class other h =
    let both = and_parts (offset == other_offset) _ h in ap₂ New (eqb-true offset other_offset both.0) (same_class_is class other both.1)

-- within the kinds of ints, of null and of new throwables are they alone
pub within_int : (kind : PlaceKind) → IsWithin kind Int → kind ≡ Int
within_int Int h = refl
within_int (New offset class) h = let e = h (IsNew offset class) (new_held offset class) in cc
within_int kind h = let e = h IsNull refl in cc

pub within_null : (kind : PlaceKind) → IsWithin kind Null → kind ≡ Null
within_null Null h = refl
within_null (kinds.Thrown class) h = let e = h (IsThrown class) (is_a_self class) in cc
within_null (New offset class) h = let e = h (IsNew offset class) (new_held offset class) in cc
within_null Int h = let e = h IsInt refl in cc
within_null Text h = let e = h IsText refl in cc
within_null kind h = let e = h IsArray refl in cc

pub within_new : (kind : PlaceKind) (offset : ℕ) (class : Thrown) → IsWithin kind (New offset class) → kind ≡ New offset class
within_new Int offset class h = let e = h IsInt refl in cc
within_new (New other_offset other) offset class h = sym (new_is offset other_offset class other (h (IsNew other_offset other) (new_held other_offset other)))
within_new kind offset class h = let e = h IsNull refl in cc

-- the kind of a new throwable is within itself and Unset alone, and Unset within itself alone
pub new_within : (offset : ℕ) (class : Thrown) (wider : PlaceKind) → IsWithin (New offset class) wider → (wider ≡ New offset class) ⊎ (wider ≡ Unset)
new_within offset class Unset h = inr refl
new_within offset class (New other_offset other) h = inl (new_is other_offset offset other class (h (IsNew offset class) (new_held offset class)))
new_within offset class wider h = let e = h (IsNew offset class) (new_held offset class) in cc

pub unset_within : (wider : PlaceKind) → IsWithin Unset wider → wider ≡ Unset
unset_within Unset h = refl
unset_within Int h = let e = h IsNull refl in cc
unset_within (New offset class) h = let e = h IsNull refl in cc
unset_within wider h = let e = h IsInt refl in cc

-- within references are references
no_int : (wider : PlaceKind) → is_reference wider ≡ true → holds wider IsInt ≡ true → ⊥
no_int Unset r e = cc
no_int Int r e = cc
no_int (New offset class) r e = cc
no_int wider r e = cc

no_new : (wider : PlaceKind) (offset : ℕ) (class : Thrown) → is_reference wider ≡ true → holds wider (IsNew offset class) ≡ true → ⊥
no_new Unset offset class r e = cc
no_new (New other_offset other) offset class r e = cc
no_new wider offset class r e = cc

pub within_reference : (kind wider : PlaceKind) → is_reference wider ≡ true → IsWithin kind wider → is_reference kind ≡ true
within_reference Int wider r h = absurd (no_int wider r (h IsInt refl))
within_reference Unset wider r h = absurd (no_int wider r (h IsInt refl))
within_reference (New offset class) wider r h = absurd (no_new wider offset class r (h (IsNew offset class) (new_held offset class)))
within_reference kind wider r h = refl

-- REFERENCES JOINED

-- what holds arrays, texts or throwables, and another of these, holds all references
array_and_text : (wider : PlaceKind) → holds wider IsArray ≡ true → holds wider IsText ≡ true → IsWithin Ref wider
array_and_text Ref p q tag h = h
array_and_text Unset p q tag h = refl
array_and_text Array p q tag h = cc
array_and_text wider p q tag h = cc

array_and_thrown : (wider : PlaceKind) (class : Thrown) → holds wider IsArray ≡ true → holds wider (IsThrown class) ≡ true → IsWithin Ref wider
array_and_thrown Ref class p q tag h = h
array_and_thrown Unset class p q tag h = refl
array_and_thrown Array class p q tag h = cc
array_and_thrown wider class p q tag h = cc

text_and_thrown : (wider : PlaceKind) (class : Thrown) → holds wider IsText ≡ true → holds wider (IsThrown class) ≡ true → IsWithin Ref wider
text_and_thrown Ref class p q tag h = h
text_and_thrown Unset class p q tag h = refl
text_and_thrown Text class p q tag h = cc
text_and_thrown wider class p q tag h = cc

-- and what holds throwables of two classes holds those of their common ancestor
two_thrown : (class other : Thrown) (wider : PlaceKind) → holds wider (IsThrown class) ≡ true → holds wider (IsThrown other) ≡ true → IsWithin (kinds.Thrown (common class other)) wider
two_thrown class other (kinds.Thrown third) p q tag h = thrown_within (common class other) third (common_least class other third p q) tag h
two_thrown class other Ref p q tag h = within_ref (kinds.Thrown (common class other)) refl tag h
two_thrown class other Unset p q tag h = refl
two_thrown class other wider p q tag h = cc

references_least : (kind other wider : PlaceKind) → same_kind kind other ≡ false → is_reference kind ≡ true → is_reference other ≡ true → IsWithin kind wider → IsWithin other wider
    → IsWithin (joined_references kind other) wider
references_least Null other wider e r s p q = q
references_least Array Null wider e r s p q = p
references_least Text Null wider e r s p q = p
references_least (kinds.Thrown class) Null wider e r s p q = p
references_least Ref Null wider e r s p q = p
references_least (kinds.Thrown class) (kinds.Thrown other) wider e r s p q = two_thrown class other wider (p (IsThrown class) (is_a_self class)) (q (IsThrown other) (is_a_self other))
references_least Array Text wider e r s p q = array_and_text wider (p IsArray refl) (q IsText refl)
references_least Text Array wider e r s p q = array_and_text wider (q IsArray refl) (p IsText refl)
references_least Array (kinds.Thrown class) wider e r s p q = array_and_thrown wider class (p IsArray refl) (q (IsThrown class) (is_a_self class))
references_least (kinds.Thrown class) Array wider e r s p q = array_and_thrown wider class (q IsArray refl) (p (IsThrown class) (is_a_self class))
references_least Text (kinds.Thrown class) wider e r s p q = text_and_thrown wider class (p IsText refl) (q (IsThrown class) (is_a_self class))
references_least (kinds.Thrown class) Text wider e r s p q = text_and_thrown wider class (q IsText refl) (p (IsThrown class) (is_a_self class))
references_least Ref Array wider e r s p q = p
references_least Ref Text wider e r s p q = p
references_least Ref (kinds.Thrown class) wider e r s p q = p
references_least Array Ref wider e r s p q = q
references_least Text Ref wider e r s p q = q
references_least (kinds.Thrown class) Ref wider e r s p q = q
references_least kind other wider e r s p q = cc

-- OTHERS JOINED

int_wider : (wider : PlaceKind) → holds wider IsInt ≡ true → (wider ≡ Int) ⊎ (wider ≡ Unset)
int_wider Int h = inl refl
int_wider Unset h = inr refl
int_wider wider h = cc

-- a kind isn't the same as one that is equal to it: that can't be
not_itself : (kind other : PlaceKind) → kind ≡ other → same_kind kind other ≡ false → ⊥
not_itself kind other e h = let f : same_kind other other ≡ false = subst (λ x. same_kind x other ≡ false) e h in let g = same_kind_self other in cc

-- two kinds that differ and aren't both references are both within Unset alone
unset_alone : (kind other wider : PlaceKind) → same_kind kind other ≡ false → (is_reference kind && is_reference other) ≡ false → IsWithin kind wider → IsWithin other wider → wider ≡ Unset
unset_alone Unset other wider e r p q = unset_within wider p
unset_alone kind Unset wider e r p q = unset_within wider q
unset_alone Int other wider e r p q = elim (int_wider wider (p IsInt refl)) [
  | inr f ↦ f
  | inl f ↦ absurd (not_itself Int other (sym (within_int other (subst (IsWithin other) f q))) e)
]
unset_alone kind Int wider e r p q = elim (int_wider wider (q IsInt refl)) [
  | inr f ↦ f
  | inl f ↦ absurd (not_itself kind Int (within_int kind (subst (IsWithin kind) f p)) e)
]
unset_alone (New offset class) other wider e r p q = elim (new_within offset class wider p) [
  | inr f ↦ f
  | inl f ↦ absurd (not_itself (New offset class) other (sym (within_new other offset class (subst (IsWithin other) f q))) e)
]
unset_alone kind (New offset class) wider e r p q = elim (new_within offset class wider q) [
  | inr f ↦ f
  | inl f ↦ absurd (not_itself kind (New offset class) (within_new kind offset class (subst (IsWithin kind) f p)) e)
]
unset_alone kind other wider e r p q = cc

all_in_unset : (wider : PlaceKind) → wider ≡ Unset → IsWithin Unset wider
all_in_unset wider e tag h = subst (λ x. holds x tag ≡ true) (sym e) refl

-- what holds what both kinds hold holds what they hold joined
pub joined_least : (kind other wider : PlaceKind) → IsWithin kind wider → IsWithin other wider → IsWithin (joined_kind kind other) wider
joined_least kind other wider p q = go (same_kind kind other) refl (is_reference kind && is_reference other) refl
  where
    go : (same : Bool) → same_kind kind other ≡ same → (both : Bool) → (is_reference kind && is_reference other) ≡ both → IsWithin (cond same kind (cond both (joined_references kind other) Unset)) wider
    go true e both f = p
    go false e true f = let parts = and_parts (is_reference kind) _ f in references_least kind other wider e parts.0 parts.1 p q
    go false e false f = all_in_unset wider (unset_alone kind other wider e f p q)

all_joined_least : (places others wider : List PlaceKind) → AreWithin places wider → AreWithin others wider → AreWithin (joined_kinds places others) wider
all_joined_least [] [] [] p q = tt
all_joined_least (kind ∷ places) (other ∷ others) (third ∷ wider) p q = (joined_least kind other third p.0 q.0, all_joined_least places others wider p.1 q.1)
all_joined_least [] others (third ∷ wider) p q = absurd p
all_joined_least (kind ∷ places) others [] p q = absurd p
all_joined_least [] (other ∷ others) [] p q = absurd q
all_joined_least (kind ∷ places) [] (third ∷ wider) p q = absurd q

-- and so with shapes
pub joined_shape_least : (shape other wider : Shape) → Within shape wider → Within other wider → Within (joined shape other) wider
joined_shape_least shape other wider p q = (all_joined_least shape.locals other.locals wider.locals p.0 q.0, all_joined_least shape.stack other.stack wider.stack p.1 q.1)
