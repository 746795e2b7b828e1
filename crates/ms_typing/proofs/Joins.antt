-- A join holds what both kinds hold; it is the first kind, or stands lower by height.
use Rattle.std.proofs.Common.{◌≡◌, ◌⊎◌, ℕ, suc, ◌+◌, ◌*◌, ◌<◌, ◌≤◌, Bool, true, false, cond, ◌&&◌, ◌==◌, List, [], ◌∷◌, length, refl, sym, ap, ap₂, subst, inl, inr, arith}
use Rattle.std.proofs.lemmas.Bool.{and_from, and_parts, eq-eqb, eqb-true}
use Rattle.ms_words.specs.declared.thrown.Thrown.{Thrown}
use Rattle.ms_words.specs.Throwables.{is_a}
use Rattle.ms_typing.specs.declared.kind.PlaceKind.{PlaceKind}
use Rattle.ms_typing.specs.declared.kind.PlaceKind.TheVariants.{Int, Null, Array, Text, Ref, New, Unset}
use Rattle.ms_typing.specs.declared.kind.PlaceKind.TheVariants as kinds
use Rattle.ms_typing.specs.Kinds.{AreWithin, IsArray, IsNull, IsText, IsThrown, IsWithin, Shape, Within, common, holds, is_reference, joined, joined_kind, joined_kinds, joined_references, lineage, same_kind, same_kinds, same_shape}
use Rattle.ms_typing.proofs.Classes.{common_both, common_higher, is_a_above, lineage_few, same_class_is, same_class_self}

-- KINDS

-- null is held by all references, and what a reference holds by any reference
pub null_within : (kind : PlaceKind) → is_reference kind ≡ true → IsWithin Null kind
null_within Null r tag h = h
null_within Array r IsNull h = refl
null_within Text r IsNull h = refl
null_within (kinds.Thrown class) r IsNull h = refl
null_within Ref r IsNull h = refl
null_within kind r tag h = cc

pub within_ref : (kind : PlaceKind) → is_reference kind ≡ true → IsWithin kind Ref
within_ref kind r IsNull h = refl
within_ref kind r IsArray h = refl
within_ref kind r IsText h = refl
within_ref kind r (IsThrown class) h = refl
within_ref Int r tag h = cc
within_ref Unset r tag h = cc
within_ref (New offset class) r tag h = cc
within_ref kind r tag h = h

-- throwables of a class are throwables of its ancestors
pub thrown_within : (class other : Thrown) → is_a class other ≡ true → IsWithin (kinds.Thrown class) (kinds.Thrown other)
thrown_within class other e IsNull h = refl
thrown_within class other e (IsThrown third) h = is_a_above third class other h e
thrown_within class other e tag h = h

-- kinds that the test takes for equal are
pub same_kind_is : (kind other : PlaceKind) → same_kind kind other ≡ true → kind ≡ other
same_kind_is Int Int h = refl
same_kind_is Null Null h = refl
same_kind_is Array Array h = refl
same_kind_is Text Text h = refl
same_kind_is (kinds.Thrown class) (kinds.Thrown other) h = ap kinds.Thrown (same_class_is class other h)
same_kind_is Ref Ref h = refl
same_kind_is (New offset class) (New other_offset other) h =
    let both = and_parts (offset == other_offset) _ h in ap₂ New (eqb-true offset other_offset both.0) (same_class_is class other both.1)
same_kind_is Unset Unset h = refl
same_kind_is kind other h = cc

pub same_kind_self : (kind : PlaceKind) → same_kind kind kind ≡ true
same_kind_self (kinds.Thrown class) = same_class_self class
same_kind_self (New offset class) = and_from _ _ (eq-eqb offset offset refl) (same_class_self class)
same_kind_self kind = refl

-- two references joined hold what each holds
references_left : (kind other : PlaceKind) → is_reference kind ≡ true → is_reference other ≡ true → IsWithin kind (joined_references kind other)
references_left Null other p q tag h = null_within other q tag h
references_left (kinds.Thrown class) (kinds.Thrown other) p q tag h = thrown_within class (common class other) (common_both class other).0 tag h
references_left kind Null p q tag h = h
references_left kind other p q tag h = within_ref kind p tag h

references_right : (kind other : PlaceKind) → is_reference kind ≡ true → is_reference other ≡ true → IsWithin other (joined_references kind other)
references_right Null other p q tag h = h
references_right (kinds.Thrown class) (kinds.Thrown other) p q tag h = thrown_within other (common class other) (common_both class other).1 tag h
references_right kind Null p q tag h = null_within kind p tag h
references_right kind other p q tag h = within_ref other q tag h

-- two kinds joined hold what each holds
pub joined_left : (kind other : PlaceKind) → IsWithin kind (joined_kind kind other)
joined_left kind other tag h = go (same_kind kind other) (is_reference kind && is_reference other) refl
  where
    go : (same both : Bool) → (is_reference kind && is_reference other) ≡ both → holds (cond same kind (cond both (joined_references kind other) Unset)) tag ≡ true
    go true both e = h
    go false true e = let parts = and_parts (is_reference kind) _ e in references_left kind other parts.0 parts.1 tag h
    go false false e = refl

pub joined_right : (kind other : PlaceKind) → IsWithin other (joined_kind kind other)
joined_right kind other tag h = go (same_kind kind other) refl (is_reference kind && is_reference other) refl
  where
    go : (same : Bool) → same_kind kind other ≡ same → (both : Bool) → (is_reference kind && is_reference other) ≡ both → holds (cond same kind (cond both (joined_references kind other) Unset)) tag ≡ true
    go true d both e = subst (λ x. holds x tag ≡ true) (sym (same_kind_is kind other d)) h
    go false d true e = let parts = and_parts (is_reference kind) _ e in references_right kind other parts.0 parts.1 tag h
    go false d false e = refl

-- LISTS AND SHAPES

-- each list holds what it holds, and what lists within it hold
pub all_within_self : (places : List PlaceKind) → AreWithin places places
all_within_self [] = tt
all_within_self (kind ∷ places) = (λ tag h. h, all_within_self places)

pub all_within_wider : (places others wider : List PlaceKind) → AreWithin places others → AreWithin others wider → AreWithin places wider
all_within_wider [] [] [] p q = tt
all_within_wider (kind ∷ places) (other ∷ others) (third ∷ wider) p q = (λ tag h. q.0 tag (p.0 tag h), all_within_wider places others wider p.1 q.1)
all_within_wider [] [] (third ∷ wider) p q = q
all_within_wider (kind ∷ places) (other ∷ others) [] p q = q
all_within_wider [] (other ∷ others) wider p q = absurd p
all_within_wider (kind ∷ places) [] wider p q = absurd p

-- and so does each shape
pub within_self : (shape : Shape) → Within shape shape
within_self shape = (all_within_self shape.locals, all_within_self shape.stack)

pub within_wider : (shape other wider : Shape) → Within shape other → Within other wider → Within shape wider
within_wider shape other wider p q = (all_within_wider shape.locals other.locals wider.locals p.0 q.0, all_within_wider shape.stack other.stack wider.stack p.1 q.1)

-- lists within each other are as long
pub within_long : (places others : List PlaceKind) → AreWithin places others → length places ≡ length others
within_long [] [] h = refl
within_long (kind ∷ places) (other ∷ others) h = ap suc (within_long places others h.1)
within_long [] (other ∷ others) h = absurd h
within_long (kind ∷ places) [] h = absurd h

-- lists of one length joined hold what each holds, and are as long
all_joined_left : (places others : List PlaceKind) → AreWithin places (joined_kinds places others)
all_joined_left [] [] = tt
all_joined_left [] (other ∷ others) = tt
all_joined_left (kind ∷ places) [] = all_within_self (kind ∷ places)
all_joined_left (kind ∷ places) (other ∷ others) = (joined_left kind other, all_joined_left places others)

all_joined_right : (places others : List PlaceKind) → length places ≡ length others → AreWithin others (joined_kinds places others)
all_joined_right [] [] e = tt
all_joined_right (kind ∷ places) (other ∷ others) e = (joined_right kind other, all_joined_right places others (cc))
all_joined_right [] (other ∷ others) e = cc
all_joined_right (kind ∷ places) [] e = cc

pub joined_long : (places others : List PlaceKind) → length (joined_kinds places others) ≡ length places
joined_long [] others = refl
joined_long (kind ∷ places) [] = refl
joined_long (kind ∷ places) (other ∷ others) = ap suc (joined_long places others)

-- shapes of one size joined hold what each holds
pub joined_holds_left : (shape other : Shape) → Within shape (joined shape other)
joined_holds_left shape other = (all_joined_left shape.locals other.locals, all_joined_left shape.stack other.stack)

pub joined_holds_right : (shape other : Shape) → length shape.locals ≡ length other.locals → length shape.stack ≡ length other.stack → Within other (joined shape other)
joined_holds_right shape other e f = (all_joined_right shape.locals other.locals e, all_joined_right shape.stack other.stack f)

-- lists and shapes that the tests take for equal are
same_kinds_are : (places others : List PlaceKind) → same_kinds places others ≡ true → places ≡ others
same_kinds_are [] [] e = refl
same_kinds_are (kind ∷ places) (other ∷ others) e =
    let parts = and_parts (same_kind kind other) _ e in ap₂ (λ x xs. x ∷ xs) (same_kind_is kind other parts.0) (same_kinds_are places others parts.1)
same_kinds_are [] (other ∷ others) e = cc
same_kinds_are (kind ∷ places) [] e = cc

same_kinds_self : (places : List PlaceKind) → same_kinds places places ≡ true
same_kinds_self [] = refl
same_kinds_self (kind ∷ places) = and_from _ _ (same_kind_self kind) (same_kinds_self places)

pub same_shape_is : (shape other : Shape) → same_shape shape other ≡ true → shape ≡ other
same_shape_is shape other e =
    let parts = and_parts (same_kinds shape.locals other.locals) _ e in
    ap₂ (λ x y. record { locals = x; stack = y }) (same_kinds_are shape.locals other.locals parts.0) (same_kinds_are shape.stack other.stack parts.1)

-- HEIGHTS

-- how often a kind may still change
abbrev pub height : PlaceKind → ℕ
height Unset = 0
height Int = 1
height Ref = 1
height (New offset class) = 1
height Array = 2
height Text = 2
height (kinds.Thrown class) = 1 + length (lineage class)
height Null = 7

-- how often kinds may, in all
abbrev pub heights : List PlaceKind → ℕ
heights [] = 0
heights (kind ∷ places) = height kind + heights places

-- and those of a shape
abbrev pub shape_height : Shape → ℕ
shape_height shape = heights shape.locals + heights shape.stack

-- what a kind became is the same, or lower
abbrev Lower : PlaceKind → PlaceKind → Type 0
Lower kind new = (new ≡ kind) ⊎ (height new < height kind)

thrown_lower : (class other : Thrown) → Lower (kinds.Thrown class) (kinds.Thrown (common class other))
thrown_lower class other = elim (common_higher class other) [ inl e ↦ inl (ap kinds.Thrown e) | inr l ↦ inr (omega arith) ]

references_lower : (kind other : PlaceKind) → is_reference kind ≡ true → is_reference other ≡ true → Lower kind (joined_references kind other)
references_lower Null Null p q = inl refl
references_lower Null Array p q = inr (omega arith)
references_lower Null Text p q = inr (omega arith)
references_lower Null (kinds.Thrown class) p q = inr (omega (arith, lineage_few class))
references_lower Null Ref p q = inr (omega arith)
references_lower (kinds.Thrown class) (kinds.Thrown other) p q = thrown_lower class other
references_lower Array Null p q = inl refl
references_lower Text Null p q = inl refl
references_lower (kinds.Thrown class) Null p q = inl refl
references_lower Ref Null p q = inl refl
references_lower Ref other p q = inl (elim other as (λ x. joined_references Ref x ≡ Ref) [ Null ↦ refl | _ ↦ refl ])
references_lower Array other p q = elim other as (λ x. is_reference x ≡ true → Lower Array (joined_references Array x)) [ Null ↦ λ q. inl refl | _ ↦ λ q. inr (omega arith) ] q
references_lower Text other p q = elim other as (λ x. is_reference x ≡ true → Lower Text (joined_references Text x)) [ Null ↦ λ q. inl refl | _ ↦ λ q. inr (omega arith) ] q
references_lower (kinds.Thrown class) other p q =
    elim other as (λ x. is_reference x ≡ true → Lower (kinds.Thrown class) (joined_references (kinds.Thrown class) x)) [ Null ↦ λ q. inl refl | kinds.Thrown other ↦ λ q. thrown_lower class other | _ ↦ λ q. inr (omega arith) ] q
references_lower kind other p q = cc

-- a kind that is set may still change
set_high : (kind : PlaceKind) → (kind ≡ Unset) ⊎ (0 < height kind)
set_high Unset = inl refl
set_high kind = inr (omega arith)

joined_lower : (kind other : PlaceKind) → Lower kind (joined_kind kind other)
joined_lower kind other = go (same_kind kind other) (is_reference kind && is_reference other) refl
  where
    go : (same both : Bool) → (is_reference kind && is_reference other) ≡ both → Lower kind (cond same kind (cond both (joined_references kind other) Unset))
    go true both e = inl refl
    go false true e = let parts = and_parts (is_reference kind) _ e in references_lower kind other parts.0 parts.1
    go false false e = elim (set_high kind) [ inl f ↦ inl (sym f) | inr l ↦ inr l ]

-- joined lists are the first ones, or lower
abbrev AllLower : List PlaceKind → List PlaceKind → Type 0
AllLower places new = (new ≡ places) ⊎ (heights new < heights places)

all_joined_lower : (places others : List PlaceKind) → AllLower places (joined_kinds places others)
all_joined_lower [] others = inl refl
all_joined_lower (kind ∷ places) [] = inl refl
all_joined_lower (kind ∷ places) (other ∷ others) = two (joined_lower kind other) (all_joined_lower places others)
  where
    two : Lower kind (joined_kind kind other) → AllLower places (joined_kinds places others) → AllLower (kind ∷ places) (joined_kind kind other ∷ joined_kinds places others)
    two (inl e) (inl f) = inl (ap₂ (λ x xs. x ∷ xs) e f)
    two (inl e) (inr l) = inr (omega (arith, ap height e))
    two (inr l) (inl f) = inr (omega (arith, ap heights f))
    two (inr l) (inr m) = inr (omega arith)

-- joined shapes are the first one, as the test says, or lower
pub joined_shape_lower : (shape other : Shape) → (same_shape (joined shape other) shape ≡ true) ⊎ (shape_height (joined shape other) < shape_height shape)
joined_shape_lower shape other = two (all_joined_lower shape.locals other.locals) (all_joined_lower shape.stack other.stack)
  where
    two : AllLower shape.locals (joined_kinds shape.locals other.locals) → AllLower shape.stack (joined_kinds shape.stack other.stack)
        → (same_shape (joined shape other) shape ≡ true) ⊎ (shape_height (joined shape other) < shape_height shape)
    two (inl e) (inl f) = inl (and_from _ _ (subst (λ x. same_kinds x shape.locals ≡ true) (sym e) (same_kinds_self shape.locals)) (subst (λ x. same_kinds x shape.stack ≡ true) (sym f) (same_kinds_self shape.stack)))
    two (inl e) (inr l) = inr (omega (arith, ap heights e))
    two (inr l) (inl f) = inr (omega (arith, ap heights f))
    two (inr l) (inr m) = inr (omega arith)

-- and in any case no higher
pub joined_shape_not_higher : (shape other : Shape) → shape_height (joined shape other) ≤ shape_height shape
joined_shape_not_higher shape other = elim (joined_shape_lower shape other) [
  | inl e ↦ let f = ap shape_height (same_shape_is (joined shape other) shape e) in omega (arith, f)
  | inr l ↦ omega arith
]

-- no kind is higher than null
height_most : (kind : PlaceKind) → height kind ≤ 7
height_most (kinds.Thrown class) = omega (arith, lineage_few class)
height_most kind = omega arith

pub heights_most : (places : List PlaceKind) → heights places ≤ 7 * length places
heights_most [] = omega arith
heights_most (kind ∷ places) = grind (arith, height_most kind, heights_most places)
