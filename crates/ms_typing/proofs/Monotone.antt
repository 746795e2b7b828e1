-- Lower shapes have no fault where higher ones have none, and lead to lower shapes.
use Rattle.std.proofs.Common.{◌≡◌, ℕ, zero, suc, Bool, true, false, cond, not, ◌&&◌, ◌||◌, ◌==◌, List, [], ◌∷◌, ◌++◌, drop, length, map, nat_le, Option, Some, None, slice_get, slice_set, refl, sym, ap, subst, subst₂, inl, inr}
use Rattle.std.proofs.lemmas.Bool.{and_from, and_parts, or_cases, or_left}
use Rattle.ms_words.specs.declared.thrown.Thrown.{Thrown}
use Rattle.ms_machine.specs.Effects.{values_at, with_value}
use Rattle.ms_machine.specs.Instructions.{Instr, Construct, Invoke, Load, Shuffle, Store}
use Rattle.ms_machine.specs.Instructions as instructions
use Rattle.ms_typing.specs.declared.kind.PlaceKind.{PlaceKind}
use Rattle.ms_typing.specs.declared.kind.PlaceKind.TheVariants.{Int, Null, Array, Text, Ref, New, Unset}
use Rattle.ms_typing.specs.declared.kind.PlaceKind.TheVariants as kinds
use Rattle.ms_typing.specs.declared.kind.VerifyKind.TheVariants.{Depth, Kind, Local, FallOff, Return}
use Rattle.ms_typing.specs.Kinds.{AreWithin, IsArray, IsInt, IsNew, IsText, IsThrown, IsWithin, Shape, Within, is_reference}
use Rattle.ms_typing.specs.Rules.{Profile, AReference, AReferenceOrNew, AText, AThrowable, ANew, AnArray, AnInt, Anything, Want, after, all_meet, class_of, constructed_from, fault, first_fault, gives, goes_on, has_depth, has_kinds, has_local, initialised, is_made_at, is_new, is_set, is_there, kind_at, local_meets, local_of, locals_after, made_at, may_make, meets, offset_of, or_none, reads, reads_set, rest_after, returns_right, takes, tests, unset}
use Rattle.ms_typing.proofs.Classes.{is_a_self}
use Rattle.ms_typing.proofs.Joins.{all_within_self, within_long}
use Rattle.ms_typing.proofs.Total.{each_test}
use Rattle.ms_typing.proofs.Least.{new_held, new_within, unset_within, within_int, within_new, within_null, within_reference}

-- KINDS

-- a lower kind may be taken where a higher one may, and is set where that is
meets_within : (want : Want) (kind wider : PlaceKind) → meets want wider ≡ true → IsWithin kind wider → meets want kind ≡ true
meets_within Anything kind wider m h = refl
meets_within AnInt kind Int m h = subst (λ x. meets AnInt x ≡ true) (sym (within_int kind h)) refl
meets_within AnArray kind Null m h = subst (λ x. meets AnArray x ≡ true) (sym (within_null kind h)) refl
meets_within AThrowable kind Null m h = subst (λ x. meets AThrowable x ≡ true) (sym (within_null kind h)) refl
meets_within AText kind Null m h = subst (λ x. meets AText x ≡ true) (sym (within_null kind h)) refl
meets_within AnArray kind Array m h = elim kind as (λ x. IsWithin x Array → meets AnArray x ≡ true) [
  | Null ↦ λ h. refl
  | Array ↦ λ h. refl
  | Int ↦ λ h. h IsInt refl
  | Unset ↦ λ h. h IsInt refl
  | Text ↦ λ h. h IsText refl
  | Ref ↦ λ h. h IsText refl
  | kinds.Thrown class ↦ λ h. h (IsThrown class) (is_a_self class)
  | New offset class ↦ λ h. h (IsNew offset class) (new_held offset class)
] h
meets_within AText kind Text m h = elim kind as (λ x. IsWithin x Text → meets AText x ≡ true) [
  | Null ↦ λ h. refl
  | Text ↦ λ h. refl
  | Int ↦ λ h. h IsInt refl
  | Unset ↦ λ h. h IsInt refl
  | Array ↦ λ h. h IsArray refl
  | Ref ↦ λ h. h IsArray refl
  | kinds.Thrown class ↦ λ h. h (IsThrown class) (is_a_self class)
  | New offset class ↦ λ h. h (IsNew offset class) (new_held offset class)
] h
meets_within AThrowable kind (kinds.Thrown third) m h = elim kind as (λ x. IsWithin x (kinds.Thrown third) → meets AThrowable x ≡ true) [
  | Null ↦ λ h. refl
  | kinds.Thrown class ↦ λ h. refl
  | Int ↦ λ h. h IsInt refl
  | Unset ↦ λ h. h IsInt refl
  | Array ↦ λ h. h IsArray refl
  | Ref ↦ λ h. h IsArray refl
  | Text ↦ λ h. h IsText refl
  | New offset class ↦ λ h. h (IsNew offset class) (new_held offset class)
] h
meets_within AReference kind wider m h = within_reference kind wider m h
meets_within AReferenceOrNew kind wider m h = elim (or_cases (is_reference wider) (is_new wider) m) [
  | inl r ↦ or_left (is_reference kind) (is_new kind) (within_reference kind wider r h)
  | inr n ↦ new_only wider n h
]
  where
    new_only : (wider : PlaceKind) → is_new wider ≡ true → IsWithin kind wider → (is_reference kind || is_new kind) ≡ true
    new_only (New offset class) n h = subst (λ x. (is_reference x || is_new x) ≡ true) (sym (within_new kind offset class h)) refl
    new_only wider n h = cc
meets_within (ANew class) kind (New offset other) m h = subst (λ x. meets (ANew class) x ≡ true) (sym (within_new kind offset other h)) m
meets_within want kind wider m h = cc

set_within : (kind wider : PlaceKind) → is_set wider ≡ true → IsWithin kind wider → is_set kind ≡ true
set_within Unset wider e h = subst (λ x. is_set x ≡ true) (unset_within wider h) e
set_within kind wider e h = refl

-- what is done to new throwables of an offset leaves a lower kind lower
made_within : (offset : ℕ) (f : PlaceKind → PlaceKind) (kind wider : PlaceKind) → IsWithin kind wider → IsWithin (cond (is_made_at offset kind) (f kind) kind) (cond (is_made_at offset wider) (f wider) wider)
made_within offset f (New other class) wider h = elim (new_within other class wider h) [
  | inl e ↦ subst (λ x. IsWithin (cond (other == offset) (f (New other class)) (New other class)) (cond (is_made_at offset x) (f x) x)) (sym e) (λ tag y. y)
  | inr e ↦ subst (λ x. IsWithin (cond (other == offset) (f (New other class)) (New other class)) (cond (is_made_at offset x) (f x) x)) (sym e) (λ tag y. refl)
]
made_within offset f kind (New other class) h = let e = within_new kind other class h in cc
made_within offset f kind wider h = h

-- LISTS

-- what may be taken from a higher list may be from a lower one
all_meet_within : (wants : List Want) (places wider : List PlaceKind) → all_meet wants wider ≡ true → AreWithin places wider → all_meet wants places ≡ true
all_meet_within [] places wider f h = refl
all_meet_within (want ∷ wants) (kind ∷ places) (third ∷ wider) f h =
    let both = and_parts (meets want third) _ f in and_from _ _ (meets_within want kind third both.0 h.0) (all_meet_within wants places wider both.1 h.1)
all_meet_within (want ∷ wants) [] [] f h = f
all_meet_within (want ∷ wants) [] (third ∷ wider) f h = absurd h
all_meet_within (want ∷ wants) (kind ∷ places) [] f h = absurd h

-- what is done to lists leaves a lower one lower: to look a place up, to drop, to append, to store, to map, to shuffle
at_within : (places wider : List PlaceKind) (place : ℕ) → AreWithin places wider → IsWithin (kind_at places place) (kind_at wider place)
at_within [] [] place h = λ tag x. x
at_within (kind ∷ places) (third ∷ wider) zero h = h.0
at_within (kind ∷ places) (third ∷ wider) (suc place) h = at_within places wider place h.1
at_within [] (third ∷ wider) place h = absurd h
at_within (kind ∷ places) [] place h = absurd h

drop_within : (n : ℕ) (places wider : List PlaceKind) → AreWithin places wider → AreWithin (drop n places) (drop n wider)
drop_within zero places wider h = h
drop_within (suc n) [] [] h = h
drop_within (suc n) (kind ∷ places) (third ∷ wider) h = drop_within n places wider h.1
drop_within (suc n) [] (third ∷ wider) h = absurd h
drop_within (suc n) (kind ∷ places) [] h = absurd h

append_within : (places wider others others_wider : List PlaceKind) → AreWithin places wider → AreWithin others others_wider → AreWithin (places ++ others) (wider ++ others_wider)
append_within [] [] others others_wider h g = g
append_within (kind ∷ places) (third ∷ wider) others others_wider h g = (h.0, append_within places wider others others_wider h.1 g)
append_within [] (third ∷ wider) others others_wider h g = absurd h
append_within (kind ∷ places) [] others others_wider h g = absurd h

store_within : (places wider : List PlaceKind) (place : ℕ) (kind third : PlaceKind) → AreWithin places wider → IsWithin kind third → AreWithin (slice_set places place kind) (slice_set wider place third)
store_within [] [] place kind third h g = h
store_within (x ∷ places) (y ∷ wider) zero kind third h g = (g, h.1)
store_within (x ∷ places) (y ∷ wider) (suc place) kind third h g = (h.0, store_within places wider place kind third h.1 g)
store_within [] (y ∷ wider) place kind third h g = absurd h
store_within (x ∷ places) [] place kind third h g = absurd h

map_within : (f : PlaceKind → PlaceKind) → ((kind wider : PlaceKind) → IsWithin kind wider → IsWithin (f kind) (f wider)) → (places wider : List PlaceKind) → AreWithin places wider → AreWithin (map f places) (map f wider)
map_within f m [] [] h = tt
map_within f m (kind ∷ places) (third ∷ wider) h = (m kind third h.0, map_within f m places wider h.1)
map_within f m [] (third ∷ wider) h = absurd h
map_within f m (kind ∷ places) [] h = absurd h

abbrev KindsWithin : Option PlaceKind → Option PlaceKind → Type 0
KindsWithin None None = Unit {0}
KindsWithin (Some kind) (Some wider) = IsWithin kind wider
KindsWithin one other = ⊥

abbrev ListsWithin : Option (List PlaceKind) → Option (List PlaceKind) → Type 0
ListsWithin None None = Unit {0}
ListsWithin (Some places) (Some wider) = AreWithin places wider
ListsWithin one other = ⊥

get_within : (places wider : List PlaceKind) (place : ℕ) → AreWithin places wider → KindsWithin (slice_get places place) (slice_get wider place)
get_within [] [] place h = tt
get_within (kind ∷ places) (third ∷ wider) zero h = h.0
get_within (kind ∷ places) (third ∷ wider) (suc place) h = get_within places wider place h.1
get_within [] (third ∷ wider) place h = absurd h
get_within (kind ∷ places) [] place h = absurd h

with_value_within : (one other : Option PlaceKind) (places wider : Option (List PlaceKind)) → KindsWithin one other → ListsWithin places wider → ListsWithin (with_value one places) (with_value other wider)
with_value_within None None places wider h g = tt
with_value_within (Some kind) (Some third) None None h g = tt
with_value_within (Some kind) (Some third) (Some places) (Some wider) h g = (h, g)
with_value_within None (Some third) places wider h g = absurd h
with_value_within (Some kind) None places wider h g = absurd h
with_value_within (Some kind) (Some third) None (Some wider) h g = absurd g
with_value_within (Some kind) (Some third) (Some places) None h g = absurd g

values_within : (values wider : List PlaceKind) (places : List ℕ) → AreWithin values wider → ListsWithin (values_at values places) (values_at wider places)
values_within values wider [] h = tt
values_within values wider (place ∷ places) h =
    with_value_within (slice_get values place) (slice_get wider place) (values_at values places) (values_at wider places) (get_within values wider place h) (values_within values wider places h)

or_none_within : (places wider : Option (List PlaceKind)) → ListsWithin places wider → AreWithin (or_none places) (or_none wider)
or_none_within None None h = tt
or_none_within (Some places) (Some wider) h = h
or_none_within None (Some wider) h = absurd h
or_none_within (Some places) None h = absurd h

-- AN INSTRUCTION

-- a lower shape has lower kinds of what is put on the stack
gives_within : (offset : ℕ) (instr : Instr) (shape wider : Shape) → Within shape wider → AreWithin (gives offset instr shape) (gives offset instr wider)
gives_within offset (Load sort local) shape wider u = (at_within shape.locals wider.locals local u.0, tt)
gives_within offset (Shuffle count places) shape wider u = or_none_within _ _ (values_within shape.stack wider.stack places u.1)
gives_within offset (Invoke member signature) shape wider u = all_within_self _
gives_within offset instr shape wider u = all_within_self (gives offset instr wider)

-- a constructor initialises the same throwables in both
new_same : (class : Thrown) (kind wider : PlaceKind) → meets (ANew class) wider ≡ true → IsWithin kind wider → kind ≡ wider
new_same class kind (New offset other) m h = within_new kind offset other h
new_same class kind wider m h = cc

made_same : (with_message : Bool) (class : Thrown) (shape wider : Shape) → all_meet (takes (Construct with_message class)) wider.stack ≡ true → Within shape wider → made_at with_message shape ≡ made_at with_message wider
made_same true class shape wider f u = ap offset_of (new_same class (kind_at shape.stack 1) (kind_at wider.stack 1) (second wider.stack f) (at_within shape.stack wider.stack 1 u.1))
  where
    second : (places : List PlaceKind) → all_meet (AText ∷ ANew class ∷ []) places ≡ true → meets (ANew class) (kind_at places 1) ≡ true
    second [] f = cc
    second (kind ∷ []) f = let g = (and_parts (meets AText kind) _ f).1 in cc
    second (kind ∷ other ∷ places) f = (and_parts _ _ (and_parts (meets AText kind) _ f).1).0
made_same false class shape wider f u = ap offset_of (new_same class (kind_at shape.stack 0) (kind_at wider.stack 0) (first wider.stack f) (at_within shape.stack wider.stack 0 u.1))
  where
    first : (places : List PlaceKind) → all_meet (ANew class ∷ []) places ≡ true → meets (ANew class) (kind_at places 0) ≡ true
    first [] f = cc
    first (kind ∷ places) f = (and_parts _ _ f).0

initialised_within : (offset : ℕ) (places wider : List PlaceKind) → AreWithin places wider → AreWithin (map (initialised offset) places) (map (initialised offset) wider)
initialised_within offset places wider h = map_within (initialised offset) (made_within offset (λ kind. kinds.Thrown (class_of kind))) places wider h

-- and lower kinds of the locals, and of the stack below
locals_within : (offset : ℕ) (instr : Instr) (shape wider : Shape) → all_meet (takes instr) wider.stack ≡ true → Within shape wider → AreWithin (locals_after offset instr shape) (locals_after offset instr wider)
locals_within offset (Store sort local) shape wider f u = store_within shape.locals wider.locals local _ _ u.0 (at_within shape.stack wider.stack 0 u.1)
locals_within offset (instructions.New class) shape wider f u = map_within (unset offset) (made_within offset (λ kind. Unset)) shape.locals wider.locals u.0
locals_within offset (Construct with_message class) shape wider f u =
    subst (λ x. AreWithin (map (initialised x) shape.locals) (map (initialised (made_at with_message wider)) wider.locals)) (sym (made_same with_message class shape wider f u))
    (initialised_within (made_at with_message wider) shape.locals wider.locals u.0)
locals_within offset instr shape wider f u = u.0

rest_within : (instr : Instr) (shape wider : Shape) → all_meet (takes instr) wider.stack ≡ true → Within shape wider → AreWithin (rest_after instr shape) (rest_after instr wider)
rest_within (Construct with_message class) shape wider f u =
    subst (λ x. AreWithin (map (initialised x) (drop (constructed_from with_message) shape.stack)) (map (initialised (made_at with_message wider)) (drop (constructed_from with_message) wider.stack)))
    (sym (made_same with_message class shape wider f u))
    (initialised_within (made_at with_message wider) _ _ (drop_within (constructed_from with_message) shape.stack wider.stack u.1))
rest_within instr shape wider f u = drop_within (length (takes instr)) shape.stack wider.stack u.1

-- so an instruction leaves a lower shape
pub after_within : (offset : ℕ) (instr : Instr) (shape wider : Shape) → all_meet (takes instr) wider.stack ≡ true → Within shape wider → Within (after offset instr shape) (after offset instr wider)
after_within offset instr shape wider f u = (locals_within offset instr shape wider f u, append_within _ _ _ _ (gives_within offset instr shape wider u) (rest_within instr shape wider f u))

-- FAULTS

five : (a b c d e : Bool) → a ≡ true → b ≡ true → c ≡ true → d ≡ true → e ≡ true → first_fault ((a, Depth) ∷ (b, Local) ∷ (c, Kind) ∷ (d, Return) ∷ (e, FallOff) ∷ []) ≡ None
five a b c d e p q r s t = rw (p, q, r, s, t) refl

reads_set_within : (want : Option Want) (local : Option ℕ) (shape wider : Shape) → reads_set want local wider ≡ true → Within shape wider → reads_set want local shape ≡ true
reads_set_within (Some want) (Some local) shape wider e u = set_within _ _ e (at_within shape.locals wider.locals local u.0)
reads_set_within None local shape wider e u = refl
reads_set_within (Some want) None shape wider e u = refl

local_meets_within : (want : Option Want) (local : Option ℕ) (shape wider : Shape) → local_meets want local wider ≡ true → Within shape wider → local_meets want local shape ≡ true
local_meets_within (Some want) (Some local) shape wider e u = meets_within want _ _ e (at_within shape.locals wider.locals local u.0)
local_meets_within None local shape wider e u = refl
local_meets_within (Some want) None shape wider e u = refl

-- where a shape has no fault all operands may be taken
pub takes_meet : (profile : Profile) (offset : ℕ) (instr : Instr) (is_last : Bool) (shape : Shape) → fault profile offset instr is_last shape ≡ None → all_meet (takes instr) shape.stack ≡ true
takes_meet profile offset instr is_last shape e = (and_parts _ _ (each_test (tests profile offset instr is_last shape) e 2 (has_kinds offset instr shape, Kind) refl)).0

-- a lower shape has no fault where a higher one has none, if it may make what it makes
pub fault_within : (profile : Profile) (offset : ℕ) (instr : Instr) (is_last : Bool) (shape wider : Shape) → fault profile offset instr is_last wider ≡ None → Within shape wider → may_make offset instr shape ≡ true
    → fault profile offset instr is_last shape ≡ None
fault_within profile offset instr is_last shape wider e u m =
    let all = each_test (tests profile offset instr is_last wider) e in
    let deep = all 0 (has_depth profile offset instr wider, Depth) refl in
    let local = and_parts (is_there profile.max_locals (local_of instr)) _ (all 1 (has_local profile instr wider, Local) refl) in
    let read = and_parts (all_meet (takes instr) wider.stack) _ (all 2 (has_kinds offset instr wider, Kind) refl) in
    let left = after_within offset instr shape wider read.0 u in
    five _ _ _ _ _
    (subst₂ (λ x y. (nat_le (length (takes instr)) x && (nat_le x profile.max_stack && nat_le y profile.max_stack)) ≡ true) (sym (within_long shape.stack wider.stack u.1)) (sym (within_long _ _ left.1)) deep)
    (and_from _ _ local.0 (reads_set_within (reads instr) (local_of instr) shape wider local.1 u))
    (and_from _ _ (all_meet_within (takes instr) shape.stack wider.stack read.0 u.1)
    (and_from _ _ (local_meets_within (reads instr) (local_of instr) shape wider (and_parts (local_meets (reads instr) (local_of instr) wider) _ read.1).0 u) m))
    (all 3 (returns_right profile.result instr, Return) refl)
    (all 4 (not (goes_on instr && is_last), FallOff) refl)
