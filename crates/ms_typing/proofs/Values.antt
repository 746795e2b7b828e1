-- Values of kinds: what wider kinds, more arrays, and the maps of kinds keep.
use Rattle.std.proofs.Common.{◌≡◌, ℕ, zero, suc, ◌<◌, ◌≤◌, ◌==◌, Bool, true, false, cond, ◌&&◌, List, [], ◌∷◌, ◌++◌, take, length, map, reverse, nat_lt, Option, Some, None, refl, sym, ap, ◌∙◌, subst, subst₂, arith, slice_get, slice_set}
use Rattle.std.specs.List.{list_all}
use Rattle.std.proofs.lemmas.Bool.{ltb-true}
use Rattle.std.proofs.lemmas.List.{length-map, length-reverse, reverse-reverse}
use Rattle.ms_words.specs.declared.descriptor.FieldType.{FieldType}
use Rattle.ms_words.specs.declared.descriptor.FieldType.TheVariants as types
use Rattle.ms_words.specs.declared.thrown.Thrown.{Thrown}
use Rattle.ms_words.specs.Descriptors.{field_type_of}
use Rattle.ms_words.specs.Throwables.{is_a}
use Rattle.ms_machine.specs.Values as values
use Rattle.ms_machine.specs.Values.{Value, Throwable, Static, is_field, static_value, with_local, with_static}
use Rattle.ms_machine.specs.Effects.{values_at, with_value}
use Rattle.ms_typing.specs.declared.kind.PlaceKind.{PlaceKind}
use Rattle.ms_typing.specs.declared.kind.PlaceKind.TheVariants.{Int, Null, Array, Text, Ref, New, Unset}
use Rattle.ms_typing.specs.declared.kind.PlaceKind.TheVariants as kinds
use Rattle.ms_typing.specs.Kinds.{AreWithin, IsWithin, Tag, IsInt, IsNull, IsArray, IsText, IsThrown, IsNew, holds, same_class}
use Rattle.ms_typing.specs.Rules.{Want, AnInt, AnArray, AThrowable, AText, AReference, AReferenceOrNew, ANew, Anything, all_meet, initialised, is_made_at, is_set, kind_at, kind_of, meets, or_none, unset, want_of}
use Rattle.ms_typing.specs.Verifier.{filled}
use Rattle.ms_typing.proofs.Classes.{is_a_self, same_class_is, some_is}
use Rattle.ms_typing.specs.Typed.{HasKind, HaveKinds, HaveLocals, HaveTypes, Is}
use Rattle.std.specs.Str.{bytes_eq}
use Rattle.std.specs.Cmp.Lexicographic.{bytes_decides}
use mathlib.Core.List.{reverse_aux}

-- TRUTHS

pub first : (a b : Bool) → (a && b) ≡ true → a ≡ true
first true b is = refl
first false b is = is

pub second : (a b : Bool) → (a && b) ≡ true → b ≡ true
second true b is = is
second false b is = absurd (let e = is in cc)

-- CLASSES

-- equal classes stand below the same ones
same_below : (class other : Thrown) → same_class class other ≡ true → is_a other class ≡ true
same_below class other is = subst (λ c. is_a c class ≡ true) (same_class_is class other is) (is_a_self class)

-- WHAT IS TAKEN

-- what a value that is taken may be, as far as an effect looks at it
abbrev pub admits : Want → Tag → Bool
admits AnInt IsInt = true
admits AnInt tag = false
admits AnArray IsNull = true
admits AnArray IsArray = true
admits AnArray tag = false
admits AThrowable IsNull = true
admits AThrowable (IsThrown class) = true
admits AThrowable tag = false
admits want tag = true

admitted : (want : Want) (kind : PlaceKind) (tag : Tag) → meets want kind ≡ true → holds kind tag ≡ true → admits want tag ≡ true
admitted AnInt Int IsInt fits held = refl
admitted AnInt Int tag fits held = absurd (let e = held in cc)
admitted AnInt kind tag fits held = absurd (let e = fits in cc)
admitted AnArray Null IsNull fits held = refl
admitted AnArray Null tag fits held = absurd (let e = held in cc)
admitted AnArray Array IsNull fits held = refl
admitted AnArray Array IsArray fits held = refl
admitted AnArray Array tag fits held = absurd (let e = held in cc)
admitted AnArray kind tag fits held = absurd (let e = fits in cc)
admitted AThrowable Null IsNull fits held = refl
admitted AThrowable Null tag fits held = absurd (let e = held in cc)
admitted AThrowable (kinds.Thrown class) IsNull fits held = refl
admitted AThrowable (kinds.Thrown class) (IsThrown other) fits held = refl
admitted AThrowable (kinds.Thrown class) tag fits held = absurd (let e = held in cc)
admitted AThrowable kind tag fits held = absurd (let e = fits in cc)
admitted AText kind tag fits held = refl
admitted AReference kind tag fits held = refl
admitted AReferenceOrNew kind tag fits held = refl
admitted (ANew class) kind tag fits held = refl
admitted Anything kind tag fits held = refl

-- a map of kinds that values survive
abbrev pub Survives : (V : Type 0) → ℕ → (PlaceKind → PlaceKind) → Type 0
Survives V n f = (kind : PlaceKind) (v : Value V) → HasKind n kind v → HasKind n (f kind) v

-- nothing but unset is wider than unset
unset_alone : (kind : PlaceKind) → IsWithin Unset kind → kind ≡ Unset
unset_alone Unset wide = refl
unset_alone Int wide = absurd (let e = wide IsNull refl in cc)
unset_alone Null wide = absurd (let e = wide IsInt refl in cc)
unset_alone Array wide = absurd (let e = wide IsInt refl in cc)
unset_alone Text wide = absurd (let e = wide IsInt refl in cc)
unset_alone (kinds.Thrown class) wide = absurd (let e = wide IsInt refl in cc)
unset_alone Ref wide = absurd (let e = wide IsInt refl in cc)
unset_alone (New offset class) wide = absurd (let e = wide IsInt refl in cc)

module _ {V : Type 0} where
  -- a value that is taken
  pub record Meets (n : ℕ) (want : Want) (v : Value V) : Type 0 where
    pub tag : Tag
    pub is : Is n tag v
    pub admits_it : admits want tag ≡ true

  pub meets_want : (n : ℕ) (want : Want) (kind : PlaceKind) (v : Value V) → meets want kind ≡ true → HasKind n kind v → Meets n want v
  meets_want n want kind v fits has = record { tag = has.tag; is = has.is; admits_it = admitted want kind has.tag fits has.held }

  -- WIDER KINDS

  pub wider : (n : ℕ) (kind other : PlaceKind) (v : Value V) → IsWithin kind other → HasKind n kind v → HasKind n other v
  wider n kind other v wide has = record { tag = has.tag; is = has.is; held = wide has.tag has.held }

  pub wider_all : (n : ℕ) (ks others : List PlaceKind) (vs : List (Value V)) → AreWithin ks others → HaveKinds n ks vs → HaveKinds n others vs
  wider_all n [] [] vs wide has = has
  wider_all n (k ∷ ks) (other ∷ others) (v ∷ vs) wide has = (wider n k other v wide.0 has.0, wider_all n ks others vs wide.1 has.1)
  wider_all n (k ∷ ks) (other ∷ others) [] wide has = absurd has
  wider_all n [] (other ∷ others) vs wide has = absurd wide
  wider_all n (k ∷ ks) [] vs wide has = absurd wide

  pub wider_locals : (n : ℕ) (ks others : List PlaceKind) (vs : List (Option (Value V))) → AreWithin ks others → HaveLocals n ks vs → HaveLocals n others vs
  wider_locals n [] [] vs wide has = tt
  wider_locals n (k ∷ ks) (other ∷ others) [] wide has = (unset_alone other (subst (λ k. IsWithin k other) has.0 wide.0), wider_locals n ks others [] wide.1 has.1)
  wider_locals n (k ∷ ks) (other ∷ others) (None ∷ vs) wide has = (unset_alone other (subst (λ k. IsWithin k other) has.0 wide.0), wider_locals n ks others vs wide.1 has.1)
  wider_locals n (k ∷ ks) (other ∷ others) (Some v ∷ vs) wide has = (wider n k other v wide.0 has.0, wider_locals n ks others vs wide.1 has.1)
  wider_locals n [] (other ∷ others) vs wide has = absurd wide
  wider_locals n (k ∷ ks) [] vs wide has = absurd wide

  -- MORE ARRAYS

  module _ (n m : ℕ) (more : n ≤ m) where
    is_more : (tag : Tag) (v : Value V) → Is n tag v → Is m tag v
    is_more IsInt (values.Int a) is = is
    is_more IsNull values.Null is = is
    is_more IsArray (values.Array number) is = omega (arith, more, is)
    is_more IsText (values.Text bytes) is = is
    is_more (IsThrown class) (Throwable number other) is = is
    is_more (IsNew offset class) (Throwable number other) is = is
    is_more tag v is = absurd is

    pub kind_more : (kind : PlaceKind) (v : Value V) → HasKind n kind v → HasKind m kind v
    kind_more kind v has = record { tag = has.tag; is = is_more has.tag v has.is; held = has.held }

    pub kinds_more : (ks : List PlaceKind) (vs : List (Value V)) → HaveKinds n ks vs → HaveKinds m ks vs
    kinds_more [] [] has = tt
    kinds_more (k ∷ ks) (v ∷ vs) has = (kind_more k v has.0, kinds_more ks vs has.1)
    kinds_more [] (v ∷ vs) has = absurd has
    kinds_more (k ∷ ks) [] has = absurd has

    pub locals_more : (ks : List PlaceKind) (vs : List (Option (Value V))) → HaveLocals n ks vs → HaveLocals m ks vs
    locals_more [] vs has = tt
    locals_more (k ∷ ks) [] has = (has.0, locals_more ks [] has.1)
    locals_more (k ∷ ks) (None ∷ vs) has = (has.0, locals_more ks vs has.1)
    locals_more (k ∷ ks) (Some v ∷ vs) has = (kind_more k v has.0, locals_more ks vs has.1)

    pub statics_more : (statics : List (Static V)) → HaveTypes n statics → HaveTypes m statics
    statics_more [] has = tt
    statics_more (static ∷ statics) has = (λ type is. kind_more (kind_of type) static.value (has.0 type is), statics_more statics has.1)

  module _ (n : ℕ) where
    pub int_kind : (a : V) → HasKind n Int (values.Int a)
    int_kind a = record { tag = IsInt; is = tt; held = refl }

    pub null_kind : (kind : PlaceKind) → holds kind IsNull ≡ true → HasKind {V = V} n kind values.Null
    null_kind kind held = record { tag = IsNull; is = tt; held = held }

    -- MAPS OF KINDS

    pub mapped_kinds : (f : PlaceKind → PlaceKind) → Survives V n f → (ks : List PlaceKind) (vs : List (Value V)) → HaveKinds n ks vs → HaveKinds n (map f ks) vs
    mapped_kinds f survives [] [] has = tt
    mapped_kinds f survives (k ∷ ks) (v ∷ vs) has = (survives k v has.0, mapped_kinds f survives ks vs has.1)
    mapped_kinds f survives [] (v ∷ vs) has = absurd has
    mapped_kinds f survives (k ∷ ks) [] has = absurd has

    pub mapped_locals : (f : PlaceKind → PlaceKind) → f Unset ≡ Unset → Survives V n f → (ks : List PlaceKind) (vs : List (Option (Value V))) → HaveLocals n ks vs → HaveLocals n (map f ks) vs
    mapped_locals f stays survives [] vs has = tt
    mapped_locals f stays survives (k ∷ ks) [] has = (ap f has.0 ∙ stays, mapped_locals f stays survives ks [] has.1)
    mapped_locals f stays survives (k ∷ ks) (None ∷ vs) has = (ap f has.0 ∙ stays, mapped_locals f stays survives ks vs has.1)
    mapped_locals f stays survives (k ∷ ks) (Some v ∷ vs) has = (survives k v has.0, mapped_locals f stays survives ks vs has.1)

    pub unset_survives : (offset : ℕ) → Survives V n (unset offset)
    unset_survives offset kind v has = by_test (is_made_at offset kind)
      where
        by_test : (b : Bool) → HasKind n (cond b Unset kind) v
        by_test true = record { tag = has.tag; is = has.is; held = refl }
        by_test false = has

    new_is_thrown : (offset : ℕ) (class : Thrown) (tag : Tag) (v : Value V) → Is n tag v → holds (New offset class) tag ≡ true → HasKind n (kinds.Thrown class) v
    new_is_thrown offset class (IsNew other_offset other) (Throwable number actual) is held =
        record { tag = IsThrown actual; is = refl; held = subst (λ c. is_a c class ≡ true) is (same_below class other (second (offset == other_offset) (same_class class other) held)) }
    new_is_thrown offset class IsInt v is held = absurd (let e = held in cc)
    new_is_thrown offset class IsNull v is held = absurd (let e = held in cc)
    new_is_thrown offset class IsArray v is held = absurd (let e = held in cc)
    new_is_thrown offset class IsText v is held = absurd (let e = held in cc)
    new_is_thrown offset class (IsThrown other) v is held = absurd (let e = held in cc)
    new_is_thrown offset class (IsNew other_offset other) v is held = absurd is

    pub initialised_survives : (offset : ℕ) → Survives V n (initialised offset)
    initialised_survives offset (New other class) v has = by_test (other == offset)
      where
        by_test : (b : Bool) → HasKind n (cond b (kinds.Thrown class) (New other class)) v
        by_test true = new_is_thrown other class has.tag v has.is has.held
        by_test false = has
    initialised_survives offset kind v has = has

    -- STACKS

    pub appended_kinds : (ks others : List PlaceKind) (vs ws : List (Value V)) → HaveKinds n ks vs → HaveKinds n others ws → HaveKinds n (ks ++ others) (vs ++ ws)
    appended_kinds [] others [] ws has more = more
    appended_kinds (k ∷ ks) others (v ∷ vs) ws has more = (has.0, appended_kinds ks others vs ws has.1 more)
    appended_kinds [] others (v ∷ vs) ws has more = absurd has
    appended_kinds (k ∷ ks) others [] ws has more = absurd has

    -- a place has a value of its kind
    record Found (ks : List PlaceKind) (vs : List (Value V)) (place : ℕ) : Type 0 where
      kind : PlaceKind
      v : Value V
      kind_is : slice_get ks place ≡ Some kind
      value_is : slice_get vs place ≡ Some v
      has : HasKind n kind v

    found : (ks : List PlaceKind) (vs : List (Value V)) (count place : ℕ) → HaveKinds n (take count ks) vs → count ≤ length ks → place < count → Found ks vs place
    found ks vs zero place has within below = absurd (omega (arith, below))
    found [] vs (suc count) place has within below = absurd (omega (arith, within))
    found (k ∷ ks) [] (suc count) place has within below = absurd has
    found (k ∷ ks) (v ∷ vs) (suc count) zero has within below = record { kind = k; v = v; kind_is = refl; value_is = refl; has = has.0 }
    found (k ∷ ks) (v ∷ vs) (suc count) (suc place) has within below =
        let f = found ks vs count place has.1 (omega (arith, within)) (omega (arith, below)) in
        record { kind = f.kind; v = f.v; kind_is = f.kind_is; value_is = f.value_is; has = f.has }

    -- values that are put back
    pub record PutBack (ks : List PlaceKind) (vs : List (Value V)) (places : List ℕ) : Type 0 where
      pub back : List (Value V)
      pub is : values_at vs places ≡ Some back
      pub has : HaveKinds n (or_none (values_at ks places)) back

    put_back_of : (ks : List PlaceKind) (vs : List (Value V)) (place : ℕ) (places : List ℕ) → Found ks vs place → (others : Option (List PlaceKind)) (back : Option (List (Value V))) (kept : List (Value V)) → values_at ks places ≡ others → back ≡ Some kept
        → HaveKinds n (or_none others) kept → (Some_or : (js : List PlaceKind) × (others ≡ Some js)) → (ws : List (Value V)) × (with_value (slice_get vs place) back ≡ Some ws) × HaveKinds n (or_none (with_value (slice_get ks place) others)) ws
    put_back_of ks vs place places f others back kept is_others is_back has js = (
      f.v ∷ kept,
      (λ i. with_value (f.value_is i) (is_back i)),
      subst₂ (λ k os. HaveKinds n (or_none (with_value k os)) (f.v ∷ kept)) (sym f.kind_is) (sym js.1) (f.has, subst (λ os. HaveKinds n (or_none os) kept) js.1 has),
    )

    pub put_back : (ks : List PlaceKind) (vs : List (Value V)) (count : ℕ) (places : List ℕ) → HaveKinds n (take count ks) vs → count ≤ length ks → list_all (λ place. nat_lt place count) places ≡ true
        → (back : PutBack ks vs places) × ((js : List PlaceKind) × (values_at ks places ≡ Some js))
    put_back ks vs count [] has within all = (record { back = []; is = refl; has = tt }, ([], refl))
    put_back ks vs count (place ∷ places) has within all =
        let one = found ks vs count place has within (ltb-true place count (first (nat_lt place count) _ all)) in
        let rest = put_back ks vs count places has within (second (nat_lt place count) _ all) in
        let joined = put_back_of ks vs place places one (values_at ks places) (values_at vs places) rest.0.back refl rest.0.is rest.0.has rest.1 in
        (record { back = joined.0; is = joined.1; has = joined.2 }, (one.kind ∷ rest.1.0, (λ i. with_value (one.kind_is i) (rest.1.1 i))))

    -- ARGUMENTS

    abbrev HaveWants : List Want → List (Value V) → Type 0
    HaveWants [] [] = Unit {0}
    HaveWants (want ∷ wants) (v ∷ vs) = Meets n want v × HaveWants wants vs
    HaveWants wants vs = ⊥

    taken_wants : (wants : List Want) (ks : List PlaceKind) (vs : List (Value V)) → all_meet wants ks ≡ true → HaveKinds n (take (length wants) ks) vs → HaveWants wants vs
    taken_wants [] ks [] meet has = tt
    taken_wants [] ks (v ∷ vs) meet has = absurd has
    taken_wants (want ∷ wants) [] vs meet has = absurd (let e = meet in cc)
    taken_wants (want ∷ wants) (k ∷ ks) [] meet has = absurd has
    taken_wants (want ∷ wants) (k ∷ ks) (v ∷ vs) meet has = (meets_want n want k v (first (meets want k) _ meet) has.0, taken_wants wants ks vs (second (meets want k) _ meet) has.1)

    -- a value that is taken as one of a type has the type's kind
    pub typed_kind : (type : FieldType) (v : Value V) → Meets n (want_of type) v → HasKind n (kind_of type) v
    typed_kind type v m = record { tag = m.tag; is = m.is; held = by_type type m.tag m.admits_it }
      where
        by_type : (type : FieldType) (tag : Tag) → admits (want_of type) tag ≡ true → holds (kind_of type) tag ≡ true
        by_type (types.Int kind) IsInt is = refl
        by_type (types.Int kind) tag is = absurd (let e = is in cc)
        by_type types.IntArray IsNull is = refl
        by_type types.IntArray IsArray is = refl
        by_type types.IntArray tag is = absurd (let e = is in cc)

    typed_kinds : (ts : List FieldType) (vs : List (Value V)) → HaveWants (map want_of ts) vs → HaveKinds n (map kind_of ts) vs
    typed_kinds [] [] has = tt
    typed_kinds (type ∷ ts) (v ∷ vs) has = (typed_kind type v has.0, typed_kinds ts vs has.1)
    typed_kinds [] (v ∷ vs) has = absurd has
    typed_kinds (type ∷ ts) [] has = absurd has

    reversed_onto : (wants behind : List Want) (vs others : List (Value V)) → HaveWants wants vs → HaveWants behind others → HaveWants (reverse_aux wants behind) (reverse_aux vs others)
    reversed_onto [] behind [] others has more = more
    reversed_onto (want ∷ wants) behind (v ∷ vs) others has more = reversed_onto wants (want ∷ behind) vs (v ∷ others) has.1 (has.0, more)
    reversed_onto [] behind (v ∷ vs) others has more = absurd has
    reversed_onto (want ∷ wants) behind [] others has more = absurd has

    -- the arguments of a call, of which the last is on top
    pub arguments : (ts : List FieldType) (ks : List PlaceKind) (vs : List (Value V)) → all_meet (reverse (map want_of ts)) ks ≡ true → HaveKinds n (take (length ts) ks) vs → HaveKinds n (map kind_of ts) (reverse vs)
    arguments ts ks vs meet has =
        let wants = map want_of ts in
        let as_many : length (reverse wants) ≡ length ts = length-reverse wants ∙ length-map ts want_of in
        let taken = taken_wants (reverse wants) ks vs meet (subst (λ count. HaveKinds n (take count ks) vs) (sym as_many) has) in
        typed_kinds ts (reverse vs) (subst (λ ws. HaveWants ws (reverse vs)) (reverse-reverse wants) (reversed_onto (reverse wants) [] vs [] taken tt))

    pub filled_locals : (count : ℕ) (ks : List PlaceKind) (vs : List (Value V)) → HaveKinds n ks vs → HaveLocals n (filled count ks) (map (λ v. Some v) vs)
    filled_locals zero ks vs has = tt
    filled_locals (suc count) [] [] has = (refl, filled_locals count [] [] tt)
    filled_locals (suc count) (k ∷ ks) (v ∷ vs) has = (has.0, filled_locals count ks vs has.1)
    filled_locals (suc count) [] (v ∷ vs) has = absurd has
    filled_locals (suc count) (k ∷ ks) [] has = absurd has

    -- LOCALS

    no_value : (local : ℕ) (v : Value V) → slice_get {X = Option (Value V)} [] local ≡ Some (Some v) → ⊥
    no_value local v is = cc

    pub held_local : (ks : List PlaceKind) (vs : List (Option (Value V))) (local : ℕ) → HaveLocals n ks vs → is_set (kind_at ks local) ≡ true
        → (v : Value V) × (slice_get vs local ≡ Some (Some v)) × HasKind n (kind_at ks local) v
    held_local [] vs local has set = absurd (let e = set in cc)
    held_local (k ∷ ks) [] zero has set = absurd (let e : is_set Unset ≡ true = subst (λ k. is_set k ≡ true) has.0 set in cc)
    held_local (k ∷ ks) [] (suc local) has set = let h = held_local ks [] local has.1 set in absurd (no_value local h.0 h.1)
    held_local (k ∷ ks) (None ∷ vs) zero has set = absurd (let e : is_set Unset ≡ true = subst (λ k. is_set k ≡ true) has.0 set in cc)
    held_local (k ∷ ks) (Some v ∷ vs) zero has set = (v, refl, has.0)
    held_local (k ∷ ks) (held ∷ vs) (suc local) has set = held_local ks vs local has.1 set

    pub stored_local : (ks : List PlaceKind) (vs : List (Option (Value V))) (local : ℕ) (kind : PlaceKind) (v : Value V) → HaveLocals n ks vs → HasKind n kind v → HaveLocals n (slice_set ks local kind) (with_local vs local v)
    stored_local [] vs local kind v has is = tt
    stored_local (k ∷ ks) [] zero kind v has is = (is, has.1)
    stored_local (k ∷ ks) [] (suc local) kind v has is = (has.0, stored_local ks [] local kind v has.1 is)
    stored_local (k ∷ ks) (held ∷ vs) zero kind v has is = (is, has.1)
    stored_local (k ∷ ks) (held ∷ vs) (suc local) kind v has is = (has.0, stored_local ks vs local kind v has.1 is)

    pub changed_local : (ks : List PlaceKind) (vs : List (Option (Value V))) (local : ℕ) (v : Value V) → HaveLocals n ks vs → HasKind n (kind_at ks local) v → HaveLocals n ks (with_local vs local v)
    changed_local [] vs local v has is = tt
    changed_local (k ∷ ks) [] zero v has is = (is, has.1)
    changed_local (k ∷ ks) [] (suc local) v has is = (has.0, changed_local ks [] local v has.1 is)
    changed_local (k ∷ ks) (held ∷ vs) zero v has is = (is, has.1)
    changed_local (k ∷ ks) (held ∷ vs) (suc local) v has is = (has.0, changed_local ks vs local v has.1 is)

    -- STATIC FIELDS

    field_parts : (class : ℕ) (name descriptor : List ℕ) (static : Static V) → is_field class name descriptor static ≡ true → static.descriptor ≡ descriptor
    field_parts class name descriptor static is =
        (bytes_decides static.descriptor descriptor).0 (second (bytes_eq static.name name) (bytes_eq static.descriptor descriptor) (second (static.class == class) _ is))

    pub static_kind : (statics : List (Static V)) (class : ℕ) (name descriptor : List ℕ) (type : FieldType) (v : Value V) → HaveTypes n statics → field_type_of descriptor ≡ Some type → HasKind n (kind_of type) v
        → HasKind n (kind_of type) (static_value statics class name descriptor v)
    static_kind [] class name descriptor type v has is kind = kind
    static_kind (static ∷ statics) class name descriptor type v has is kind = by_test (is_field class name descriptor static) refl (static_kind statics class name descriptor type v has.1 is kind)
      where
        by_test : (b : Bool) → is_field class name descriptor static ≡ b → HasKind n (kind_of type) (static_value statics class name descriptor v) → HasKind n (kind_of type) (cond b static.value (static_value statics class name descriptor v))
        by_test true same rest = has.0 type (ap field_type_of (field_parts class name descriptor static same) ∙ is)
        by_test false same rest = rest

    pub stored_static : (statics : List (Static V)) (class : ℕ) (name descriptor : List ℕ) (type : FieldType) (v : Value V) → HaveTypes n statics → field_type_of descriptor ≡ Some type → HasKind n (kind_of type) v → HaveTypes n (with_static statics class name descriptor v)
    stored_static [] class name descriptor type v has is kind = (λ other is_other. subst (λ t. HasKind n (kind_of t) v) (some_is type other (sym is ∙ is_other)) kind, tt)
    stored_static (static ∷ statics) class name descriptor type v has is kind = by_test (is_field class name descriptor static) refl (stored_static statics class name descriptor type v has.1 is kind)
      where
        by_test : (b : Bool) → is_field class name descriptor static ≡ b → HaveTypes n (with_static statics class name descriptor v) → HaveTypes n (cond b (record static { value = v } ∷ statics) (static ∷ with_static statics class name descriptor v))
        by_test true same rest = (λ other is_other. subst (λ t. HasKind n (kind_of t) v) (some_is type other (sym is ∙ ap field_type_of (sym (field_parts class name descriptor static same)) ∙ is_other)) kind, has.1)
        by_test false same rest = (has.0, rest)
