-- Kinds of places, what each holds, and how two are joined (JVMS SE 8, section 4.10.2.2).
use Rattle.std.specs.Prelude.{◌≡◌, ℕ, zero, suc, ◌==◌, Bool, true, false, cond, ◌&&◌, List, [], ◌∷◌, Option, Some, None}
use Rattle.ms_words.specs.declared.thrown.Thrown.{Thrown}
use Rattle.ms_words.specs.declared.thrown.Thrown.TheVariants as throwables
use Rattle.ms_words.specs.Throwables.{is_a, number_of, parent}
use Rattle.ms_typing.specs.declared.kind.PlaceKind.{PlaceKind}
use Rattle.ms_typing.specs.declared.kind.PlaceKind.TheVariants.{Int, Null, Array, Text, Ref, New, Unset}
use Rattle.ms_typing.specs.declared.kind.PlaceKind.TheVariants as kinds

-- WHAT A KIND HOLDS

-- what a value is: an int, null, an array, a string, a throwable of a class, or one that was made at an offset and isn't
-- initialised
pub data Tag : Type 0 where
  IsInt : Tag
  IsNull : Tag
  IsArray : Tag
  IsText : Tag
  IsThrown : Thrown → Tag
  IsNew : ℕ → Thrown → Tag

-- whether two classes are the same
abbrev pub same_class : Thrown → Thrown → Bool
same_class class other = number_of class == number_of other

-- whether a place of the kind may hold such a value
abbrev pub holds : PlaceKind → Tag → Bool
holds Unset tag = true
holds Int IsInt = true
holds Null IsNull = true
holds Array IsNull = true
holds Array IsArray = true
holds Text IsNull = true
holds Text IsText = true
holds (kinds.Thrown class) IsNull = true
holds (kinds.Thrown class) (IsThrown other) = is_a other class
holds Ref IsNull = true
holds Ref IsArray = true
holds Ref IsText = true
holds Ref (IsThrown class) = true
holds (New offset class) (IsNew other_offset other) = (offset == other_offset) && same_class class other
holds kind tag = false

-- the second kind holds all that the first holds
abbrev pub IsWithin : PlaceKind → PlaceKind → Type 0
IsWithin kind wider = (tag : Tag) → holds kind tag ≡ true → holds wider tag ≡ true

-- JOINING

-- whether it is the kind of initialised references
abbrev pub is_reference : PlaceKind → Bool
is_reference Null = true
is_reference Array = true
is_reference Text = true
is_reference (kinds.Thrown class) = true
is_reference Ref = true
is_reference kind = false

-- whether two kinds are equal
abbrev pub same_kind : PlaceKind → PlaceKind → Bool
same_kind Int Int = true
same_kind Null Null = true
same_kind Array Array = true
same_kind Text Text = true
same_kind (kinds.Thrown class) (kinds.Thrown other) = same_class class other
same_kind Ref Ref = true
same_kind (New offset class) (New other_offset other) = (offset == other_offset) && same_class class other
same_kind Unset Unset = true
same_kind kind other = false

-- the class and those above it, at most so many
abbrev pub lineage_within : ℕ → Option Thrown → List Thrown
lineage_within n None = []
lineage_within zero (Some class) = []
lineage_within (suc n) (Some class) = class ∷ lineage_within n (parent class)

-- the class and all above it; none stands more than four below Throwable
abbrev pub lineage : Thrown → List Thrown
lineage class = lineage_within 5 (Some class)

-- the first of these classes that the class is or stands below
abbrev pub first_above : Thrown → List Thrown → Thrown
first_above class [] = throwables.Throwable
first_above class (above ∷ others) = cond (is_a class above) above (first_above class others)

-- the lowest common ancestor of two classes
abbrev pub common : Thrown → Thrown → Thrown
common class other = first_above other (lineage class)

-- of two references that differ: null with another is the other; two throwables are of their lowest common ancestor; the
-- others are any reference
abbrev pub joined_references : PlaceKind → PlaceKind → PlaceKind
joined_references Null other = other
joined_references kind Null = kind
joined_references (kinds.Thrown class) (kinds.Thrown other) = kinds.Thrown (common class other)
joined_references kind other = Ref

-- two kinds joined: equal ones stay, of references as above, and the rest is unset
abbrev pub joined_kind : PlaceKind → PlaceKind → PlaceKind
joined_kind kind other = cond (same_kind kind other) kind (cond (is_reference kind && is_reference other) (joined_references kind other) Unset)

-- STATES OF TYPES

-- the kinds of a frame's places: its locals, and its operand stack with the top first
pub record Shape : Type 0 where
  pub locals : List PlaceKind
  pub stack : List PlaceKind

-- place by place joined; the second list is as long as the first
abbrev pub joined_kinds : List PlaceKind → List PlaceKind → List PlaceKind
joined_kinds (kind ∷ kinds) (other ∷ others) = joined_kind kind other ∷ joined_kinds kinds others
joined_kinds kinds others = kinds

abbrev pub joined : Shape → Shape → Shape
joined shape other = record { locals = joined_kinds shape.locals other.locals; stack = joined_kinds shape.stack other.stack }

-- place by place, the second list holds all that the first holds, and is as long
abbrev pub AreWithin : List PlaceKind → List PlaceKind → Type 0
AreWithin [] [] = Unit {0}
AreWithin (kind ∷ kinds) (wider ∷ others) = IsWithin kind wider × AreWithin kinds others
AreWithin kinds others = ⊥

-- the second shape holds all that the first holds
abbrev pub Within : Shape → Shape → Type 0
Within shape wider = AreWithin shape.locals wider.locals × AreWithin shape.stack wider.stack

-- whether two lists of kinds are equal
abbrev pub same_kinds : List PlaceKind → List PlaceKind → Bool
same_kinds [] [] = true
same_kinds (kind ∷ kinds) (other ∷ others) = same_kind kind other && same_kinds kinds others
same_kinds kinds others = false

-- whether two shapes are
abbrev pub same_shape : Shape → Shape → Bool
same_shape shape other = same_kinds shape.locals other.locals && same_kinds shape.stack other.stack
