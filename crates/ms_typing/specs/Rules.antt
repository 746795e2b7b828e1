-- What each instruction asks of the kinds of a frame, and what it leaves (JVMS SE 8, sections 4.9.2 and 6.5).
use Rattle.std.specs.Prelude.{ℕ, zero, suc, ◌==◌, Bool, true, false, cond, not, ◌&&◌, ◌||◌, List, [], ◌∷◌, ◌++◌, length, map, reverse, replicate, drop, nat_le, nat_lt, Option, Some, None, slice_set}
use Rattle.std.specs.List.{list_all}
use Rattle.ms_words.specs.declared.descriptor.FieldType.{FieldType}
use Rattle.ms_words.specs.declared.descriptor.FieldType.TheVariants as types
use Rattle.ms_words.specs.declared.thrown.Thrown.{Thrown}
use Rattle.ms_words.specs.declared.thrown.Thrown.TheVariants as throwables
use Rattle.ms_machine.specs.Effects.{values_at}
use Rattle.ms_machine.specs.Instructions.{Sort, OfInt, OfReference, Instr, Skip, Push, PushNull, PushText, Load, Store, Shuffle, Change, Combine, Divide, Increment, Compare, CompareZero, CompareReferences, CompareNull, Goto, Switch, ReturnValue, ReturnVoid, GetStatic, PutStatic, Invoke, Construct, Throw, NewArray, ArrayLength, ArrayLoad, ArrayStore}
use Rattle.ms_machine.specs.Instructions as instructions
use Rattle.ms_typing.specs.declared.kind.PlaceKind.{PlaceKind}
use Rattle.ms_typing.specs.declared.kind.PlaceKind.TheVariants.{Int, Null, Array, Text, Ref, New, Unset}
use Rattle.ms_typing.specs.declared.kind.PlaceKind.TheVariants as kinds
use Rattle.ms_typing.specs.declared.kind.VerifyKind.{VerifyKind}
use Rattle.ms_typing.specs.declared.kind.VerifyKind.TheVariants.{Depth, Kind, Local, FallOff, Return}
use Rattle.ms_typing.specs.Kinds.{Shape, is_reference, same_class}

-- WHAT MAY BE TAKEN

-- what an instruction takes: an int, an array, a throwable, a string (each but the int may be null), any initialised
-- reference, one that may be new too, a new throwable of a class, or anything
pub data Want : Type 0 where
  AnInt : Want
  AnArray : Want
  AThrowable : Want
  AText : Want
  AReference : Want
  AReferenceOrNew : Want
  ANew : Thrown → Want
  Anything : Want

-- whether a kind is that of a throwable that isn't initialised
abbrev pub is_new : PlaceKind → Bool
is_new (New offset class) = true
is_new kind = false

-- whether a kind is one that may be taken
abbrev pub meets : Want → PlaceKind → Bool
meets Anything kind = true
meets AnInt Int = true
meets AnArray Null = true
meets AnArray Array = true
meets AThrowable Null = true
meets AThrowable (kinds.Thrown class) = true
meets AText Null = true
meets AText Text = true
meets AReference kind = is_reference kind
meets AReferenceOrNew kind = is_reference kind || is_new kind
meets (ANew class) (New offset other) = same_class class other
meets want kind = false

-- whether kinds are ones that may be taken, the top of the stack first; there may be more
abbrev pub all_meet : List Want → List PlaceKind → Bool
all_meet [] kinds = true
all_meet (want ∷ wants) [] = false
all_meet (want ∷ wants) (kind ∷ kinds) = meets want kind && all_meet wants kinds

-- of a type: what is taken as one, and the kind of a value of it
abbrev pub want_of : FieldType → Want
want_of (types.Int kind) = AnInt
want_of types.IntArray = AnArray

abbrev pub kind_of : FieldType → PlaceKind
kind_of (types.Int kind) = Int
kind_of types.IntArray = Array

-- what is taken from a local, or into one
abbrev pub local_want : Sort → Want
local_want OfInt = AnInt
local_want OfReference = AReferenceOrNew

-- what is returned
abbrev pub returned_want : Sort → Want
returned_want OfInt = AnInt
returned_want OfReference = AnArray

-- WHAT EACH INSTRUCTION TAKES

-- from the stack, the top first
abbrev pub takes : Instr → List Want
takes (Store sort local) = local_want sort ∷ []
takes (Shuffle count places) = replicate count Anything
takes (Change op) = AnInt ∷ []
takes (Combine op) = AnInt ∷ AnInt ∷ []
takes (Divide op) = AnInt ∷ AnInt ∷ []
takes (Compare comparison) = AnInt ∷ AnInt ∷ []
takes (CompareZero comparison) = AnInt ∷ []
takes (CompareReferences same) = AReference ∷ AReference ∷ []
takes (CompareNull null) = AReference ∷ []
takes (Switch keys) = AnInt ∷ []
takes (ReturnValue sort) = returned_want sort ∷ []
takes (PutStatic member type) = want_of type ∷ []
takes (Invoke member signature) = reverse (map want_of signature.parameters)
takes (Construct true class) = AText ∷ ANew class ∷ []
takes (Construct false class) = ANew class ∷ []
takes Throw = AThrowable ∷ []
takes NewArray = AnInt ∷ []
takes ArrayLength = AnArray ∷ []
takes ArrayLoad = AnInt ∷ AnArray ∷ []
takes ArrayStore = AnInt ∷ AnInt ∷ AnArray ∷ []
takes other = []

-- the local that it names
abbrev pub local_of : Instr → Option ℕ
local_of (Load sort local) = Some local
local_of (Store sort local) = Some local
local_of (Increment local by) = Some local
local_of other = None

-- what it takes from that local, if it reads it
abbrev pub reads : Instr → Option Want
reads (Load sort local) = Some (local_want sort)
reads (Increment local by) = Some AnInt
reads other = None

-- WHAT EACH INSTRUCTION LEAVES

-- the kind of a place; one that isn't there is unset
abbrev pub kind_at : List PlaceKind → ℕ → PlaceKind
kind_at [] place = Unset
kind_at (kind ∷ kinds) zero = kind
kind_at (kind ∷ kinds) (suc place) = kind_at kinds place

-- these kinds, or the empty list
abbrev pub or_none : Option (List PlaceKind) → List PlaceKind
or_none None = []
or_none (Some kinds) = kinds

-- the kind of a result, if there is one
abbrev pub result_kinds : Option FieldType → List PlaceKind
result_kinds None = []
result_kinds (Some type) = kind_of type ∷ []

-- what an instruction at this offset puts on the stack, the top first
abbrev pub gives : ℕ → Instr → Shape → List PlaceKind
gives offset (Push word) shape = Int ∷ []
gives offset PushNull shape = Null ∷ []
gives offset (PushText bytes) shape = Text ∷ []
gives offset (Load sort local) shape = kind_at shape.locals local ∷ []
gives offset (Shuffle count places) shape = or_none (values_at shape.stack places)
gives offset (Change op) shape = Int ∷ []
gives offset (Combine op) shape = Int ∷ []
gives offset (Divide op) shape = Int ∷ []
gives offset (GetStatic member type initial) shape = kind_of type ∷ []
gives offset (Invoke member signature) shape = result_kinds signature.result
gives offset (instructions.New class) shape = New offset class ∷ []
gives offset NewArray shape = Array ∷ []
gives offset ArrayLength shape = Int ∷ []
gives offset ArrayLoad shape = Int ∷ []
gives offset other shape = []

-- whether it is the kind of a throwable that was made at this offset and isn't initialised
abbrev pub is_made_at : ℕ → PlaceKind → Bool
is_made_at offset (New other class) = other == offset
is_made_at offset kind = false

-- a local that holds one that was made at this offset is unset
abbrev pub unset : ℕ → PlaceKind → PlaceKind
unset offset kind = cond (is_made_at offset kind) Unset kind

-- the class of a throwable that isn't initialised; of another kind, which isn't asked for, Throwable
abbrev pub class_of : PlaceKind → Thrown
class_of (New offset class) = class
class_of kind = throwables.Throwable

-- the offset where it was made; of another kind, which isn't asked for, 0
abbrev pub offset_of : PlaceKind → ℕ
offset_of (New offset class) = offset
offset_of kind = 0

-- what was made at this offset is initialised
abbrev pub initialised : ℕ → PlaceKind → PlaceKind
initialised offset kind = cond (is_made_at offset kind) (kinds.Thrown (class_of kind)) kind

-- how many values a constructor takes, the throwable included
abbrev pub constructed_from : Bool → ℕ
constructed_from with_message = cond with_message 2 1

-- where the throwable was made that a constructor initialises, which stands below its message
abbrev pub made_at : Bool → Shape → ℕ
made_at with_message shape = offset_of (kind_at shape.stack (cond with_message 1 0))

-- the locals that an instruction at this offset leaves
abbrev pub locals_after : ℕ → Instr → Shape → List PlaceKind
locals_after offset (Store sort local) shape = slice_set shape.locals local (kind_at shape.stack 0)
locals_after offset (instructions.New class) shape = map (unset offset) shape.locals
locals_after offset (Construct with_message class) shape = map (initialised (made_at with_message shape)) shape.locals
locals_after offset other shape = shape.locals

-- the stack that it leaves below what it gives
abbrev pub rest_after : Instr → Shape → List PlaceKind
rest_after (Construct with_message class) shape = map (initialised (made_at with_message shape)) (drop (constructed_from with_message) shape.stack)
rest_after other shape = drop (length (takes other)) shape.stack

-- what it leaves
abbrev pub after : ℕ → Instr → Shape → Shape
after offset instr shape = record { locals = locals_after offset instr shape; stack = gives offset instr shape ++ rest_after instr shape }

-- whether it may go on to the next instruction
abbrev pub goes_on : Instr → Bool
goes_on Goto = false
goes_on (Switch keys) = false
goes_on (ReturnValue sort) = false
goes_on ReturnVoid = false
goes_on Throw = false
goes_on other = true

-- WHAT MAY BE WRONG

-- of a method: the most places on its stack, how many locals it has, its parameters and its result
pub record Profile : Type 0 where
  pub max_stack : ℕ
  pub max_locals : ℕ
  pub parameters : List FieldType
  pub result : Option FieldType

-- whether there are at least as many operands as it takes, and no more places than the method has, before it and after it
abbrev pub has_depth : Profile → ℕ → Instr → Shape → Bool
has_depth profile offset instr shape =
    nat_le (length (takes instr)) (length shape.stack) && (nat_le (length shape.stack) profile.max_stack && nat_le (length (after offset instr shape).stack) profile.max_stack)

-- whether a kind is known
abbrev pub is_set : PlaceKind → Bool
is_set Unset = false
is_set kind = true

-- whether the local is one of so many, if it names one
abbrev pub is_there : ℕ → Option ℕ → Bool
is_there count None = true
is_there count (Some local) = nat_lt local count

-- whether the local is set that it reads, if it reads one
abbrev pub reads_set : Option Want → Option ℕ → Shape → Bool
reads_set (Some want) (Some local) shape = is_set (kind_at shape.locals local)
reads_set want local shape = true

-- whether its local is one of the method's, and set where it is read
abbrev pub has_local : Profile → Instr → Shape → Bool
has_local profile instr shape = is_there profile.max_locals (local_of instr) && reads_set (reads instr) (local_of instr) shape

-- whether the local that it reads is of a kind that it takes
abbrev pub local_meets : Option Want → Option ℕ → Shape → Bool
local_meets (Some want) (Some local) shape = meets want (kind_at shape.locals local)
local_meets want local shape = true

-- whether none of these was made at this offset and isn't initialised
abbrev pub none_made_at : ℕ → List PlaceKind → Bool
none_made_at offset stack = list_all (λ kind. not (is_made_at offset kind)) stack

-- Whether no throwable that it made before is still on the stack, if it makes one. In a method that is so of each shape that
-- comes up, since what came to the offset first holds none, and a join with it unsets those that come later.
abbrev pub may_make : ℕ → Instr → Shape → Bool
may_make offset (instructions.New class) shape = none_made_at offset shape.stack
may_make offset other shape = true

-- whether all that it reads is of a kind that it takes, and it may make what it makes
abbrev pub has_kinds : ℕ → Instr → Shape → Bool
has_kinds offset instr shape = all_meet (takes instr) shape.stack && (local_meets (reads instr) (local_of instr) shape && may_make offset instr shape)

-- whether an instruction, if it returns, returns what the result asks
abbrev pub returns_right : Option FieldType → Instr → Bool
returns_right (Some (types.Int kind)) (ReturnValue OfInt) = true
returns_right (Some types.IntArray) (ReturnValue OfReference) = true
returns_right result (ReturnValue sort) = false
returns_right None ReturnVoid = true
returns_right (Some type) ReturnVoid = false
returns_right result other = true

-- the fault of the first test that fails
abbrev pub first_fault : List (Bool × VerifyKind) → Option VerifyKind
first_fault [] = None
first_fault (test ∷ tests) = cond test.0 (first_fault tests) (Some test.1)

-- the tests of an instruction at an offset, which is the last of the code or not, in their order
abbrev pub tests : Profile → ℕ → Instr → (is_last : Bool) → Shape → List (Bool × VerifyKind)
tests profile offset instr is_last shape =
    (has_depth profile offset instr shape, Depth) ∷ (has_local profile instr shape, Local) ∷ (has_kinds offset instr shape, Kind)
    ∷ (returns_right profile.result instr, Return) ∷ (not (goes_on instr && is_last), FallOff) ∷ []

-- the first fault of an instruction, where these are the kinds before it
abbrev pub fault : Profile → ℕ → Instr → (is_last : Bool) → Shape → Option VerifyKind
fault profile offset instr is_last shape = first_fault (tests profile offset instr is_last shape)
