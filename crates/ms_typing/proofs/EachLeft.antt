-- What each instruction leaves of kinds, computed.
use Rattle.std.proofs.Common.{◌≡◌, pos, List, [], ◌∷◌, map, replicate, true, false, Some, None, codes, refl}
use Rattle.ms_words.specs.declared.descriptor.FieldType.TheVariants as types
use Rattle.ms_words.specs.declared.kind.Kind.TheVariants.{Z, B, C, S, I}
use Rattle.ms_words.specs.declared.operator.Bin.TheVariants.{Add, Div}
use Rattle.ms_words.specs.declared.operator.Un.TheVariants.{I2b}
use Rattle.ms_words.specs.declared.thrown.Thrown.TheVariants.{Error, Arithmetic}
use Rattle.ms_machine.specs.Instructions.{Equal, Instr, OfInt, OfReference, Skip, Push, PushNull, PushText, Load, Store, Shuffle, Change, Combine, Divide, Increment, Compare, CompareZero, CompareReferences, CompareNull, Goto, Switch, ReturnValue, ReturnVoid, GetStatic, PutStatic, Invoke, Construct, Throw, NewArray, ArrayLength, ArrayLoad, ArrayStore}
use Rattle.ms_machine.specs.Instructions as instructions
use Rattle.ms_typing.specs.declared.kind.PlaceKind.{PlaceKind}
use Rattle.ms_typing.specs.declared.kind.PlaceKind.TheVariants.{Int, Null, Array, Text, Ref, New, Unset}
use Rattle.ms_typing.specs.declared.kind.PlaceKind.TheVariants as kinds
use Rattle.ms_typing.specs.Kinds.{Shape}
use Rattle.ms_typing.specs.Rules.{after}
use Rattle.ms_typing.proofs.Written.{int, ints, member, shape}

-- some locals: an int, an array, one that is unset
abbrev some_locals : List PlaceKind
some_locals = Int ∷ Array ∷ Unset ∷ []

-- what an instruction at 20 leaves of these locals and this stack, and a shape of these locals
abbrev leaves : Instr → List PlaceKind → Shape
leaves instr stack = after 20 instr (shape some_locals stack)

abbrev only : List PlaceKind → Shape
only stack = shape some_locals stack

-- CONSTANTS

nop : leaves Skip (Text ∷ []) ≡ only (Text ∷ [])
nop = refl

iconst : leaves (Push (pos 1)) (Text ∷ []) ≡ only (Int ∷ Text ∷ [])
iconst = refl

aconst_null : leaves PushNull (Text ∷ []) ≡ only (Null ∷ Text ∷ [])
aconst_null = refl

ldc_text : leaves (PushText (codes "no")) [] ≡ only (Text ∷ [])
ldc_text = refl

-- LOADS AND STORES

iload : leaves (Load OfInt 0) (Text ∷ []) ≡ only (Int ∷ Text ∷ [])
iload = refl

-- the kind of the local, not any reference
aload : leaves (Load OfReference 1) (Text ∷ []) ≡ only (Array ∷ Text ∷ [])
aload = refl

istore : leaves (Store OfInt 2) (Int ∷ Text ∷ []) ≡ shape (Int ∷ Array ∷ Int ∷ []) (Text ∷ [])
istore = refl

-- a local that had another kind has that of the value
astore : leaves (Store OfReference 0) (Text ∷ Int ∷ []) ≡ shape (Text ∷ Array ∷ Unset ∷ []) (Int ∷ [])
astore = refl

astore_new : leaves (Store OfReference 1) (New 4 Error ∷ []) ≡ shape (Int ∷ New 4 Error ∷ Unset ∷ []) []
astore_new = refl

iinc : leaves (Increment 0 (pos 1)) (Text ∷ []) ≡ only (Text ∷ [])
iinc = refl

-- THE STACK

-- five places of five kinds
abbrev five : List PlaceKind
five = Int ∷ Null ∷ Array ∷ Unset ∷ Ref ∷ []

pop : leaves (Shuffle 1 []) five ≡ only (Null ∷ Array ∷ Unset ∷ Ref ∷ [])
pop = refl

pop2 : leaves (Shuffle 2 []) five ≡ only (Array ∷ Unset ∷ Ref ∷ [])
pop2 = refl

dup : leaves (Shuffle 1 (0 ∷ 0 ∷ [])) five ≡ only (Int ∷ Int ∷ Null ∷ Array ∷ Unset ∷ Ref ∷ [])
dup = refl

dup_x1 : leaves (Shuffle 2 (0 ∷ 1 ∷ 0 ∷ [])) five ≡ only (Int ∷ Null ∷ Int ∷ Array ∷ Unset ∷ Ref ∷ [])
dup_x1 = refl

dup_x2 : leaves (Shuffle 3 (0 ∷ 1 ∷ 2 ∷ 0 ∷ [])) five ≡ only (Int ∷ Null ∷ Array ∷ Int ∷ Unset ∷ Ref ∷ [])
dup_x2 = refl

dup2 : leaves (Shuffle 2 (0 ∷ 1 ∷ 0 ∷ 1 ∷ [])) five ≡ only (Int ∷ Null ∷ Int ∷ Null ∷ Array ∷ Unset ∷ Ref ∷ [])
dup2 = refl

dup2_x1 : leaves (Shuffle 3 (0 ∷ 1 ∷ 2 ∷ 0 ∷ 1 ∷ [])) five ≡ only (Int ∷ Null ∷ Array ∷ Int ∷ Null ∷ Unset ∷ Ref ∷ [])
dup2_x1 = refl

dup2_x2 : leaves (Shuffle 4 (0 ∷ 1 ∷ 2 ∷ 3 ∷ 0 ∷ 1 ∷ [])) five ≡ only (Int ∷ Null ∷ Array ∷ Unset ∷ Int ∷ Null ∷ Ref ∷ [])
dup2_x2 = refl

swap : leaves (Shuffle 2 (1 ∷ 0 ∷ [])) five ≡ only (Null ∷ Int ∷ Array ∷ Unset ∷ Ref ∷ [])
swap = refl

-- ARITHMETIC

i2b : leaves (Change I2b) (Int ∷ Text ∷ []) ≡ only (Int ∷ Text ∷ [])
i2b = refl

iadd : leaves (Combine Add) (Int ∷ Int ∷ Text ∷ []) ≡ only (Int ∷ Text ∷ [])
iadd = refl

idiv : leaves (Divide Div) (Int ∷ Int ∷ Text ∷ []) ≡ only (Int ∷ Text ∷ [])
idiv = refl

-- BRANCHES, which leave the same to all their successors

if_icmpeq : leaves (Compare Equal) (Int ∷ Int ∷ Text ∷ []) ≡ only (Text ∷ [])
if_icmpeq = refl

ifeq : leaves (CompareZero Equal) (Int ∷ Text ∷ []) ≡ only (Text ∷ [])
ifeq = refl

if_acmpeq : leaves (CompareReferences true) (Null ∷ Ref ∷ Text ∷ []) ≡ only (Text ∷ [])
if_acmpeq = refl

-- nothing is known of what is or isn't null
ifnull : leaves (CompareNull true) (Array ∷ Text ∷ []) ≡ only (Text ∷ [])
ifnull = refl

goto : leaves Goto (Text ∷ []) ≡ only (Text ∷ [])
goto = refl

switch : leaves (Switch (pos 1 ∷ [])) (Int ∷ Text ∷ []) ≡ only (Text ∷ [])
switch = refl

-- RETURNS AND THROWS, which leave something to nobody

ireturn : leaves (ReturnValue OfInt) (Int ∷ Text ∷ []) ≡ only (Text ∷ [])
ireturn = refl

areturn : leaves (ReturnValue OfReference) (Array ∷ Text ∷ []) ≡ only (Text ∷ [])
areturn = refl

returns : leaves ReturnVoid (Text ∷ []) ≡ only (Text ∷ [])
returns = refl

athrow : leaves Throw (kinds.Thrown Error ∷ Text ∷ []) ≡ only (Text ∷ [])
athrow = refl

-- MEMBERS

-- getstatic of each int's type, and of an array's
gets_int : map (λ kind. leaves (GetStatic member (types.Int kind) (pos 0)) (Text ∷ [])) (Z ∷ B ∷ C ∷ S ∷ I ∷ []) ≡ replicate 5 (only (Int ∷ Text ∷ []))
gets_int = refl

gets_array : leaves (GetStatic member ints (pos 0)) (Text ∷ []) ≡ only (Array ∷ Text ∷ [])
gets_array = refl

putstatic : leaves (PutStatic member ints) (Null ∷ Text ∷ []) ≡ only (Text ∷ [])
putstatic = refl

-- invokestatic with an int, with an array, and with nothing as result
gives_int : leaves (Invoke member (record { parameters = int ∷ ints ∷ []; result = Some int })) (Null ∷ Int ∷ Text ∷ []) ≡ only (Int ∷ Text ∷ [])
gives_int = refl

gives_array : leaves (Invoke member (record { parameters = []; result = Some ints })) (Text ∷ []) ≡ only (Array ∷ Text ∷ [])
gives_array = refl

gives_nothing : leaves (Invoke member (record { parameters = int ∷ []; result = None })) (Int ∷ Text ∷ []) ≡ only (Text ∷ [])
gives_nothing = refl

-- THROWABLES

-- new: one that was made at its offset
new : leaves (instructions.New Error) (Text ∷ []) ≡ only (New 20 Error ∷ Text ∷ [])
new = refl

-- the locals that have one of before are unset, and no others
new_again : after 20 (instructions.New Error) (shape (New 20 Error ∷ New 4 Error ∷ kinds.Thrown Error ∷ []) []) ≡ shape (Unset ∷ New 4 Error ∷ kinds.Thrown Error ∷ []) (New 20 Error ∷ [])
new_again = refl

-- invokespecial: all that were made where the one was that it takes, on the stack and in locals, and no others
constructs : after 20 (Construct false Error) (shape (New 4 Error ∷ New 8 Error ∷ []) (New 4 Error ∷ New 4 Error ∷ Int ∷ New 8 Error ∷ []))
    ≡ shape (kinds.Thrown Error ∷ New 8 Error ∷ []) (kinds.Thrown Error ∷ Int ∷ New 8 Error ∷ [])
constructs = refl

-- with a message, which is taken
constructs_with_message : after 20 (Construct true Arithmetic) (shape (New 4 Arithmetic ∷ Text ∷ []) (Text ∷ New 4 Arithmetic ∷ New 4 Arithmetic ∷ Text ∷ []))
    ≡ shape (kinds.Thrown Arithmetic ∷ Text ∷ []) (kinds.Thrown Arithmetic ∷ Text ∷ [])
constructs_with_message = refl

-- ARRAYS

newarray : leaves NewArray (Int ∷ Text ∷ []) ≡ only (Array ∷ Text ∷ [])
newarray = refl

arraylength : leaves ArrayLength (Null ∷ Text ∷ []) ≡ only (Int ∷ Text ∷ [])
arraylength = refl

iaload : leaves ArrayLoad (Int ∷ Array ∷ Text ∷ []) ≡ only (Int ∷ Text ∷ [])
iaload = refl

iastore : leaves ArrayStore (Int ∷ Int ∷ Array ∷ Text ∷ []) ≡ only (Text ∷ [])
iastore = refl
