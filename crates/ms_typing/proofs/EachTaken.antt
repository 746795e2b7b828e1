-- What each instruction takes, kind by kind, computed.
use Rattle.std.proofs.Common.{◌≡◌, ℕ, pos, List, [], ◌∷◌, ◌++◌, map, replicate, true, false, Option, Some, None, option_map, refl}
use Rattle.ms_words.specs.declared.descriptor.FieldType.{FieldType}
use Rattle.ms_words.specs.declared.descriptor.FieldType.TheVariants as types
use Rattle.ms_words.specs.declared.kind.Kind.TheVariants.{Z, B, C, S, I}
use Rattle.ms_words.specs.declared.operator.Bin.TheVariants.{Add, Sub, Mul, Div, Rem, Shl, Shr, Ushr, And, Or, Xor}
use Rattle.ms_words.specs.declared.operator.Un.TheVariants.{Neg, I2b, I2c, I2s}
use Rattle.ms_words.specs.declared.thrown.Thrown.TheVariants.{Exception, Error, Throwable}
use Rattle.ms_words.specs.Descriptors.{Signature}
use Rattle.ms_machine.specs.Instructions.{Comparison, Equal, NotEqual, Less, AtLeast, Greater, AtMost, Instr, OfInt, OfReference, Load, Store, Shuffle, Change, Combine, Divide, Increment, Compare, CompareZero, CompareReferences, CompareNull, Switch, ReturnValue, PutStatic, Invoke, Construct, Throw, NewArray, ArrayLength, ArrayLoad, ArrayStore}
use Rattle.ms_machine.specs.Instructions as instructions
use Rattle.ms_typing.specs.declared.kind.PlaceKind.{PlaceKind}
use Rattle.ms_typing.specs.declared.kind.PlaceKind.TheVariants.{Int, Null, Array, Text, Ref, New, Unset}
use Rattle.ms_typing.specs.declared.kind.PlaceKind.TheVariants as kinds
use Rattle.ms_typing.specs.declared.kind.VerifyKind.{VerifyKind}
use Rattle.ms_typing.specs.declared.kind.VerifyKind.TheVariants.{Kind}
use Rattle.ms_typing.specs.Rules.{fault}
use Rattle.ms_typing.proofs.Written.{int, ints, member, profile, shape}

-- TRYING EACH KIND

-- a new throwable, made at 9, and a throwable that is initialised
abbrev fresh : PlaceKind
fresh = New 9 Error

abbrev error : PlaceKind
error = kinds.Thrown Error

-- the kinds but unset, and all of them
abbrev known_kinds : List PlaceKind
known_kinds = Int ∷ Null ∷ Array ∷ Text ∷ error ∷ Ref ∷ fresh ∷ []

abbrev all_kinds : List PlaceKind
all_kinds = known_kinds ++ Unset ∷ []

-- a kind in front of others, if there is no fault with it; no list at all, if there is another fault than Kind
abbrev in_front : PlaceKind → Option VerifyKind → Option (List PlaceKind) → Option (List PlaceKind)
in_front kind None others = option_map (λ kinds. kind ∷ kinds) others
in_front kind (Some Kind) others = others
in_front kind (Some other) others = None

-- of these kinds those with which there is no fault, if the fault with each other one is Kind
abbrev without_fault : (PlaceKind → Option VerifyKind) → List PlaceKind → Option (List PlaceKind)
without_fault test [] = Some []
without_fault test (kind ∷ kinds) = in_front kind (test kind) (without_fault test kinds)

-- which kinds an instruction at 20 takes in a place of the stack, between these, in a method of this result
abbrev returning : Option FieldType → Instr → (above below : List PlaceKind) → Option (List PlaceKind)
returning result instr above below = without_fault (λ kind. fault (profile 8 2 [] result) 20 instr false (shape [] (above ++ kind ∷ below))) all_kinds

-- in a method without a result
abbrev taken : Instr → (above below : List PlaceKind) → Option (List PlaceKind)
taken instr above below = returning None instr above below

-- which kinds it takes in local 0, if that is set
abbrev read : Instr → Option (List PlaceKind)
read instr = without_fault (λ kind. fault (profile 8 2 [] None) 20 instr false (shape (kind ∷ Unset ∷ []) [])) known_kinds

-- what most take: an int; an array or null; any initialised reference; one that is new too
abbrev an_int : Option (List PlaceKind)
an_int = Some (Int ∷ [])

abbrev an_array : Option (List PlaceKind)
an_array = Some (Null ∷ Array ∷ [])

abbrev a_reference : Option (List PlaceKind)
a_reference = Some (Null ∷ Array ∷ Text ∷ error ∷ Ref ∷ [])

abbrev or_new : Option (List PlaceKind)
or_new = Some (Null ∷ Array ∷ Text ∷ error ∷ Ref ∷ fresh ∷ [])

-- LOADS AND STORES

iload : read (Load OfInt 0) ≡ an_int
iload = refl

aload : read (Load OfReference 0) ≡ or_new
aload = refl

iinc : read (Increment 0 (pos 1)) ≡ an_int
iinc = refl

istore : taken (Store OfInt 1) [] [] ≡ an_int
istore = refl

astore : taken (Store OfReference 1) [] [] ≡ or_new
astore = refl

-- THE STACK

-- pop, dup, pop2, dup2, swap, dup_x1, dup_x2, dup2_x1 and dup2_x2 take anything on top
tops : map (λ instr. taken instr [] (Unset ∷ Unset ∷ Unset ∷ [])) (Shuffle 1 [] ∷ Shuffle 1 (0 ∷ 0 ∷ []) ∷ Shuffle 2 [] ∷ Shuffle 2 (0 ∷ 1 ∷ 0 ∷ 1 ∷ [])
    ∷ Shuffle 2 (1 ∷ 0 ∷ []) ∷ Shuffle 2 (0 ∷ 1 ∷ 0 ∷ []) ∷ Shuffle 3 (0 ∷ 1 ∷ 2 ∷ 0 ∷ []) ∷ Shuffle 3 (0 ∷ 1 ∷ 2 ∷ 0 ∷ 1 ∷ [])
    ∷ Shuffle 4 (0 ∷ 1 ∷ 2 ∷ 3 ∷ 0 ∷ 1 ∷ []) ∷ []) ≡ replicate 9 (Some all_kinds)
tops = refl

-- those that take two or more take anything below
seconds : map (λ instr. taken instr (Unset ∷ []) (Unset ∷ Unset ∷ [])) (Shuffle 2 [] ∷ Shuffle 2 (0 ∷ 1 ∷ 0 ∷ 1 ∷ []) ∷ Shuffle 2 (1 ∷ 0 ∷ []) ∷ Shuffle 2 (0 ∷ 1 ∷ 0 ∷ [])
    ∷ Shuffle 3 (0 ∷ 1 ∷ 2 ∷ 0 ∷ []) ∷ Shuffle 3 (0 ∷ 1 ∷ 2 ∷ 0 ∷ 1 ∷ []) ∷ Shuffle 4 (0 ∷ 1 ∷ 2 ∷ 3 ∷ 0 ∷ 1 ∷ []) ∷ []) ≡ replicate 7 (Some all_kinds)
seconds = refl

-- dup_x2, dup2_x1 and dup2_x2 in the third place too, and the last in the fourth
thirds : map (λ instr. taken instr (Unset ∷ Unset ∷ []) (Unset ∷ [])) (Shuffle 3 (0 ∷ 1 ∷ 2 ∷ 0 ∷ []) ∷ Shuffle 3 (0 ∷ 1 ∷ 2 ∷ 0 ∷ 1 ∷ []) ∷ Shuffle 4 (0 ∷ 1 ∷ 2 ∷ 3 ∷ 0 ∷ 1 ∷ []) ∷ [])
    ≡ replicate 3 (Some all_kinds)
thirds = refl

fourth : taken (Shuffle 4 (0 ∷ 1 ∷ 2 ∷ 3 ∷ 0 ∷ 1 ∷ [])) (Unset ∷ Unset ∷ Unset ∷ []) [] ≡ Some all_kinds
fourth = refl

-- ARITHMETIC

-- ineg, i2b, i2c, i2s
changes : map (λ op. taken (Change op) [] []) (Neg ∷ I2b ∷ I2c ∷ I2s ∷ []) ≡ replicate 4 an_int
changes = refl

-- iadd, isub, imul, ishl, ishr, iushr, iand, ior, ixor: on top, and below
combines : map (λ op. taken (Combine op) [] (Int ∷ [])) (Add ∷ Sub ∷ Mul ∷ Shl ∷ Shr ∷ Ushr ∷ And ∷ Or ∷ Xor ∷ []) ≡ replicate 9 an_int
combines = refl

combines_below : map (λ op. taken (Combine op) (Int ∷ []) []) (Add ∷ Sub ∷ Mul ∷ Shl ∷ Shr ∷ Ushr ∷ And ∷ Or ∷ Xor ∷ []) ≡ replicate 9 an_int
combines_below = refl

-- idiv, irem
divides : map (λ op. taken (Divide op) [] (Int ∷ [])) (Div ∷ Rem ∷ []) ≡ replicate 2 an_int
divides = refl

divides_below : map (λ op. taken (Divide op) (Int ∷ []) []) (Div ∷ Rem ∷ []) ≡ replicate 2 an_int
divides_below = refl

-- BRANCHES

abbrev comparisons : List Comparison
comparisons = Equal ∷ NotEqual ∷ Less ∷ AtLeast ∷ Greater ∷ AtMost ∷ []

-- if_icmp, on top and below, and ifeq and its kin
compares : map (λ comparison. taken (Compare comparison) [] (Int ∷ [])) comparisons ≡ replicate 6 an_int
compares = refl

compares_below : map (λ comparison. taken (Compare comparison) (Int ∷ []) []) comparisons ≡ replicate 6 an_int
compares_below = refl

compares_zero : map (λ comparison. taken (CompareZero comparison) [] []) comparisons ≡ replicate 6 an_int
compares_zero = refl

-- if_acmpeq and if_acmpne, on top and below: no new throwable
compares_references : map (λ same. taken (CompareReferences same) [] (Ref ∷ [])) (true ∷ false ∷ []) ≡ replicate 2 a_reference
compares_references = refl

compares_references_below : map (λ same. taken (CompareReferences same) (Ref ∷ []) []) (true ∷ false ∷ []) ≡ replicate 2 a_reference
compares_references_below = refl

-- ifnull and ifnonnull: no new throwable
compares_null : map (λ null. taken (CompareNull null) [] []) (true ∷ false ∷ []) ≡ replicate 2 a_reference
compares_null = refl

switches : taken (Switch (pos 1 ∷ [])) [] [] ≡ an_int
switches = refl

-- RETURNS

-- ireturn, where an int is the result: of whatever kind
ireturn : map (λ kind. returning (Some (types.Int kind)) (ReturnValue OfInt) [] []) (Z ∷ B ∷ C ∷ S ∷ I ∷ []) ≡ replicate 5 an_int
ireturn = refl

areturn : returning (Some ints) (ReturnValue OfReference) [] [] ≡ an_array
areturn = refl

-- MEMBERS

-- putstatic of an int's type, and of an array's
puts_int : map (λ kind. taken (PutStatic member (types.Int kind)) [] []) (Z ∷ B ∷ C ∷ S ∷ I ∷ []) ≡ replicate 5 an_int
puts_int = refl

puts_array : taken (PutStatic member ints) [] [] ≡ an_array
puts_array = refl

-- an int and an array as arguments
abbrev two_arguments : Signature
two_arguments = record { parameters = int ∷ ints ∷ []; result = None }

-- invokestatic: the last argument is on top, and the first below
last_argument : taken (Invoke member two_arguments) [] (Int ∷ []) ≡ an_array
last_argument = refl

first_argument : taken (Invoke member two_arguments) (Array ∷ []) [] ≡ an_int
first_argument = refl

-- THROWABLES

-- invokespecial takes a new throwable of its class alone
constructs : taken (Construct false Error) [] [] ≡ Some (fresh ∷ [])
constructs = refl

constructs_others : map (λ class. taken (Construct false class) [] []) (Throwable ∷ Exception ∷ []) ≡ replicate 2 (Some [])
constructs_others = refl

-- with a message, which is a string or null, it stands below that
message : taken (Construct true Error) [] (fresh ∷ []) ≡ Some (Null ∷ Text ∷ [])
message = refl

constructs_below : taken (Construct true Error) (Text ∷ []) [] ≡ Some (fresh ∷ [])
constructs_below = refl

throws : taken Throw [] [] ≡ Some (Null ∷ error ∷ [])
throws = refl

-- which kinds may stand on the stack where a throwable is made at an offset
abbrev beside : (offset : ℕ) → (above below : List PlaceKind) → Option (List PlaceKind)
beside offset above below = without_fault (λ kind. fault (profile 8 2 [] None) offset (instructions.New Error) false (shape [] (above ++ kind ∷ below))) all_kinds

-- new: all but one that was made there before, wherever on the stack; no method comes to that, since one that comes back to
-- its offset is joined with what came there first, and so is unset
beside_own : beside 9 [] [] ≡ Some (Int ∷ Null ∷ Array ∷ Text ∷ error ∷ Ref ∷ Unset ∷ [])
beside_own = refl

above_own : beside 9 (Int ∷ Int ∷ []) (Int ∷ []) ≡ Some (Int ∷ Null ∷ Array ∷ Text ∷ error ∷ Ref ∷ Unset ∷ [])
above_own = refl

-- one that was made elsewhere may stand there
beside_other : beside 8 [] [] ≡ Some all_kinds
beside_other = refl

-- and in a local even one that was made there
beside_local : fault (profile 8 2 [] None) 9 (instructions.New Error) false (shape (fresh ∷ []) []) ≡ None
beside_local = refl

-- ARRAYS

newarray : taken NewArray [] [] ≡ an_int
newarray = refl

arraylength : taken ArrayLength [] [] ≡ an_array
arraylength = refl

-- iaload: the index, and the array below
load_index : taken ArrayLoad [] (Array ∷ []) ≡ an_int
load_index = refl

load_array : taken ArrayLoad (Int ∷ []) [] ≡ an_array
load_array = refl

-- iastore: the int, the index below, and the array below both
store_int : taken ArrayStore [] (Int ∷ Array ∷ []) ≡ an_int
store_int = refl

store_index : taken ArrayStore (Int ∷ []) (Array ∷ []) ≡ an_int
store_index = refl

store_array : taken ArrayStore (Int ∷ Int ∷ []) [] ≡ an_array
store_array = refl
