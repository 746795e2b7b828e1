-- The faults Depth, Local, Return and FallOff of each instruction, computed.
use Rattle.std.proofs.Common.{◌≡◌, ℕ, ◌-◌, ◌==◌, pos, List, [], ◌∷◌, length, map, take, cond, Bool, true, false, Option, Some, None, codes, refl}
use Rattle.ms_words.specs.declared.descriptor.FieldType.{FieldType}
use Rattle.ms_words.specs.declared.descriptor.FieldType.TheVariants as types
use Rattle.ms_words.specs.declared.kind.Kind.TheVariants.{Z, B, C, S}
use Rattle.ms_words.specs.declared.operator.Bin.TheVariants.{Add, Div}
use Rattle.ms_words.specs.declared.operator.Un.TheVariants.{Neg}
use Rattle.ms_words.specs.declared.thrown.Thrown.TheVariants.{Error}
use Rattle.ms_machine.specs.Instructions.{Equal, Instr, OfInt, OfReference, Skip, Push, PushNull, PushText, Load, Store, Shuffle, Change, Combine, Divide, Increment, Compare, CompareZero, CompareReferences, CompareNull, Goto, Switch, ReturnValue, ReturnVoid, GetStatic, PutStatic, Invoke, Construct, Throw, NewArray, ArrayLength, ArrayLoad, ArrayStore}
use Rattle.ms_machine.specs.Instructions as instructions
use Rattle.ms_typing.specs.declared.kind.PlaceKind.{PlaceKind}
use Rattle.ms_typing.specs.declared.kind.PlaceKind.TheVariants.{Int, Null, Array, Text, Ref, New, Unset}
use Rattle.ms_typing.specs.declared.kind.PlaceKind.TheVariants as kinds
use Rattle.ms_typing.specs.declared.kind.VerifyKind.{VerifyKind}
use Rattle.ms_typing.specs.declared.kind.VerifyKind.TheVariants.{Depth, Local, Kind, Return, FallOff}
use Rattle.ms_typing.specs.Rules.{fault}
use Rattle.ms_typing.proofs.Written.{int, ints, member, profile, shape}

-- DEPTH AND FALLOFF

-- an instruction with operands that it takes and no others, how many places a method needs for it then, and whether it goes on
pub record Row : Type 0 where
  pub instr : Instr
  pub operands : List PlaceKind
  pub needs : ℕ
  pub goes_on : Bool

abbrev row : Instr → List PlaceKind → ℕ → Bool → Row
row instr operands needs goes_on = record { instr = instr; operands = operands; needs = needs; goes_on = goes_on }

abbrev rows : List Row
rows =
    row Skip [] 0 true ∷  -- nop
    row (Push (pos 1)) [] 1 true ∷  -- iconst_1
    row PushNull [] 1 true ∷  -- aconst_null
    row (PushText (codes "no")) [] 1 true ∷  -- ldc
    row (Load OfInt 0) [] 1 true ∷  -- iload_0
    row (Load OfReference 1) [] 1 true ∷  -- aload_1
    row (Store OfInt 0) (Int ∷ []) 1 true ∷  -- istore_0
    row (Store OfReference 0) (Text ∷ []) 1 true ∷  -- astore_0
    row (Shuffle 1 []) (Unset ∷ []) 1 true ∷  -- pop
    row (Shuffle 2 []) (Unset ∷ Unset ∷ []) 2 true ∷  -- pop2
    row (Shuffle 1 (0 ∷ 0 ∷ [])) (Unset ∷ []) 2 true ∷  -- dup
    row (Shuffle 2 (0 ∷ 1 ∷ 0 ∷ [])) (Unset ∷ Unset ∷ []) 3 true ∷  -- dup_x1
    row (Shuffle 3 (0 ∷ 1 ∷ 2 ∷ 0 ∷ [])) (Unset ∷ Unset ∷ Unset ∷ []) 4 true ∷  -- dup_x2
    row (Shuffle 2 (0 ∷ 1 ∷ 0 ∷ 1 ∷ [])) (Unset ∷ Unset ∷ []) 4 true ∷  -- dup2
    row (Shuffle 3 (0 ∷ 1 ∷ 2 ∷ 0 ∷ 1 ∷ [])) (Unset ∷ Unset ∷ Unset ∷ []) 5 true ∷  -- dup2_x1
    row (Shuffle 4 (0 ∷ 1 ∷ 2 ∷ 3 ∷ 0 ∷ 1 ∷ [])) (Unset ∷ Unset ∷ Unset ∷ Unset ∷ []) 6 true ∷  -- dup2_x2
    row (Shuffle 2 (1 ∷ 0 ∷ [])) (Unset ∷ Unset ∷ []) 2 true ∷  -- swap
    row (Change Neg) (Int ∷ []) 1 true ∷  -- ineg
    row (Combine Add) (Int ∷ Int ∷ []) 2 true ∷  -- iadd
    row (Divide Div) (Int ∷ Int ∷ []) 2 true ∷  -- idiv
    row (Increment 0 (pos 1)) [] 0 true ∷  -- iinc
    row (Compare Equal) (Int ∷ Int ∷ []) 2 true ∷  -- if_icmpeq
    row (CompareZero Equal) (Int ∷ []) 1 true ∷  -- ifeq
    row (CompareReferences true) (Null ∷ Ref ∷ []) 2 true ∷  -- if_acmpeq
    row (CompareNull true) (Text ∷ []) 1 true ∷  -- ifnull
    row Goto [] 0 false ∷  -- goto
    row (Switch (pos 1 ∷ [])) (Int ∷ []) 1 false ∷  -- lookupswitch
    row (ReturnValue OfInt) (Int ∷ []) 1 false ∷  -- ireturn
    row (ReturnValue OfReference) (Array ∷ []) 1 false ∷  -- areturn
    row ReturnVoid [] 0 false ∷  -- return
    row (GetStatic member int (pos 0)) [] 1 true ∷  -- getstatic
    row (PutStatic member int) (Int ∷ []) 1 true ∷  -- putstatic
    row (Invoke member (record { parameters = int ∷ ints ∷ int ∷ []; result = Some int })) (Int ∷ Array ∷ Int ∷ []) 3 true ∷  -- invokestatic with three arguments
    row (Invoke member (record { parameters = []; result = Some ints })) [] 1 true ∷  -- with a result alone
    row (Invoke member (record { parameters = []; result = None })) [] 0 true ∷  -- with neither
    row (instructions.New Error) [] 1 true ∷  -- new
    row (Construct false Error) (New 4 Error ∷ []) 1 true ∷  -- invokespecial
    row (Construct true Error) (Text ∷ New 4 Error ∷ []) 2 true ∷  -- invokespecial with a message
    row Throw (kinds.Thrown Error ∷ []) 1 false ∷  -- athrow
    row NewArray (Int ∷ []) 1 true ∷  -- newarray
    row ArrayLength (Array ∷ []) 1 true ∷  -- arraylength
    row ArrayLoad (Int ∷ Array ∷ []) 2 true ∷  -- iaload
    row ArrayStore (Int ∷ Int ∷ Array ∷ []) 3 true ∷  -- iastore
    []

-- the result of a method in which the instruction is no wrong return
abbrev fitting : Instr → Option FieldType
fitting (ReturnValue OfInt) = Some int
fitting (ReturnValue OfReference) = Some ints
fitting other = None

-- its fault in a method of so many places, with this stack, as the last instruction or not; local 0 is an int and local 1 an array
abbrev fault_of : Instr → (max_stack : ℕ) → List PlaceKind → (is_last : Bool) → Option VerifyKind
fault_of instr max_stack stack is_last = fault (profile max_stack 2 [] (fitting instr)) 20 instr is_last (shape (Int ∷ Array ∷ []) stack)

-- its faults with its operands and the places that it needs; without the lowest operand; with one place fewer; as the last
abbrev faults : Row → List (Option VerifyKind)
faults row =
    fault_of row.instr row.needs row.operands false
    ∷ fault_of row.instr row.needs (take (length row.operands - 1) row.operands) false
    ∷ fault_of row.instr (row.needs - 1) row.operands false
    ∷ fault_of row.instr row.needs row.operands true ∷ []

-- none; Depth, if it has an operand; Depth, if it needs a place; FallOff, if it goes on
abbrev expected : Row → List (Option VerifyKind)
expected row = None ∷ cond (length row.operands == 0) None (Some Depth) ∷ cond (row.needs == 0) None (Some Depth) ∷ cond row.goes_on (Some FallOff) None ∷ []

each_row : map faults rows ≡ map expected rows
each_row = refl

-- a place too many before it, though it takes one: pop, ifeq, and return, which leaves the stack as it is
too_many_before : fault_of (Shuffle 1 []) 1 (Int ∷ Int ∷ []) false ∷ fault_of (CompareZero Equal) 0 (Int ∷ []) false ∷ fault_of ReturnVoid 1 (Int ∷ Int ∷ []) false ∷ []
    ≡ Some Depth ∷ Some Depth ∷ Some Depth ∷ []
too_many_before = refl

-- more than it needs may stand below: return with two places
more_below : fault_of ReturnVoid 2 (Int ∷ Unset ∷ []) false ∷ fault_of (ReturnValue OfInt) 3 (Int ∷ Int ∷ Unset ∷ []) false ∷ [] ≡ None ∷ None ∷ []
more_below = refl

-- LOCAL

-- the faults of instructions that name local 2, of two and of three, where it has this kind, with a value of their kind on the stack
abbrev naming : (instr : ℕ → Instr) → PlaceKind → PlaceKind → List (Option VerifyKind)
naming instr held value =
    fault (profile 2 2 [] None) 20 (instr 2) false (shape (held ∷ held ∷ []) (value ∷ []))
    ∷ fault (profile 2 3 [] None) 20 (instr 2) false (shape (held ∷ held ∷ held ∷ []) (value ∷ [])) ∷ []

-- iload, aload, istore, astore and iinc of a local that is set: Local where it is the third of two
locals : naming (Load OfInt) Int Int ∷ naming (Load OfReference) Ref Int ∷ naming (Store OfInt) Int Int ∷ naming (Store OfReference) Ref Ref ∷ naming (λ local. Increment local (pos 1)) Int Int ∷ []
    ≡ (Some Local ∷ None ∷ []) ∷ (Some Local ∷ None ∷ []) ∷ (Some Local ∷ None ∷ []) ∷ (Some Local ∷ None ∷ []) ∷ (Some Local ∷ None ∷ []) ∷ []
locals = refl

-- of one that is unset: Local too where it is read, that is but for stores
unset_locals : naming (Load OfInt) Unset Int ∷ naming (Load OfReference) Unset Int ∷ naming (Store OfInt) Unset Int ∷ naming (Store OfReference) Unset Ref ∷ naming (λ local. Increment local (pos 1)) Unset Int ∷ []
    ≡ (Some Local ∷ Some Local ∷ []) ∷ (Some Local ∷ Some Local ∷ []) ∷ (Some Local ∷ None ∷ []) ∷ (Some Local ∷ None ∷ []) ∷ (Some Local ∷ Some Local ∷ []) ∷ []
unset_locals = refl

-- RETURN

-- the faults of ireturn, areturn and return in a method of this result, with a value of their kind on the stack
abbrev returning : Option FieldType → List (Option VerifyKind)
returning result =
    fault (profile 1 0 [] result) 20 (ReturnValue OfInt) true (shape [] (Int ∷ []))
    ∷ fault (profile 1 0 [] result) 20 (ReturnValue OfReference) true (shape [] (Array ∷ []))
    ∷ fault (profile 1 0 [] result) 20 ReturnVoid true (shape [] []) ∷ []

returns_int : map (λ kind. returning (Some (types.Int kind))) (Z ∷ B ∷ C ∷ S ∷ []) ≡ (None ∷ Some Return ∷ Some Return ∷ []) ∷ (None ∷ Some Return ∷ Some Return ∷ [])
    ∷ (None ∷ Some Return ∷ Some Return ∷ []) ∷ (None ∷ Some Return ∷ Some Return ∷ []) ∷ []
returns_int = refl

returns_array : returning (Some ints) ≡ Some Return ∷ None ∷ Some Return ∷ []
returns_array = refl

returns_nothing : returning None ≡ Some Return ∷ Some Return ∷ None ∷ []
returns_nothing = refl

-- an array as an int, and a string or any reference as an array, are Kind, also where the return is the wrong one
wrong_values : map (λ result. fault (profile 1 0 [] result) 20 (ReturnValue OfInt) true (shape [] (Array ∷ []))
    ∷ fault (profile 1 0 [] result) 20 (ReturnValue OfReference) true (shape [] (Text ∷ []))
    ∷ fault (profile 1 0 [] result) 20 (ReturnValue OfReference) true (shape [] (Ref ∷ [])) ∷ []) (Some int ∷ Some ints ∷ None ∷ [])
    ≡ (Some Kind ∷ Some Kind ∷ Some Kind ∷ []) ∷ (Some Kind ∷ Some Kind ∷ Some Kind ∷ []) ∷ (Some Kind ∷ Some Kind ∷ Some Kind ∷ []) ∷ []
wrong_values = refl
