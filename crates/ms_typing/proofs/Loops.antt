-- Loops, ways that meet, switches, and code that nothing leads to, computed.
use Rattle.std.proofs.Common.{◌≡◌, [], ◌∷◌, true, false, Some, None, refl}
use Rattle.ms_words.specs.declared.thrown.Thrown.TheVariants.{Exception, Error, RuntimeException, Arithmetic, ArrayIndexOutOfBounds}
use Rattle.ms_typing.specs.declared.kind.PlaceKind.TheVariants.{Int, Null, Array, Text, Ref, New, Unset}
use Rattle.ms_typing.specs.declared.kind.PlaceKind.TheVariants as kinds
use Rattle.ms_typing.specs.declared.kind.VerifyKind.TheVariants.{Kind, Local, Merge}
use Rattle.ms_typing.specs.Verifier.{Method}
use Rattle.ms_typing.proofs.Written.{Accepts, Refuses, aconst_null, aload, areturn, astore, at, athrow, by_turns, covers, dup, goto, iadd, iconst, ifeq, ifnull, iload, int, ints, invokespecial, ireturn, is_over, istore, ldc, lookupswitch, method, new, newarray, nop, pop, procedure, profile, small, swap, with_message}

-- WHAT IS TAKEN AGAIN

-- null in local 1, which a loop joins with an array: 2, 3, 6, 7 and 9 are taken twice
abbrev settles_method : Method
settles_method = method (profile 1 2 (int ∷ []) (Some ints)) [] (aconst_null ∷ astore 1 ∷ iload 0 ∷ ifeq 13 ∷ iconst 1 ∷ newarray ∷ astore 1
    ∷ goto 2 ∷ aload 1 ∷ areturn ∷ [])

settles : Accepts settles_method (at 0 (Int ∷ Unset ∷ []) [] ∷ at 1 (Int ∷ Unset ∷ []) (Null ∷ []) ∷ at 2 (Int ∷ Array ∷ []) []
    ∷ at 3 (Int ∷ Array ∷ []) (Int ∷ []) ∷ at 6 (Int ∷ Array ∷ []) [] ∷ at 7 (Int ∷ Array ∷ []) (Int ∷ []) ∷ at 9 (Int ∷ Array ∷ []) (Array ∷ [])
    ∷ at 10 (Int ∷ Array ∷ []) [] ∷ at 13 (Int ∷ Array ∷ []) [] ∷ at 14 (Int ∷ Array ∷ []) (Array ∷ []) ∷ [])
settles = by_turns 15 _ _ refl

-- in 15 turns, and no fewer
settles_turns : is_over 14 settles_method ∷ is_over 15 settles_method ∷ [] ≡ false ∷ true ∷ []
settles_turns = refl

-- a loop that changes nothing: no offset is taken twice
abbrev stays_method : Method
stays_method = method small [] (iload 0 ∷ ifeq 7 ∷ goto 0 ∷ iconst 0 ∷ ireturn ∷ [])

stays : Accepts stays_method (at 0 (Int ∷ Unset ∷ []) [] ∷ at 1 (Int ∷ Unset ∷ []) (Int ∷ []) ∷ at 4 (Int ∷ Unset ∷ []) []
    ∷ at 7 (Int ∷ Unset ∷ []) [] ∷ at 8 (Int ∷ Unset ∷ []) (Int ∷ []) ∷ [])
stays = by_turns 5 _ _ refl

-- in 5 turns, and no fewer
stays_turns : is_over 4 stays_method ∷ is_over 5 stays_method ∷ [] ≡ false ∷ true ∷ []
stays_turns = refl

-- an instruction that leads to itself alone
abbrev to_itself_method : Method
to_itself_method = method (profile 0 0 [] None) [] (goto 0 ∷ [])

to_itself : Accepts to_itself_method (at 0 [] [] ∷ [])
to_itself = by_turns 1 _ _ refl

-- in 1 turn, and no fewer
to_itself_turns : is_over 0 to_itself_method ∷ is_over 1 to_itself_method ∷ [] ≡ false ∷ true ∷ []
to_itself_turns = refl

-- an int in local 1, which a loop joins with null: the load is at fault when it is taken again, before 11 is taken
second_time : Refuses (method small [] (iconst 1 ∷ istore 1 ∷ iload 1 ∷ ifeq 11 ∷ aconst_null ∷ astore 1 ∷ goto 2 ∷ iconst 0 ∷ ireturn ∷ [])) 2 Local
second_time = by_turns 8 _ _ refl

-- a loop that leaves an int on the stack: two depths meet
grows : Refuses (method small [] (iload 0 ∷ goto 0 ∷ [])) 0 Merge
grows = by_turns 2 _ _ refl

-- WHERE WAYS MEET

-- a string and an array are any reference, which may be null
references_meet : Accepts (method small [] (iload 0 ∷ ifeq 9 ∷ ldc ∷ goto 12 ∷ iconst 1 ∷ newarray ∷ astore 1 ∷ aload 1 ∷ ifnull 17 ∷ iconst 0
    ∷ ireturn ∷ []))
    (at 0 (Int ∷ Unset ∷ []) [] ∷ at 1 (Int ∷ Unset ∷ []) (Int ∷ []) ∷ at 4 (Int ∷ Unset ∷ []) [] ∷ at 6 (Int ∷ Unset ∷ []) (Text ∷ [])
    ∷ at 9 (Int ∷ Unset ∷ []) [] ∷ at 10 (Int ∷ Unset ∷ []) (Int ∷ []) ∷ at 12 (Int ∷ Unset ∷ []) (Ref ∷ []) ∷ at 13 (Int ∷ Ref ∷ []) []
    ∷ at 14 (Int ∷ Ref ∷ []) (Ref ∷ []) ∷ at 17 (Int ∷ Ref ∷ []) [] ∷ at 18 (Int ∷ Ref ∷ []) (Int ∷ []) ∷ [])
references_meet = by_turns 11 _ _ refl

-- and so no array any more, which could be returned
is_no_array : Refuses (method (profile 1 1 (int ∷ []) (Some ints)) [] (iload 0 ∷ ifeq 9 ∷ ldc ∷ goto 12 ∷ iconst 1 ∷ newarray ∷ areturn ∷ [])) 12 Kind
is_no_array = by_turns 7 _ _ refl

-- null and a string are a string, which a constructor takes
null_meets_text : Accepts (method procedure [] (new Exception ∷ dup ∷ iload 0 ∷ ifeq 12 ∷ aconst_null ∷ goto 14 ∷ ldc ∷ with_message Exception
    ∷ athrow ∷ []))
    (at 0 (Int ∷ Unset ∷ []) [] ∷ at 3 (Int ∷ Unset ∷ []) (New 0 Exception ∷ []) ∷ at 4 (Int ∷ Unset ∷ []) (New 0 Exception ∷ New 0 Exception ∷ [])
    ∷ at 5 (Int ∷ Unset ∷ []) (Int ∷ New 0 Exception ∷ New 0 Exception ∷ []) ∷ at 8 (Int ∷ Unset ∷ []) (New 0 Exception ∷ New 0 Exception ∷ [])
    ∷ at 9 (Int ∷ Unset ∷ []) (Null ∷ New 0 Exception ∷ New 0 Exception ∷ []) ∷ at 12 (Int ∷ Unset ∷ []) (New 0 Exception ∷ New 0 Exception ∷ [])
    ∷ at 14 (Int ∷ Unset ∷ []) (Text ∷ New 0 Exception ∷ New 0 Exception ∷ []) ∷ at 17 (Int ∷ Unset ∷ []) (kinds.Thrown Exception ∷ []) ∷ [])
null_meets_text = by_turns 9 _ _ refl

-- two throwables are one of their lowest common ancestor
throwables_meet : Accepts (method procedure [] (iload 0 ∷ ifeq 14 ∷ new Arithmetic ∷ dup ∷ invokespecial Arithmetic ∷ goto 21
    ∷ new ArrayIndexOutOfBounds ∷ dup ∷ invokespecial ArrayIndexOutOfBounds ∷ athrow ∷ []))
    (at 0 (Int ∷ Unset ∷ []) [] ∷ at 1 (Int ∷ Unset ∷ []) (Int ∷ []) ∷ at 4 (Int ∷ Unset ∷ []) [] ∷ at 7 (Int ∷ Unset ∷ []) (New 4 Arithmetic ∷ [])
    ∷ at 8 (Int ∷ Unset ∷ []) (New 4 Arithmetic ∷ New 4 Arithmetic ∷ []) ∷ at 11 (Int ∷ Unset ∷ []) (kinds.Thrown Arithmetic ∷ [])
    ∷ at 14 (Int ∷ Unset ∷ []) [] ∷ at 17 (Int ∷ Unset ∷ []) (New 14 ArrayIndexOutOfBounds ∷ [])
    ∷ at 18 (Int ∷ Unset ∷ []) (New 14 ArrayIndexOutOfBounds ∷ New 14 ArrayIndexOutOfBounds ∷ [])
    ∷ at 21 (Int ∷ Unset ∷ []) (kinds.Thrown RuntimeException ∷ []) ∷ [])
throwables_meet = by_turns 10 _ _ refl

-- an int and null are unset, on the stack too, where such a place may be shuffled and popped; JVMS SE 8, section 4.10.2.2, refuses it
int_meets_null : Accepts (method small [] (iload 0 ∷ ifeq 8 ∷ iconst 1 ∷ goto 9 ∷ aconst_null ∷ dup ∷ swap ∷ pop ∷ pop ∷ iconst 0 ∷ ireturn ∷ []))
    (at 0 (Int ∷ Unset ∷ []) [] ∷ at 1 (Int ∷ Unset ∷ []) (Int ∷ []) ∷ at 4 (Int ∷ Unset ∷ []) [] ∷ at 5 (Int ∷ Unset ∷ []) (Int ∷ [])
    ∷ at 8 (Int ∷ Unset ∷ []) [] ∷ at 9 (Int ∷ Unset ∷ []) (Unset ∷ []) ∷ at 10 (Int ∷ Unset ∷ []) (Unset ∷ Unset ∷ [])
    ∷ at 11 (Int ∷ Unset ∷ []) (Unset ∷ Unset ∷ []) ∷ at 12 (Int ∷ Unset ∷ []) (Unset ∷ []) ∷ at 13 (Int ∷ Unset ∷ []) []
    ∷ at 14 (Int ∷ Unset ∷ []) (Int ∷ []) ∷ [])
int_meets_null = by_turns 11 _ _ refl

-- but not be stored
unset_is_stored : Refuses (method small [] (iload 0 ∷ ifeq 8 ∷ iconst 1 ∷ goto 9 ∷ aconst_null ∷ istore 1 ∷ iconst 0 ∷ ireturn ∷ [])) 9 Kind
unset_is_stored = by_turns 6 _ _ refl

-- nor be returned
unset_is_returned : Refuses (method small [] (iload 0 ∷ ifeq 8 ∷ iconst 1 ∷ goto 9 ∷ aconst_null ∷ ireturn ∷ [])) 9 Kind
unset_is_returned = by_turns 6 _ _ refl

-- SWITCHES

-- each case and the default are passed the stack without the int
switches : Accepts (method small [] (iload 0 ∷ lookupswitch 28 30 32 ∷ iconst 1 ∷ ireturn ∷ iconst 2 ∷ ireturn ∷ iconst 0 ∷ ireturn ∷ []))
    (at 0 (Int ∷ Unset ∷ []) [] ∷ at 1 (Int ∷ Unset ∷ []) (Int ∷ []) ∷ at 28 (Int ∷ Unset ∷ []) [] ∷ at 29 (Int ∷ Unset ∷ []) (Int ∷ [])
    ∷ at 30 (Int ∷ Unset ∷ []) [] ∷ at 31 (Int ∷ Unset ∷ []) (Int ∷ []) ∷ at 32 (Int ∷ Unset ∷ []) [] ∷ at 33 (Int ∷ Unset ∷ []) (Int ∷ []) ∷ [])
switches = by_turns 8 _ _ refl

-- two cases lead to one offset, and the default back to the start; what stands behind a switch is not reached by it
switches_back : Accepts (method small [] (iload 0 ∷ lookupswitch 29 29 0 ∷ iadd ∷ iconst 1 ∷ ireturn ∷ []))
    (at 0 (Int ∷ Unset ∷ []) [] ∷ at 1 (Int ∷ Unset ∷ []) (Int ∷ []) ∷ at 29 (Int ∷ Unset ∷ []) [] ∷ at 30 (Int ∷ Unset ∷ []) (Int ∷ []) ∷ [])
switches_back = by_turns 4 _ _ refl

-- WHAT IS NOT LOOKED AT

-- code behind a return that nothing leads to: an addition without operands, a wrong return, an end that goes on
unreachable : Accepts (method small [] (iconst 0 ∷ ireturn ∷ iadd ∷ areturn ∷ nop ∷ []))
    (at 0 (Int ∷ Unset ∷ []) [] ∷ at 1 (Int ∷ Unset ∷ []) (Int ∷ []) ∷ [])
unreachable = by_turns 2 _ _ refl

-- nor at the local that such code names, though java looks at it
unreachable_local : Accepts (method small [] (goto 4 ∷ iload 3 ∷ iconst 0 ∷ ireturn ∷ []))
    (at 0 (Int ∷ Unset ∷ []) [] ∷ at 4 (Int ∷ Unset ∷ []) [] ∷ at 5 (Int ∷ Unset ∷ []) (Int ∷ []) ∷ [])
unreachable_local = by_turns 3 _ _ refl

-- a handler of such code alone is not reached
unreachable_range : Accepts (method small (covers 2 3 3 Error ∷ []) (iconst 0 ∷ ireturn ∷ nop ∷ iadd ∷ []))
    (at 0 (Int ∷ Unset ∷ []) [] ∷ at 1 (Int ∷ Unset ∷ []) (Int ∷ []) ∷ [])
unreachable_range = by_turns 2 _ _ refl
