-- Throwables that are made, and those that aren't initialised yet, computed.
use Rattle.std.proofs.Common.{[], ◌∷◌, Some, refl}
use Rattle.ms_words.specs.declared.thrown.Thrown.TheVariants.{Throwable, Exception, Error}
use Rattle.ms_typing.specs.declared.kind.PlaceKind.TheVariants.{Int, Null, Array, Text, Ref, New, Unset}
use Rattle.ms_typing.specs.declared.kind.PlaceKind.TheVariants as kinds
use Rattle.ms_typing.specs.declared.kind.VerifyKind.TheVariants.{Kind, Local, Merge}
use Rattle.ms_typing.proofs.Written.{Accepts, Refuses, aconst_null, aload, areturn, astore, at, athrow, by_turns, covers, dup, goto, iconst, if_acmpeq, ifeq, ifnull, iload, int, ints, invokespecial, ldc, method, new, newarray, pop, procedure, profile, returns, swap, with_message}

-- CONSTRUCTORS

-- a throwable is made, initialised and thrown
plain : Accepts (method procedure [] (new Exception ∷ dup ∷ invokespecial Exception ∷ athrow ∷ []))
    (at 0 (Int ∷ Unset ∷ []) [] ∷ at 3 (Int ∷ Unset ∷ []) (New 0 Exception ∷ []) ∷ at 4 (Int ∷ Unset ∷ []) (New 0 Exception ∷ New 0 Exception ∷ [])
    ∷ at 7 (Int ∷ Unset ∷ []) (kinds.Thrown Exception ∷ []) ∷ [])
plain = by_turns 4 _ _ refl

-- with a message, a string
message : Accepts (method procedure [] (new Error ∷ dup ∷ ldc ∷ with_message Error ∷ athrow ∷ []))
    (at 0 (Int ∷ Unset ∷ []) [] ∷ at 3 (Int ∷ Unset ∷ []) (New 0 Error ∷ []) ∷ at 4 (Int ∷ Unset ∷ []) (New 0 Error ∷ New 0 Error ∷ [])
    ∷ at 6 (Int ∷ Unset ∷ []) (Text ∷ New 0 Error ∷ New 0 Error ∷ []) ∷ at 9 (Int ∷ Unset ∷ []) (kinds.Thrown Error ∷ []) ∷ [])
message = by_turns 5 _ _ refl

-- or null
no_message : Accepts (method procedure [] (new Error ∷ dup ∷ aconst_null ∷ with_message Error ∷ athrow ∷ []))
    (at 0 (Int ∷ Unset ∷ []) [] ∷ at 3 (Int ∷ Unset ∷ []) (New 0 Error ∷ []) ∷ at 4 (Int ∷ Unset ∷ []) (New 0 Error ∷ New 0 Error ∷ [])
    ∷ at 5 (Int ∷ Unset ∷ []) (Null ∷ New 0 Error ∷ New 0 Error ∷ []) ∷ at 8 (Int ∷ Unset ∷ []) (kinds.Thrown Error ∷ []) ∷ [])
no_message = by_turns 5 _ _ refl

-- all copies are initialised, those on the stack and that in local 1
all_copies : Accepts (method procedure [] (new Exception ∷ dup ∷ astore 1 ∷ dup ∷ dup ∷ invokespecial Exception ∷ returns ∷ []))
    (at 0 (Int ∷ Unset ∷ []) [] ∷ at 3 (Int ∷ Unset ∷ []) (New 0 Exception ∷ []) ∷ at 4 (Int ∷ Unset ∷ []) (New 0 Exception ∷ New 0 Exception ∷ [])
    ∷ at 5 (Int ∷ New 0 Exception ∷ []) (New 0 Exception ∷ []) ∷ at 6 (Int ∷ New 0 Exception ∷ []) (New 0 Exception ∷ New 0 Exception ∷ [])
    ∷ at 7 (Int ∷ New 0 Exception ∷ []) (New 0 Exception ∷ New 0 Exception ∷ New 0 Exception ∷ [])
    ∷ at 10 (Int ∷ kinds.Thrown Exception ∷ []) (kinds.Thrown Exception ∷ kinds.Thrown Exception ∷ []) ∷ [])
all_copies = by_turns 7 _ _ refl

-- another of the same class is not, on the stack or in local 1
no_other : Accepts (method procedure [] (new Error ∷ dup ∷ astore 1 ∷ new Error ∷ invokespecial Error ∷ pop ∷ returns ∷ []))
    (at 0 (Int ∷ Unset ∷ []) [] ∷ at 3 (Int ∷ Unset ∷ []) (New 0 Error ∷ []) ∷ at 4 (Int ∷ Unset ∷ []) (New 0 Error ∷ New 0 Error ∷ [])
    ∷ at 5 (Int ∷ New 0 Error ∷ []) (New 0 Error ∷ []) ∷ at 8 (Int ∷ New 0 Error ∷ []) (New 5 Error ∷ New 0 Error ∷ [])
    ∷ at 11 (Int ∷ New 0 Error ∷ []) (New 0 Error ∷ []) ∷ at 12 (Int ∷ New 0 Error ∷ []) [] ∷ [])
no_other = by_turns 7 _ _ refl

-- so that it is not thrown
no_other_thrown : Refuses (method procedure [] (new Error ∷ new Error ∷ invokespecial Error ∷ athrow ∷ [])) 9 Kind
no_other_thrown = by_turns 4 _ _ refl

-- none is initialised twice
twice : Refuses (method procedure [] (new Error ∷ dup ∷ invokespecial Error ∷ invokespecial Error ∷ returns ∷ [])) 7 Kind
twice = by_turns 4 _ _ refl

-- nor by the constructor of another class, even of the one above
other_class : Refuses (method procedure [] (new Exception ∷ invokespecial Throwable ∷ returns ∷ [])) 3 Kind
other_class = by_turns 2 _ _ refl

-- nor is null initialised
null_made : Refuses (method procedure [] (aconst_null ∷ invokespecial Error ∷ returns ∷ [])) 1 Kind
null_made = by_turns 2 _ _ refl

-- a message is no array
array_message : Refuses (method procedure [] (new Error ∷ iconst 1 ∷ newarray ∷ with_message Error ∷ returns ∷ [])) 6 Kind
array_message = by_turns 4 _ _ refl

-- nor a new throwable
new_message : Refuses (method procedure [] (new Error ∷ dup ∷ with_message Error ∷ returns ∷ [])) 4 Kind
new_message = by_turns 3 _ _ refl

-- and stands above the throwable
message_below : Refuses (method procedure [] (ldc ∷ new Error ∷ with_message Error ∷ returns ∷ [])) 5 Kind
message_below = by_turns 3 _ _ refl

-- NEW ONES

-- a new one is stored, loaded and popped
kept : Accepts (method procedure [] (new Error ∷ astore 1 ∷ aload 1 ∷ pop ∷ returns ∷ []))
    (at 0 (Int ∷ Unset ∷ []) [] ∷ at 3 (Int ∷ Unset ∷ []) (New 0 Error ∷ []) ∷ at 4 (Int ∷ New 0 Error ∷ []) []
    ∷ at 5 (Int ∷ New 0 Error ∷ []) (New 0 Error ∷ []) ∷ at 6 (Int ∷ New 0 Error ∷ []) [] ∷ [])
kept = by_turns 5 _ _ refl

-- but is not thrown
thrown : Refuses (method procedure [] (new Error ∷ athrow ∷ [])) 3 Kind
thrown = by_turns 2 _ _ refl

-- nor compared with null, though java lets it be
compared_with_null : Refuses (method procedure [] (new Error ∷ ifnull 6 ∷ returns ∷ [])) 3 Kind
compared_with_null = by_turns 2 _ _ refl

-- nor with another
compared : Refuses (method procedure [] (new Error ∷ dup ∷ if_acmpeq 7 ∷ returns ∷ [])) 4 Kind
compared = by_turns 3 _ _ refl

-- nor returned
returned : Refuses (method (profile 3 2 (int ∷ []) (Some ints)) [] (new Error ∷ areturn ∷ [])) 3 Kind
returned = by_turns 2 _ _ refl

-- those of two offsets are unset where they meet
two_places : Refuses (method procedure [] (iload 0 ∷ ifeq 10 ∷ new Error ∷ goto 13 ∷ new Error ∷ astore 1 ∷ returns ∷ [])) 13 Kind
two_places = by_turns 6 _ _ refl

-- in a local too
two_locals : Refuses (method procedure [] (iload 0 ∷ ifeq 11 ∷ new Error ∷ astore 1 ∷ goto 15 ∷ new Error ∷ astore 1 ∷ aload 1 ∷ returns ∷ [])) 15 Local
two_locals = by_turns 8 _ _ refl

-- LOOPS

-- new in a loop, with its last one in local 1, which is unset then
loop_local : Accepts (method procedure [] (aconst_null ∷ astore 1 ∷ new Error ∷ astore 1 ∷ iload 0 ∷ ifeq 2 ∷ returns ∷ []))
    (at 0 (Int ∷ Unset ∷ []) [] ∷ at 1 (Int ∷ Unset ∷ []) (Null ∷ []) ∷ at 2 (Int ∷ Unset ∷ []) [] ∷ at 5 (Int ∷ Unset ∷ []) (New 2 Error ∷ [])
    ∷ at 6 (Int ∷ New 2 Error ∷ []) [] ∷ at 7 (Int ∷ New 2 Error ∷ []) (Int ∷ []) ∷ at 10 (Int ∷ New 2 Error ∷ []) [] ∷ [])
loop_local = by_turns 9 _ _ refl

-- so that the last one is not loaded
loop_local_read : Refuses (method procedure [] (aconst_null ∷ astore 1 ∷ new Error ∷ aload 1 ∷ pop ∷ astore 1 ∷ iload 0 ∷ ifeq 2 ∷ returns ∷ [])) 5 Local
loop_local_read = by_turns 10 _ _ refl

-- new in a loop, with its last one on the stack: two depths meet
loop_stack : Refuses (method procedure [] (new Error ∷ goto 0 ∷ [])) 0 Merge
loop_stack = by_turns 2 _ _ refl

-- with its last one in the place of another on the stack, which is unset then
loop_place : Refuses (method procedure [] (new Error ∷ new Error ∷ swap ∷ invokespecial Error ∷ goto 3 ∷ [])) 7 Kind
loop_place = by_turns 8 _ _ refl

-- new in a loop, with its last one initialised in local 1
loop_thrown : Accepts (method procedure [] (aconst_null ∷ astore 1 ∷ new Error ∷ dup ∷ invokespecial Error ∷ astore 1 ∷ iload 0 ∷ ifeq 2 ∷ aload 1
    ∷ athrow ∷ []))
    (at 0 (Int ∷ Unset ∷ []) [] ∷ at 1 (Int ∷ Unset ∷ []) (Null ∷ []) ∷ at 2 (Int ∷ kinds.Thrown Error ∷ []) []
    ∷ at 5 (Int ∷ kinds.Thrown Error ∷ []) (New 2 Error ∷ []) ∷ at 6 (Int ∷ kinds.Thrown Error ∷ []) (New 2 Error ∷ New 2 Error ∷ [])
    ∷ at 9 (Int ∷ kinds.Thrown Error ∷ []) (kinds.Thrown Error ∷ []) ∷ at 10 (Int ∷ kinds.Thrown Error ∷ []) []
    ∷ at 11 (Int ∷ kinds.Thrown Error ∷ []) (Int ∷ []) ∷ at 14 (Int ∷ kinds.Thrown Error ∷ []) []
    ∷ at 15 (Int ∷ kinds.Thrown Error ∷ []) (kinds.Thrown Error ∷ []) ∷ [])
loop_thrown = by_turns 14 _ _ refl

-- HANDLERS

-- a constructor is covered: in the handler the throwable is still new
not_yet : Accepts (method procedure (covers 5 8 9 Throwable ∷ []) (new Error ∷ astore 1 ∷ aload 1 ∷ invokespecial Error ∷ returns ∷ athrow ∷ []))
    (at 0 (Int ∷ Unset ∷ []) [] ∷ at 3 (Int ∷ Unset ∷ []) (New 0 Error ∷ []) ∷ at 4 (Int ∷ New 0 Error ∷ []) []
    ∷ at 5 (Int ∷ New 0 Error ∷ []) (New 0 Error ∷ []) ∷ at 8 (Int ∷ kinds.Thrown Error ∷ []) []
    ∷ at 9 (Int ∷ New 0 Error ∷ []) (kinds.Thrown Throwable ∷ []) ∷ [])
not_yet = by_turns 6 _ _ refl
