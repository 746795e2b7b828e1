-- What handlers are passed, computed: locals, the throwable alone on the stack, classes.
use Rattle.std.proofs.Common.{[], ◌∷◌, Some, None, refl}
use Rattle.ms_words.specs.declared.thrown.Thrown.TheVariants.{Throwable, Exception, Error, RuntimeException, Arithmetic, NullPointer, ArrayIndexOutOfBounds}
use Rattle.ms_typing.specs.declared.kind.PlaceKind.TheVariants.{Int, Null, Array, Text, Ref, New, Unset}
use Rattle.ms_typing.specs.declared.kind.PlaceKind.TheVariants as kinds
use Rattle.ms_typing.specs.declared.kind.VerifyKind.TheVariants.{Depth, Kind, Local, Merge}
use Rattle.ms_typing.proofs.Written.{Accepts, Refuses, aconst_null, astore, at, athrow, by_turns, covers, goto, iadd, iconst, ifeq, iload, int, ireturn, istore, method, newarray, nop, pop, procedure, profile, returns, small}

-- LOCALS

-- a store of local 1 is covered: the handler has the locals before it, so that it has no local 1
before_the_store : Refuses (method small (covers 1 2 4 Exception ∷ []) (iconst 1 ∷ istore 1 ∷ iconst 0 ∷ ireturn ∷ pop ∷ iload 1 ∷ ireturn ∷ [])) 5 Local
before_the_store = by_turns 6 _ _ refl

-- it may do without
without_the_local : Accepts (method small (covers 1 2 4 Exception ∷ []) (iconst 1 ∷ istore 1 ∷ iconst 0 ∷ ireturn ∷ pop ∷ iconst 2 ∷ ireturn ∷ []))
    (at 0 (Int ∷ Unset ∷ []) [] ∷ at 1 (Int ∷ Unset ∷ []) (Int ∷ []) ∷ at 2 (Int ∷ Int ∷ []) [] ∷ at 3 (Int ∷ Int ∷ []) (Int ∷ [])
    ∷ at 4 (Int ∷ Unset ∷ []) (kinds.Thrown Exception ∷ []) ∷ at 5 (Int ∷ Unset ∷ []) [] ∷ at 6 (Int ∷ Unset ∷ []) (Int ∷ []) ∷ [])
without_the_local = by_turns 7 _ _ refl

-- what stands behind the store is covered: the handler has the local
behind_the_store : Accepts (method small (covers 2 3 4 Exception ∷ []) (iconst 1 ∷ istore 1 ∷ iconst 0 ∷ ireturn ∷ pop ∷ iload 1 ∷ ireturn ∷ []))
    (at 0 (Int ∷ Unset ∷ []) [] ∷ at 1 (Int ∷ Unset ∷ []) (Int ∷ []) ∷ at 2 (Int ∷ Int ∷ []) [] ∷ at 3 (Int ∷ Int ∷ []) (Int ∷ [])
    ∷ at 4 (Int ∷ Int ∷ []) (kinds.Thrown Exception ∷ []) ∷ at 5 (Int ∷ Int ∷ []) [] ∷ at 6 (Int ∷ Int ∷ []) (Int ∷ []) ∷ [])
behind_the_store = by_turns 7 _ _ refl

-- both are covered: the handler has what both have
both : Refuses (method small (covers 1 3 4 Exception ∷ []) (iconst 1 ∷ istore 1 ∷ iconst 0 ∷ ireturn ∷ pop ∷ iload 1 ∷ ireturn ∷ [])) 5 Local
both = by_turns 6 _ _ refl

-- a range begins with its first offset and ends before its last: at 4 local 1 is null, and an int at 2 and 3
the_end : Accepts (method small (covers 2 4 6 Exception ∷ []) (iconst 1 ∷ istore 1 ∷ aconst_null ∷ astore 1 ∷ iconst 0 ∷ ireturn ∷ pop ∷ iload 1
    ∷ ireturn ∷ []))
    (at 0 (Int ∷ Unset ∷ []) [] ∷ at 1 (Int ∷ Unset ∷ []) (Int ∷ []) ∷ at 2 (Int ∷ Int ∷ []) [] ∷ at 3 (Int ∷ Int ∷ []) (Null ∷ [])
    ∷ at 4 (Int ∷ Null ∷ []) [] ∷ at 5 (Int ∷ Null ∷ []) (Int ∷ []) ∷ at 6 (Int ∷ Int ∷ []) (kinds.Thrown Exception ∷ []) ∷ at 7 (Int ∷ Int ∷ []) []
    ∷ at 8 (Int ∷ Int ∷ []) (Int ∷ []) ∷ [])
the_end = by_turns 9 _ _ refl

-- THE STACK

-- the throwable stands alone on the stack, though three ints stood there
deeper : Accepts (method (profile 3 1 (int ∷ []) (Some int)) (covers 3 4 6 Arithmetic ∷ []) (iconst 1 ∷ iconst 2 ∷ iload 0 ∷ iadd ∷ iadd ∷ ireturn
    ∷ athrow ∷ []))
    (at 0 (Int ∷ []) [] ∷ at 1 (Int ∷ []) (Int ∷ []) ∷ at 2 (Int ∷ []) (Int ∷ Int ∷ []) ∷ at 3 (Int ∷ []) (Int ∷ Int ∷ Int ∷ [])
    ∷ at 4 (Int ∷ []) (Int ∷ Int ∷ []) ∷ at 5 (Int ∷ []) (Int ∷ []) ∷ at 6 (Int ∷ []) (kinds.Thrown Arithmetic ∷ []) ∷ [])
deeper = by_turns 7 _ _ refl

-- a method without places on the stack: the handler has one too many
no_room : Refuses (method (profile 0 0 [] None) (covers 0 1 2 Exception ∷ []) (nop ∷ returns ∷ returns ∷ [])) 2 Depth
no_room = by_turns 3 _ _ refl

-- also where it pops it at once
no_room_to_pop : Refuses (method (profile 0 0 [] None) (covers 0 1 2 Exception ∷ []) (nop ∷ returns ∷ pop ∷ returns ∷ [])) 2 Depth
no_room_to_pop = by_turns 3 _ _ refl

-- a handler that nothing leads to needs no room
not_reached : Accepts (method (profile 0 0 [] None) (covers 1 2 2 Exception ∷ []) (returns ∷ nop ∷ returns ∷ []))
    (at 0 [] [] ∷ [])
not_reached = by_turns 1 _ _ refl

-- a branch leads to a handler with nothing on the stack: two depths meet
another_depth : Refuses (method small (covers 4 5 6 Error ∷ []) (iload 0 ∷ ifeq 6 ∷ iconst 0 ∷ ireturn ∷ iconst 1 ∷ ireturn ∷ [])) 6 Merge
another_depth = by_turns 3 _ _ refl

-- one with null there does no harm
one_depth : Accepts (method small (covers 8 9 10 Error ∷ []) (iload 0 ∷ ifeq 8 ∷ aconst_null ∷ goto 10 ∷ iconst 0 ∷ ireturn ∷ athrow ∷ []))
    (at 0 (Int ∷ Unset ∷ []) [] ∷ at 1 (Int ∷ Unset ∷ []) (Int ∷ []) ∷ at 4 (Int ∷ Unset ∷ []) [] ∷ at 5 (Int ∷ Unset ∷ []) (Null ∷ [])
    ∷ at 8 (Int ∷ Unset ∷ []) [] ∷ at 9 (Int ∷ Unset ∷ []) (Int ∷ []) ∷ at 10 (Int ∷ Unset ∷ []) (kinds.Thrown Error ∷ []) ∷ [])
one_depth = by_turns 7 _ _ refl

-- but one with an array makes it any reference, which is not thrown
one_kind : Refuses (method small (covers 10 11 12 Error ∷ []) (iload 0 ∷ ifeq 10 ∷ iconst 1 ∷ newarray ∷ goto 12 ∷ iconst 0 ∷ ireturn ∷ athrow ∷ [])) 12 Kind
one_kind = by_turns 8 _ _ refl

-- CLASSES

-- a handler of two classes has their lowest common ancestor
two_classes : Accepts (method small (covers 0 1 3 Arithmetic ∷ covers 0 1 3 NullPointer ∷ []) (nop ∷ iconst 0 ∷ ireturn ∷ athrow ∷ []))
    (at 0 (Int ∷ Unset ∷ []) [] ∷ at 1 (Int ∷ Unset ∷ []) [] ∷ at 2 (Int ∷ Unset ∷ []) (Int ∷ [])
    ∷ at 3 (Int ∷ Unset ∷ []) (kinds.Thrown RuntimeException ∷ []) ∷ [])
two_classes = by_turns 4 _ _ refl

-- two handlers have a class each
two_handlers : Accepts (method small (covers 0 1 3 ArrayIndexOutOfBounds ∷ covers 0 1 4 Throwable ∷ []) (nop ∷ iconst 0 ∷ ireturn ∷ athrow ∷ athrow
    ∷ []))
    (at 0 (Int ∷ Unset ∷ []) [] ∷ at 1 (Int ∷ Unset ∷ []) [] ∷ at 2 (Int ∷ Unset ∷ []) (Int ∷ [])
    ∷ at 3 (Int ∷ Unset ∷ []) (kinds.Thrown ArrayIndexOutOfBounds ∷ []) ∷ at 4 (Int ∷ Unset ∷ []) (kinds.Thrown Throwable ∷ []) ∷ [])
two_handlers = by_turns 5 _ _ refl

-- a handler that covers itself is passed what it has
itself : Accepts (method small (covers 0 4 3 Exception ∷ []) (nop ∷ iconst 0 ∷ ireturn ∷ pop ∷ iconst 1 ∷ ireturn ∷ []))
    (at 0 (Int ∷ Unset ∷ []) [] ∷ at 1 (Int ∷ Unset ∷ []) [] ∷ at 2 (Int ∷ Unset ∷ []) (Int ∷ [])
    ∷ at 3 (Int ∷ Unset ∷ []) (kinds.Thrown Exception ∷ []) ∷ at 4 (Int ∷ Unset ∷ []) [] ∷ at 5 (Int ∷ Unset ∷ []) (Int ∷ []) ∷ [])
itself = by_turns 6 _ _ refl

-- each covered instruction leads to the handler, also one that throws nothing: return
each_instruction : Accepts (method procedure (covers 0 1 1 Exception ∷ []) (returns ∷ athrow ∷ []))
    (at 0 (Int ∷ Unset ∷ []) [] ∷ at 1 (Int ∷ Unset ∷ []) (kinds.Thrown Exception ∷ []) ∷ [])
each_instruction = by_turns 2 _ _ refl
