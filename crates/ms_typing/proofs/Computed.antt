-- The verifier computed on small methods: one of each fault at least, and what is accepted.
use Rattle.std.proofs.Common.{[], ◌∷◌, Some, refl}
use Rattle.ms_typing.specs.declared.kind.PlaceKind.TheVariants.{Int, Null, Array, Unset}
use Rattle.ms_typing.specs.declared.kind.VerifyKind.TheVariants.{Depth, Kind, Local, FallOff, Merge, Return}
use Rattle.ms_typing.proofs.Written.{Accepts, Refuses, aconst_null, aload, areturn, arraylength, at, by_turns, iadd, iconst, ifeq, iinc, iload, int, ints, ireturn, istore, ldc, method, profile, returns, small}

-- iload_0 alone
falls_off : Refuses (method small [] (iload 0 ∷ [])) 0 FallOff
falls_off = by_turns 1 _ _ refl

-- ireturn alone
too_few : Refuses (method small [] (ireturn ∷ [])) 0 Depth
too_few = by_turns 1 _ _ refl

-- null is added to an int
adds_null : Refuses (method small [] (aconst_null ∷ iload 0 ∷ iadd ∷ ireturn ∷ [])) 2 Kind
adds_null = by_turns 3 _ _ refl

-- a local that was never stored is loaded
not_set : Refuses (method small [] (iload 1 ∷ ireturn ∷ [])) 0 Local
not_set = by_turns 1 _ _ refl

-- a third local of two is loaded
beyond : Refuses (method small [] (iload 2 ∷ ireturn ∷ [])) 0 Local
beyond = by_turns 1 _ _ refl

-- 5 is passed two depths
two_depths : Refuses (method small [] (iload 0 ∷ ifeq 5 ∷ iconst 0 ∷ iconst 0 ∷ ireturn ∷ [])) 5 Merge
two_depths = by_turns 3 _ _ refl

-- nothing is returned where an int should be
returns_nothing : Refuses (method small [] (returns ∷ [])) 0 Return
returns_nothing = by_turns 1 _ _ refl

-- one int or another is returned
is_accepted : Accepts (method small [] (iload 0 ∷ ifeq 6 ∷ iconst 1 ∷ ireturn ∷ iconst 0 ∷ ireturn ∷ []))
    (at 0 (Int ∷ Unset ∷ []) [] ∷ at 1 (Int ∷ Unset ∷ []) (Int ∷ []) ∷ at 4 (Int ∷ Unset ∷ []) [] ∷ at 5 (Int ∷ Unset ∷ []) (Int ∷ [])
    ∷ at 6 (Int ∷ Unset ∷ []) [] ∷ at 7 (Int ∷ Unset ∷ []) (Int ∷ []) ∷ [])
is_accepted = by_turns 6 _ _ refl

-- three ints where two have room
too_many : Refuses (method small [] (iconst 1 ∷ iconst 1 ∷ iconst 1 ∷ ireturn ∷ [])) 2 Depth
too_many = by_turns 3 _ _ refl

-- a third local of two is stored
stores_beyond : Refuses (method small [] (iload 0 ∷ istore 2 ∷ iload 0 ∷ ireturn ∷ [])) 1 Local
stores_beyond = by_turns 2 _ _ refl

-- a local that was never stored is incremented
increments : Refuses (method small [] (iinc 1 ∷ iload 0 ∷ ireturn ∷ [])) 0 Local
increments = by_turns 1 _ _ refl

-- an int is returned where an array should be
returns_int : Refuses (method (profile 2 2 (int ∷ []) (Some ints)) [] (iload 0 ∷ ireturn ∷ [])) 1 Return
returns_int = by_turns 2 _ _ refl

-- a string is returned where an array should be
returns_text : Refuses (method (profile 2 2 (int ∷ []) (Some ints)) [] (ldc ∷ areturn ∷ [])) 2 Kind
returns_text = by_turns 2 _ _ refl

-- null may be
returns_null : Accepts (method (profile 2 2 (int ∷ []) (Some ints)) [] (aconst_null ∷ areturn ∷ []))
    (at 0 (Int ∷ Unset ∷ []) [] ∷ at 1 (Int ∷ Unset ∷ []) (Null ∷ []) ∷ [])
returns_null = by_turns 2 _ _ refl

-- the length of a parameter that is an array
array_of_parameter : Accepts (method (profile 2 2 (ints ∷ int ∷ []) (Some int)) [] (aload 0 ∷ arraylength ∷ ireturn ∷ []))
    (at 0 (Array ∷ Int ∷ []) [] ∷ at 1 (Array ∷ Int ∷ []) (Array ∷ []) ∷ at 2 (Array ∷ Int ∷ []) (Int ∷ []) ∷ [])
array_of_parameter = by_turns 3 _ _ refl
