-- Which of two faults counts, and what is passed on first, computed.
use Rattle.std.proofs.Common.{[], ◌∷◌, None, refl}
use Rattle.ms_words.specs.declared.thrown.Thrown.TheVariants.{Error}
use Rattle.ms_typing.specs.declared.kind.VerifyKind.TheVariants.{Depth, Kind, Local, Merge, Return}
use Rattle.ms_typing.proofs.Written.{Refuses, aconst_null, aload, areturn, astore, athrow, by_turns, covers, dup, goto, iadd, iconst, ifeq, iinc, iload, ints, ireturn, istore, ldc, lookupswitch, method, newarray, nop, procedure, profile, returns, small}

-- TWO FAULTS OF ONE INSTRUCTION

-- too few operands, and a local beyond
depth_local : Refuses (method small [] (istore 3 ∷ [])) 0 Depth
depth_local = by_turns 1 _ _ refl

-- too many places then, and a local beyond
depth_local_after : Refuses (method small [] (iconst 1 ∷ iconst 1 ∷ iload 3 ∷ [])) 2 Depth
depth_local_after = by_turns 3 _ _ refl

-- too few operands, of which one is of another kind
depth_kind : Refuses (method small [] (aconst_null ∷ iadd ∷ [])) 1 Depth
depth_kind = by_turns 2 _ _ refl

-- too many places then, and a local of another kind
depth_kind_after : Refuses (method small [] (iconst 1 ∷ iconst 1 ∷ aload 0 ∷ [])) 2 Depth
depth_kind_after = by_turns 3 _ _ refl

-- too few operands, and the wrong return
depth_return : Refuses (method small [] (areturn ∷ [])) 0 Depth
depth_return = by_turns 1 _ _ refl

-- too many places then, and the last instruction
depth_fall_off : Refuses (method small [] (iconst 1 ∷ dup ∷ dup ∷ [])) 2 Depth
depth_fall_off = by_turns 3 _ _ refl

-- a local beyond, and an operand of another kind
local_kind : Refuses (method small [] (aconst_null ∷ istore 2 ∷ returns ∷ [])) 1 Local
local_kind = by_turns 2 _ _ refl

-- a local that is unset, and the last instruction
local_fall_off : Refuses (method small [] (aload 1 ∷ [])) 0 Local
local_fall_off = by_turns 1 _ _ refl

-- a value of another kind, and the wrong return
kind_return : Refuses (method small [] (ldc ∷ areturn ∷ [])) 2 Kind
kind_return = by_turns 2 _ _ refl

-- an array as the int that should be returned
kind_return_array : Refuses (method small [] (iconst 1 ∷ newarray ∷ ireturn ∷ [])) 3 Kind
kind_return_array = by_turns 3 _ _ refl

-- an array, where an int should be returned
return_alone : Refuses (method small [] (iconst 1 ∷ newarray ∷ areturn ∷ [])) 3 Return
return_alone = by_turns 3 _ _ refl

-- an int as an array, where nothing should be returned
kind_return_void : Refuses (method (profile 1 0 [] None) [] (iconst 1 ∷ areturn ∷ [])) 1 Kind
kind_return_void = by_turns 2 _ _ refl

-- a local of another kind, and the last instruction
kind_fall_off : Refuses (method (profile 1 1 (ints ∷ []) None) [] (iinc 0 ∷ [])) 0 Kind
kind_fall_off = by_turns 1 _ _ refl

-- A FAULT, AND WHAT WOULD BE PASSED ON

-- an instruction at fault passes nothing on: 9 would be passed two depths
fault_merge : Refuses (method small [] (iload 0 ∷ ifeq 9 ∷ iconst 1 ∷ aconst_null ∷ ifeq 9 ∷ iconst 0 ∷ ireturn ∷ [])) 6 Kind
fault_merge = by_turns 5 _ _ refl

-- TWO FAULTS OF A METHOD

-- of two offsets that wait the lower is taken first
lower_first : Refuses (method small [] (iload 0 ∷ ifeq 5 ∷ ireturn ∷ athrow ∷ [])) 4 Depth
lower_first = by_turns 3 _ _ refl

-- though the higher waits longer: 9 since the first branch, 8 since the second
lower_later : Refuses (method small [] (iload 0 ∷ ifeq 9 ∷ goto 8 ∷ nop ∷ athrow ∷ areturn ∷ [])) 8 Depth
lower_later = by_turns 4 _ _ refl

-- and one that a branch back leads to before those behind the branch
branch_back : Refuses (method small [] (goto 4 ∷ areturn ∷ iload 0 ∷ ifeq 3 ∷ athrow ∷ [])) 3 Depth
branch_back = by_turns 4 _ _ refl

-- a lower one that waits again is taken before a higher one that waits longer
back_first : Refuses (method small [] (iconst 1 ∷ istore 1 ∷ iinc 1 ∷ iload 0 ∷ ifeq 14 ∷ aconst_null ∷ astore 1 ∷ goto 2 ∷ returns ∷ [])) 2 Local
back_first = by_turns 9 _ _ refl

-- WHAT IS PASSED ON FIRST

-- successors come in order of offset: 0, to which the branch leads, is passed another depth before 9, which is next
back_before_next : Refuses (method procedure [] (iload 0 ∷ ifeq 9 ∷ iconst 1 ∷ iload 0 ∷ ifeq 0 ∷ returns ∷ [])) 0 Merge
back_before_next = by_turns 5 _ _ refl

-- those of a switch too: 40 before 41, to which the first case leads
cases_by_offset : Refuses (method procedure [] (iload 0 ∷ ifeq 41 ∷ iload 0 ∷ ifeq 40 ∷ iconst 1 ∷ iinc 0 ∷ iload 0 ∷ lookupswitch 41 40 41
    ∷ returns ∷ returns ∷ [])) 40 Merge
cases_by_offset = by_turns 8 _ _ refl

-- handlers come behind all successors: the successor 8 before the handler 4
handlers_behind : Refuses (method procedure (covers 5 8 4 Error ∷ []) (iload 0 ∷ ifeq 8 ∷ iconst 0 ∷ goto 8 ∷ returns ∷ [])) 8 Merge
handlers_behind = by_turns 4 _ _ refl

-- handlers come in the order of the table: 11 before 10
handlers_by_table : Refuses (method procedure (covers 8 9 11 Error ∷ covers 8 9 10 Error ∷ []) (iload 0 ∷ ifeq 11 ∷ iload 0 ∷ ifeq 10 ∷ nop
    ∷ returns ∷ returns ∷ returns ∷ [])) 11 Merge
handlers_by_table = by_turns 5 _ _ refl
