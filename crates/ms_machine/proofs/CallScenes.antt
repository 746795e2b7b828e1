-- Runs of several methods as wholes, computed: calls, throws and the most frames.
use Rattle.std.proofs.Common.{◌≡◌, ℕ, List, [], ◌∷◌, ℤ, pos, negsuc, Some, None, codes, replicate, refl}
use Rattle.std.specs.Int.{int_wrap}
use Rattle.ms_words.specs.declared.descriptor.FieldType.TheVariants as types
use Rattle.ms_words.specs.declared.item.Item.TheVariants.{Entry, At}
use Rattle.ms_words.specs.declared.kind.Kind.TheVariants.{I}
use Rattle.ms_words.specs.declared.operator.Bin.TheVariants.{Add, Sub, Mul, Div}
use Rattle.ms_words.specs.declared.thrown.Thrown.TheVariants.{Arithmetic, NullPointer, RuntimeException}
use Rattle.ms_terms.specs.Terms.{Constant, Param, Binary}
use Rattle.ms_machine.specs.Ints.{ints}
use Rattle.ms_machine.specs.Instructions.{Absent, Present, Member, Equal, OfInt, OfReference, Instr, Push, Load, Store, Shuffle, Combine, Divide, CompareZero, ReturnValue, ReturnVoid, GetStatic, Invoke}
use Rattle.ms_machine.specs.Values.{Int, Throwable, Returned, ReturnedVoid, Deep}
use Rattle.ms_machine.specs.Effects.{most_made}
use Rattle.ms_machine.specs.Control.{Program, Goes, memory_at_start, most_frames}
use Rattle.ms_machine.specs.Segments.{done_within, most_instructions}
use Rattle.ms_machine.specs.Runs.{Ended, after_arms, end_of, footprint, segment_after, started, string}
use Rattle.ms_machine.proofs.Methods.{Line, Method, at, calling, constant, covered, entry, field_of_A, field_of_B, get, in_B, line, member, method, no_input, nothing, one_int, parameter, plain_entry, program, put, starting, takes_ints, two_ints}

-- a method of A, by its name and descriptor
abbrev method_of_A : List ℕ → List ℕ → Member
method_of_A name descriptor = member (codes "A") name descriptor 0 Absent

-- A THROW THROUGH TWO FRAMES

-- A.f(I)I with iconst_1, iload_0, invokestatic A.g, which handlers at 7 of NullPointerException and at 9 of RuntimeException
-- cover, iadd, ireturn, 7: iconst_2, ireturn, 9: astore_1, iconst_3, ireturn
abbrev calls_g : Method
calls_g = method 0 0 (line 0 (Push (pos 1)) 1 [] ∷ line 1 (Load OfInt 0) 2 []
    ∷ covered 7 NullPointer (covered 9 RuntimeException (calling (At 0 1 0) (line 2 (Invoke (method_of_A (codes "g") (codes "(I)I")) (takes_ints 1)) 5 [])))
    ∷ line 5 (Combine Add) 6 [] ∷ line 6 (ReturnValue OfInt) 7 [] ∷ line 7 (Push (pos 2)) 8 [] ∷ line 8 (ReturnValue OfInt) 9 []
    ∷ line 9 (Store OfReference 1) 10 [] ∷ line 10 (Push (pos 3)) 11 [] ∷ line 11 (ReturnValue OfInt) 12 [] ∷ [])

-- A.g(I)I with iload_0, invokestatic A.h, which a handler at 5 of NullPointerException covers, ireturn, 5: pop, iconst_4, ireturn
abbrev calls_h : Method
calls_h = method 0 1 (line 0 (Load OfInt 0) 1 []
    ∷ covered 5 NullPointer (calling (At 0 2 0) (line 1 (Invoke (method_of_A (codes "h") (codes "(I)I")) (takes_ints 1)) 4 []))
    ∷ line 4 (ReturnValue OfInt) 5 [] ∷ line 5 (Shuffle 1 []) 6 [] ∷ line 6 (Push (pos 4)) 7 [] ∷ line 7 (ReturnValue OfInt) 8 [] ∷ [])

-- A.h(I)I with bipush 6, iload_0, idiv, ireturn
abbrev divides_6 : Method
divides_6 = method 0 2 (line 0 (Push (pos 6)) 2 [] ∷ line 2 (Load OfInt 0) 3 [] ∷ line 3 (Divide Div) 4 [] ∷ line 4 (ReturnValue OfInt) 5 [] ∷ [])

abbrev through : Program
through = program (plain_entry (I ∷ [])) (calls_g ∷ calls_h ∷ divides_6 ∷ [])

-- a divisor that is not 0 returns through all three
through_2 : string through (one_int (pos 2)) 8 ≡ 0 ∷ []
unfolding most_instructions most_frames
through_2 = refl

-- 6 by 2, and the 1 that waited on the lowest stack
through_2_returns : end_of through (one_int (pos 2)) 8
    ≡ Ended (Returned (record { word = pos 4; shadow = Binary Add (Constant (pos 1)) (Binary Div (Constant (pos 6)) (Param 0 I)) }))
unfolding most_instructions most_frames int_wrap
through_2_returns = refl

-- the instructions up to the choice lie in all three
before_throw : footprint through (one_int (pos 0)) [] ≡ Entry ∷ at 0 ∷ at 1 ∷ at 2 ∷ At 0 1 0 ∷ At 0 1 1 ∷ At 0 2 0 ∷ At 0 2 2 ∷ At 0 2 3 ∷ []
unfolding most_instructions most_frames
before_throw = refl

-- behind arm 1 the lowest frame stands at its second handler: its stack is the throwable alone, and its local stays
caught_below : after_arms ints through.view (started through (one_int (pos 0))) (1 ∷ [])
    ≡ Goes (record {
      top = record { at = at 9; locals = Some (Int (parameter 0 (pos 0))) ∷ []; stack = Throwable 0 Arithmetic ∷ []; initialises = None };
      below = [];
      memory = record (memory_at_start 0) { throwables = 1 };
    })
unfolding most_instructions most_frames most_made
caught_below = refl

-- the run goes on there
behind_throw : footprint through (one_int (pos 0)) (1 ∷ []) ≡ at 9 ∷ at 10 ∷ at 11 ∷ []
unfolding most_instructions most_frames most_made
behind_throw = refl

-- and returns
through_0_returns : end_of through (one_int (pos 0)) 8 ≡ Ended (Returned (constant (pos 3)))
unfolding most_instructions most_frames most_made
through_0_returns = refl

-- 256 FRAMES: A.f()V with invokestatic A.f()V, return

abbrev frames_of : List Line → Program
frames_of lines = program (entry [] None 0 (codes "A") Absent None) (method 0 0 lines ∷ method 1 0 (line 0 ReturnVoid 1 [] ∷ []) ∷ [])

-- the call at this offset
abbrev calls_itself : (offset after : ℕ) → Line
calls_itself offset after = calling (at 0) (line offset (Invoke (method_of_A (codes "f") (codes "()V")) nothing) after [])

abbrev endless : Program
endless = frames_of (calls_itself 0 3 ∷ line 3 ReturnVoid 4 [] ∷ [])

-- no 257th frame stands
endless_ends : end_of endless no_input 0 ≡ Ended Deep
unfolding most_instructions most_frames
endless_ends = refl

-- the 256 calls are executed, the last of which finds 256 frames
trace_of_endless : (segment_after endless no_input []).trace ≡ replicate 256 (at 0)
unfolding most_instructions most_frames
trace_of_endless = refl

-- A.f()V calls itself as often as k says: getstatic A.k, ifeq 17, getstatic A.k, iconst_m1, iadd, putstatic A.k,
-- invokestatic A.f()V, 17: what comes then
abbrev get_count : ℤ → Instr
get_count count = GetStatic (field_of_A Absent) (types.Int I) count

abbrev counting : ℤ → List Line → Program
counting count last = frames_of (line 0 (get_count count) 3 [] ∷ line 3 (CompareZero Equal) 6 (17 ∷ []) ∷ line 6 (get_count count) 9 []
    ∷ line 9 (Push (negsuc 0)) 10 [] ∷ line 10 (Combine Add) 11 [] ∷ line 11 (put (field_of_A Absent)) 14 [] ∷ calls_itself 14 17 ∷ last)

-- with 255 calls 256 frames stand
counting_255 : end_of (counting (pos 255) (line 17 ReturnVoid 18 [] ∷ [])) no_input 0 ≡ Ended ReturnedVoid
unfolding most_instructions most_frames int_wrap
counting_255 = refl

-- with 256 calls 257 would
counting_256 : end_of (counting (pos 256) (line 17 ReturnVoid 18 [] ∷ [])) no_input 0 ≡ Ended Deep
unfolding most_instructions most_frames int_wrap
counting_256 = refl

-- getstatic B.k, pop, return: an initialiser's frame counts too
abbrev then_B : List Line
then_B = starting (in_B 0) (line 17 (get (field_of_B Present)) 20 []) ∷ line 20 (Shuffle 1 []) 21 [] ∷ line 21 ReturnVoid 22 [] ∷ []

-- with 254 calls it is the 256th
counting_254_then_B : end_of (counting (pos 254) then_B) no_input 0 ≡ Ended ReturnedVoid
unfolding most_instructions most_frames int_wrap
counting_254_then_B = refl

-- with 255 calls it would be the 257th
counting_255_then_B : end_of (counting (pos 255) then_B) no_input 0 ≡ Ended Deep
unfolding most_instructions most_frames int_wrap
counting_255_then_B = refl

-- A FIELD AND TWO ARGUMENTS

-- A.f(II)I with iload_0, putstatic A.k, iload_1, bipush 9, invokestatic A.g, ireturn
abbrev puts_and_calls : Method
puts_and_calls = method 0 0 (line 0 (Load OfInt 0) 1 [] ∷ line 1 (put (field_of_A Absent)) 4 [] ∷ line 4 (Load OfInt 1) 5 [] ∷ line 5 (Push (pos 9)) 7 []
    ∷ calling (At 0 1 0) (line 7 (Invoke (method_of_A (codes "g") (codes "(II)I")) (takes_ints 2)) 10 []) ∷ line 10 (ReturnValue OfInt) 11 [] ∷ [])

-- A.g(II)I with getstatic A.k, iload_0, imul, iload_1, isub, ireturn
abbrev gets_and_computes : Method
gets_and_computes = method 0 1 (line 0 (get (field_of_A Absent)) 3 [] ∷ line 3 (Load OfInt 0) 4 [] ∷ line 4 (Combine Mul) 5 [] ∷ line 5 (Load OfInt 1) 6 []
    ∷ line 6 (Combine Sub) 7 [] ∷ line 7 (ReturnValue OfInt) 8 [] ∷ [])

abbrev passing : Program
passing = program (plain_entry (I ∷ I ∷ [])) (puts_and_calls ∷ gets_and_computes ∷ [])

-- behind the call the arguments are the locals, the first in local 0, and the caller has lost them; the field holds the parameter
arguments_arrive : done_within ints passing.view 5 (started passing (two_ints (pos 2) (pos 5)))
    ≡ Goes (record {
      top = record { at = At 0 1 0; locals = Some (Int (parameter 1 (pos 5))) ∷ Some (Int (constant (pos 9))) ∷ []; stack = []; initialises = None };
      below = record { at = at 7; locals = Some (Int (parameter 0 (pos 2))) ∷ Some (Int (parameter 1 (pos 5))) ∷ []; stack = []; initialises = None } ∷ [];
      memory = record (memory_at_start 0) { statics = record { class = 0; name = codes "k"; descriptor = codes "I"; value = Int (parameter 0 (pos 2)) } ∷ [] };
    })
unfolding most_frames
arguments_arrive = refl

-- 2 times 5 less 9
passing_returns : end_of passing (two_ints (pos 2) (pos 5)) 0
    ≡ Ended (Returned (record { word = pos 1; shadow = Binary Sub (Binary Mul (Param 0 I) (Param 1 I)) (Constant (pos 9)) }))
unfolding most_instructions most_frames int_wrap
passing_returns = refl
