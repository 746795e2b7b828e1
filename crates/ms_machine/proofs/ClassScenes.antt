-- Runs of several classes as wholes, computed: initialisers, static fields, and what is missing.
use Rattle.std.proofs.Common.{◌≡◌, List, [], ◌∷◌, pos, Some, None, codes, refl}
use Rattle.std.specs.Int.{int_wrap}
use Rattle.ms_words.specs.declared.item.Item.TheVariants.{Entry, At}
use Rattle.ms_words.specs.declared.kind.Kind.TheVariants.{I}
use Rattle.ms_words.specs.declared.operator.Bin.TheVariants.{Add, Div}
use Rattle.ms_words.specs.declared.thrown.Thrown.TheVariants.{Throwable as AnyThrowable, Arithmetic, NullPointer}
use Rattle.ms_machine.specs.Ints.{ints}
use Rattle.ms_machine.specs.Instructions.{Absent, Present, Foreign, Initialiser, Member, NotEqual, Equal, OfInt, Push, PushNull, Load, Shuffle, Combine, Divide, CompareZero, ReturnValue, ReturnVoid, Invoke, Throw}
use Rattle.ms_machine.specs.Values.{Int, Returned, Threw, InitFailed, Missing}
use Rattle.ms_machine.specs.Effects.{most_made}
use Rattle.ms_machine.specs.Control.{Program, Goes, most_frames}
use Rattle.ms_machine.specs.Segments.{done_within, most_instructions}
use Rattle.ms_machine.specs.Runs.{Ended, end_of, footprint, segment_after, started, string}
use Rattle.ms_machine.proofs.Methods.{Line, Method, absent, at, calling, constant, covered, entry, field_of_A, field_of_B, field_of_C, get, in_B, in_C, line, member, method, no_input, nothing, one_int, parameter, plain_entry, program, put, starting, takes_ints, without_class}

-- The entry is the first method of A. An initialiser is the first method of B and of C, and the second one of A.

-- AN INITIALISER OF ANOTHER CLASS: A.g()I with getstatic B.k, ireturn

abbrev get_B : Method
get_B = method 0 0 (starting (in_B 0) (line 0 (get (field_of_B Present)) 3 []) ∷ line 3 (ReturnValue OfInt) 4 [] ∷ [])

abbrev read_B : List Line → Program
read_B initialiser = program (plain_entry []) (get_B ∷ method 1 0 initialiser ∷ [])

-- where B.<clinit> is bipush 7, putstatic B.k, return
abbrev read_7 : Program
read_7 = read_B (line 0 (Push (pos 7)) 2 [] ∷ starting (in_B 0) (line 2 (put (field_of_B Present)) 5 []) ∷ line 5 ReturnVoid 6 [] ∷ [])

-- the getstatic is executed twice; its own class's putstatic does not start the initialiser again
trace_7 : (segment_after read_7 no_input []).trace ≡ at 0 ∷ in_B 0 ∷ in_B 2 ∷ in_B 5 ∷ at 0 ∷ at 3 ∷ []
unfolding most_instructions most_frames
trace_7 = refl

-- and stands once in the footprint
footprint_7 : footprint read_7 no_input [] ≡ Entry ∷ at 0 ∷ in_B 0 ∷ in_B 2 ∷ in_B 5 ∷ at 3 ∷ []
unfolding most_instructions most_frames
footprint_7 = refl

-- what the initialiser stored is read
returns_7 : end_of read_7 no_input 0 ≡ Ended (Returned (constant (pos 7)))
unfolding most_instructions most_frames
returns_7 = refl

-- an initialiser reads the field of its own class as it is at first: getstatic B.k, iconst_1, iadd, putstatic B.k, return
abbrev read_own : Program
read_own = read_B (starting (in_B 0) (line 0 (get (field_of_B Present)) 3 []) ∷ line 3 (Push (pos 1)) 4 [] ∷ line 4 (Combine Add) 5 []
    ∷ starting (in_B 0) (line 5 (put (field_of_B Present)) 8 []) ∷ line 8 ReturnVoid 9 [] ∷ [])

-- no instruction of it is executed twice
trace_own : (segment_after read_own no_input []).trace ≡ at 0 ∷ in_B 0 ∷ in_B 3 ∷ in_B 4 ∷ in_B 5 ∷ in_B 8 ∷ at 0 ∷ at 3 ∷ []
unfolding most_instructions most_frames
trace_own = refl

-- it is 0 at first, and 1 more then
returns_own : end_of read_own no_input 0 ≡ Ended (Returned (constant (pos 1)))
unfolding most_instructions most_frames int_wrap
returns_own = refl

-- TWO INITIALISERS THAT NEED EACH OTHER

-- B.<clinit> with getstatic C.k, iconst_1, iadd, putstatic B.k, return
abbrev needs_C : Method
needs_C = method 1 0 (starting (in_C 0) (line 0 (get (field_of_C Present)) 3 []) ∷ line 3 (Push (pos 1)) 4 [] ∷ line 4 (Combine Add) 5 []
    ∷ starting (in_B 0) (line 5 (put (field_of_B Present)) 8 []) ∷ line 8 ReturnVoid 9 [] ∷ [])

-- C.<clinit> with getstatic B.k, iconst_2, iadd, putstatic C.k, return
abbrev needs_B : Method
needs_B = method 2 0 (starting (in_B 0) (line 0 (get (field_of_B Present)) 3 []) ∷ line 3 (Push (pos 2)) 4 [] ∷ line 4 (Combine Add) 5 []
    ∷ starting (in_C 0) (line 5 (put (field_of_C Present)) 8 []) ∷ line 8 ReturnVoid 9 [] ∷ [])

abbrev circle : Program
circle = program (plain_entry []) (get_B ∷ needs_C ∷ needs_B ∷ [])

-- B is started already when C reads its field
trace_of_circle : (segment_after circle no_input []).trace
    ≡ at 0 ∷ in_B 0 ∷ in_C 0 ∷ in_C 3 ∷ in_C 4 ∷ in_C 5 ∷ in_C 8 ∷ in_B 0 ∷ in_B 3 ∷ in_B 4 ∷ in_B 5 ∷ in_B 8 ∷ at 0 ∷ at 3 ∷ []
unfolding most_instructions most_frames
trace_of_circle = refl

-- C.k is 0 and 2, and B.k that and 1
returns_of_circle : end_of circle no_input 0 ≡ Ended (Returned (constant (pos 3)))
unfolding most_instructions most_frames int_wrap
returns_of_circle = refl

-- A CHOICE IN AN INITIALISER

-- A.f(I)I with iload_0, putstatic A.k, getstatic B.k, ireturn
abbrev put_A_get_B : Method
put_A_get_B = method 0 0 (line 0 (Load OfInt 0) 1 [] ∷ line 1 (put (field_of_A Absent)) 4 [] ∷ starting (in_B 0) (line 4 (get (field_of_B Present)) 7 [])
    ∷ line 7 (ReturnValue OfInt) 8 [] ∷ [])

-- B.<clinit> with getstatic A.k, ifeq 12, bipush 8, putstatic B.k, return, 12: return
abbrev chooses_by_A : Method
chooses_by_A = method 1 0 (line 0 (get (field_of_A Absent)) 3 [] ∷ line 3 (CompareZero Equal) 6 (12 ∷ []) ∷ line 6 (Push (pos 8)) 8 []
    ∷ starting (in_B 0) (line 8 (put (field_of_B Present)) 11 []) ∷ line 11 ReturnVoid 12 [] ∷ line 12 ReturnVoid 13 [] ∷ [])

abbrev choosing : Program
choosing = program (plain_entry (I ∷ [])) (put_A_get_B ∷ chooses_by_A ∷ [])

-- the parameter, by way of a static field, makes the branch in the initialiser a choice
choosing_0 : string choosing (one_int (pos 0)) 8 ≡ 1 ∷ []
unfolding most_instructions most_frames
choosing_0 = refl

-- The frame of the initialiser has no locals and an empty stack. The one below stands where it stood, and the class is
-- marked as started.
initialiser_stands : done_within ints choosing.view 3 (started choosing (one_int (pos 0)))
    ≡ Goes (record {
      top = record { at = in_B 0; locals = []; stack = []; initialises = Some 1 };
      below = record { at = at 4; locals = Some (Int (parameter 0 (pos 0))) ∷ []; stack = []; initialises = None } ∷ [];
      memory = record {
        statics = record { class = 0; name = codes "k"; descriptor = codes "I"; value = Int (parameter 0 (pos 0)) } ∷ [];
        started = 0 ∷ 1 ∷ [];
        arrays = [];
        throwables = 0;
      };
    })
unfolding most_frames
initialiser_stands = refl

-- the first segment ends in the initialiser
before_choice : footprint choosing (one_int (pos 0)) [] ≡ Entry ∷ at 0 ∷ at 1 ∷ at 4 ∷ in_B 0 ∷ in_B 3 ∷ []
unfolding most_instructions most_frames
before_choice = refl

-- the next one goes on there, and executes the getstatic again
behind_choice : footprint choosing (one_int (pos 0)) (1 ∷ []) ≡ in_B 12 ∷ at 4 ∷ at 7 ∷ []
unfolding most_instructions most_frames
behind_choice = refl

-- what the other arm stores is read
choosing_5_returns : end_of choosing (one_int (pos 5)) 8 ≡ Ended (Returned (constant (pos 8)))
unfolding most_instructions most_frames
choosing_5_returns = refl

-- THE INITIALISER OF THE ENTRY'S CLASS: A.g()I with getstatic A.k, ireturn

abbrev read_A : List Line → Program
read_A initialiser = program (entry [] (Some I) 0 (codes "A") Present (Some (At 0 1 0)))
    (method 0 0 (starting (At 0 1 0) (line 0 (get (field_of_A Present)) 3 []) ∷ line 3 (ReturnValue OfInt) 4 [] ∷ []) ∷ method 0 1 initialiser ∷ [])

-- where A.<clinit> is bipush 7, putstatic A.k, return
abbrev read_own_7 : Program
read_own_7 = read_A (line 0 (Push (pos 7)) 2 [] ∷ starting (At 0 1 0) (line 2 (put (field_of_A Present)) 5 []) ∷ line 5 ReturnVoid 6 [] ∷ [])

-- it runs before the entry's first instruction, and not again
footprint_own_7 : footprint read_own_7 no_input [] ≡ Entry ∷ At 0 1 0 ∷ At 0 1 2 ∷ At 0 1 5 ∷ at 0 ∷ at 3 ∷ []
unfolding most_instructions most_frames
footprint_own_7 = refl

-- the stored value is read
returns_own_7 : end_of read_own_7 no_input 0 ≡ Ended (Returned (constant (pos 7)))
unfolding most_instructions most_frames
returns_own_7 = refl

-- the same method, where the initialiser is foreign
abbrev read_foreign : Program
read_foreign = program (entry [] (Some I) 0 (codes "A") Foreign None)
    (method 0 0 (line 0 (get (field_of_A Foreign)) 3 [] ∷ line 3 (ReturnValue OfInt) 4 [] ∷ []) ∷ [])

-- that is missing
foreign_own : end_of read_foreign no_input 0 ≡ Ended (Missing (codes "A.<clinit>"))
foreign_own = refl

-- INITIALISERS THAT THROW: iconst_1, iconst_0, idiv, pop, return

abbrev throwing : List Line
throwing = line 0 (Push (pos 1)) 1 [] ∷ line 1 (Push (pos 0)) 2 [] ∷ line 2 (Divide Div) 3 [] ∷ line 3 (Shuffle 1 []) 4 [] ∷ line 4 ReturnVoid 5 [] ∷ []

-- that of B fails with its class
initialiser_of_B_fails : end_of (read_B throwing) no_input 0 ≡ Ended (InitFailed 1)
unfolding most_instructions most_frames most_made
initialiser_of_B_fails = refl

-- its instructions up to the throw are executed
footprint_of_failure : footprint (read_B throwing) no_input [] ≡ Entry ∷ at 0 ∷ in_B 0 ∷ in_B 1 ∷ in_B 2 ∷ []
unfolding most_instructions most_frames most_made
footprint_of_failure = refl

-- that of the entry's class fails with that one
initialiser_of_A_fails : end_of (read_A throwing) no_input 0 ≡ Ended (InitFailed 0)
unfolding most_instructions most_frames most_made
initialiser_of_A_fails = refl

-- A.g()I with getstatic B.k, which a handler at 4 of Throwable covers, ireturn, 4: pop, iconst_5, ireturn
abbrev covered_get_B : Method
covered_get_B = method 0 0 (covered 4 AnyThrowable (starting (in_B 0) (line 0 (get (field_of_B Present)) 3 [])) ∷ line 3 (ReturnValue OfInt) 4 []
    ∷ line 4 (Shuffle 1 []) 5 [] ∷ line 5 (Push (pos 5)) 6 [] ∷ line 6 (ReturnValue OfInt) 7 [] ∷ [])

-- a handler of the frame below does not catch what leaves an initialiser
covered_read_fails : end_of (program (plain_entry []) (covered_get_B ∷ method 1 0 throwing ∷ [])) no_input 0 ≡ Ended (InitFailed 1)
unfolding most_instructions most_frames most_made
covered_read_fails = refl

-- B.<clinit> with iconst_1, iconst_0, idiv, which a handler at 5 covers, pop, return, 5: pop, bipush 8, putstatic B.k, return
abbrev caught_within : Program
caught_within = read_B (line 0 (Push (pos 1)) 1 [] ∷ line 1 (Push (pos 0)) 2 [] ∷ covered 5 Arithmetic (line 2 (Divide Div) 3 []) ∷ line 3 (Shuffle 1 []) 4 []
    ∷ line 4 ReturnVoid 5 [] ∷ line 5 (Shuffle 1 []) 6 [] ∷ line 6 (Push (pos 8)) 8 [] ∷ starting (in_B 0) (line 8 (put (field_of_B Present)) 11 [])
    ∷ line 11 ReturnVoid 12 [] ∷ [])

-- one of the initialiser itself does
caught_within_returns : end_of caught_within no_input 0 ≡ Ended (Returned (constant (pos 8)))
unfolding most_instructions most_frames most_made
caught_within_returns = refl

-- B.<clinit> with invokestatic B.m()V, return
abbrev calls_m : Method
calls_m = method 1 0 (calling (At 1 1 0) (starting (in_B 0) (line 0 (Invoke (member (codes "B") (codes "m") (codes "()V") 1 Present) nothing) 3 []))
    ∷ line 3 ReturnVoid 4 [] ∷ [])

-- B.m()V with aconst_null, athrow
abbrev throws_null : Method
throws_null = method 1 1 (line 0 PushNull 1 [] ∷ line 1 Throw 2 [] ∷ [])

-- a throw that leaves first a method and then the initialiser that called it fails too
fails_through_call : end_of (program (plain_entry []) (get_B ∷ calls_m ∷ throws_null ∷ [])) no_input 0 ≡ Ended (InitFailed 1)
unfolding most_instructions most_frames most_made
fails_through_call = refl

-- B.<clinit> with invokestatic B.m()I, putstatic B.k, return
abbrev stores_m : Method
stores_m = method 1 0 (calling (At 1 1 0) (starting (in_B 0) (line 0 (Invoke (member (codes "B") (codes "m") (codes "()I") 1 Present) (takes_ints 0)) 3 []))
    ∷ starting (in_B 0) (line 3 (put (field_of_B Present)) 6 []) ∷ line 6 ReturnVoid 7 [] ∷ [])

-- B.m()I with bipush 6, ireturn
abbrev gives_6 : Method
gives_6 = method 1 1 (line 0 (Push (pos 6)) 2 [] ∷ line 2 (ReturnValue OfInt) 3 [] ∷ [])

-- the frame of the method is no initialiser's, and returns its value to that
trace_of_call : (segment_after (program (plain_entry []) (get_B ∷ stores_m ∷ gives_6 ∷ [])) no_input []).trace
    ≡ at 0 ∷ in_B 0 ∷ At 1 1 0 ∷ At 1 1 2 ∷ in_B 3 ∷ in_B 6 ∷ at 0 ∷ at 3 ∷ []
unfolding most_instructions most_frames
trace_of_call = refl

-- A.g()I with invokestatic A.<clinit>()V, iconst_0, ireturn
abbrev calls_initialiser : Method
calls_initialiser = method 0 0 (calling (At 0 1 0) (starting (At 0 1 0) (line 0 (Invoke (member (codes "A") (codes "<clinit>") (codes "()V") 0 Present) nothing) 3 []))
    ∷ line 3 (Push (pos 0)) 4 [] ∷ line 4 (ReturnValue OfInt) 5 [] ∷ [])

-- A.<clinit> with getstatic A.k, ifne 11, iconst_1, putstatic A.k, return, 11: aconst_null, athrow
abbrev throws_next_time : Method
throws_next_time = method 0 1 (starting (At 0 1 0) (line 0 (get (field_of_A Present)) 3 []) ∷ line 3 (CompareZero NotEqual) 6 (11 ∷ [])
    ∷ line 6 (Push (pos 1)) 7 [] ∷ starting (At 0 1 0) (line 7 (put (field_of_A Present)) 10 []) ∷ line 10 ReturnVoid 11 [] ∷ line 11 PushNull 12 [] ∷ line 12 Throw 13 [] ∷ [])

abbrev called_again : Program
called_again = program (entry [] (Some I) 0 (codes "A") Present (Some (At 0 1 0))) (calls_initialiser ∷ throws_next_time ∷ [])

-- at the start it returns; when it is called it runs as any method does, and what it throws leaves the entry
called_again_throws : end_of called_again no_input 0 ≡ Ended (Threw NullPointer)
unfolding most_instructions most_frames most_made
called_again_throws = refl

-- WHAT IS MISSING: A.g()I with getstatic of a field, ireturn

abbrev reading : Line → Program
reading first = program (plain_entry []) (method 0 0 (first ∷ line 3 (ReturnValue OfInt) 4 [] ∷ []) ∷ method 1 0 (line 0 ReturnVoid 1 [] ∷ []) ∷ [])

abbrev reads : Member → Line
reads field = line 0 (get field) 3 []

-- the class comes first
missing_class : end_of (reading (reads (without_class (field_of_B Foreign)))) no_input 0 ≡ Ended (Missing (codes "B"))
unfolding most_instructions
missing_class = refl

-- then the field
missing_field : end_of (reading (reads (absent (field_of_B Foreign)))) no_input 0 ≡ Ended (Missing (codes "B.k"))
unfolding most_instructions
missing_field = refl

-- and then the initialiser
missing_initialiser : end_of (reading (reads (field_of_B Foreign))) no_input 0 ≡ Ended (Missing (codes "B.<clinit>"))
unfolding most_instructions
missing_initialiser = refl

-- where the field is absent no initialiser runs
footprint_of_missing : footprint (reading (starting (in_B 0) (reads (absent (field_of_B Present))))) no_input [] ≡ Entry ∷ at 0 ∷ []
unfolding most_instructions
footprint_of_missing = refl

-- A.g()I with iconst_1, invokestatic of a method, ireturn
abbrev calls_with_1 : Line → Method
calls_with_1 second = method 0 0 (line 0 (Push (pos 1)) 1 [] ∷ second ∷ line 4 (ReturnValue OfInt) 5 [] ∷ [])

abbrev invokes : Member → Line
invokes callee = line 1 (Invoke callee (takes_ints 1)) 4 []

-- B.m(I)I with iload_0, ireturn
abbrev gives_back : Method
gives_back = method 1 1 (line 0 (Load OfInt 0) 1 [] ∷ line 1 (ReturnValue OfInt) 2 [] ∷ [])

abbrev invoking : Line → Program
invoking second = program (plain_entry []) (calls_with_1 second ∷ method 1 0 (line 0 ReturnVoid 1 [] ∷ []) ∷ gives_back ∷ [])

-- a method of B
abbrev method_of_B : Initialiser → Member
method_of_B initialiser = member (codes "B") (codes "m") (codes "(I)I") 1 initialiser

-- the class of a method comes first
missing_class_of_method : end_of (invoking (invokes (without_class (method_of_B Foreign)))) no_input 0 ≡ Ended (Missing (codes "B"))
unfolding most_instructions
missing_class_of_method = refl

-- then the method, with its descriptor
missing_method : end_of (invoking (invokes (absent (method_of_B Foreign)))) no_input 0 ≡ Ended (Missing (codes "B.m(I)I"))
unfolding most_instructions
missing_method = refl

-- and then the initialiser
missing_initialiser_of_method : end_of (invoking (calling (At 1 1 0) (invokes (method_of_B Foreign)))) no_input 0 ≡ Ended (Missing (codes "B.<clinit>"))
unfolding most_instructions
missing_initialiser_of_method = refl

-- the call of a method whose class has an initialiser
abbrev invoking_once_started : Program
invoking_once_started = invoking (calling (At 1 1 0) (starting (in_B 0) (invokes (method_of_B Present))))

-- that runs first, and then the call is executed again, whose argument has waited
trace_of_invoking : (segment_after invoking_once_started no_input []).trace ≡ at 0 ∷ at 1 ∷ in_B 0 ∷ at 1 ∷ At 1 1 0 ∷ At 1 1 1 ∷ at 4 ∷ []
unfolding most_instructions most_frames
trace_of_invoking = refl

-- the argument comes back
invoking_returns : end_of invoking_once_started no_input 0 ≡ Ended (Returned (constant (pos 1)))
unfolding most_instructions most_frames
invoking_returns = refl
