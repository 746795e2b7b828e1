-- What the small methods do not reach, computed: bounds, frames, throwables, initialisers, other tests.
use Rattle.std.proofs.Common.{◌≡◌, ℕ, zero, suc, List, [], ◌∷◌, pos, negsuc, Option, Some, None, refl}
use Rattle.ms_words.specs.declared.item.Item.TheVariants.{Entry}
use Rattle.ms_words.specs.declared.kind.Kind.TheVariants.{I}
use Rattle.ms_words.specs.declared.operator.Rel.TheVariants.{Eq, Ne, Uge}
use Rattle.ms_words.specs.declared.thrown.Thrown.TheVariants.{Throwable as AnyThrowable, Arithmetic, RuntimeException, NullPointer}
use Rattle.ms_terms.specs.Terms.{Term, Constant, Param}
use Rattle.ms_machine.specs.Ints.{ints}
use Rattle.ms_machine.specs.Instructions.{Foreign, Present, Push}
use Rattle.ms_machine.specs.Values.{Int, Throwable, Memory, InitFailed, Threw, Runaway, Deep, Stuck}
use Rattle.ms_machine.specs.Effects.{Divides, Selects, Indexes}
use Rattle.ms_machine.specs.Control.{Views, Handler, Frame, Goes, Ends, enters, memory_at_start, most_frames, returns, start, throws}
use Rattle.ms_machine.specs.Tests.{arm_of, literals}
use Rattle.ms_machine.specs.Segments.{Over, segment_within}
use Rattle.ms_machine.specs.Runs.{Cut, end_at, footprint, started}
use Rattle.ms_machine.proofs.Methods.{at}
use Rattle.ms_machine.proofs.Example.{truths, two}

-- BOUNDS

-- iload_0 and ifeq are two instructions: with two the choice comes, with one a runaway
bound_is_enough : end_at (segment_within ints truths.view 2 (started truths (two (pos 0) (pos 0)))).after ≡ Cut
bound_is_enough = refl

bound_is_passed : (segment_within ints truths.view 1 (started truths (two (pos 0) (pos 0)))).after ≡ Over Runaway
bound_is_passed = refl

-- FRAMES

abbrev frame : Option ℕ → Frame Term
frame initialises = record { at = at 4; locals = []; stack = []; initialises = initialises }

abbrev frames : ℕ → List (Frame Term)
frames zero = []
frames (suc n) = frame None ∷ frames n

abbrev memory : Memory Term
memory = memory_at_start 0

frame_256 : enters (Some (at 0)) [] None (frame None) (frames 254) memory
    ≡ Goes (record { top = record { at = at 0; locals = []; stack = []; initialises = None }; below = frame None ∷ frames 254; memory = memory })
unfolding most_frames
frame_256 = refl

frame_257 : enters (Some (at 0)) [] None (frame None) (frames 255) memory ≡ Ends Deep
unfolding most_frames
frame_257 = refl

-- THROWABLES: an instruction at 4 with handlers

abbrev with_handlers : List Handler → Views
with_handlers handlers item = Some (record { instr = Push (pos 1); next = Some (at 5); targets = []; handlers = handlers; callee = None; initialiser_first = None })

-- the first handler that catches the class or one above it
caught_above : throws (with_handlers (record { begins = at 7; catches = NullPointer } ∷ record { begins = at 8; catches = RuntimeException } ∷ record { begins = at 9; catches = AnyThrowable } ∷ []))
    3 Arithmetic memory (frame (Some 2)) []
    ≡ Goes (record { top = record { at = at 8; locals = []; stack = Throwable 3 Arithmetic ∷ []; initialises = Some 2 }; below = []; memory = memory })
caught_above = refl

leaves_all : throws (with_handlers []) 3 Arithmetic memory (frame None) (frame None ∷ []) ≡ Ends (Threw Arithmetic)
leaves_all = refl

leaves_an_initialiser : throws (with_handlers []) 3 Arithmetic memory (frame None) (frame (Some 2) ∷ frame None ∷ []) ≡ Ends (InitFailed 2)
leaves_an_initialiser = refl

-- RETURNS

-- behind an initialiser the caller stands where it stood; behind a call it goes on
after_an_initialiser : returns (with_handlers []) None memory (Some 2) (frame None ∷ []) ≡ Goes (record { top = frame None; below = []; memory = memory })
after_an_initialiser = refl

after_a_call : returns (with_handlers []) (Some (Int (Constant (pos 6)))) memory None (frame None ∷ [])
    ≡ Goes (record { top = record { at = at 5; locals = []; stack = Int (Constant (pos 6)) ∷ []; initialises = None }; below = []; memory = memory })
after_a_call = refl

no_int : returns (with_handlers []) (Some (Throwable 3 Arithmetic)) memory None [] ≡ Ends Stuck
no_int = refl

-- STARTS

initialiser_first : start (record { entry = record truths.entry { initialiser = Present; initialiser_first = Some (at 4) }; view = truths.view }) (Param 0 I ∷ [])
    ≡ Goes (record {
      top = record { at = at 4; locals = []; stack = []; initialises = Some 0 };
      below = record { at = at 0; locals = Some (Int (Param 0 I)) ∷ []; stack = []; initialises = None } ∷ [];
      memory = memory_at_start 0;
    })
unfolding most_frames
initialiser_first = refl

foreign_initialiser : footprint (record { entry = record truths.entry { initialiser = Foreign }; view = truths.view }) (two (pos 0) (pos 0)) [] ≡ Entry ∷ []
foreign_initialiser = refl

-- OTHER TESTS

index_below_0 : arm_of (Indexes (negsuc 0) 3) ≡ 3
index_below_0 = refl

index_in_range : arm_of (Indexes (pos 2) 3) ≡ 2
index_in_range = refl

divisor_0 : arm_of (Divides (pos 0)) ≡ 1
divisor_0 = refl

first_case : arm_of (Selects (pos 9) (pos 7 ∷ pos 9 ∷ [])) ≡ 1
first_case = refl

no_case : arm_of (Selects (pos 8) (pos 7 ∷ pos 9 ∷ [])) ≡ 2
no_case = refl

literal_of_a_case : literals Constant (Selects (Param 0 I) (pos 7 ∷ pos 9 ∷ [])) 1 ≡ record { rel = Eq; a = Param 0 I; b = Constant (pos 9) } ∷ []
literal_of_a_case = refl

literals_of_the_default : literals Constant (Selects (Param 0 I) (pos 7 ∷ pos 9 ∷ [])) 2
    ≡ record { rel = Ne; a = Param 0 I; b = Constant (pos 7) } ∷ record { rel = Ne; a = Param 0 I; b = Constant (pos 9) } ∷ []
literals_of_the_default = refl

literal_out_of_range : literals Constant (Indexes (Param 0 I) 1) 1 ≡ record { rel = Uge; a = Param 0 I; b = Constant (pos 1) } ∷ []
literal_out_of_range = refl
