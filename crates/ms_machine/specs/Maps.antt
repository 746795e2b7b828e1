-- What a map of ints makes of states, segments and what comes after them.
use Rattle.std.specs.Prelude.{◌≡◌, ℤ, List, map, Option}
use Rattle.std.specs.Option.{option_map}
use Rattle.ms_words.specs.declared.operator.Un.{Un}
use Rattle.ms_words.specs.declared.operator.Bin.{Bin}
use Rattle.ms_machine.specs.Ints.{Ints}
use Rattle.ms_machine.specs.Values.{Value, Int, Null, Array, Text, Throwable, Static, Memory, End, Returned, ReturnedVoid, Threw, InitFailed, Missing, Runaway, Deep, SymLength, HeapFull, Stuck}
use Rattle.ms_machine.specs.Effects.{Here, Doing, Moves, Calls, Initialises, Returns, Raises, Stops, Effect, Does, Asks}
use Rattle.ms_machine.specs.Control.{Frame, State, Done, Goes, Ends, Step, Then, Chooses}
use Rattle.ms_machine.specs.Tests.{map_test}
use Rattle.ms_machine.specs.Segments.{After, Choice, Over, Segment}
use Rattle.ms_machine.specs.Runs.{RunEnd, Ended, Cut}

-- the map keeps constants, what operators give, and what is known
pub record Respects {V W : Type 0} (I : Ints V) (J : Ints W) (f : V → W) : Type 0 where
  pub constant : (word : ℤ) → f (I.constant word) ≡ J.constant word
  pub unary : (op : Un) (a : V) → f (I.unary op a) ≡ J.unary op (f a)
  pub binary : (op : Bin) (a b : V) → f (I.binary op a b) ≡ J.binary op (f a) (f b)
  pub known : (a : V) → J.known (f a) ≡ I.known a

-- a map of ints carried to a value
abbrev pub map_value : {V W : Type 0} → (V → W) → Value V → Value W
map_value f (Int a) = Int (f a)
map_value f Null = Null
map_value f (Array number) = Array number
map_value f (Text bytes) = Text bytes
map_value f (Throwable number class) = Throwable number class

-- to a list of values
abbrev pub map_values : {V W : Type 0} → (V → W) → List (Value V) → List (Value W)
map_values f values = map (map_value f) values

-- to locals
abbrev pub map_locals : {V W : Type 0} → (V → W) → List (Option (Value V)) → List (Option (Value W))
map_locals f locals = map (option_map (map_value f)) locals

-- to a static
abbrev pub map_static : {V W : Type 0} → (V → W) → Static V → Static W
map_static f static = record { class = static.class; name = static.name; descriptor = static.descriptor; value = map_value f static.value }

-- to the memory
abbrev pub map_memory : {V W : Type 0} → (V → W) → Memory V → Memory W
map_memory f memory = record {
  statics = map (map_static f) memory.statics;
  started = memory.started;
  arrays = map (map f) memory.arrays;
  throwables = memory.throwables;
}

-- to what a frame has before it
abbrev pub map_here : {V W : Type 0} → (V → W) → Here V → Here W
map_here f here = record { locals = map_locals f here.locals; stack = map_values f here.stack; memory = map_memory f here.memory }

-- to an end
abbrev pub map_end : {V W : Type 0} → (V → W) → End V → End W
map_end f (Returned v) = Returned (f v)
map_end f ReturnedVoid = ReturnedVoid
map_end f (Threw class) = Threw class
map_end f (InitFailed class) = InitFailed class
map_end f (Missing name) = Missing name
map_end f Runaway = Runaway
map_end f Deep = Deep
map_end f SymLength = SymLength
map_end f HeapFull = HeapFull
map_end f Stuck = Stuck

-- to what an instruction does
abbrev pub map_doing : {V W : Type 0} → (V → W) → Doing V → Doing W
map_doing f (Moves where_to here) = Moves where_to (map_here f here)
map_doing f (Calls arguments here) = Calls (map_values f arguments) (map_here f here)
map_doing f (Initialises class here) = Initialises class (map_here f here)
map_doing f (Returns result memory) = Returns (option_map (map_value f) result) (map_memory f memory)
map_doing f (Raises number class memory) = Raises number class (map_memory f memory)
map_doing f (Stops end) = Stops (map_end f end)

-- to the effect of an instruction
abbrev pub map_effect : {V W : Type 0} → (V → W) → Effect V → Effect W
map_effect f (Does doing) = Does (map_doing f doing)
map_effect f (Asks test arms) = Asks (map_test f test) (λ arm. map_doing f (arms arm))

-- to a frame
abbrev pub map_frame : {V W : Type 0} → (V → W) → Frame V → Frame W
map_frame f frame = record { at = frame.at; locals = map_locals f frame.locals; stack = map_values f frame.stack; initialises = frame.initialises }

-- to a state
abbrev pub map_state : {V W : Type 0} → (V → W) → State V → State W
map_state f state = record { top = map_frame f state.top; below = map (map_frame f) state.below; memory = map_memory f state.memory }

-- to what a doing leads to
abbrev pub map_done : {V W : Type 0} → (V → W) → Done V → Done W
map_done f (Goes state) = Goes (map_state f state)
map_done f (Ends end) = Ends (map_end f end)

-- to a step
abbrev pub map_step : {V W : Type 0} → (V → W) → Step V → Step W
map_step f (Then done) = Then (map_done f done)
map_step f (Chooses test arms) = Chooses (map_test f test) (λ arm. map_done f (arms arm))

-- to what follows a segment
abbrev pub map_after : {V W : Type 0} → (V → W) → After V → After W
map_after f (Choice test arms) = Choice (map_test f test) (λ arm. map_done f (arms arm))
map_after f (Over end) = Over (map_end f end)

-- to the end of a run
abbrev pub map_run_end : {V W : Type 0} → (V → W) → RunEnd V → RunEnd W
map_run_end f (Ended end) = Ended (map_end f end)
map_run_end f Cut = Cut

-- to a segment
abbrev pub map_segment : {V W : Type 0} → (V → W) → Segment V → Segment W
map_segment f segment = record { trace = segment.trace; after = map_after f segment.after }
