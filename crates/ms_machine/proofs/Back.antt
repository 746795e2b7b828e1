-- A map of ints that another one undoes.
use Rattle.std.proofs.Common.{◌≡◌, List, [], ◌∷◌, map, Option, Some, None, refl, ap}
use Rattle.std.specs.Option.{option_map}
use Rattle.ms_machine.specs.Values.{Value, Int, Null, Array, Text, Throwable, Static, Memory, End, Returned, ReturnedVoid, Threw, InitFailed, Missing, Runaway, Deep, SymLength, HeapFull, Stuck}
use Rattle.ms_machine.specs.Effects.{Test, Compares, Divides, Selects, Indexes}
use Rattle.ms_machine.specs.Control.{Frame, Done, Goes, Ends}
use Rattle.ms_machine.specs.Tests.{map_test}
use Rattle.ms_machine.specs.Segments.{After, Choice, Over, Segment}
use Rattle.ms_machine.specs.Maps.{map_after, map_done, map_end, map_frame, map_memory, map_segment, map_static, map_value, map_values}

pub list_back : {A B : Type 0} (f : A → B) (g : B → A) → ((a : A) → g (f a) ≡ a) → (xs : List A) → map g (map f xs) ≡ xs
list_back f g each [] = refl
list_back f g each (x ∷ xs) = λ i. each x i ∷ list_back f g each xs i

module _ {V W : Type 0} (f : V → W) (g : W → V) (each : (a : V) → g (f a) ≡ a) where
  value_back : (v : Value V) → map_value g (map_value f v) ≡ v
  value_back (Int a) = ap Int (each a)
  value_back Null = refl
  value_back (Array number) = refl
  value_back (Text bytes) = refl
  value_back (Throwable number class) = refl

  values_back : (vs : List (Value V)) → map_values g (map_values f vs) ≡ vs
  values_back vs = list_back (map_value f) (map_value g) value_back vs

  held_back : (held : Option (Value V)) → option_map (map_value g) (option_map (map_value f) held) ≡ held
  held_back None = refl
  held_back (Some v) = ap (λ w. Some w) (value_back v)

  static_back : (static : Static V) → map_static g (map_static f static) ≡ static
  static_back static = λ i. record { class = static.class; name = static.name; descriptor = static.descriptor; value = value_back static.value i }

  memory_back : (memory : Memory V) → map_memory g (map_memory f memory) ≡ memory
  memory_back memory = λ i. record {
    statics = list_back (map_static f) (map_static g) static_back memory.statics i;
    started = memory.started;
    arrays = list_back (map f) (map g) (list_back f g each) memory.arrays i;
    throwables = memory.throwables;
  }

  end_back : (end : End V) → map_end g (map_end f end) ≡ end
  end_back (Returned v) = ap Returned (each v)
  end_back ReturnedVoid = refl
  end_back (Threw class) = refl
  end_back (InitFailed class) = refl
  end_back (Missing name) = refl
  end_back Runaway = refl
  end_back Deep = refl
  end_back SymLength = refl
  end_back HeapFull = refl
  end_back Stuck = refl

  frame_back : (frame : Frame V) → map_frame g (map_frame f frame) ≡ frame
  frame_back frame = λ i. record { at = frame.at; locals = list_back (option_map (map_value f)) (option_map (map_value g)) held_back frame.locals i; stack = values_back frame.stack i; initialises = frame.initialises }

  pub done_back : (done : Done V) → map_done g (map_done f done) ≡ done
  done_back (Goes state) = λ i. Goes (record {
    top = frame_back state.top i;
    below = list_back (map_frame f) (map_frame g) frame_back state.below i;
    memory = memory_back state.memory i;
  })
  done_back (Ends end) = ap Ends (end_back end)

  test_back : (test : Test V) → map_test g (map_test f test) ≡ test
  test_back (Compares comparison a b) = λ i. Compares comparison (each a i) (each b i)
  test_back (Divides b) = ap Divides (each b)
  test_back (Selects a keys) = λ i. Selects (each a i) keys
  test_back (Indexes a len) = λ i. Indexes (each a i) len

  after_back : (after : After V) → map_after g (map_after f after) ≡ after
  after_back (Choice test arms) = λ i. Choice (test_back test i) (λ arm. done_back (arms arm) i)
  after_back (Over end) = ap Over (end_back end)

  pub segment_back : (segment : Segment V) → map_segment g (map_segment f segment) ≡ segment
  segment_back segment = λ i. record { trace = segment.trace; after = after_back segment.after i }
