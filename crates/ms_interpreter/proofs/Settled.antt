-- The arithmetic that was planned is done: ints that were there are seen as they are.
use Rattle.std.proofs.Common.{◌≡◌, ℕ, suc, ◌+◌, ℤ, pos, negsuc, Bool, true, false, ◌&&◌, cond, nat_le, nat_lt, List, [], ◌∷◌, ◌++◌, length, map, replicate, reverse, take, drop, Option, Some, None, refl, sym, ap, subst, ◌∙◌}
use Rattle.std.specs.Prelude.{option_map}
use Rattle.std.proofs.lemmas.Option.{none-some, same_Some}
use Rattle.std.proofs.lemmas.List.{length-map, map-append, take-map, drop-map}
use Rattle.ms_machine.proofs.ValueMap.{cells_map, local_map, replicate_map, reverse_map}
use Rattle.ms_machine.specs.Ints.{Ints}
use Rattle.ms_machine.specs.Values as machine
use Rattle.ms_words.specs.declared.thrown.Thrown.{Thrown}
use Rattle.ms_words.specs.declared.thrown.Thrown.TheVariants as throwables
use Rattle.ms_machine.specs.Values.{Value, cells_of, with_local}
use Rattle.ms_machine.specs.Effects.{Here, Next, Target, Moves, Calls, Initialises, Returns, Raises, Stops, greatest_length, most_cells, most_made, new_array}
use Rattle.ms_machine.specs.Maps.{map_doing, map_end, map_here, map_locals, map_memory, map_static, map_value, map_values}
use Rattle.ms_interpreter.specs.declared.did.Stop.{Stop}
use Rattle.ms_interpreter.specs.declared.did.Stop.TheVariants as stops
use Rattle.ms_interpreter.specs.declared.did.Did.TheVariants as did
use Rattle.ms_interpreter.specs.declared.lead.Lead.{Lead}
use Rattle.ms_interpreter.specs.declared.lead.Lead.TheVariants as lead
use Rattle.ms_interpreter.specs.declared.slot.Slot.{Slot}
use Rattle.ms_interpreter.specs.declared.slot.Slot.TheVariants as slots
use Rattle.ms_interpreter.specs.Doing.{end_of, in_local, on_stack, planned_here}
use Rattle.ms_interpreter.specs.Frames.{Field, Frame, MadeThrowable, Shared, has_room, made_in}
use Rattle.ms_interpreter.proofs.LocalsOf.{with_slot_seen}
use Rattle.ms_interpreter.specs.Leads.{MakesArray, Settles, natural_of, thrown_lead}
use Rattle.ms_interpreter.specs.Locals.{with_slot}
use Rattle.ms_interpreter.specs.Plans.{Planned, Constant, Given, computed, plans}
use Rattle.ms_interpreter.specs.Seen.{Texts, here_of, locals_of, memory_of, static_of, value_of, values_of}

-- LISTS

-- a map after a map
pub map_after : {A B C : Type 0} (g : B → C) (f : A → B) (h : A → C) → ((x : A) → g (f x) ≡ h x) → (xs : List A) → map g (map f xs) ≡ map h xs
map_after g f h each [] = refl
map_after g f h each (x ∷ xs) = ap (λ (y : _). y ∷ map g (map f xs)) (each x) ∙ ap (λ (ys : List _). h x ∷ ys) (map_after g f h each xs)

option_after : {A B C : Type 0} (g : B → C) (f : A → B) (h : A → C) → ((x : A) → g (f x) ≡ h x) → (x : Option A) → option_map g (option_map f x) ≡ option_map h x
option_after g f h each None = refl
option_after g f h each (Some x) = ap Some (each x)

-- VALUES, MEMORY AND FRAMES

module _ {I V : Type 0} (J : Ints V) (f : I → V) (texts : Texts) where
  pub given_value : (slot : Slot I) → map_value (computed J f) (value_of Given texts slot) ≡ value_of f texts slot
  given_value (slots.Int a) = refl
  given_value slots.Null = refl
  given_value (slots.Array number) = refl
  given_value (slots.Text item) = refl
  given_value (slots.Throwable number class) = refl

  pub given_values : (stack : List (Slot I)) → map_values (computed J f) (values_of Given texts stack) ≡ values_of f texts stack
  given_values stack = map_after (map_value (computed J f)) (value_of Given texts) (value_of f texts) given_value stack

  pub given_held : (slot : Option (Slot I)) → option_map (map_value (computed J f)) (option_map (value_of Given texts) slot) ≡ option_map (value_of f texts) slot
  given_held slot = option_after (map_value (computed J f)) (value_of Given texts) (value_of f texts) given_value slot

  pub given_locals : (locals : List (Option (Slot I))) → map_locals (computed J f) (locals_of Given texts locals) ≡ locals_of f texts locals
  given_locals locals = map_after (option_map (map_value (computed J f))) (option_map (value_of Given texts)) (option_map (value_of f texts)) given_held locals

  given_static : (field : Field I) → map_static (computed J f) (static_of Given texts field) ≡ static_of f texts field
  given_static field = ap (λ (value : Value V). record (static_of f texts field) { value = value }) (given_value field.slot)

  given_cells : (cells : List I) → map (computed J f) (map Given cells) ≡ map f cells
  given_cells cells = map_after (computed J f) Given f (λ a. refl) cells

  pub given_arrays : (arrays : List (List I)) → map (map (computed J f)) (map (map Given) arrays) ≡ map (map f) arrays
  given_arrays arrays = map_after (map (computed J f)) (map Given) (map f) given_cells arrays

  pub given_statics : (statics : List (Field I)) → map (map_static (computed J f)) (map (static_of Given texts) statics) ≡ map (static_of f texts) statics
  given_statics statics = map_after (map_static (computed J f)) (static_of Given texts) (static_of f texts) given_static statics

  pub given_memory : (shared : Shared I) → map_memory (computed J f) (memory_of Given texts shared) ≡ memory_of f texts shared
  given_memory shared =
      let memory = memory_of f texts shared in
      ap (λ (statics : List (machine.Static V)). record memory { statics = statics; arrays = map (map (computed J f)) (map (map Given) shared.arrays) }) (given_statics shared.statics)
      ∙ ap (λ (arrays : List (List V)). record memory { arrays = arrays }) (given_arrays shared.arrays)

  pub given_here : (frame : Frame I) (shared : Shared I) → map_here (computed J f) (planned_here texts frame shared) ≡ here_of f texts frame shared
  given_here frame shared =
      let here = here_of f texts frame shared in
      ap (λ (locals : List (Option (Value V))). record here { locals = locals; stack = map_values (computed J f) (values_of Given texts frame.stack); memory = map_memory (computed J f) (memory_of Given texts shared) }) (given_locals frame.locals)
      ∙ ap (λ (stack : List (Value V)). record here { stack = stack; memory = map_memory (computed J f) (memory_of Given texts shared) }) (given_values frame.stack)
      ∙ ap (λ (memory : machine.Memory V). record here { memory = memory }) (given_memory shared)

  -- an end has no planned int
  pub given_end : (stop : Stop) → map_end (computed J f) (end_of stop) ≡ end_of stop
  given_end (stops.Missing name) = refl
  given_end stops.SymLength = refl
  given_end stops.HeapFull = refl
  given_end stops.Stuck = refl

  -- an int on top
  pub pushed : (frame : Frame I) (shared : Shared I) (plan : Planned I) (a : I) → f a ≡ computed J f plan
      → map_here (computed J f) (on_stack (machine.Int plan) (planned_here texts frame shared)) ≡ here_of f texts (record frame { stack = slots.Int a ∷ frame.stack }) shared
  pushed frame shared plan a is =
      ap (λ (v : V). on_stack (machine.Int v) (map_here (computed J f) (planned_here texts frame shared))) (sym is)
      ∙ ap (on_stack (machine.Int (f a))) (given_here frame shared)

  -- an int in a local
  pub put : (frame : Frame I) (shared : Shared I) (local : ℕ) (plan : Planned I) (a : I) → f a ≡ computed J f plan
      → map_here (computed J f) (in_local local (machine.Int plan) (planned_here texts frame shared)) ≡ here_of f texts (record frame { locals = with_slot frame.locals local (slots.Int a) }) shared
  put frame shared local plan a is =
      let mapped = map_here (computed J f) (planned_here texts frame shared) in
      let here = here_of f texts frame shared in
      ap (λ (locals : List (Option (Value V))). record mapped { locals = locals }) (sym (local_map (computed J f) (locals_of Given texts frame.locals) local (machine.Int plan)))
      ∙ ap (λ (v : V). in_local local (machine.Int v) mapped) (sym is)
      ∙ ap (in_local local (machine.Int (f a))) (given_here frame shared)
      ∙ ap (λ (locals : List (Option (Value V))). record here { locals = locals }) (sym (with_slot_seen f texts frame.locals local (slots.Int a)))

  -- a call
  pub called : (frame : Frame I) (shared : Shared I) (parameters : ℕ) → Settles J f texts (did.Calls parameters) frame shared (lead.Calls parameters) frame shared
  called frame shared parameters =
      let stack = values_of Given texts frame.stack in
      let arguments : map_values (computed J f) (reverse (take parameters stack)) ≡ reverse (take parameters (values_of f texts frame.stack)) =
      sym (reverse_map (map_value (computed J f)) (take parameters stack)) ∙ ap reverse (sym (take-map (map_value (computed J f)) parameters stack)) ∙ ap (λ (values : List (Value V)). reverse (take parameters values)) (given_values frame.stack) in
      let rest : map_values (computed J f) (drop parameters stack) ≡ drop parameters (values_of f texts frame.stack) =
      sym (drop-map (map_value (computed J f)) parameters stack) ∙ ap (λ (values : List (Value V)). drop parameters values) (given_values frame.stack) in
      ap (λ (values : List (Value V)). Calls values (map_here (computed J f) (record (planned_here texts frame shared) { stack = drop parameters stack }))) arguments
      ∙ ap (λ (below : List (Value V)). Calls (reverse (take parameters (values_of f texts frame.stack))) (record (map_here (computed J f) (planned_here texts frame shared)) { stack = below })) rest
      ∙ ap (λ (here : Here V). Calls (reverse (take parameters (values_of f texts frame.stack))) (record here { stack = drop parameters (values_of f texts frame.stack) })) (given_here frame shared)

  -- what wants no arithmetic
  pub next : (frame : Frame I) (shared : Shared I) → Settles J f texts did.Next frame shared lead.Next frame shared
  next frame shared = ap (Moves Next) (given_here frame shared)

  pub jumped : (frame : Frame I) (shared : Shared I) (target : ℕ) → Settles J f texts (did.Jumps target) frame shared (lead.Jumps target) frame shared
  jumped frame shared target = ap (Moves (Target target)) (given_here frame shared)

  pub initialised : (frame : Frame I) (shared : Shared I) (class : ℕ) → Settles J f texts (did.Initialises class) frame shared (lead.Initialises class) frame shared
  initialised frame shared class = ap (Initialises class) (given_here frame shared)

  pub returned : (frame : Frame I) (shared : Shared I) (slot : Option (Slot I)) → Settles J f texts (did.Returns slot) frame shared (lead.Returns slot) frame shared
  returned frame shared slot =
      ap (λ (v : Option (Value V)). Returns v (map_memory (computed J f) (memory_of Given texts shared))) (given_held slot)
      ∙ ap (Returns (option_map (value_of f texts) slot)) (given_memory shared)

  pub raised : (frame : Frame I) (shared : Shared I) (number : ℕ) (class : Thrown) → Settles J f texts (did.Raises number class) frame shared (lead.Raises number class) frame shared
  raised frame shared number class = ap (Raises number class) (given_memory shared)

  pub stopped : (frame : Frame I) (shared : Shared I) (stop : Stop) → Settles J f texts (did.Stops stop) frame shared (lead.Stops stop) frame shared
  stopped frame shared stop = ap Stops (given_end stop)

  -- ARRAYS

  -- of an unknown length
  pub unknown_length : (frame : Frame I) (shared : Shared I) (size : I) → None ≡ J.known (f size) → Settles J f texts (did.Makes size) frame shared (lead.Stops stops.SymLength) frame shared
  unknown_length frame shared size is =
      ap (λ (length : Option ℤ). map_doing (computed J f) (new_array (plans (λ plan. J.known (computed J f plan))) (planned_here texts frame shared) (values_of Given texts frame.stack) length)) (sym is)

  -- as many cells and things are there
  room_seen : (shared : Shared I) (size : ℕ)
      → (nat_le size greatest_length && (nat_le (cells_of (map (map Given) shared.arrays) + size) most_cells && nat_lt (length (map (map Given) shared.arrays) + shared.throwables) most_made)) ≡ has_room shared size
  room_seen shared size =
      ap (λ (n : ℕ). nat_le size greatest_length && (nat_le (n + size) most_cells && nat_lt (length (map (map Given) shared.arrays) + shared.throwables) most_made)) (cells_map Given shared.arrays)
      ∙ ap (λ (n : ℕ). nat_le size greatest_length && (nat_le (cells_of shared.arrays + size) most_cells && nat_lt (n + shared.throwables) most_made)) (length-map shared.arrays (map Given))

  made_seen : (shared : Shared I) → nat_lt (length (map (map Given) shared.arrays) + shared.throwables) most_made ≡ nat_lt (made_in shared) most_made
  made_seen shared = ap (λ (n : ℕ). nat_lt (n + shared.throwables) most_made) (length-map shared.arrays (map Given))

  -- a known length
  pub known_length : (frame frame' : Frame I) (shared shared' : Shared I) (size : I) (word : ℤ) (length : ℕ) (lead : Lead I) → Some word ≡ J.known (f size) → Some length ≡ natural_of word
      → MakesArray J f texts length frame shared lead frame' shared' → Settles J f texts (did.Makes size) frame shared lead frame' shared'
  known_length frame frame' shared shared' size (pos n) length lead is natural makes =
      ap (λ (length : Option ℤ). map_doing (computed J f) (new_array (plans (λ plan. J.known (computed J f plan))) (planned_here texts frame shared) (values_of Given texts frame.stack) length)) (sym is)
      ∙ subst (λ (size : ℕ). MakesArray J f texts size frame shared lead frame' shared') (same_Some length n natural) makes
  known_length frame frame' shared shared' size (negsuc n) length lead is natural makes = absurd (none-some length (sym natural))

  pub no_room : (frame : Frame I) (shared : Shared I) (size : ℕ) → has_room shared size ≡ false → MakesArray J f texts size frame shared (lead.Stops stops.HeapFull) frame shared
  no_room frame shared size full =
      let here = planned_here texts frame shared in
      let made = record here { stack = machine.Array (length (map (map Given) shared.arrays)) ∷ here.stack; memory = record here.memory { arrays = here.memory.arrays ++ replicate size (Constant (pos 0)) ∷ [] } } in
      ap (λ (fits : Bool). map_doing (computed J f) (cond fits (Moves Next made) (Stops machine.HeapFull))) (room_seen shared size ∙ full)

  -- an array was made
  pub made_array : (frame : Frame I) (shared : Shared I) (size : ℕ) (zero : I) → has_room shared size ≡ true → f zero ≡ J.constant (pos 0)
      → MakesArray J f texts size frame shared lead.Next (record frame { stack = slots.Array (length shared.arrays) ∷ frame.stack }) (record shared { arrays = shared.arrays ++ replicate size zero ∷ [] })
  made_array frame shared size zero room is =
      let here = planned_here texts frame shared in
      let made = λ (number : ℕ). record here { stack = machine.Array number ∷ here.stack; memory = record here.memory { arrays = here.memory.arrays ++ replicate size (Constant (pos 0)) ∷ [] } } in
      let seen = here_of f texts frame shared in
      let with_cells = λ (stack : List (Value V)) (arrays : List (List V)). Moves Next (record seen { stack = stack; memory = record seen.memory { arrays = arrays } }) in
      let mapped = map_here (computed J f) here in
      let arrays : map (map (computed J f)) (here.memory.arrays ++ replicate size (Constant (pos 0)) ∷ []) ≡ map (map f) (shared.arrays ++ replicate size zero ∷ []) =
      map-append (map (computed J f)) here.memory.arrays (replicate size (Constant (pos 0)) ∷ [])
      ∙ ap (λ (cells : List V). map (map (computed J f)) here.memory.arrays ++ cells ∷ []) (sym (replicate_map (computed J f) size (Constant (pos 0))) ∙ ap (replicate size) (sym is) ∙ replicate_map f size zero)
      ∙ ap (λ (arrays : List (List V)). arrays ++ map f (replicate size zero) ∷ []) (given_arrays shared.arrays)
      ∙ sym (map-append (map f) shared.arrays (replicate size zero ∷ [])) in
      ap (λ (fits : Bool). map_doing (computed J f) (cond fits (Moves Next (made (length (map (map Given) shared.arrays)))) (Stops machine.HeapFull))) (room_seen shared size ∙ room)
      ∙ ap (λ (number : ℕ). map_doing (computed J f) (Moves Next (made number))) (length-map shared.arrays (map Given))
      ∙ ap (λ (arrays : List (List V)). Moves Next (record mapped { stack = machine.Array (length shared.arrays) ∷ mapped.stack; memory = record mapped.memory { arrays = arrays } })) arrays
      ∙ ap (λ (here : Here V). Moves Next (record here { stack = machine.Array (length shared.arrays) ∷ here.stack; memory = record here.memory { arrays = map (map f) (shared.arrays ++ replicate size zero ∷ []) } })) (given_here frame shared)

  -- a negative length
  pub negative_length : (frame : Frame I) (shared shared' : Shared I) (size : I) (word : ℤ) (number : Option ℕ) → Some word ≡ J.known (f size) → None ≡ natural_of word → MadeThrowable shared number shared'
      → Settles J f texts (did.Makes size) frame shared (thrown_lead throwables.NegativeArraySize number) frame shared'
  negative_length frame shared shared' size (pos n) number is negative made = absurd (none-some n negative)
  negative_length frame shared shared' size (negsuc n) None is negative made =
      let here = planned_here texts frame shared in
      ap (λ (length : Option ℤ). map_doing (computed J f) (new_array (plans (λ plan. J.known (computed J f plan))) here here.stack length)) (sym is)
      ∙ ap (λ (fits : Bool). map_doing (computed J f) (cond fits (Raises shared.throwables throwables.NegativeArraySize (record here.memory { throwables = suc shared.throwables })) (Stops machine.HeapFull)))
      (made_seen shared ∙ made.0)
  negative_length frame shared shared' size (negsuc n) (Some number) is negative made =
      let here = planned_here texts frame shared in
      let shared'' = record shared { throwables = suc shared.throwables } in
      ap (λ (length : Option ℤ). map_doing (computed J f) (new_array (plans (λ plan. J.known (computed J f plan))) here here.stack length)) (sym is)
      ∙ ap (λ (fits : Bool). map_doing (computed J f) (cond fits (Raises shared.throwables throwables.NegativeArraySize (record here.memory { throwables = suc shared.throwables })) (Stops machine.HeapFull)))
      (made_seen shared ∙ made.0)
      ∙ ap (Raises shared.throwables throwables.NegativeArraySize) (given_memory shared'')
      ∙ ap (λ (n : ℕ). Raises n throwables.NegativeArraySize (memory_of f texts shared'')) (sym made.1)
      ∙ ap (λ (memory : Shared I). Raises number throwables.NegativeArraySize (memory_of f texts memory)) (sym made.2)
