-- What a state stands for stays as the table grows.
use Rattle.std.proofs.Common.{◌≡◌, List, [], ◌∷◌, map, reverse, Option, Some, None, refl, ap, ◌∙◌}
use Rattle.std.specs.Prelude.{IsSome, option_map}
use Rattle.ms_machine.specs.Values as machine
use Rattle.ms_machine.specs.Values.{Value}
use Rattle.ms_machine.specs.Control as control
use Rattle.ms_machine.specs.Control.{Done, Goes, Ends}
use Rattle.ms_machine.specs.Maps.{map_frame, map_locals, map_memory, map_state, map_static, map_value, map_values}
use Rattle.ms_interpreter.specs.declared.slot.Slot.{Slot}
use Rattle.ms_interpreter.specs.declared.slot.Slot.TheVariants as slots
use Rattle.ms_interpreter.specs.declared.state.State.{State}
use Rattle.ms_interpreter.specs.Frames.{Field, Frame, Shared}
use Rattle.ms_interpreter.specs.Leads.{state_of}
use Rattle.ms_interpreter.specs.Seen.{Texts, frame_of, locals_of, memory_of, static_of, value_of, values_of}
use Rattle.ms_interpreter.specs.Staying.{Stay}

-- LISTS

module _ {A B C : Type 0} (f g : A → C) (h : B → C) (each : (a : A) (b : B) → f a ≡ h b → g a ≡ h b) where
  list_stays : (xs : List A) (ys : List B) → map f xs ≡ map h ys → map g xs ≡ map h ys
  list_stays [] [] is = is
  list_stays [] (y ∷ ys) is = absurd (let e = is in cc)
  list_stays (x ∷ xs) [] is = absurd (let e = is in cc)
  list_stays (x ∷ xs) (y ∷ ys) is =
      let first : f x ≡ h y = (let e = is in cc) in
      let rest : map f xs ≡ map h ys = (let e = is in cc) in
      (λ j. each x y first j ∷ list_stays xs ys rest j)

  option_stays : (x : Option A) (y : Option B) → option_map f x ≡ option_map h y → option_map g x ≡ option_map h y
  option_stays None None is = is
  option_stays None (Some y) is = absurd (let e = is in cc)
  option_stays (Some x) None is = absurd (let e = is in cc)
  option_stays (Some x) (Some y) is = ap Some (each x y (let e = is in cc))

-- STATES

module _ {I T : Type 0} (f g : I → Option T) (stay : Stay (λ v. IsSome v) f g) (texts : Texts) where
  abbrev there : T → Option T
  there t = Some t

  some_is : (v : Option T) (t : T) → v ≡ Some t → IsSome v
  some_is None t is = absurd (let e = is in cc)
  some_is (Some u) t is = refl

  int_stays : (a : I) (t : T) → f a ≡ Some t → g a ≡ Some t
  int_stays a t is = stay a (some_is (f a) t is) ∙ is

  value_stays : (slot : Slot I) (v : Value T) → value_of f texts slot ≡ map_value there v → value_of g texts slot ≡ map_value there v
  value_stays (slots.Int a) (machine.Int t) is = ap machine.Int (int_stays a t (let e = is in cc))
  value_stays (slots.Int a) machine.Null is = absurd (let e = is in cc)
  value_stays (slots.Int a) (machine.Array number) is = absurd (let e = is in cc)
  value_stays (slots.Int a) (machine.Text bytes) is = absurd (let e = is in cc)
  value_stays (slots.Int a) (machine.Throwable number class) is = absurd (let e = is in cc)
  value_stays slots.Null v is = is
  value_stays (slots.Array number) v is = is
  value_stays (slots.Text item) v is = is
  value_stays (slots.Throwable number class) v is = is

  values_stay : (stack : List (Slot I)) (values : List (Value T)) → values_of f texts stack ≡ map_values there values → values_of g texts stack ≡ map_values there values
  values_stay = list_stays (value_of f texts) (value_of g texts) (map_value there) value_stays

  pub locals_stay : (locals : List (Option (Slot I))) (values : List (Option (Value T))) → locals_of f texts locals ≡ map_locals there values → locals_of g texts locals ≡ map_locals there values
  locals_stay = list_stays (option_map (value_of f texts)) (option_map (value_of g texts)) (option_map (map_value there)) (option_stays (value_of f texts) (value_of g texts) (map_value there) value_stays)

  static_stays : (field : Field I) (static : machine.Static T) → static_of f texts field ≡ map_static there static → static_of g texts field ≡ map_static there static
  static_stays field static is =
      let value = value_stays field.slot static.value (ap (λ (s : machine.Static (Option T)). s.value) is) in
      (λ j. record { class = (is j).class; name = (is j).name; descriptor = (is j).descriptor; value = value j })

  memory_stays : (shared : Shared I) (memory : machine.Memory T) → memory_of f texts shared ≡ map_memory there memory → memory_of g texts shared ≡ map_memory there memory
  memory_stays shared memory is =
      let statics = list_stays (static_of f texts) (static_of g texts) (map_static there) static_stays shared.statics memory.statics (ap (λ (m : machine.Memory (Option T)). m.statics) is) in
      let arrays = list_stays (map f) (map g) (map there) (list_stays f g there int_stays) shared.arrays memory.arrays (ap (λ (m : machine.Memory (Option T)). m.arrays) is) in
      (λ j. record { statics = statics j; started = (is j).started; arrays = arrays j; throwables = (is j).throwables })

  frame_stays : (frame : Frame I) (seen : control.Frame T) → frame_of f texts frame ≡ map_frame there seen → frame_of g texts frame ≡ map_frame there seen
  frame_stays frame seen is =
      let locals = locals_stay frame.locals seen.locals (ap (λ (s : control.Frame (Option T)). s.locals) is) in
      let stack = values_stay frame.stack seen.stack (ap (λ (s : control.Frame (Option T)). s.stack) is) in
      (λ j. record { at = (is j).at; locals = locals j; stack = stack j; initialises = (is j).initialises })

  pub state_stays : (state : State I) (seen : control.State T) → state_of f texts state ≡ map_state there seen → state_of g texts state ≡ map_state there seen
  state_stays state seen is =
      let top = frame_stays state.top seen.top (ap (λ (s : control.State (Option T)). s.top) is) in
      let below = list_stays (frame_of f texts) (frame_of g texts) (map_frame there) frame_stays (reverse state.below.items) seen.below (ap (λ (s : control.State (Option T)). s.below) is) in
      let memory = memory_stays state.memory seen.memory (ap (λ (s : control.State (Option T)). s.memory) is) in
      (λ j. record { top = top j; below = below j; memory = memory j })
