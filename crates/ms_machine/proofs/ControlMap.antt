-- Where a doing leads commutes with a map of ints, and so do steps.
use Rattle.std.proofs.Common.{◌≡◌, ℕ, suc, Bool, true, false, cond, nat_le, List, [], ◌∷◌, map, length, Option, Some, None, refl, ap, ◌∙◌}
use Rattle.std.specs.Option.{option_map}
use Rattle.std.proofs.lemmas.List.{length-map}
use Rattle.ms_words.specs.declared.item.Item.{Item}
use Rattle.ms_words.specs.declared.thrown.Thrown.{Thrown}
use Rattle.ms_machine.specs.Ints.{Ints}
use Rattle.ms_machine.specs.Values.{Value, Int, Null, Array, Text, Throwable, Memory, Deep, Missing}
use Rattle.ms_machine.specs.Effects.{Doing, Moves, Calls, Initialises, Returns, Raises, Stops, Effect, Does, Asks, effect, by_initialiser, initialiser_name}
use Rattle.ms_machine.specs.Control.{Program, View, Views, Frame, State, Done, Goes, Ends, Then, Chooses, catching, caught, enters, entry_frame, goes_on, here_of, leaving, left_with, memory_at_start, most_frames, onto, perform, performed, place, returned_with, returns, start, step, throws, viewed}
use Rattle.ms_machine.specs.Maps.{Respects, map_doing, map_done, map_effect, map_end, map_frame, map_locals, map_memory, map_state, map_step, map_value, map_values}
use Rattle.ms_machine.specs.Tests.{map_test}
use Rattle.ms_machine.proofs.EffectMap.{by_initialiser_map, effect_map}

viewed_map : {A B : Type 0} (h : A → B) (o : Option View) (none : A) (go : View → A) (none' : B) (go' : View → B) → none' ≡ h none → ((view : View) → go' view ≡ h (go view))
    → viewed o none' go' ≡ h (viewed o none go)
viewed_map h None none go none' go' same each = same
viewed_map h (Some view) none go none' go' same each = each view

module _ {V W : Type 0} (f : V → W) where
  goes_on_map : (item : Option Item) (frame : Frame V) (below : List (Frame V)) (memory : Memory V)
      → goes_on item (map_frame f frame) (map (map_frame f) below) (map_memory f memory) ≡ map_done f (goes_on item frame below memory)
  goes_on_map None frame below memory = refl
  goes_on_map (Some item) frame below memory = refl

  caught_map : (item : Option Item) (throwable : Value V) (frame : Frame V) (below : List (Frame V)) (memory : Memory V) (otherwise : Done V) (otherwise' : Done W) → otherwise' ≡ map_done f otherwise
      → caught item (map_value f throwable) (map_frame f frame) (map (map_frame f) below) (map_memory f memory) otherwise' ≡ map_done f (caught item throwable frame below memory otherwise)
  caught_map None throwable frame below memory otherwise otherwise' same = same
  caught_map (Some item) throwable frame below memory otherwise otherwise' same = refl

  leaving_map : (initialises : Option ℕ) (otherwise : Done V) (otherwise' : Done W) → otherwise' ≡ map_done f otherwise → leaving initialises otherwise' ≡ map_done f (leaving initialises otherwise)
  leaving_map None otherwise otherwise' same = same
  leaving_map (Some class) otherwise otherwise' same = refl

  throws_map : (P : Views) (number : ℕ) (class : Thrown) (memory : Memory V) (frame : Frame V) (below : List (Frame V))
      → throws P number class (map_memory f memory) (map_frame f frame) (map (map_frame f) below) ≡ map_done f (throws P number class memory frame below)
  throws_map P number class memory frame [] =
      viewed_map (map_done f) (P frame.at) _ _ _ _ refl (λ view.
      caught_map (catching view.handlers class) (Throwable number class) frame [] memory _ _ (leaving_map frame.initialises _ _ refl))
  throws_map P number class memory frame (caller ∷ below) =
      viewed_map (map_done f) (P frame.at) _ _ _ _ refl (λ view.
      caught_map (catching view.handlers class) (Throwable number class) frame (caller ∷ below) memory _ _
      (leaving_map frame.initialises _ _ (throws_map P number class memory caller below)))

  onto_map : (result : Option (Value V)) (stack : List (Value V)) → onto (option_map (map_value f) result) (map_values f stack) ≡ map_values f (onto result stack)
  onto_map None stack = refl
  onto_map (Some v) stack = refl

  returned_map : (result : Option (Value V)) → returned_with (option_map (map_value f) result) ≡ map_end f (returned_with result)
  returned_map None = refl
  returned_map (Some (Int a)) = refl
  returned_map (Some Null) = refl
  returned_map (Some (Array number)) = refl
  returned_map (Some (Text bytes)) = refl
  returned_map (Some (Throwable number class)) = refl

  returns_map : (P : Views) (result : Option (Value V)) (memory : Memory V) (initialises : Option ℕ) (below : List (Frame V))
      → returns P (option_map (map_value f) result) (map_memory f memory) initialises (map (map_frame f) below) ≡ map_done f (returns P result memory initialises below)
  returns_map P result memory None [] = ap Ends (returned_map result)
  returns_map P result memory (Some class) [] = refl
  returns_map P result memory (Some class) (caller ∷ below) = refl
  returns_map P result memory None (caller ∷ below) =
      viewed_map (map_done f) (P caller.at) _ _ _ _ refl (λ view.
      ap (λ stack. goes_on view.next (record { at = caller.at; locals = map_locals f caller.locals; stack = stack; initialises = caller.initialises }) (map (map_frame f) below) (map_memory f memory)) (onto_map result caller.stack)
      ∙ goes_on_map view.next (record caller { stack = onto result caller.stack }) below memory)

  either_map : (b : Bool) (x y : Done V) → cond b (map_done f x) (map_done f y) ≡ map_done f (cond b x y)
  either_map true x y = refl
  either_map false x y = refl

  enters_map : (item : Option Item) (locals : List (Option (Value V))) (initialises : Option ℕ) (caller : Frame V) (below : List (Frame V)) (memory : Memory V)
      → enters item (map_locals f locals) initialises (map_frame f caller) (map (map_frame f) below) (map_memory f memory) ≡ map_done f (enters item locals initialises caller below memory)
  enters_map None locals initialises caller below memory = refl
  enters_map (Some item) locals initialises caller below memory =
      let full : Done V = Ends Deep in
      let above : Done V = Goes (record { top = record { at = item; locals = locals; stack = []; initialises = initialises }; below = caller ∷ below; memory = memory }) in
      ap (λ n. cond (nat_le most_frames (suc n)) (map_done f full) (map_done f above)) (length-map below (map_frame f))
      ∙ either_map (nat_le most_frames (suc (length below))) full above

  -- arguments become locals
  locals_map : (arguments : List (Value V)) → map (λ v. Some v) (map_values f arguments) ≡ map_locals f (map (λ v. Some v) arguments)
  locals_map [] = refl
  locals_map (v ∷ arguments) = ap (λ locals. Some (map_value f v) ∷ locals) (locals_map arguments)

  pub perform_map : (P : Views) (state : State V) (doing : Doing V) → perform P (map_state f state) (map_doing f doing) ≡ map_done f (perform P state doing)
  perform_map P state (Moves where_to here) =
      viewed_map (map_done f) (P state.top.at) _ _ _ _ refl (λ view. goes_on_map (place view where_to) (left_with state.top here) state.below here.memory)
  perform_map P state (Calls arguments here) =
      viewed_map (map_done f) (P state.top.at) _ _ _ _ refl (λ view.
      ap (λ locals. enters view.callee locals None (map_frame f (left_with state.top here)) (map (map_frame f) state.below) (map_memory f here.memory)) (locals_map arguments)
      ∙ enters_map view.callee (map (λ v. Some v) arguments) None (left_with state.top here) state.below here.memory)
  perform_map P state (Initialises class here) =
      viewed_map (map_done f) (P state.top.at) _ _ _ _ refl (λ view. enters_map view.initialiser_first [] (Some class) (left_with state.top here) state.below here.memory)
  perform_map P state (Returns result memory) = returns_map P result memory state.top.initialises state.below
  perform_map P state (Raises number class memory) = throws_map P number class memory state.top state.below
  perform_map P state (Stops end) = refl

  performed_map : (P : Views) (state : State V) (effect : Effect V) → performed P (map_state f state) (map_effect f effect) ≡ map_step f (performed P state effect)
  performed_map P state (Does doing) = ap Then (perform_map P state doing)
  performed_map P state (Asks test arms) = ap (Chooses (map_test f test)) (λ i arm. perform_map P state (arms arm) i)

  pub step_map : (I : Ints V) (J : Ints W) → Respects I J f → (P : Views) (state : State V) → step J P (map_state f state) ≡ map_step f (step I P state)
  step_map I J r P state =
      viewed_map (map_step f) (P state.top.at) _ _ _ _ refl (λ view.
      ap (performed P (map_state f state)) (effect_map f I J r view.instr (here_of state)) ∙ performed_map P state (effect I view.instr (here_of state)))

  parameters_map : (parameters : List V) → map (λ a. Some (Int a)) (map f parameters) ≡ map_locals f (map (λ a. Some (Int a)) parameters)
  parameters_map [] = refl
  parameters_map (a ∷ parameters) = ap (λ locals. Some (Int (f a)) ∷ locals) (parameters_map parameters)

  pub start_map : (P : Program) (parameters : List V) → start P (map f parameters) ≡ map_done f (start P parameters)
  start_map P parameters =
      let frame : Frame V = entry_frame P.entry.first parameters in
      let memory : Memory V = memory_at_start P.entry.class in
      let alone : Done V = Goes (record { top = frame; below = []; memory = memory }) in
      let above : Done V = enters P.entry.initialiser_first [] (Some P.entry.class) frame [] memory in
      let missing : Done V = Ends (Missing (initialiser_name P.entry.class_name)) in
      (λ i. by_initialiser P.entry.initialiser (Goes (record { top = record { at = P.entry.first; locals = parameters_map parameters i; stack = []; initialises = None }; below = []; memory = memory_at_start P.entry.class }))
      (enters P.entry.initialiser_first [] (Some P.entry.class) (record { at = P.entry.first; locals = parameters_map parameters i; stack = []; initialises = None }) [] (memory_at_start P.entry.class)) (map_done f missing))
      ∙ ap (λ done. by_initialiser P.entry.initialiser (map_done f alone) done (map_done f missing)) (enters_map P.entry.initialiser_first [] (Some P.entry.class) frame [] memory)
      ∙ by_initialiser_map (map_done f) P.entry.initialiser alone above missing
