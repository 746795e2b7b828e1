-- What a shuffle of the stack did.
use Rattle.std.proofs.Common.{◌≡◌, ℕ, ◌<◌, ◌≤◌, List, [], ◌∷◌, ◌++◌, length, map, slice_get, take, drop, Option, Some, None, refl, sym, ap, subst, ◌∙◌}
use Rattle.std.specs.Prelude.{option_map}
use Rattle.std.proofs.lemmas.List.{drop-map, length-map, map-append, take-map}
use Rattle.std.proofs.lemmas.Option.{slice_get-map}
use Rattle.ms_machine.specs.Instructions.{Shuffle}
use Rattle.ms_machine.specs.Values.{Value}
use Rattle.ms_machine.specs.Effects.{Does, Effect, next, on_some, taking, values_at, with_value}
use Rattle.ms_interpreter.specs.declared.did.Did.TheVariants as did
use Rattle.ms_interpreter.specs.declared.did.Stop.TheVariants as stops
use Rattle.ms_interpreter.specs.declared.slot.Slot.{Slot}
use Rattle.ms_interpreter.specs.Doing.{ActsAnyhow, for_arm, planned_here}
use Rattle.ms_interpreter.specs.Frames.{Frame, Shared}
use Rattle.ms_interpreter.specs.Plans.{Given, Planned}
use Rattle.ms_interpreter.specs.Seen.{Texts, value_of, values_of}
use Rattle.ms_interpreter.proofs.Taking.{taken, too_many}

-- a map carried to values of places
with_mapped : {A B : Type 0} (f : A → B) (value : Option A) (values : Option (List A)) → with_value (option_map f value) (option_map (map f) values) ≡ option_map (map f) (with_value value values)
with_mapped f None values = refl
with_mapped f (Some value) None = refl
with_mapped f (Some value) (Some values) = refl

mapped_at : {A B : Type 0} (f : A → B) (values : List A) (places : List ℕ) → values_at (map f values) places ≡ option_map (map f) (values_at values places)
mapped_at f values [] = refl
mapped_at f values (place ∷ places) =
    ap (λ (value : Option _). with_value value (values_at (map f values) places)) (slice_get-map f values place)
    ∙ ap (λ (others : Option (List _)). with_value (option_map f (slice_get values place)) others) (mapped_at f values places)
    ∙ with_mapped f (slice_get values place) (values_at values places)

module _ {I : Type 0} (count : ℕ) (places : List ℕ) (frame : Frame I) (shared : Shared I) where
  -- what is done with those that were taken
  abbrev with_taken : Texts → List (Value (Planned I)) → List (Value (Planned I)) → Effect (Planned I)
  with_taken texts values below = on_some (values_at values places) (λ back. Does (next (planned_here texts frame shared) (back ++ below)))

  pub too_few : (frame' : Frame I) → length frame.stack < count → ActsAnyhow (Shuffle count places) frame shared (did.Stops stops.Stuck) frame' shared
  too_few frame' few texts arm known =
      ap (for_arm arm) (too_many count (values_of Given texts frame.stack) (with_taken texts) (subst (λ (n : ℕ). n < count) (sym (length-map frame.stack (value_of Given texts))) few))

  module _ (texts : Texts) (enough : count ≤ length frame.stack) where
    taken_is : taking count (values_of Given texts frame.stack) (with_taken texts) ≡ with_taken texts (values_of Given texts (take count frame.stack)) (values_of Given texts (drop count frame.stack))
    taken_is =
        taken count (values_of Given texts frame.stack) (with_taken texts) (subst (λ (n : ℕ). count ≤ n) (sym (length-map frame.stack (value_of Given texts))) enough)
        ∙ ap (λ (values : List (Value (Planned I))). with_taken texts values (drop count (values_of Given texts frame.stack))) (take-map (value_of Given texts) count frame.stack)
        ∙ ap (λ (below : List (Value (Planned I))). with_taken texts (values_of Given texts (take count frame.stack)) below) (drop-map (value_of Given texts) count frame.stack)

  pub nothing_there : (frame' : Frame I) → count ≤ length frame.stack → values_at (take count frame.stack) places ≡ None → ActsAnyhow (Shuffle count places) frame shared (did.Stops stops.Stuck) frame' shared
  nothing_there frame' enough none texts arm known =
      ap (for_arm arm) (taken_is texts enough
      ∙ ap (λ (back : Option (List (Value (Planned I)))). on_some back (λ values. Does (next (planned_here texts frame shared) (values ++ values_of Given texts (drop count frame.stack)))))
      (mapped_at (value_of Given texts) (take count frame.stack) places ∙ ap (option_map (map (value_of Given texts))) none))

  pub shuffled : (back : List (Slot I)) (frame' : Frame I) → count ≤ length frame.stack → values_at (take count frame.stack) places ≡ Some back
      → frame' ≡ record frame { stack = back ++ drop count frame.stack } → ActsAnyhow (Shuffle count places) frame shared did.Next frame' shared
  shuffled back frame' enough some left texts arm known =
      rw left (ap (for_arm arm) (taken_is texts enough
      ∙ ap (λ (found : Option (List (Value (Planned I)))). on_some found (λ values. Does (next (planned_here texts frame shared) (values ++ values_of Given texts (drop count frame.stack)))))
      (mapped_at (value_of Given texts) (take count frame.stack) places ∙ ap (option_map (map (value_of Given texts))) some)
      ∙ ap (λ (stack : List (Value (Planned I))). Does (next (planned_here texts frame shared) stack)) (sym (map-append (value_of Given texts) back (drop count frame.stack)))))
