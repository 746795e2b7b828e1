-- Locals as they are kept.
use Rattle.std.proofs.Common.{◌≡◌, ℕ, zero, suc, ◌<◌, ◌≤◌, List, [], ◌∷◌, ◌++◌, length, slice_set, Option, Some, None, refl, ap, arith}
use Rattle.std.specs.Prelude.{option_map}
use Rattle.ms_machine.specs.Values as machine
use Rattle.ms_machine.specs.Values.{with_local}
use Rattle.ms_interpreter.specs.declared.slot.Slot.{Slot}
use Rattle.ms_interpreter.specs.Locals.{with_slot}
use Rattle.ms_interpreter.specs.Seen.{Texts, locals_of, value_of}

-- one that is there
pub set_there : {A : Type 0} (locals : List (Option A)) (local : ℕ) (slot : A) → local < length locals → slice_set locals local (Some slot) ≡ with_slot locals local slot
set_there [] local slot within = absurd (omega (arith, within))
set_there (held ∷ locals) zero slot within = refl
set_there (held ∷ locals) (suc local) slot within = ap (λ (others : List (Option _)). held ∷ others) (set_there locals local slot (omega (arith, within)))

-- the first that isn't there
pub set_next : {A : Type 0} (locals : List (Option A)) (local : ℕ) (slot : A) → local ≡ length locals → locals ++ Some slot ∷ [] ≡ with_slot locals local slot
set_next [] zero slot next = refl
set_next [] (suc local) slot next = absurd (omega (arith, next))
set_next (held ∷ locals) zero slot next = absurd (omega (arith, next))
set_next (held ∷ locals) (suc local) slot next = ap (λ (others : List (Option _)). held ∷ others) (set_next locals local slot (omega (arith, next)))

-- one behind it
pub set_later : {A : Type 0} (locals : List (Option A)) (local : ℕ) (slot : A) → length locals ≤ local → with_slot (locals ++ None ∷ []) local slot ≡ with_slot locals local slot
set_later [] zero slot later = refl
set_later [] (suc local) slot later = refl
set_later (held ∷ locals) zero slot later = absurd (omega (arith, later))
set_later (held ∷ locals) (suc local) slot later = ap (λ (others : List (Option _)). held ∷ others) (set_later locals local slot (omega (arith, later)))

-- what the machine sees of it
pub with_slot_seen : {I V : Type 0} (f : I → V) (texts : Texts) (locals : List (Option (Slot I))) (local : ℕ) (slot : Slot I)
    → locals_of f texts (with_slot locals local slot) ≡ with_local (locals_of f texts locals) local (value_of f texts slot)
with_slot_seen f texts [] zero slot = refl
with_slot_seen f texts [] (suc local) slot = ap (λ (others : List (Option (machine.Value _))). None ∷ others) (with_slot_seen f texts [] local slot)
with_slot_seen f texts (held ∷ locals) zero slot = refl
with_slot_seen f texts (held ∷ locals) (suc local) slot =
    ap (λ (others : List (Option (machine.Value _))). option_map (value_of f texts) held ∷ others) (with_slot_seen f texts locals local slot)
