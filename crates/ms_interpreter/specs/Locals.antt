-- Locals, where one that was never stored holds nothing.
use Rattle.std.specs.Prelude.{ℕ, zero, suc, List, [], ◌∷◌, Option, Some, None}

-- the locals with something in one of them
abbrev pub with_slot : {A : Type 0} → List (Option A) → ℕ → A → List (Option A)
with_slot [] zero slot = Some slot ∷ []
with_slot [] (suc local) slot = None ∷ with_slot [] local slot
with_slot (held ∷ locals) zero slot = Some slot ∷ locals
with_slot (held ∷ locals) (suc local) slot = held ∷ with_slot locals local slot
