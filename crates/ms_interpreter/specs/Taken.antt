-- Slots taken from a stack.
use Rattle.std.specs.Prelude.{◌≡◌, ℕ, ◌<◌, ◌≤◌, List, length, take, drop, Option, Some, None}
use Rattle.ms_interpreter.specs.declared.slot.Slot.{Slot}
use Rattle.ms_interpreter.specs.Frames.{Frame}

-- so many were taken, the top first; or none, since there are fewer
abbrev pub Takes : {I : Type 0} → ℕ → Frame I → Option (List (Slot I)) → Frame I → Type 0
Takes count frame None frame' = (length frame.stack < count) × (frame'.at ≡ frame.at) × (frame'.initialises ≡ frame.initialises)
Takes count frame (Some slots) frame' = (count ≤ length frame.stack) × (slots ≡ take count frame.stack) × (frame' ≡ record frame { stack = drop count frame.stack })
