-- What an adapter over a reader or a writer shows of it.
use Rattle.std.specs.Prelude.{ℕ, List, Option, Result, is_ok, if◌then◌else◌}
use Rattle.ms_outside.specs.Memory.{raised}

-- the bytes of its reader or writer, where that tells them, and how often a call failed
pub record Telling : Type 0 where
  pub known : Option (List ℕ)
  pub faults : ℕ

-- the count of faults after a call with this result: one more exactly where it failed
abbrev pub faults_after : {T E : Type 0} → ℕ → Result T E → ℕ
faults_after before result = if is_ok result then before else raised before
