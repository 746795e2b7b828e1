-- For private functions: how writing breaks off.
use Rattle.std.specs.Prelude.{◌≡◌, ℕ, ◌<◌, ◌≤◌, List, Option, length}
use Rattle.ms_outside.specs.Counts.{Rose}
use Rattle.ms_outside.specs.Sinks.{TakesPart}
use Rattle.ms_session.specs.declared.stop.Stop.{Stop}
use Rattle.ms_session.specs.declared.stop.Stop.TheVariants as stops

-- the sink failed, or memory ran out and it didn't
abbrev pub WriteCause : Stop → ℕ → ℕ → Type 0
WriteCause stops.ShelfFault faults faults_now = ⊥
WriteCause stops.WriteFault faults faults_now = Rose faults faults_now
WriteCause stops.NoMemory faults faults_now = faults_now ≡ faults

-- a write failed only where there is a text
abbrev pub HasText : Stop → List ℕ → Type 0
HasText stops.ShelfFault text = Unit {0}
HasText stops.WriteFault text = 0 < length text
HasText stops.NoMemory text = Unit {0}

-- of this text the sink took some first bytes
pub record WriteStops (stop : Stop) (text : List ℕ) (taken taken_now : Option (List ℕ)) (faults faults_now : ℕ) : Type 0 where
  pub part : TakesPart taken taken_now text
  pub cause : WriteCause stop faults faults_now
  pub some : HasText stop text
  pub grows : faults ≤ faults_now
