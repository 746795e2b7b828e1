-- Counts of what went wrong outside. They never fall.
use Rattle.std.specs.Prelude.{◌≡◌, ℕ, ◌+◌, ◌-◌, ◌^◌, ◌≤◌, min, Result, OnOk, OnErr}

-- The count rose. One of 64 bits that stands at its last value stays there, and is then meant to have risen.
abbrev pub Rose : ℕ → ℕ → Type 0
Rose before now = min (before + 1) (2 ^ 64 - 1) ≤ now

-- what each call says of its object's count of faults: it rose where the call failed, and stayed where it didn't
pub record HasCause {T E : Type 0} (before now : ℕ) (result : Result T E) : Type 0 where
  pub grows : before ≤ now
  pub steady : OnOk result (now ≡ before)
  pub fault : OnErr result (Rose before now)

-- how often a shelf failed, had no file of a name, and had one that is too long
pub record ShelfCounts : Type 0 where
  pub faults : ℕ
  pub misses : ℕ
  pub overlong : ℕ

-- none of the three fell
pub record CountsGrow (before now : ShelfCounts) : Type 0 where
  pub faults : before.faults ≤ now.faults
  pub misses : before.misses ≤ now.misses
  pub overlong : before.overlong ≤ now.overlong
