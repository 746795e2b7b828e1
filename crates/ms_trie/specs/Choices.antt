-- The order of strings of arms.
use Rattle.std.specs.Prelude.{ℕ, List}
use Rattle.std.specs.declared.cmp.Ordering.{Ordering}
use Rattle.std.specs.Cmp.Lexicographic.{slice_cmp}
use Rattle.std.specs.Ordering.{nat_cmp}

-- choice order: arm by arm, lower arms first, and a string before those that it begins
abbrev pub choice_order : List ℕ → List ℕ → Ordering
choice_order = slice_cmp nat_cmp
