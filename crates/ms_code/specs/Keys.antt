-- The cases of a switch and its keys.
use Rattle.std.specs.Prelude.{ℕ, List, [], ◌∷◌, Bool, true, ◌&&◌, ℤ, int_lt}
use Rattle.ms_code.specs.declared.instruction.Case.{Case}

-- what a switch says: its cases in the order of the table, and the target of its default
pub record SwitchCases : Type 0 where
  pub cases : List Case
  pub otherwise : ℕ

-- whether the keys of the cases are above this one and ascend strictly
abbrev pub ascend_above : ℤ → List Case → Bool
ascend_above key [] = true
ascend_above key (case ∷ cases) = int_lt key case.key && ascend_above case.key cases

-- whether the keys ascend strictly
abbrev pub keys_ascend : List Case → Bool
keys_ascend [] = true
keys_ascend (case ∷ cases) = ascend_above case.key cases
