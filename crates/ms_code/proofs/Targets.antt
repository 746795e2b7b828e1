-- The targets of a switch, one by one.
use Rattle.std.proofs.Common.{◌≡◌, ℕ, List, [], ◌∷◌, ◌++◌, Bool, true, false, refl, ap, ◌∙◌}
use Rattle.std.specs.Prelude.{◌&&◌}
use Rattle.std.specs.List.{list_all}
use Rattle.ms_code.specs.declared.instruction.Case.{Case}
use Rattle.ms_code.specs.Codes.{Steps, case_targets, is_start}

pub switch_targets : (steps : Steps) (cases : List Case) (otherwise : ℕ) → list_all (is_start steps) (case_targets cases ++ otherwise ∷ []) ≡ (list_all (λ (case : Case). is_start steps case.target) cases && is_start steps otherwise)
switch_targets steps [] otherwise = by_test (is_start steps otherwise)
  where
    by_test : (b : Bool) → (b && true) ≡ b
    by_test true = refl
    by_test false = refl
switch_targets steps (case ∷ cases) otherwise = ap (λ (b : Bool). is_start steps case.target && b) (switch_targets steps cases otherwise) ∙ assoc (is_start steps case.target) (list_all (λ (c : Case). is_start steps c.target) cases) (is_start steps otherwise)
  where
    assoc : (a b c : Bool) → (a && (b && c)) ≡ ((a && b) && c)
    assoc true b c = refl
    assoc false b c = refl
