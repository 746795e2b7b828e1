-- Instructions as the code has them: their parts without numbers of the pool and without targets.
use Rattle.std.proofs.Common.{◌≡◌, List, [], ◌∷◌, map, refl, ap}
use Rattle.ms_code.specs.declared.instruction.Case.{Case}
use Rattle.ms_program.specs.Views.{bare_case}

-- the keys are those of the cases without targets
pub keys_stay : (cases : List Case) → map (λ (case : Case). case.key) (map bare_case cases) ≡ map (λ (case : Case). case.key) cases
keys_stay [] = refl
keys_stay (case ∷ cases) = ap (λ keys. case.key ∷ keys) (keys_stay cases)
