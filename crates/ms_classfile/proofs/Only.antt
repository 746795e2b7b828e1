-- The one element of a list.
use Rattle.std.proofs.Common.{◌≡◌, List, [], ◌∷◌, Option, Some, None, ap}
use Rattle.ms_classfile.specs.Reading.{only}
use Rattle.ms_classfile.proofs.Steps.{some_is}

-- a list that has one element is that element
pub only_is : {X : Type 0} (xs : List X) (x : X) → only xs ≡ Some x → xs ≡ x ∷ []
only_is [] x found = absurd cc
only_is {X = X} (y ∷ []) x found = ap (λ (z : X). z ∷ []) (some_is y x found)
only_is (y ∷ z ∷ more) x found = absurd cc

-- the one element that passes a test, as a loop finds it, where this one was met before, or none
abbrev pub only_after : {X : Type 0} → Option X → List X → Option X
only_after None rest = only rest
only_after (Some x) [] = Some x
only_after (Some x) (y ∷ rest) = None
