-- What was found, and from what.
use Rattle.std.proofs.Common.{◌≡◌, Bool, true, false, Option, Some, None, refl}
use Rattle.std.specs.Prelude.{◌&&◌, IfSome, is_some, option_map, option_and_then}

-- two values that are one answer are one
pub some_is : {A : Type 0} (x y : A) → ◌≡◌ {A = Option A} (Some x) (Some y) → x ≡ y
some_is x y e = cc

-- what was found, where it was mapped to this
pub mapped : {A B : Type 0} (f : A → B) (found : Option A) (y : B) → option_map f found ≡ Some y → (x : A) × (found ≡ Some x) × (f x ≡ y)
mapped f (Some x) y is = (x, refl, some_is (f x) y is)
mapped f None y is = absurd (let e = is in cc)

-- what was found first, where this was found with it
pub joined : {A B : Type 0} (next : A → Option B) (found : Option A) (y : B) → option_and_then next found ≡ Some y → (x : A) × (found ≡ Some x) × (next x ≡ Some y)
joined next (Some x) y is = (x, refl, is)
joined next None y is = absurd (let e = is in cc)

-- what is there
pub there : {A : Type 0} (found : Option A) → is_some found ≡ true → (x : A) × (found ≡ Some x)
there (Some x) is = (x, refl)
there None is = absurd (let e = is in cc)

-- what holds of whatever was found holds of it, if it was
pub if_some : {A : Type 0} (P : A → Type 0) (found : Option A) → ((x : A) → found ≡ Some x → P x) → IfSome found P
if_some P (Some x) each = each x refl
if_some P None each = tt

-- and what holds of it, if it was found, holds of what was found
pub of_some : {A : Type 0} (P : A → Type 0) (found : Option A) (x : A) → found ≡ Some x → IfSome found P → P x
of_some P found x is holds = let same : IfSome (Some x) P = rw is at holds in same

-- both tests hold
pub both_true : (a b : Bool) → (a && b) ≡ true → (a ≡ true) × (b ≡ true)
both_true true b is = (refl, is)
both_true false b is = absurd (let e = is in cc)
