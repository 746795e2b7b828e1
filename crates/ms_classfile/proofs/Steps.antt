-- Reads one after another, and the tests between them, taken apart.
use Rattle.std.proofs.Common.{◌≡◌, Bool, true, false, cond, Option, Some, None, refl, ◌⊎◌, inl, inr}
use Rattle.std.specs.Option.{option_map}
use Rattle.ms_classfile.specs.Reading.{◌>>=◌, provided}

-- what was read first and what was read behind it, where both were read
pub then_some : {A B P : Type 0} (read : Option A) (next : A → Option B) (y : B) → (read >>= next) ≡ Some y → ((x : A) → read ≡ Some x → next x ≡ Some y → P) → P
then_some (Some x) next y found use_both = use_both x refl found
then_some None next y found use_both = absurd cc

-- the test, and what is read behind it
pub provided_some : {A : Type 0} (test : Bool) (read : Option A) (y : A) → provided test read ≡ Some y → (test ≡ true) × (read ≡ Some y)
provided_some true read y found = (refl, found)
provided_some false read y found = absurd cc

abbrev pub some : {A : Type 0} → A → Option A
some x = Some x

pub some_is : {A : Type 0} (x y : A) → some x ≡ some y → x ≡ y
some_is x y e = cc

-- which way a test went
pub either : {A : Type 0} (test : Bool) (x y z : A) → cond test x y ≡ z → ((test ≡ true) × (x ≡ z)) ⊎ ((test ≡ false) × (y ≡ z))
either true x y z e = inl (refl, e)
either false x y z e = inr (refl, e)

-- what a value was made of
pub mapped_some : {A B : Type 0} (f : A → B) (read : Option A) (y : B) → option_map f read ≡ Some y → (x : A) × (read ≡ Some x) × (f x ≡ y)
mapped_some f (Some x) y found = (x, refl, some_is (f x) y found)
mapped_some f None y found = absurd cc
