-- The tree of throwables, one class up at a time.
use Rattle.std.proofs.Common.{◌≡◌, ℕ, ◌<◌, ◌||◌, ◌==◌, false, None, Some, refl, arith}
use Rattle.ms_words.specs.declared.thrown.Thrown.{Thrown}
use Rattle.ms_words.specs.declared.thrown.Thrown.TheVariants as throwables
use Rattle.ms_words.specs.Throwables.{is_a, number_of, parent}

-- a class stands below another one where it is that, or its parent stands below it
pub one_up : (class above other : Thrown) → parent class ≡ Some above → is_a class other ≡ ((number_of class == number_of other) || is_a above other)
one_up throwables.Throwable above other is = absurd (let e = is in cc)
one_up throwables.Exception throwables.Throwable other is = refl
one_up throwables.Error throwables.Throwable other is = refl
one_up throwables.RuntimeException throwables.Exception other is = refl
one_up throwables.IndexOutOfBounds throwables.RuntimeException other is = refl
one_up throwables.ArrayIndexOutOfBounds throwables.IndexOutOfBounds other is = refl
one_up throwables.Arithmetic throwables.RuntimeException other is = refl
one_up throwables.NegativeArraySize throwables.RuntimeException other is = refl
one_up throwables.NullPointer throwables.RuntimeException other is = refl
one_up throwables.IllegalArgument throwables.RuntimeException other is = refl
one_up throwables.IllegalState throwables.RuntimeException other is = refl
one_up throwables.UnsupportedOperation throwables.RuntimeException other is = refl
one_up class above other is = absurd (let e = is in cc)

-- how many classes stand above it
abbrev pub depth : Thrown → ℕ
depth throwables.Throwable = 0
depth throwables.Exception = 1
depth throwables.Error = 1
depth throwables.RuntimeException = 2
depth throwables.ArrayIndexOutOfBounds = 4
depth class = 3

pub up_is_lower : (class above : Thrown) → parent class ≡ Some above → depth above < depth class
up_is_lower throwables.Throwable above is = absurd (let e = is in cc)
up_is_lower throwables.Exception throwables.Throwable is = omega arith
up_is_lower throwables.Error throwables.Throwable is = omega arith
up_is_lower throwables.RuntimeException throwables.Exception is = omega arith
up_is_lower throwables.IndexOutOfBounds throwables.RuntimeException is = omega arith
up_is_lower throwables.ArrayIndexOutOfBounds throwables.IndexOutOfBounds is = omega arith
up_is_lower throwables.Arithmetic throwables.RuntimeException is = omega arith
up_is_lower throwables.NegativeArraySize throwables.RuntimeException is = omega arith
up_is_lower throwables.NullPointer throwables.RuntimeException is = omega arith
up_is_lower throwables.IllegalArgument throwables.RuntimeException is = omega arith
up_is_lower throwables.IllegalState throwables.RuntimeException is = omega arith
up_is_lower throwables.UnsupportedOperation throwables.RuntimeException is = omega arith
up_is_lower class above is = absurd (let e = is in cc)

-- where it isn't the other class, and nothing stands above it, it doesn't stand below it
pub top : (class other : Thrown) → parent class ≡ None → (number_of class == number_of other) ≡ false → is_a class other ≡ false
top throwables.Throwable other is differs = rw differs refl
top class other is differs = absurd (let e = is in cc)
