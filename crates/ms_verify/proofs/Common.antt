-- The tree of throwables, one class up at a time.
use Rattle.std.proofs.Common.{◌≡◌, ◌∷◌, false, cond, Some, refl, ap, ◌∙◌}
use Rattle.ms_words.specs.declared.thrown.Thrown.{Thrown}
use Rattle.ms_words.specs.declared.thrown.Thrown.TheVariants as throwables
use Rattle.ms_words.specs.Throwables.{is_a, parent}
use Rattle.ms_typing.specs.Kinds.{common, first_above, lineage}

-- above a class stand its parent and what stands above that
pub lineage_goes_up : (class above : Thrown) → parent class ≡ Some above → lineage class ≡ class ∷ lineage above
lineage_goes_up throwables.Throwable above is = absurd (let e = is in cc)
lineage_goes_up throwables.Exception throwables.Throwable is = refl
lineage_goes_up throwables.Error throwables.Throwable is = refl
lineage_goes_up throwables.RuntimeException throwables.Exception is = refl
lineage_goes_up throwables.IndexOutOfBounds throwables.RuntimeException is = refl
lineage_goes_up throwables.ArrayIndexOutOfBounds throwables.IndexOutOfBounds is = refl
lineage_goes_up throwables.Arithmetic throwables.RuntimeException is = refl
lineage_goes_up throwables.NegativeArraySize throwables.RuntimeException is = refl
lineage_goes_up throwables.NullPointer throwables.RuntimeException is = refl
lineage_goes_up throwables.IllegalArgument throwables.RuntimeException is = refl
lineage_goes_up throwables.IllegalState throwables.RuntimeException is = refl
lineage_goes_up throwables.UnsupportedOperation throwables.RuntimeException is = refl
lineage_goes_up class above is = absurd (let e = is in cc)

-- so where another class isn't one that the class is, look at the parent
pub common_goes_up : (class other above : Thrown) → parent class ≡ Some above → is_a other class ≡ false → common class other ≡ common above other
common_goes_up class other above is not_a = ap (first_above other) (lineage_goes_up class above is) ∙ ap (λ b. cond b class (common above other)) not_a
