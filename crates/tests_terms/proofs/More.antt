-- A literal more over a table.
use Rattle.std.proofs.Common.{ℕ, List, [], ◌∷◌, ◌++◌}
use Rattle.ms_pathcond.specs.declared.literal.Literal.{Literal}
use Rattle.ms_pathcond.specs.Literals.{AreOf, IsOf}

pub of_more : (count : ℕ) (literals : List Literal) (literal : Literal) → AreOf count literals → IsOf count literal → AreOf count (literals ++ literal ∷ [])
of_more count [] literal are is = (is, tt)
of_more count (first ∷ literals) literal are is = (are.0, of_more count literals literal are.1 is)
