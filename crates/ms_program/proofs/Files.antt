-- The bodies of the methods of a file, one after another.
use Rattle.std.proofs.Common.{ℕ, ◌+◌, ◌<◌, ◌≤◌, All, List, [], ◌∷◌, ◌++◌, length, map, drop, get_or, Option, inl, inr, sym, subst, append_assoc, append-nil, drop_of_length-le}
use Rattle.std.proofs.lemmas.List.{drop_more, get_or-map, length-map}
use Rattle.ms_pool.specs.declared.code.ClassKind.{ClassKind}
use Rattle.ms_pool.specs.Pools.{Placed}
use Rattle.ms_classfile.specs.ClassFile.{Method}
use Rattle.ms_classfile.specs.ClassViews.{method_view}
use Rattle.ms_classfile.specs.declared.class.MethodRow.{MethodRow}
use Rattle.ms_classfile.specs.declared.fault.ClassFault.{ClassFault}
use Rattle.ms_classfile.specs.declared.fault.ClassFault.TheVariants.{At, NoMemory}
use Rattle.ms_program.specs.declared.body.Body.{Body}
use Rattle.ms_program.specs.Files.{AreAtFault, AreBodies, HasCodeAtFault, IsBody, IsMethodFault}

-- These are the bodies of the methods before those that are left: with bodies of those that are left they are all, and the
-- first fault of those that are left is that of all.
pub record AreFirst (pool : List (Option Placed)) (methods left : List Method) (bodies : List (Option Body)) : Type 0 where
  pub all : (rest : List (Option Body)) → AreBodies pool left rest → AreBodies pool methods (bodies ++ rest)
  pub fault : (kind : ClassKind) (at : ℕ) → HasCodeAtFault pool left kind at → HasCodeAtFault pool methods kind at

-- there are none at first
pub none_first : (pool : List (Option Placed)) (methods : List Method) → AreFirst pool methods methods []
none_first pool methods = record { all = λ rest are. are; fault = λ kind at has. has }

-- THE SAME, OF ROWS

-- these are the bodies of the methods of so many first rows
abbrev pub AreUpTo : List (Option Placed) → List MethodRow → ℕ → List (Option Body) → Type 0
AreUpTo pool rows at bodies = AreFirst pool (map method_view rows) (map method_view (drop at rows)) bodies

module _ (pool : List (Option Placed)) (rows : List MethodRow) (at : ℕ) (row : MethodRow) (bodies : List (Option Body)) where
  -- the next one is first among those that are left
  next : at < length rows → AreUpTo pool rows at bodies → AreFirst pool (map method_view rows) (method_view (get_or rows at row) ∷ map method_view (drop (at + 1) rows)) bodies
  next within first = subst (λ (left : List MethodRow). AreFirst pool (map method_view rows) (map method_view left) bodies) (drop_more rows at row within) first

  -- one more
  pub one_more : (body : Option Body) → at < length rows → AreUpTo pool rows at bodies → IsBody pool (method_view (get_or rows at row)) body → AreUpTo pool rows (at + 1) (bodies ++ body ∷ [])
  one_more body within first is = record {
    all = λ rest are. subst (λ (l : List (Option Body)). AreBodies pool (map method_view rows) l) (sym (append_assoc bodies (body ∷ []) rest)) ((next within first).all (body ∷ rest) (is, are));
    fault = λ kind at has. (next within first).fault kind at (inr (body, (is, has)));
  }

  -- a fault of the next one
  pub next_at_fault : (fault : ClassFault) → at < length rows → AreUpTo pool rows at bodies → IsMethodFault pool (method_view (get_or rows at row)) fault → AreAtFault pool (map method_view rows) fault
  next_at_fault (At kind place) within first has = (next within first).fault kind place (inl has)
  next_at_fault NoMemory within first has = tt

-- they are all
pub all_there : (pool : List (Option Placed)) (rows : List MethodRow) (at : ℕ) (bodies : List (Option Body)) → length rows ≤ at → AreUpTo pool rows at bodies → AreBodies pool (map method_view rows) bodies
all_there pool rows at bodies past first =
    let left : AreFirst pool (map method_view rows) [] bodies = subst (λ (left : List MethodRow). AreFirst pool (map method_view rows) (map method_view left) bodies) (drop_of_length-le rows past) first in
    subst (λ (l : List (Option Body)). AreBodies pool (map method_view rows) l) (append-nil bodies) (left.all [] tt)

-- what holds of all methods holds of that of a row
pub of_row : (P : Method → Type 0) (rows : List MethodRow) (at : ℕ) (row : MethodRow) → All P (map method_view rows) → at < length rows → P (method_view (get_or rows at row))
of_row P rows at row all within =
    subst P (get_or-map method_view rows at row (method_view row) within) (all at (method_view row) (subst (λ (n : ℕ). at < n) (sym (length-map rows method_view)) within))
