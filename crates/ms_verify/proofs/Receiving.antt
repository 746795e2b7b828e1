-- A slot that is passed a shape, and slots that are passed some.
use Rattle.std.proofs.Common.{◌≡◌, ℕ, zero, suc, ◌+◌, ◌<◌, Bool, true, false, not, ◌||◌, List, [], ◌∷◌, ◌++◌, length, map, take, drop, get_or, slice_get, slice_set, Option, Some, None, refl, sym, ap, ◌∙◌, subst, arith, add-one, eq-eqb}
use Rattle.ms_typing.specs.declared.kind.VerifyKind.TheVariants.{Merge}
use Rattle.ms_typing.specs.Kinds.{Shape, joined, same_shape}
use Rattle.ms_typing.specs.Verifier.{Cell, Fails, Leaves, Settled, Waiting, and_then, given, pass_all, received}
use Rattle.ms_typing.proofs.Classes.{some_is}
use Rattle.ms_typing.proofs.Joins.{joined_long, same_shape_is}
use Rattle.ms_typing.proofs.Sound.{leaves_is}
use Rattle.ms_verify.specs.declared.shape.Slot.{Slot}
use Rattle.ms_verify.specs.Told.{cell_of, cell_with, cells_of}

-- ONE SLOT

-- a slot with a shape is joined with one of the same depth, and waits if it waited or is changed
pub held_receives : (held shape now : Shape) (waits later changed : Bool) → now ≡ joined held shape → length held.stack ≡ length shape.stack → changed ≡ not (same_shape (joined held shape) held) → later ≡ (waits || changed)
    → received (cell_with (Some held) waits) shape ≡ Some (cell_with (Some now) later)
held_receives held shape now true later changed e d c f = rw (eq-eqb _ _ d, f, e) refl
held_receives held shape now false later changed e d c f = go (same_shape (joined held shape) held) refl
  where
    go : (b : Bool) → same_shape (joined held shape) held ≡ b → received (Settled held) shape ≡ Some (cell_with (Some now) later)
    go true g = rw (eq-eqb (length held.stack) (length shape.stack) d, f, c, g) (ap (λ x. Some (Settled x)) (sym (e ∙ same_shape_is (joined held shape) held g)))
    go false g = rw (eq-eqb (length held.stack) (length shape.stack) d, f, c, g) (ap (λ x. Some (Waiting x)) (sym e))

-- the two branches of an `or`
pub or_first : (waits later changed : Bool) → waits ≡ true → later ≡ waits → later ≡ (waits || changed)
or_first waits later changed e f = f ∙ (e ∙ ap (λ x. x || changed) (sym e))

pub or_second : (waits later changed : Bool) → waits ≡ false → later ≡ changed → later ≡ (waits || changed)
or_second waits later changed e f = f ∙ ap (λ x. x || changed) (sym e)

-- and keeps its number of locals
pub keeps_locals : (held shape now : Shape) → now ≡ joined held shape → length held.locals ≡ length shape.locals → length now.locals ≡ length shape.locals
keeps_locals held shape now e l = ap (λ x. length x.locals) e ∙ (joined_long held.locals shape.locals ∙ l)

-- ONE OF SOME SLOTS

cells_get : (slots : List Slot) (offset : ℕ) (slot : Slot) → slice_get slots offset ≡ Some slot → slice_get (cells_of slots) offset ≡ Some (cell_of slot)
cells_get [] offset slot e = cc
cells_get (first ∷ slots) zero slot e = ap (λ x. Some (cell_of x)) (some_is first slot e)
cells_get (first ∷ slots) (suc offset) slot e = cells_get slots offset slot e

pub cells_set : (slots : List Slot) (offset : ℕ) (slot : Slot) → slice_set (cells_of slots) offset (cell_of slot) ≡ cells_of (slice_set slots offset slot)
cells_set [] offset slot = refl
cells_set (first ∷ slots) zero slot = refl
cells_set (first ∷ slots) (suc offset) slot = ap (λ x. cell_of first ∷ x) (cells_set slots offset slot)

-- one offset is passed a shape
pub one_passed : (slots : List Slot) (offset : ℕ) (old new : Slot) (shape : Shape) → slice_get slots offset ≡ Some old → received (cell_of old) shape ≡ Some (cell_of new)
    → pass_all (cells_of slots) ((offset, shape) ∷ []) ≡ Leaves (cells_of (slice_set slots offset new))
one_passed slots offset old new shape e f = rw (cells_get slots offset old e, f, cells_set slots offset new) refl

pub one_refused : (slots : List Slot) (offset : ℕ) (old : Slot) (shape : Shape) → slice_get slots offset ≡ Some old → received (cell_of old) shape ≡ None → pass_all (cells_of slots) ((offset, shape) ∷ []) ≡ Fails offset Merge
one_refused slots offset old shape e f = rw (cells_get slots offset old e, f) refl

-- MORE THAN ONE

-- what is passed after the rest
pub passed_more : (passed more : List (ℕ × Shape)) (cells next : List Cell) → pass_all cells passed ≡ Leaves next → pass_all cells (passed ++ more) ≡ pass_all next more
passed_more [] more cells next e = ap (λ x. pass_all x more) (leaves_is cells next e)
passed_more (p ∷ passed) more cells next e = go (given (slice_get cells p.0) p.1) (λ new. passed_more passed more (slice_set cells p.0 new) next) e
  where
    go : (o : Option Cell) → ((new : Cell) → pass_all (slice_set cells p.0 new) passed ≡ Leaves next → pass_all (slice_set cells p.0 new) (passed ++ more) ≡ pass_all next more)
        → and_then cells p.0 o (λ x. pass_all x passed) ≡ Leaves next → and_then cells p.0 o (λ x. pass_all x (passed ++ more)) ≡ pass_all next more
    go None ih h = cc
    go (Some new) ih h = ih new h

-- where the rest is refused, so is all
pub refused_more : (passed more : List (ℕ × Shape)) (cells : List Cell) (offset : ℕ) → pass_all cells passed ≡ Fails offset Merge → pass_all cells (passed ++ more) ≡ Fails offset Merge
refused_more [] more cells offset e = cc
refused_more (p ∷ passed) more cells offset e = go (given (slice_get cells p.0) p.1) (λ new. refused_more passed more (slice_set cells p.0 new) offset) e
  where
    go : (o : Option Cell) → ((new : Cell) → pass_all (slice_set cells p.0 new) passed ≡ Fails offset Merge → pass_all (slice_set cells p.0 new) (passed ++ more) ≡ Fails offset Merge)
        → and_then cells p.0 o (λ x. pass_all x passed) ≡ Fails offset Merge → and_then cells p.0 o (λ x. pass_all x (passed ++ more)) ≡ Fails offset Merge
    go None ih h = h
    go (Some new) ih h = ih new h

-- A LOOP OVER SUCCESSORS

-- a shape for each of these offsets
abbrev pub to_each : Shape → List ℕ → List (ℕ × Shape)
to_each shape offsets = map (λ offset. (offset, shape)) offsets

each_split : (offsets : List ℕ) (n : ℕ) (shape : Shape) → n < length offsets → to_each shape offsets ≡ (to_each shape (take n offsets) ++ (get_or offsets n 0, shape) ∷ []) ++ to_each shape (drop (suc n) offsets)
each_split [] n shape l = absurd (omega arith)
each_split (offset ∷ offsets) zero shape l = refl
each_split (offset ∷ offsets) (suc n) shape l = ap (λ x. (offset, shape) ∷ x) (each_split offsets n shape (omega arith))

each_next : (offsets : List ℕ) (n : ℕ) (shape : Shape) → n < length offsets → to_each shape (take (suc n) offsets) ≡ to_each shape (take n offsets) ++ (get_or offsets n 0, shape) ∷ []
each_next [] n shape l = absurd (omega arith)
each_next (offset ∷ offsets) zero shape l = refl
each_next (offset ∷ offsets) (suc n) shape l = ap (λ x. (offset, shape) ∷ x) (each_next offsets n shape (omega arith))

-- the next one is passed it
pub each_passed : (offsets : List ℕ) (n : ℕ) (shape : Shape) (cells now next : List Cell) (offset : ℕ) → n < length offsets → offset ≡ get_or offsets n 0 → pass_all cells (to_each shape (take n offsets)) ≡ Leaves now
    → pass_all now ((offset, shape) ∷ []) ≡ Leaves next → pass_all cells (to_each shape (take (n + 1) offsets)) ≡ Leaves next
each_passed offsets n shape cells now next offset l e f g = ap (λ x. pass_all cells (to_each shape (take x offsets))) (add-one n)
    ∙ (ap (pass_all cells) (each_next offsets n shape l) ∙ (passed_more _ _ cells now f ∙ subst (λ x. pass_all now ((x, shape) ∷ []) ≡ Leaves next) e g))

-- or refuses it
pub each_refused : (offsets : List ℕ) (n : ℕ) (shape : Shape) (cells now : List Cell) (offset : ℕ) → n < length offsets → offset ≡ get_or offsets n 0 → pass_all cells (to_each shape (take n offsets)) ≡ Leaves now
    → pass_all now ((offset, shape) ∷ []) ≡ Fails offset Merge → pass_all cells (to_each shape offsets) ≡ Fails offset Merge
each_refused offsets n shape cells now offset l e f g =
    ap (pass_all cells) (each_split offsets n shape l) ∙ refused_more _ _ cells offset (passed_more _ _ cells now f ∙ subst (λ x. pass_all now ((x, shape) ∷ []) ≡ Fails offset Merge) e g)
