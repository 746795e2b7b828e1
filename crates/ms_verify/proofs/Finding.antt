-- The lowest slot that waits, found by a loop.
use Rattle.std.proofs.Common.{◌≡◌, ℕ, zero, suc, ◌+◌, ◌<◌, Bool, true, false, ◌&&◌, List, [], ◌∷◌, length, take, get_or, slice_get, Option, Some, None, refl, sym, ap, ◌∙◌, subst, arith, add-one}
use Rattle.std.specs.Prelude.{is_some}
use Rattle.ms_typing.specs.Kinds.{Shape}
use Rattle.ms_typing.specs.Verifier.{Cell, Waiting, further, lowest}
use Rattle.ms_typing.proofs.Classes.{some_is}
use Rattle.ms_typing.proofs.Sound.{lowest_waits}
use Rattle.ms_verify.specs.declared.shape.Slot.{Slot}
use Rattle.ms_verify.specs.Told.{IsLowest, cell_of, cell_with, cells_of, waiting}

pub further_none : (o : Option (ℕ × Shape)) → further o ≡ None → o ≡ None
further_none None e = refl
further_none (Some found) e = cc

-- what a slot is, by whether it waits
abbrev Decided : Slot → Bool → Type 0
Decided slot true = (shape : Shape) × (cell_of slot ≡ Waiting shape)
Decided slot false = (cells : List Cell) → lowest (cell_of slot ∷ cells) ≡ further (lowest cells)

decided_with : (shape : Option Shape) (waits : Bool) → Decided (record { shape = shape; waits = waits }) (waits && is_some shape)
decided_with None true = λ cells. refl
decided_with None false = λ cells. refl
decided_with (Some shape) true = (shape, refl)
decided_with (Some shape) false = λ cells. refl

decided : (slot : Slot) (b : Bool) → waiting slot ≡ b → Decided slot b
decided slot b e = subst (Decided slot) e (decided_with slot.shape slot.waits)

-- one that waits isn't below the lowest that does
none_first : (slot : Slot) (cells : List Cell) (A : Type 0) → waiting slot ≡ true → lowest (cell_of slot ∷ cells) ≡ None → A
none_first slot cells A w e = let d = decided slot true w in absurd (let f : lowest (Waiting d.0 ∷ cells) ≡ None = ap (λ c. lowest (c ∷ cells)) (sym d.1) ∙ e in cc)

-- the first that waits is the lowest
first_is_lowest : (slots : List Slot) (n : ℕ) (d : Slot) → lowest (cells_of (take n slots)) ≡ None → n < length slots → waiting (get_or slots n d) ≡ true → IsLowest slots n
first_is_lowest [] n d e l w = absurd (omega arith)
first_is_lowest (slot ∷ slots) zero d e l w = let x = decided slot true w in (x.0, ap (λ c. lowest (c ∷ cells_of slots)) x.1)
first_is_lowest (slot ∷ slots) (suc n) d e l w = go (waiting slot) refl (λ f. first_is_lowest slots n d f (omega arith) w)
  where
    go : (b : Bool) → waiting slot ≡ b → (lowest (cells_of (take n slots)) ≡ None → IsLowest slots n) → IsLowest (slot ∷ slots) (suc n)
    go true f ih = none_first slot (cells_of (take n slots)) _ f e
    go false f ih = let x = decided slot false f in let y = ih (further_none (lowest (cells_of (take n slots))) (sym (x _) ∙ e)) in (y.0, x _ ∙ ap further y.1)

pub waits_here : (slots : List Slot) (n : ℕ) (d : Slot) → lowest (cells_of (take n slots)) ≡ None → n < length slots → true ≡ waiting (get_or slots n d) → IsLowest slots n
waits_here slots n d e l w = first_is_lowest slots n d e l (sym w)

-- and one that doesn't wait is passed over
one_over : (slots : List Slot) (n : ℕ) (d : Slot) → lowest (cells_of (take n slots)) ≡ None → waiting (get_or slots n d) ≡ false → lowest (cells_of (take (suc n) slots)) ≡ None
one_over [] n d e w = refl
one_over (slot ∷ slots) zero d e w = decided slot false w []
one_over (slot ∷ slots) (suc n) d e w = go (waiting slot) refl (λ f. one_over slots n d f w)
  where
    go : (b : Bool) → waiting slot ≡ b → (lowest (cells_of (take n slots)) ≡ None → lowest (cells_of (take (suc n) slots)) ≡ None) → lowest (cell_of slot ∷ cells_of (take (suc n) slots)) ≡ None
    go true f ih = none_first slot (cells_of (take n slots)) _ f e
    go false f ih = let x = decided slot false f in x _ ∙ ap further (ih (further_none (lowest (cells_of (take n slots))) (sym (x _) ∙ e)))

pub waits_later : (slots : List Slot) (n : ℕ) (d : Slot) → lowest (cells_of (take n slots)) ≡ None → false ≡ waiting (get_or slots n d) → lowest (cells_of (take (n + 1) slots)) ≡ None
waits_later slots n d e w = ap (λ x. lowest (cells_of (take x slots))) (add-one n) ∙ one_over slots n d e (sym w)

-- THE SLOT OF THE LOWEST OFFSET

waiting_shape : (o : Option Shape) (waits : Bool) (shape : Shape) → cell_with o waits ≡ Waiting shape → o ≡ Some shape
waiting_shape None waits shape e = cc
waiting_shape (Some held) true shape e = let f : held ≡ shape = cc in ap (λ x. Some x) f
waiting_shape (Some held) false shape e = cc

slot_at : (slots : List Slot) (offset : ℕ) (cell : Cell) (d : Slot) → slice_get (cells_of slots) offset ≡ Some cell → (offset < length slots) × (cell_of (get_or slots offset d) ≡ cell)
slot_at [] offset cell d e = cc
slot_at (slot ∷ slots) zero cell d e = (omega arith, some_is _ cell e)
slot_at (slot ∷ slots) (suc offset) cell d e = let x = slot_at slots offset cell d e in (omega arith, x.1)

-- it is one of the slots
pub lowest_within : (slots : List Slot) (offset : ℕ) → IsLowest slots offset → offset < length slots
lowest_within slots offset h = (slot_at slots offset _ (record { shape = None; waits = false }) (lowest_waits (cells_of slots) (offset, h.0) h.1)).0

-- and has the shape
pub lowest_shape : (slots : List Slot) (offset : ℕ) (d : Slot) (h : IsLowest slots offset) → (get_or slots offset d).shape ≡ Some h.0
lowest_shape slots offset d h = let slot = get_or slots offset d in waiting_shape slot.shape slot.waits h.0 (slot_at slots offset _ d (lowest_waits (cells_of slots) (offset, h.0) h.1)).1

pub lowest_copied : (slots : List Slot) (offset : ℕ) (d : Slot) (shape : Shape) → IsLowest slots offset → (get_or slots offset d).shape ≡ Some shape → lowest (cells_of slots) ≡ Some (offset, shape)
lowest_copied slots offset d shape h e = subst (λ x. lowest (cells_of slots) ≡ Some (offset, x)) (some_is h.0 shape (sym (lowest_shape slots offset d h) ∙ e)) h.1
