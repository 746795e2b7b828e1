-- What a turn leaves below the lowest offset that it leads to and that waits: none that waits.
use Rattle.std.proofs.Common.{◌≡◌, ℕ, zero, suc, ◌<◌, ◌≤◌, Bool, true, false, cond, ◌&&◌, is_some, nat_lt, get_or, inl, inr, List, [], ◌∷◌, All, length, map, take, slice_get, slice_set, Option, Some, None, refl, sym, ap, ◌∙◌, subst, arith}
use Rattle.std.specs.Prelude.{is_none}
use Rattle.std.proofs.lemmas.Bool.{ltb-false, ltb-true}
use Rattle.std.proofs.lemmas.List.Elements.{All-append, All-cons, All-head, All-map, All-nil, All-tail, All-weaker}
use Rattle.std.specs.List.{filter}
use Rattle.ms_words.specs.declared.thrown.Thrown.{Thrown}
use Rattle.ms_code.specs.declared.decoded.Handler.{Handler}
use Rattle.ms_program.specs.Views.{covers}
use Rattle.ms_typing.specs.declared.kind.VerifyKind.{VerifyKind}
use Rattle.ms_typing.specs.Kinds.{Shape}
use Rattle.ms_typing.specs.Rules.{after, fault}
use Rattle.ms_typing.specs.Verifier as typing
use Rattle.ms_typing.specs.Verifier.{Cell, Leaves, Method, Settled, Unreached, Waiting, and_then, further, given, line_at, lowest, pass_all, passes, successors, taken, to_handler, turn, unless_at_fault}
use Rattle.ms_typing.proofs.Classes.{some_is}
use Rattle.ms_typing.proofs.Sound.{get_either, get_stored, leaves_is, lowest_waits}
use Rattle.ms_verify.specs.declared.line.Code.{Code}
use Rattle.ms_verify.specs.declared.line.Line.{Line}
use Rattle.ms_verify.specs.declared.shape.Slot.{Slot}
use Rattle.ms_verify.specs.Told.{IsLow, IsWhole, RestsBelow, cell_of, cell_with, cells_of, handler_told, handlers_at, line_told, method_told, rests, waiting}
use Rattle.ms_verify.proofs.Receiving.{to_each}

-- FIRST CELLS

-- the first of the cells of slots
pub cells_first : (n : ℕ) (slots : List Slot) → cells_of (take n slots) ≡ take n (cells_of slots)
cells_first zero slots = refl
cells_first (suc n) [] = refl
cells_first (suc n) (slot ∷ slots) = ap (λ x. cell_of slot ∷ x) (cells_first n slots)

-- where none of the first waits, there is no lowest among them
none_first : (n : ℕ) (cells : List Cell) → ((place : ℕ) → place < n → rests (slice_get cells place) ≡ true) → lowest (take n cells) ≡ None
none_first zero cells rest = refl
none_first (suc n) [] rest = refl
none_first (suc n) (Waiting shape ∷ cells) rest = absurd (let e = rest 0 (omega arith) in cc)
none_first (suc n) (Unreached ∷ cells) rest = ap further (none_first n cells (λ place l. rest (suc place) (omega arith)))
none_first (suc n) (Settled shape ∷ cells) rest = ap further (none_first n cells (λ place l. rest (suc place) (omega arith)))

-- below the lowest that waits none waits
rests_further : (cells : List Cell) (place at : ℕ) (shape : Shape) (o : Option (ℕ × Shape)) → lowest cells ≡ o → further o ≡ Some (at, shape) → suc place < at
    → ((before : ℕ) (held : Shape) → lowest cells ≡ Some (before, held) → place < before → rests (slice_get cells place) ≡ true) → rests (slice_get cells place) ≡ true
rests_further cells place at shape None e f l ih = cc
rests_further cells place at shape (Some found) e f l ih =
    let g : suc found.0 ≡ at = ap (λ (x : ℕ × Shape). x.0) (some_is (suc found.0, found.1) (at, shape) f) in ih found.0 found.1 e (omega arith)

rests_before : (cells : List Cell) (place at : ℕ) (shape : Shape) → lowest cells ≡ Some (at, shape) → place < at → rests (slice_get cells place) ≡ true
rests_before [] place at shape e l = cc
rests_before (Waiting held ∷ cells) place at shape e l = let g : 0 ≡ at = ap (λ (x : ℕ × Shape). x.0) (some_is (0, held) (at, shape) e) in absurd (omega arith)
rests_before (Unreached ∷ cells) zero at shape e l = refl
rests_before (Settled held ∷ cells) zero at shape e l = refl
rests_before (Unreached ∷ cells) (suc place) at shape e l = rests_further cells place at shape (lowest cells) refl e l (rests_before cells place)
rests_before (Settled held ∷ cells) (suc place) at shape e l = rests_further cells place at shape (lowest cells) refl e l (rests_before cells place)

-- a slot that doesn't wait
at_rest : (slot : Slot) → waiting slot ≡ false → rests (Some (cell_of slot)) ≡ true
at_rest slot e = by_parts slot.shape slot.waits e
  where
    by_parts : (shape : Option Shape) (waits : Bool) → (waits && is_some shape) ≡ false → rests (Some (cell_with shape waits)) ≡ true
    by_parts None waits f = refl
    by_parts (Some shape) true f = cc
    by_parts (Some shape) false f = refl

pub one_rests : (slots : List Slot) (offset : ℕ) (d : Slot) → waiting (get_or slots offset d) ≡ false → rests (slice_get (cells_of slots) offset) ≡ true
one_rests [] offset d e = refl
one_rests (slot ∷ slots) zero d e = at_rest slot e
one_rests (slot ∷ slots) (suc offset) d e = one_rests slots offset d e

-- TURNS

-- what is passed on leaves an offset at rest, if those do that it is passed to
passed_rest : (low place : ℕ) (passed : List (ℕ × Shape)) (cells next : List Cell) → place < low → All (λ (p : ℕ × Shape). p.0 < low → rests (slice_get next p.0) ≡ true) passed → rests (slice_get cells place) ≡ true
    → pass_all cells passed ≡ Leaves next → rests (slice_get next place) ≡ true
passed_rest low place [] cells next l a r e = subst (λ c. rests (slice_get c place) ≡ true) (leaves_is cells next e) r
passed_rest low place (p ∷ passed) cells next l a r e =
    go (given (slice_get cells p.0) p.1) (λ new f h. passed_rest low place passed (slice_set cells p.0 new) next l (All-tail (λ (x : ℕ × Shape). x.0 < low → rests (slice_get next x.0) ≡ true) p passed a) (subst (λ x. rests x ≡ true) (sym f) r) h) e
  where
    go : (o : Option Cell) → ((new : Cell) → slice_get (slice_set cells p.0 new) place ≡ slice_get cells place → pass_all (slice_set cells p.0 new) passed ≡ Leaves next → rests (slice_get next place) ≡ true)
        → and_then cells p.0 o (λ x. pass_all x passed) ≡ Leaves next → rests (slice_get next place) ≡ true
    go None ih h = cc
    go (Some new) ih h = elim (get_either cells p.0 place new) [
      | inl f ↦ subst (λ x. rests (slice_get next x) ≡ true) (sym f) (All-head (λ (x : ℕ × Shape). x.0 < low → rests (slice_get next x.0) ≡ true) p passed a (subst (λ x. x < low) f l))
      | inr f ↦ ih new f h
    ]

-- the offset that is taken is settled, and those before it didn't wait
settled_rests : (cells : List Cell) (place at : ℕ) (shape : Shape) → lowest cells ≡ Some (at, shape) → place ≤ at → rests (slice_get (slice_set cells at (Settled shape)) place) ≡ true
settled_rests cells place at shape e l = by_place (nat_lt place at) refl
  where
    by_place : (b : Bool) → nat_lt place at ≡ b → rests (slice_get (slice_set cells at (Settled shape)) place) ≡ true
    by_place false f =
        let same : place ≡ at = omega (arith, ltb-false place at f) in
        ap (λ x. rests (slice_get (slice_set cells at (Settled shape)) x)) same ∙ ap rests (get_stored cells at (Waiting shape) (Settled shape) (lowest_waits cells (at, shape) e))
    by_place true f = elim (get_either cells at place (Settled shape)) [
      | inl same ↦ ap (λ x. rests (slice_get (slice_set cells at (Settled shape)) x)) same ∙ ap rests (get_stored cells at (Waiting shape) (Settled shape) (lowest_waits cells (at, shape) e))
      | inr other ↦ ap rests other ∙ rests_before cells place at shape e (ltb-true place at f)
    ]

-- so a turn leaves those at rest that are below the lowest that it leads to
turn_rests : (method : Method) (cells : List Cell) (now : List Slot) (at low place : ℕ) (shape : Shape) → lowest cells ≡ Some (at, shape) → IsLow method now at low → place < low → turn method cells (at, shape) ≡ Leaves (cells_of now)
    → rests (slice_get (cells_of now) place) ≡ true
turn_rests method cells now at low place shape e is_low l h = by_line (line_at method at) refl h
  where
    by_fault : (line : typing.Line) → line_at method at ≡ Some line → (o : Option VerifyKind) → unless_at_fault o at (pass_all (slice_set cells at (Settled shape)) (passes at line shape)) ≡ Leaves (cells_of now) → rests (slice_get (cells_of now) place) ≡ true
    by_fault line is None h = passed_rest low place (passes at line shape) (slice_set cells at (Settled shape)) (cells_of now) l (is_low.led line is shape) (settled_rests cells place at shape e (omega (arith, is_low.own))) h
    by_fault line is (Some why) h = cc

    by_line : (o : Option typing.Line) → line_at method at ≡ o → taken method cells at shape o ≡ Leaves (cells_of now) → rests (slice_get (cells_of now) place) ≡ true
    by_line None is h = cc
    by_line (Some line) is h = by_fault line is (fault method.profile at line.instr (is_none line.next) shape) h

-- and none of them waits
pub none_below : (method : Method) (slots now : List Slot) (at low : ℕ) (shape : Shape) → IsLow method now at low → lowest (cells_of slots) ≡ Some (at, shape) → turn method (cells_of slots) (at, shape) ≡ Leaves (cells_of now)
    → lowest (cells_of (take low now)) ≡ None
none_below method slots now at low shape is_low e f = ap lowest (cells_first low now) ∙ none_first low (cells_of now) (λ place l. turn_rests method (cells_of slots) now at low place shape e is_low l f)

-- WHERE A LINE LEADS

-- what holds of each handler that covers an offset
all_covering : (P : ℕ × Thrown → Type 0) (at : ℕ) (handlers : List Handler) → All (λ (handler : Handler). covers at handler ≡ true → P (handler_told handler)) handlers → All P (handlers_at handlers at)
all_covering P at [] all = All-nil P
all_covering P at (handler ∷ handlers) all =
    by_test (covers at handler) refl (all_covering P at handlers (All-tail (λ (handler : Handler). covers at handler ≡ true → P (handler_told handler)) handler handlers all))
  where
    by_test : (b : Bool) → covers at handler ≡ b → All P (handlers_at handlers at) → All P (map handler_told (cond b (handler ∷ filter (covers at) handlers) (filter (covers at) handlers)))
    by_test false e rest = rest
    by_test true e rest = All-cons P (handler_told handler) (handlers_at handlers at) (All-head (λ (handler : Handler). covers at handler ≡ true → P (handler_told handler)) handler handlers all e) rest

-- the offsets to which it leads are its successors and its handlers
pub line_leads : (code : Code) (line : Line) (slots : List Slot) (at first low : ℕ) → line_at (method_told code) at ≡ Some (line_told code.handlers.now at line) → IsWhole (length code.lines.items) line
    → first ≤ suc at → All (RestsBelow slots first) line.successors.items → low ≤ first → All (λ handler. covers at handler ≡ true → RestsBelow slots low handler.target) code.handlers.now → IsLow (method_told code) slots at low
line_leads code line slots at first low is whole own offsets l handlers = record {
  own = omega arith;
  led = λ other e shape. subst (λ (x : typing.Line). All (λ (p : ℕ × Shape). RestsBelow slots low p.0) (passes at x shape)) (some_is _ _ (sym is ∙ e))
      (All-append (λ (p : ℕ × Shape). RestsBelow slots low p.0) (to_each (after at (line_told code.handlers.now at line).instr shape) (successors (line_told code.handlers.now at line))) (map (to_handler shape) (handlers_at code.handlers.now at))
      (All-map (λ (p : ℕ × Shape). RestsBelow slots low p.0) (λ offset. (offset, after at (line_told code.handlers.now at line).instr shape)) (successors (line_told code.handlers.now at line))
      (subst (All (RestsBelow slots low)) (whole.successors_are code.handlers.now at) (All-weaker (RestsBelow slots first) (RestsBelow slots low) (λ offset rest below. rest (omega arith)) line.successors.items offsets)))
      (All-map (λ (p : ℕ × Shape). RestsBelow slots low p.0) (to_handler shape) (handlers_at code.handlers.now at) (all_covering (λ (handler : ℕ × Thrown). RestsBelow slots low handler.0) at code.handlers.now handlers)));
}

-- where no instruction starts, it leads nowhere
pub none_leads : (method : Method) (slots : List Slot) (at : ℕ) → line_at method at ≡ None → IsLow method slots at at
none_leads method slots at e = record { own = omega arith; led = λ line is shape. absurd (let f : None ≡ Some line = sym e ∙ is in cc) }
