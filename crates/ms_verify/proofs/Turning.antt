-- A turn at an offset, and the line there.
use Rattle.std.proofs.Common.{◌≡◌, ℕ, zero, suc, ◌+◌, ◌<◌, false, List, [], ◌∷◌, length, map, option_map, get_or, slice_get, slice_set, Option, Some, None, IfSome, refl, sym, ap, ap₂, ◌∙◌, subst, arith}
use Rattle.std.specs.Borrow.{Bor}
use Rattle.std.specs.Option.{option_copied}
use Rattle.std.specs.Prelude.{is_none}
use Rattle.ms_code.specs.declared.decoded.Handler.{Handler}
use Rattle.ms_linking.specs.Told.{told}
use Rattle.ms_typing.specs.declared.kind.VerifyKind.TheVariants.{Merge}
use Rattle.ms_typing.specs.Kinds.{Shape}
use Rattle.ms_typing.specs.Rules.{after, fault}
use Rattle.ms_typing.specs.Verifier as typing
use Rattle.ms_typing.specs.Verifier.{Cell, Fails, Leaves, Settled, Turn, line_at, lowest, or_no, pass_all, passes, successors, to_handler, turn}
use Rattle.ms_typing.proofs.Classes.{some_is}
use Rattle.ms_typing.proofs.Sound.{after_sized}
use Rattle.ms_verify.specs.declared.line.Code.{Code}
use Rattle.ms_verify.specs.declared.line.Line.{Line}
use Rattle.ms_verify.specs.declared.shape.Slot.{Slot}
use Rattle.ms_verify.specs.Told.{AllHave, cells_of, line_lent, line_told, lines_told, method_told, profile_told}
use Rattle.ms_verify.proofs.Finding.{lowest_shape, lowest_within}
use Rattle.ms_verify.proofs.Receiving.{passed_more, refused_more, to_each}

-- LINES

-- as many lines are told
pub lines_long : (handlers : List Handler) (from : ℕ) (lines : List (Option Line)) → length (lines_told handlers from lines) ≡ length lines
lines_long handlers from [] = refl
lines_long handlers from (line ∷ lines) = ap suc (lines_long handlers (suc from) lines)

-- and each of its own offset
line_from : (handlers : List Handler) (from : ℕ) (lines : List (Option Line)) (n : ℕ) (d : Option Line) → n < length lines
    → or_no (slice_get (lines_told handlers from lines) n) ≡ option_map (line_told handlers (from + n)) (get_or lines n d)
line_from handlers from [] n d l = absurd (omega arith)
line_from handlers from (line ∷ lines) zero d l = ap (λ x. option_map (line_told handlers x) line) (let e : from ≡ from + 0 = omega arith in e)
line_from handlers from (line ∷ lines) (suc n) d l =
    line_from handlers (suc from) lines n d (omega arith) ∙ ap (λ x. option_map (line_told handlers x) (get_or lines n d)) (let e : suc from + n ≡ from + suc n = omega arith in e)

pub line_found : (code : Code) (at : ℕ) (d : Option Line) → at < length code.lines.items → line_at (method_told code) at ≡ option_map (line_told code.handlers.now at) (get_or code.lines.items at d)
line_found code at d l = line_from code.handlers.now 0 code.lines.items at d l ∙ ap (λ x. option_map (line_told code.handlers.now x) (get_or code.lines.items at d)) (let e : 0 + at ≡ at = omega arith in e)

-- a line that is lent is the line
pub lent_is : (handlers : List Handler) (at : ℕ) (line : Option (Bor Line)) → option_map (line_told handlers at) (option_copied line) ≡ line_lent handlers at line
lent_is handlers at None = refl
lent_is handlers at (Some line) = refl

-- WHAT IS PASSED ON

-- a successor refuses what is left to it
pub passes_refused : (line : typing.Line) (at : ℕ) (shape next : Shape) (offsets : List ℕ) (cells : List Cell) (offset : ℕ) → next ≡ after at line.instr shape → offsets ≡ successors line
    → pass_all cells (to_each next offsets) ≡ Fails offset Merge → pass_all cells (passes at line shape) ≡ Fails offset Merge
passes_refused line at shape next offsets cells offset e f h = refused_more _ (map (to_handler shape) line.handlers) cells offset (ap (pass_all cells) (ap₂ to_each (sym e) (sym f)) ∙ h)

-- or all take it, and the handlers are next
pub passes_on : (line : typing.Line) (at : ℕ) (shape next : Shape) (offsets : List ℕ) (cells now : List Cell) (r : Turn) → next ≡ after at line.instr shape → offsets ≡ successors line
    → pass_all cells (to_each next offsets) ≡ Leaves now → pass_all now (map (to_handler shape) line.handlers) ≡ r → pass_all cells (passes at line shape) ≡ r
passes_on line at shape next offsets cells now r e f g h = passed_more _ (map (to_handler shape) line.handlers) cells now (ap (pass_all cells) (ap₂ to_each (sym e) (sym f)) ∙ g) ∙ h

-- A TURN

-- the shape of the lowest offset that waits is one only
only_shape : (cells : List Cell) (at : ℕ) (shape other : Shape) → lowest cells ≡ Some (at, shape) → lowest cells ≡ Some (at, other) → shape ≡ other
only_shape cells at shape other e f = let g : (at, shape) ≡ (at, other) = some_is _ _ (sym e ∙ f) in ap (λ (x : ℕ × Shape). x.1) g

-- without a fault it is what comes of passing all on
pub turn_is : (code : Code) (slots now : List Slot) (at : ℕ) (line : Line) (shape : Shape) (r : Turn) → line_at (method_told code) at ≡ Some (line_told code.handlers.now at line) → lowest (cells_of slots) ≡ Some (at, shape)
    → cells_of now ≡ slice_set (cells_of slots) at (Settled shape) → fault (profile_told code) at (told line.instruction) (is_none line.next) shape ≡ None
    → pass_all (cells_of now) (passes at (line_told code.handlers.now at line) shape) ≡ r → (other : Shape) → lowest (cells_of slots) ≡ Some (at, other) → turn (method_told code) (cells_of slots) (at, other) ≡ r
turn_is code slots now at line shape r a b c d e other f =
    subst (λ x. turn (method_told code) (cells_of slots) (at, x) ≡ r) (only_shape (cells_of slots) at shape other b f) (rw (a, d) (ap (λ x. pass_all x (passes at (line_told code.handlers.now at line) shape)) (sym c) ∙ e))

-- the shape of the lowest offset has as many locals as all, and so has what is left
pub shape_locals : (slots : List Slot) (at count : ℕ) (shape : Shape) → AllHave count slots → lowest (cells_of slots) ≡ Some (at, shape) → length shape.locals ≡ count
shape_locals slots at count shape a b =
    let d : Slot = record { shape = None; waits = false } in
    let h : IfSome (get_or slots at d).shape (λ held. length held.locals ≡ count) = (a at d (lowest_within slots at (shape, b))).have in
    subst (λ x. IfSome x (λ held. length held.locals ≡ count)) (lowest_shape slots at d (shape, b)) h

pub left_locals : (at : ℕ) (line : Line) (shape next : Shape) → next ≡ after at (told line.instruction) shape → length next.locals ≡ length shape.locals
left_locals at line shape next e = ap (λ (x : Shape). length x.locals) e ∙ after_sized at (told line.instruction) shape

pub next_locals : (slots : List Slot) (at count : ℕ) (line : Line) (shape next : Shape) → AllHave count slots → lowest (cells_of slots) ≡ Some (at, shape)
    → next ≡ after at (told line.instruction) shape → length next.locals ≡ count
next_locals slots at count line shape next a b e = left_locals at line shape next e ∙ shape_locals slots at count shape a b
