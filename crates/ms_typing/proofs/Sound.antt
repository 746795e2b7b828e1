-- Where the verifier accepts, the rules hold of the last shapes. What holds before each turn is `Sofar`; a turn keeps it.
use Rattle.std.proofs.Common.{◌≡◌, ◌⊎◌, ℕ, zero, suc, ◌<◌, Bool, true, false, cond, List, [], ◌∷◌, ◌++◌, length, map, replicate, Option, Some, None, slice_get, slice_set, refl, sym, ap, ◌∙◌, subst, subst₂, inl, inr, arith}
use Rattle.std.specs.Prelude.{is_none}
use Rattle.std.proofs.lemmas.Bool.{eqb-true}
use Rattle.std.proofs.lemmas.List.{length-map}
use Rattle.ms_words.specs.declared.thrown.Thrown.{Thrown}
use Rattle.ms_machine.specs.Instructions.{Instr, Construct, Store}
use Rattle.ms_machine.specs.Instructions as instructions
use Rattle.ms_typing.specs.declared.kind.PlaceKind.{PlaceKind}
use Rattle.ms_typing.specs.declared.kind.VerifyKind.{VerifyKind}
use Rattle.ms_typing.specs.Kinds.{Shape, Within, joined, same_shape}
use Rattle.ms_typing.specs.Rules.{after, fault, locals_after}
use Rattle.ms_typing.specs.Verifier.{Accepted, Cell, Ends, Leaves, Line, Method, Outcome, Rests, Settled, Stops, Turns, Unreached, Verifies, Waiting, and_then, entered, filled, further, given, line_at, lowest, pass_all, passes, received, same_depth, start, successors, taken, to_handler, turn, unless_at_fault}
use Rattle.ms_typing.specs.Solutions.{Obeys, IsSolution, Admits, shape_at, shape_in, shape_of}
use Rattle.ms_typing.proofs.Classes.{some_is}
use Rattle.ms_typing.proofs.Joins.{joined_holds_left, joined_holds_right, joined_long, same_shape_is, within_self, within_wider}

-- CELLS OF WHICH ONE IS CHANGED

-- what is stored is found, and elsewhere what was there
pub get_stored : (cells : List Cell) (offset : ℕ) (old new : Cell) → slice_get cells offset ≡ Some old → slice_get (slice_set cells offset new) offset ≡ Some new
get_stored [] offset old new e = cc
get_stored (cell ∷ cells) zero old new e = refl
get_stored (cell ∷ cells) (suc offset) old new e = get_stored cells offset old new e

pub get_either : (cells : List Cell) (offset place : ℕ) (new : Cell) → (place ≡ offset) ⊎ (slice_get (slice_set cells offset new) place ≡ slice_get cells place)
get_either [] offset place new = inr refl
get_either (cell ∷ cells) zero zero new = inl refl
get_either (cell ∷ cells) zero (suc place) new = inr refl
get_either (cell ∷ cells) (suc offset) zero new = inr refl
get_either (cell ∷ cells) (suc offset) (suc place) new = elim (get_either cells offset place new) [ inl e ↦ inl (ap suc e) | inr e ↦ inr e ]

-- so what is to hold at each offset holds of the one that is stored, and held of the others before
pub stored_each : (P : ℕ → Option Cell → Type 0) (cells : List Cell) (offset : ℕ) (old new : Cell) → slice_get cells offset ≡ Some old → P offset (Some new) → ((place : ℕ) → P place (slice_get cells place))
    → (place : ℕ) → P place (slice_get (slice_set cells offset new) place)
stored_each P cells offset old new e h others place = elim (get_either cells offset place new) [
  | inl f ↦ subst (λ x. P x (slice_get (slice_set cells offset new) x)) (sym f) (subst (P offset) (sym (get_stored cells offset old new e)) h)
  | inr f ↦ subst (P place) (sym f) (others place)
]

-- GROWTH

-- what a cell becomes: its shape stays or grows, and where it is settled it was settled with that shape
pub record Later (old new : Option Cell) : Type 0 where
  pub grows : (shape : Shape) → shape_in old ≡ Some shape → (wider : Shape) × (shape_in new ≡ Some wider) × Within shape wider
  pub settled : (shape : Shape) → new ≡ Some (Settled shape) → old ≡ Some (Settled shape)

abbrev pub AllLater : List Cell → List Cell → Type 0
AllLater cells next = (offset : ℕ) → Later (slice_get cells offset) (slice_get next offset)

later_self : (old : Option Cell) → Later old old
later_self old = record { grows = λ shape e. (shape, e, within_self shape); settled = λ shape e. e }

later_more : (old new last : Option Cell) → Later old new → Later new last → Later old last
later_more old new last p q = record {
  grows = λ shape h. let x = p.grows shape h in let y = q.grows x.0 x.1 in (y.0, y.1, within_wider shape x.0 y.0 x.2 y.2);
  settled = λ shape h. p.settled shape (q.settled shape h);
}

-- what is taken is taken later
takes_later : (cells next : List Cell) (offset : ℕ) (shape : Shape) → AllLater cells next → Admits cells offset shape → Admits next offset shape
takes_later cells next offset shape g t = let x = (g offset).grows t.wider t.at in record { wider = x.0; at = x.1; within = within_wider shape t.wider x.0 t.within x.2 }

-- SIZES

-- a shape has so many locals, and all have
abbrev pub Sized : ℕ → Option Cell → Type 0
Sized count cell = (shape : Shape) → shape_in cell ≡ Some shape → length shape.locals ≡ count

abbrev pub AllSized : ℕ → List Cell → Type 0
AllSized count cells = (offset : ℕ) → Sized count (slice_get cells offset)

abbrev pub PassesSized : ℕ → List (ℕ × Shape) → Type 0
PassesSized count [] = Unit {0}
PassesSized count (passed ∷ others) = (length passed.1.locals ≡ count) × PassesSized count others

-- an instruction leaves as many locals
length_set : {A : Type 0} (xs : List A) (n : ℕ) (a : A) → length (slice_set xs n a) ≡ length xs
length_set [] n a = refl
length_set (x ∷ xs) zero a = refl
length_set (x ∷ xs) (suc n) a = ap suc (length_set xs n a)

pub cells_long : (cells : List Cell) (offset : ℕ) (cell : Cell) → length (slice_set cells offset cell) ≡ length cells
cells_long cells offset cell = length_set cells offset cell

pub after_sized : (offset : ℕ) (instr : Instr) (shape : Shape) → length (locals_after offset instr shape) ≡ length shape.locals
after_sized offset (Store sort local) shape = length_set shape.locals local _
after_sized offset (instructions.New class) shape = length-map shape.locals _
after_sized offset (Construct with_message class) shape = length-map shape.locals _
after_sized offset instr shape = refl

-- so all that it passes on has as many
append_sized : (count : ℕ) (passed others : List (ℕ × Shape)) → PassesSized count passed → PassesSized count others → PassesSized count (passed ++ others)
append_sized count [] others p q = q
append_sized count (x ∷ passed) others p q = (p.0, append_sized count passed others p.1 q)

successors_sized : (count : ℕ) (offsets : List ℕ) (shape : Shape) → length shape.locals ≡ count → PassesSized count (map (λ offset. (offset, shape)) offsets)
successors_sized count [] shape e = tt
successors_sized count (offset ∷ offsets) shape e = (e, successors_sized count offsets shape e)

handlers_sized : (count : ℕ) (handlers : List (ℕ × Thrown)) (shape : Shape) → length shape.locals ≡ count → PassesSized count (map (to_handler shape) handlers)
handlers_sized count [] shape e = tt
handlers_sized count (handler ∷ handlers) shape e = (e, handlers_sized count handlers shape e)

passes_sized : (count offset : ℕ) (line : Line) (shape : Shape) → length shape.locals ≡ count → PassesSized count (passes offset line shape)
passes_sized count offset line shape e =
    append_sized count _ _ (successors_sized count (successors line) (after offset line.instr shape) (after_sized offset line.instr shape ∙ e)) (handlers_sized count line.handlers shape e)

-- RECEIVING

-- what comes of an offset that is passed a shape: it is later, holds what came, and has as many locals
pub record Receives (count : ℕ) (old new : Cell) (shape : Shape) : Type 0 where
  pub later : Later (Some old) (Some new)
  pub wider : Shape
  pub at : shape_of new ≡ Some wider
  pub within : Within shape wider
  pub sized : length wider.locals ≡ count

-- two shapes of one size joined
joined_receives : (count : ℕ) (held shape : Shape) → length held.locals ≡ count → length shape.locals ≡ count → same_depth held shape ≡ true
    → Within held (joined held shape) × Within shape (joined held shape) × (length (joined held shape).locals ≡ count)
joined_receives count held shape e f d =
    (joined_holds_left held shape, joined_holds_right held shape (e ∙ sym f) (eqb-true _ _ d), joined_long held.locals shape.locals ∙ e)

waits : (count : ℕ) (old : Cell) (held wider shape : Shape) → shape_of old ≡ Some held → Within held wider → Within shape wider → length wider.locals ≡ count → Receives count old (Waiting wider) shape
waits count old held wider shape e p q l = record {
  later = record { grows = λ x h. (wider, refl, subst (λ y. Within y wider) (some_is held x (sym e ∙ h)) p); settled = λ x h. cc };
  wider = wider;
  at = refl;
  within = q;
  sized = l;
}

pub receives : (count : ℕ) (old new : Cell) (shape : Shape) → Sized count (Some old) → length shape.locals ≡ count → received old shape ≡ Some new → Receives count old new shape
receives count Unreached new shape z l e = subst (λ x. Receives count Unreached x shape) (some_is _ _ e) (record {
  later = record { grows = λ x h. cc; settled = λ x h. cc };
  wider = shape;
  at = refl;
  within = within_self shape;
  sized = l;
})
receives count (Waiting held) new shape z l e = go (same_depth held shape) refl e
  where
    go : (b : Bool) → same_depth held shape ≡ b → cond b (Some (Waiting (joined held shape))) None ≡ Some new → Receives count (Waiting held) new shape
    go false f h = cc
    go true f h = let j = joined_receives count held shape (z held refl) l f in
        subst (λ x. Receives count (Waiting held) x shape) (some_is _ _ h) (waits count (Waiting held) held (joined held shape) shape refl j.0 j.1 j.2)
receives count (Settled held) new shape z l e = go (same_depth held shape) refl (same_shape (joined held shape) held) refl e
  where
    go : (b : Bool) → same_depth held shape ≡ b → (x : Bool) → same_shape (joined held shape) held ≡ x → cond b (Some (cond x (Settled held) (Waiting (joined held shape)))) None ≡ Some new → Receives count (Settled held) new shape
    go false f x g h = cc
    go true f false g h = let j = joined_receives count held shape (z held refl) l f in
        subst (λ x. Receives count (Settled held) x shape) (some_is _ _ h) (waits count (Settled held) held (joined held shape) shape refl j.0 j.1 j.2)
    go true f true g h = let j = joined_receives count held shape (z held refl) l f in
        subst (λ x. Receives count (Settled held) x shape) (some_is _ _ h) (record {
          later = later_self (Some (Settled held));
          wider = held;
          at = refl;
          within = subst (λ x. Within shape x) (same_shape_is _ _ g) j.1;
          sized = z held refl;
        })

-- PASSING ON

-- what comes of cells where all is passed on: they are later, have as many locals, and take all of it
pub record Passes (count : ℕ) (cells next : List Cell) (passed : List (ℕ × Shape)) : Type 0 where
  pub later : AllLater cells next
  pub sized : AllSized count next
  pub takes : (n : ℕ) (one : ℕ × Shape) → slice_get passed n ≡ Some one → Admits next one.0 one.1

-- one offset is passed one shape
stored : (count : ℕ) (cells : List Cell) (offset : ℕ) (old new : Cell) (shape : Shape) → AllSized count cells → slice_get cells offset ≡ Some old → Receives count old new shape
    → AllLater cells (slice_set cells offset new) × AllSized count (slice_set cells offset new) × Admits (slice_set cells offset new) offset shape
stored count cells offset old new shape z e r = (
  stored_each (λ place x. Later (slice_get cells place) x) cells offset old new e (subst (λ x. Later x (Some new)) (sym e) r.later) (λ place. later_self _),
  stored_each (λ place x. Sized count x) cells offset old new e (λ t f. subst (λ (x : Shape). length x.locals ≡ count) (some_is _ _ (sym r.at ∙ f)) r.sized) z,
  record { wider = r.wider; at = ap shape_in (get_stored cells offset old new e) ∙ r.at; within = r.within },
)

pub leaves_is : (cells next : List Cell) → Leaves cells ≡ Leaves next → cells ≡ next
leaves_is cells next e = cc

-- all is passed on
pub all_pass : (count : ℕ) (passed : List (ℕ × Shape)) (cells next : List Cell) → AllSized count cells → PassesSized count passed → pass_all cells passed ≡ Leaves next → Passes count cells next passed
all_pass count [] cells next z q e = subst (λ x. Passes count cells x []) (leaves_is _ _ e) (record { later = λ offset. later_self _; sized = z; takes = λ n one h. cc })
all_pass count (p ∷ passed) cells next z q e = found (slice_get cells p.0) refl (λ new y h. all_pass count passed (slice_set cells p.0 new) next y q.1 h) e
  where
    each : (new : Cell) → Admits (slice_set cells p.0 new) p.0 p.1 → Passes count (slice_set cells p.0 new) next passed → (n : ℕ) (one : ℕ × Shape) → slice_get (p ∷ passed) n ≡ Some one → Admits next one.0 one.1
    each new t i zero one g = subst (λ (y : ℕ × Shape). Admits next y.0 y.1) (some_is p one g) (takes_later _ next p.0 p.1 i.later t)
    each new t i (suc n) one g = i.takes n one g

    got : (old : Cell) → slice_get cells p.0 ≡ Some old → (o : Option Cell) → received old p.1 ≡ o
        → ((new : Cell) → AllSized count (slice_set cells p.0 new) → pass_all (slice_set cells p.0 new) passed ≡ Leaves next → Passes count (slice_set cells p.0 new) next passed)
        → and_then cells p.0 o (λ changed. pass_all changed passed) ≡ Leaves next → Passes count cells next (p ∷ passed)
    got old f None r ih h = cc
    got old f (Some new) r ih h =
        let s = stored count cells p.0 old new p.1 z f (receives count old new p.1 (subst (Sized count) f (z p.0)) q.0 r) in
        let i = ih new s.1 h in
        record { later = λ offset. later_more _ _ _ (s.0 offset) (i.later offset); sized = i.sized; takes = each new s.2 i }

    found : (o : Option Cell) → slice_get cells p.0 ≡ o
        → ((new : Cell) → AllSized count (slice_set cells p.0 new) → pass_all (slice_set cells p.0 new) passed ≡ Leaves next → Passes count (slice_set cells p.0 new) next passed)
        → and_then cells p.0 (given o p.1) (λ changed. pass_all changed passed) ≡ Leaves next → Passes count cells next (p ∷ passed)
    found None f ih h = cc
    found (Some old) f ih h = got old f (received old p.1) refl ih h

-- WHAT WAITS

-- one offset further stands what stood there
further_waits : (cell : Cell) (cells : List Cell) (waiting : ℕ × Shape) (o : Option (ℕ × Shape)) → lowest cells ≡ o → further o ≡ Some waiting
    → ((x : ℕ × Shape) → lowest cells ≡ Some x → slice_get cells x.0 ≡ Some (Waiting x.1)) → slice_get (cell ∷ cells) waiting.0 ≡ Some (Waiting waiting.1)
further_waits cell cells waiting None f h ih = cc
further_waits cell cells waiting (Some x) f h ih = subst (λ (y : ℕ × Shape). slice_get (cell ∷ cells) y.0 ≡ Some (Waiting y.1)) (some_is (suc x.0, x.1) waiting h) (ih x f)

-- the lowest offset that waits does wait
pub lowest_waits : (cells : List Cell) (waiting : ℕ × Shape) → lowest cells ≡ Some waiting → slice_get cells waiting.0 ≡ Some (Waiting waiting.1)
lowest_waits [] waiting e = cc
lowest_waits (Waiting shape ∷ cells) waiting e = subst (λ (x : ℕ × Shape). slice_get (Waiting shape ∷ cells) x.0 ≡ Some (Waiting x.1)) (some_is (0, shape) waiting e) refl
lowest_waits (Unreached ∷ cells) waiting e = further_waits Unreached cells waiting (lowest cells) refl e (lowest_waits cells)
lowest_waits (Settled shape ∷ cells) waiting e = further_waits (Settled shape) cells waiting (lowest cells) refl e (lowest_waits cells)

further_none : (o : Option (ℕ × Shape)) → further o ≡ None → o ≡ None
further_none None e = refl
further_none (Some x) e = cc

-- where none waits, what has a shape is settled
none_waits : (cells : List Cell) (offset : ℕ) (shape : Shape) → lowest cells ≡ None → shape_at cells offset ≡ Some shape → slice_get cells offset ≡ Some (Settled shape)
none_waits [] offset shape e h = cc
none_waits (Waiting held ∷ cells) offset shape e h = cc
none_waits (Unreached ∷ cells) zero shape e h = cc
none_waits (Unreached ∷ cells) (suc offset) shape e h = none_waits cells offset shape (further_none (lowest cells) e) h
none_waits (Settled held ∷ cells) zero shape e h = ap (λ x. Some (Settled x)) (some_is held shape h)
none_waits (Settled held ∷ cells) (suc offset) shape e h = none_waits cells offset shape (further_none (lowest cells) e) h

-- TURNS

-- what holds before each turn: all shapes have the method's number of locals, offset 0 takes the parameters, and the rules
-- hold of each offset that is settled
pub record Sofar (method : Method) (cells : List Cell) : Type 0 where
  pub sized : AllSized method.profile.max_locals cells
  pub entry : Admits cells 0 (entered method.profile)
  pub each : (offset : ℕ) (shape : Shape) → slice_get cells offset ≡ Some (Settled shape) → Obeys method cells offset shape

-- to settle what waits leaves all shapes as they are, and no other offset is settled
settle_keeps : (cells : List Cell) (offset : ℕ) (shape : Shape) → slice_get cells offset ≡ Some (Waiting shape)
    → (place : ℕ) (held : Shape) → shape_at cells place ≡ Some held → shape_at (slice_set cells offset (Settled shape)) place ≡ Some held
settle_keeps cells offset shape e = stored_each (λ place x. (held : Shape) → shape_at cells place ≡ Some held → shape_in x ≡ Some held) cells offset (Waiting shape) (Settled shape) e
    (λ held h. sym (ap shape_in e) ∙ h) (λ place held h. h)

settled_is : (shape held : Shape) → Some (Settled shape) ≡ Some (Settled held) → shape ≡ held
settled_is shape held e = cc

settled_before : (cells : List Cell) (offset : ℕ) (shape : Shape) → slice_get cells offset ≡ Some (Waiting shape)
    → (place : ℕ) (held : Shape) → slice_get (slice_set cells offset (Settled shape)) place ≡ Some (Settled held) → ((place ≡ offset) × (shape ≡ held)) ⊎ (slice_get cells place ≡ Some (Settled held))
settled_before cells offset shape e =
    stored_each (λ place x. (held : Shape) → x ≡ Some (Settled held) → ((place ≡ offset) × (shape ≡ held)) ⊎ (slice_get cells place ≡ Some (Settled held))) cells offset (Waiting shape) (Settled shape) e
    (λ held h. inl (refl, settled_is shape held h)) (λ place held h. inr h)

-- what is taken before the offset is settled is taken at the end of the turn
takes_on : (cells next : List Cell) (offset : ℕ) (shape : Shape) → slice_get cells offset ≡ Some (Waiting shape) → AllLater (slice_set cells offset (Settled shape)) next
    → (place : ℕ) (passed : Shape) → Admits cells place passed → Admits next place passed
takes_on cells next offset shape e g place passed t = takes_later _ next place passed g (record { wider = t.wider; at = settle_keeps cells offset shape e place t.wider t.at; within = t.within })

-- a turn keeps it
pub turn_keeps : (method : Method) (cells next : List Cell) (waiting : ℕ × Shape) → Sofar method cells → lowest cells ≡ Some waiting → turn method cells waiting ≡ Leaves next → Sofar method next
turn_keeps method cells next waiting i e h = by_line (line_at method waiting.0) refl h
  where
    go : (line : Line) → line_at method waiting.0 ≡ Some line → fault method.profile waiting.0 line.instr (is_none line.next) waiting.1 ≡ None → slice_get cells waiting.0 ≡ Some (Waiting waiting.1)
        → Passes method.profile.max_locals (slice_set cells waiting.0 (Settled waiting.1)) next (passes waiting.0 line waiting.1) → Sofar method next
    go line is fine at p = record {
      sized = p.sized;
      entry = takes_on cells next waiting.0 waiting.1 at p.later 0 _ i.entry;
      each = λ offset shape f. elim (settled_before cells waiting.0 waiting.1 at offset shape ((p.later offset).settled shape f)) [
        | inl x ↦ subst₂ (Obeys method next) (sym x.0) x.1 (record { line = line; is = is; fine = fine; leads = p.takes })
        | inr x ↦ let y = i.each offset shape x in
            record { line = y.line; is = y.is; fine = y.fine; leads = λ n passed g. takes_on cells next waiting.0 waiting.1 at p.later passed.0 passed.1 (y.leads n passed g) }
      ];
    }

    by_fault : (line : Line) → line_at method waiting.0 ≡ Some line → (o : Option VerifyKind) → fault method.profile waiting.0 line.instr (is_none line.next) waiting.1 ≡ o
        → unless_at_fault o waiting.0 (pass_all (slice_set cells waiting.0 (Settled waiting.1)) (passes waiting.0 line waiting.1)) ≡ Leaves next → Sofar method next
    by_fault line is None f g =
        let at : slice_get cells waiting.0 ≡ Some (Waiting waiting.1) = lowest_waits cells waiting e in
        let sized = i.sized waiting.0 waiting.1 (ap shape_in at) in
        go line is f at (all_pass method.profile.max_locals (passes waiting.0 line waiting.1) _ next
        (stored_each (λ place x. Sized method.profile.max_locals x) cells waiting.0 (Waiting waiting.1) (Settled waiting.1) at (λ shape y. subst (λ (x : Shape). length x.locals ≡ method.profile.max_locals) (some_is _ _ y) sized) i.sized)
        (passes_sized method.profile.max_locals waiting.0 line waiting.1 sized) g)
    by_fault line is (Some why) f g = cc

    by_line : (o : Option Line) → line_at method waiting.0 ≡ o → taken method cells waiting.0 waiting.1 o ≡ Leaves next → Sofar method next
    by_line None is g = cc
    by_line (Some line) is g = by_fault line is (fault method.profile waiting.0 line.instr (is_none line.next) waiting.1) refl g

-- THE START

filled_long : (count : ℕ) (places : List PlaceKind) → length (filled count places) ≡ count
filled_long zero places = refl
filled_long (suc count) [] = ap suc (filled_long count [])
filled_long (suc count) (kind ∷ places) = ap suc (filled_long count places)

-- cells that aren't reached have no shape
pub unreached_empty : (count offset : ℕ) (shape : Shape) → shape_at (replicate count Unreached) offset ≡ Some shape → ⊥
unreached_empty zero offset shape e = cc
unreached_empty (suc count) zero shape e = cc
unreached_empty (suc count) (suc offset) shape e = unreached_empty count offset shape e

-- what holds of the start of a method with a code is shown for one more cell than some number
pub with_code : (method : Method) (P : List Cell → Type 0) → 0 < length method.lines
    → ((count : ℕ) → length method.lines ≡ suc count → P (Waiting (entered method.profile) ∷ replicate count Unreached)) → P (start method)
with_code method P l h = go (length method.lines) refl l
  where
    go : (n : ℕ) → length method.lines ≡ n → 0 < n → P (start method)
    go zero e few = absurd (omega arith)
    go (suc count) e few = subst (λ n. P (slice_set (replicate n Unreached) 0 (Waiting (entered method.profile)))) (sym e) (h count e)

-- it holds at the start
pub start_holds : (method : Method) → 0 < length method.lines → Sofar method (start method)
start_holds method l = with_code method (Sofar method) l (λ count e. record {
  sized = first count;
  entry = record { wider = entered method.profile; at = refl; within = within_self (entered method.profile) };
  each = none count;
})
  where
    first : (count offset : ℕ) (shape : Shape) → shape_at (Waiting (entered method.profile) ∷ replicate count Unreached) offset ≡ Some shape → length shape.locals ≡ method.profile.max_locals
    first count zero shape e = ap (λ x. length x.locals) (sym (some_is _ _ e)) ∙ filled_long method.profile.max_locals _
    first count (suc offset) shape e = absurd (unreached_empty count offset shape e)

    none : (count offset : ℕ) (shape : Shape) → slice_get (Waiting (entered method.profile) ∷ replicate count Unreached) offset ≡ Some (Settled shape) → Obeys method (Waiting (entered method.profile) ∷ replicate count Unreached) offset shape
    none count zero shape e = cc
    none count (suc offset) shape e = absurd (unreached_empty count offset shape (ap shape_in e))

-- THE END

pub accepted_is : (cells last : List Cell) → Accepted cells ≡ Accepted last → cells ≡ last
accepted_is cells last e = cc

ends_sound : (method : Method) (cells : List Cell) (outcome : Outcome) (last : List Cell) → Ends method cells outcome → Sofar method cells → outcome ≡ Accepted last → IsSolution method last
ends_sound method cells outcome last (Rests _ e) i f =
    subst (IsSolution method) (accepted_is cells last f) (record { entry = i.entry; each = λ offset shape h. i.each offset shape (none_waits cells offset shape e h) })
ends_sound method cells outcome last (Stops _ waiting offset why e t) i f = cc
ends_sound method cells outcome last (Turns _ waiting next _ e t rest) i f = ends_sound method next outcome last rest (turn_keeps method cells next waiting i e t) f

-- the last shapes of an accepted method are a solution
pub accepted_sound : (method : Method) (last : List Cell) → 0 < length method.lines → Verifies method (Accepted last) → IsSolution method last
accepted_sound method last l h = ends_sound method (start method) (Accepted last) last h (start_holds method l) refl
