-- A method that has a solution is accepted, and its last shapes are within each solution.
use Rattle.std.proofs.Common.{◌≡◌, ◌⊎◌, ℕ, zero, suc, ◌<◌, Bool, true, false, cond, not, ◌&&◌, ◌==◌, List, [], ◌∷◌, ◌++◌, drop, length, map, replicate, Option, Some, None, slice_get, slice_set, refl, sym, ap, ◌∙◌, subst, inl, inr, arith}
use Rattle.std.specs.Prelude.{is_none}
use Rattle.std.proofs.lemmas.Bool.{and_from, and_parts, eq-eqb, ne_eqb, not-true}
use Rattle.std.proofs.lemmas.List.{length-replicate}
use Rattle.ms_words.specs.declared.descriptor.FieldType.{FieldType}
use Rattle.ms_words.specs.declared.descriptor.FieldType.TheVariants as types
use Rattle.ms_words.specs.declared.thrown.Thrown.{Thrown}
use Rattle.ms_machine.specs.Effects.{values_at, with_value}
use Rattle.ms_machine.specs.Instructions.{Instr, Construct, GetStatic, Invoke, Load, Shuffle, Store}
use Rattle.ms_machine.specs.Instructions as instructions
use Rattle.ms_typing.specs.declared.kind.PlaceKind.{PlaceKind}
use Rattle.ms_typing.specs.declared.kind.PlaceKind.TheVariants.{Null, New, Unset}
use Rattle.ms_typing.specs.declared.kind.PlaceKind.TheVariants as kinds
use Rattle.ms_typing.specs.declared.kind.VerifyKind.{VerifyKind}
use Rattle.ms_typing.specs.Kinds.{Shape, Within, is_reference, joined, joined_kind, joined_kinds, joined_references, same_kind, same_shape}
use Rattle.ms_typing.specs.Rules.{after, class_of, constructed_from, fault, gives, is_made_at, kind_at, kind_of, locals_after, made_at, may_make, none_made_at, or_none, rest_after, result_kinds, takes}
use Rattle.ms_typing.specs.Verifier.{Accepted, Cell, Ends, Fails, Fault, Leaves, Line, Method, Outcome, Rests, Settled, Stops, Turns, Unreached, Verifies, Waiting, entered, filled, line_at, lowest, or_no, pass_all, passes, received, same_depth, start, successors, to_handler, turn}
use Rattle.ms_typing.specs.Solutions.{IsSolution, Admits, shape_at, shape_in, shape_of}
use Rattle.ms_typing.proofs.Classes.{some_is}
use Rattle.ms_typing.proofs.Joins.{all_within_self, within_long, within_wider}
use Rattle.ms_typing.proofs.Sound.{accepted_is, cells_long, leaves_is, lowest_waits, stored_each, unreached_empty, with_code}
use Rattle.ms_typing.proofs.Total.{outcome_exists}
use Rattle.ms_typing.proofs.Least.{joined_shape_least}
use Rattle.ms_typing.proofs.Monotone.{after_within, fault_within, takes_meet}

-- WHAT HOLDS NOTHING MADE AT AN OFFSET

-- no kind of these is that of a new throwable that was made there
abbrev IsFree : ℕ → List PlaceKind → Type 0
IsFree offset places = none_made_at offset places ≡ true

abbrev IsFreeShape : ℕ → Shape → Type 0
IsFreeShape offset shape = IsFree offset shape.locals × IsFree offset shape.stack

free_more : (offset : ℕ) (kind : PlaceKind) (places : List PlaceKind) → is_made_at offset kind ≡ false → IsFree offset places → IsFree offset (kind ∷ places)
free_more offset kind places e f = and_from _ _ (ap not e) f

free_parts : (offset : ℕ) (kind : PlaceKind) (places : List PlaceKind) → IsFree offset (kind ∷ places) → (is_made_at offset kind ≡ false) × IsFree offset places
free_parts offset kind places f = let both = and_parts (not (is_made_at offset kind)) (none_made_at offset places) f in (not-true _ both.0, both.1)

-- what is done to lists keeps it
at_free : (offset : ℕ) (places : List PlaceKind) (place : ℕ) → IsFree offset places → is_made_at offset (kind_at places place) ≡ false
at_free offset [] place f = refl
at_free offset (kind ∷ places) zero f = (free_parts offset kind places f).0
at_free offset (kind ∷ places) (suc place) f = at_free offset places place (free_parts offset kind places f).1

append_free : (offset : ℕ) (places others : List PlaceKind) → IsFree offset places → IsFree offset others → IsFree offset (places ++ others)
append_free offset [] others f g = g
append_free offset (kind ∷ places) others f g =
    let both = free_parts offset kind places f in free_more offset kind (places ++ others) both.0 (append_free offset places others both.1 g)

drop_free : (offset n : ℕ) (places : List PlaceKind) → IsFree offset places → IsFree offset (drop n places)
drop_free offset zero places f = f
drop_free offset (suc n) [] f = refl
drop_free offset (suc n) (kind ∷ places) f = drop_free offset n places (free_parts offset kind places f).1

store_free : (offset : ℕ) (places : List PlaceKind) (place : ℕ) (new : PlaceKind) → IsFree offset places → is_made_at offset new ≡ false → IsFree offset (slice_set places place new)
store_free offset [] place new f e = refl
store_free offset (kind ∷ places) zero new f e = free_more offset new places e (free_parts offset kind places f).1
store_free offset (kind ∷ places) (suc place) new f e =
    let both = free_parts offset kind places f in free_more offset kind (slice_set places place new) both.0 (store_free offset places place new both.1 e)

map_free : (offset made : ℕ) (g : PlaceKind → PlaceKind) → ((kind : PlaceKind) → is_made_at offset (g kind) ≡ false) → (places : List PlaceKind) → IsFree offset places
    → IsFree offset (map (λ kind. cond (is_made_at made kind) (g kind) kind) places)
map_free offset made g h [] f = refl
map_free offset made g h (kind ∷ places) f =
    let both = free_parts offset kind places f in
    free_more offset (cond (is_made_at made kind) (g kind) kind) (map (λ kind. cond (is_made_at made kind) (g kind) kind) places)
    (elim (is_made_at made kind) as (λ b. is_made_at offset (cond b (g kind) kind) ≡ false) [ true ↦ h kind | false ↦ both.0 ]) (map_free offset made g h places both.1)

get_free : (offset : ℕ) (places : List PlaceKind) (place : ℕ) (kind : PlaceKind) → IsFree offset places → slice_get places place ≡ Some kind → is_made_at offset kind ≡ false
get_free offset [] place kind f e = cc
get_free offset (other ∷ places) zero kind f e = subst (λ x. is_made_at offset x ≡ false) (some_is other kind e) (free_parts offset other places f).0
get_free offset (other ∷ places) (suc place) kind f e = get_free offset places place kind (free_parts offset other places f).1 e

values_free : (offset : ℕ) (values : List PlaceKind) (places : List ℕ) → IsFree offset values → IsFree offset (or_none (values_at values places))
values_free offset values [] f = refl
values_free offset values (place ∷ places) f = go (slice_get values place) refl (values_at values places) (values_free offset values places f)
  where
    go : (x : Option PlaceKind) → slice_get values place ≡ x → (y : Option (List PlaceKind)) → IsFree offset (or_none y) → IsFree offset (or_none (with_value x y))
    go None e y g = refl
    go (Some kind) e None g = refl
    go (Some kind) e (Some others) g = free_more offset kind others (get_free offset values place kind f e) g

-- an instruction at another offset makes nothing there
type_free : (offset : ℕ) (type : FieldType) → is_made_at offset (kind_of type) ≡ false
type_free offset (types.Int kind) = refl
type_free offset types.IntArray = refl

result_free : (offset : ℕ) (result : Option FieldType) → IsFree offset (result_kinds result)
result_free offset None = refl
result_free offset (Some type) = free_more offset (kind_of type) [] (type_free offset type) refl

gives_free : (offset at : ℕ) (instr : Instr) (shape : Shape) → (at == offset) ≡ false → IsFreeShape offset shape → IsFree offset (gives at instr shape)
gives_free offset at (Load sort local) shape n f = free_more offset _ [] (at_free offset shape.locals local f.0) refl
gives_free offset at (Shuffle count places) shape n f = values_free offset shape.stack places f.1
gives_free offset at (instructions.New class) shape n f = free_more offset (New at class) [] n refl
gives_free offset at (GetStatic member type initial) shape n f = free_more offset (kind_of type) [] (type_free offset type) refl
gives_free offset at (Invoke member signature) shape n f = result_free offset signature.result
gives_free offset at instr shape n f = refl

rest_free : (offset : ℕ) (instr : Instr) (shape : Shape) → IsFreeShape offset shape → IsFree offset (rest_after instr shape)
rest_free offset (Construct with_message class) shape f =
    map_free offset (made_at with_message shape) (λ kind. kinds.Thrown (class_of kind)) (λ kind. refl) (drop (constructed_from with_message) shape.stack) (drop_free offset (constructed_from with_message) shape.stack f.1)
rest_free offset instr shape f = drop_free offset (length (takes instr)) shape.stack f.1

locals_free : (offset at : ℕ) (instr : Instr) (shape : Shape) → IsFreeShape offset shape → IsFree offset (locals_after at instr shape)
locals_free offset at (Store sort local) shape f = store_free offset shape.locals local _ f.0 (at_free offset shape.stack 0 f.1)
locals_free offset at (instructions.New class) shape f = map_free offset at (λ kind. Unset) (λ kind. refl) shape.locals f.0
locals_free offset at (Construct with_message class) shape f = map_free offset (made_at with_message shape) (λ kind. kinds.Thrown (class_of kind)) (λ kind. refl) shape.locals f.0
locals_free offset at instr shape f = f.0

after_free : (offset at : ℕ) (instr : Instr) (shape : Shape) → (at == offset) ≡ false → IsFreeShape offset shape → IsFreeShape offset (after at instr shape)
after_free offset at instr shape n f = (locals_free offset at instr shape f, append_free offset (gives at instr shape) (rest_after instr shape) (gives_free offset at instr shape n f) (rest_free offset instr shape f))

-- and a join holds no new throwable that the first kind doesn't hold
references_free : (offset : ℕ) (kind other : PlaceKind) → is_reference kind ≡ true → is_reference other ≡ true → is_made_at offset (joined_references kind other) ≡ false
references_free offset Null (New made class) r s = cc
references_free offset Null other r s = refl
references_free offset (New made class) Null r s = cc
references_free offset kind Null r s = refl
references_free offset (kinds.Thrown class) (kinds.Thrown other) r s = refl
references_free offset kind other r s = refl

joined_free : (offset : ℕ) (kind other : PlaceKind) → is_made_at offset kind ≡ false → is_made_at offset (joined_kind kind other) ≡ false
joined_free offset kind other e = go (same_kind kind other) (is_reference kind && is_reference other) refl
  where
    go : (same both : Bool) → (is_reference kind && is_reference other) ≡ both → is_made_at offset (cond same kind (cond both (joined_references kind other) Unset)) ≡ false
    go true both f = e
    go false true f = let parts = and_parts (is_reference kind) _ f in references_free offset kind other parts.0 parts.1
    go false false f = refl

all_joined_free : (offset : ℕ) (places others : List PlaceKind) → IsFree offset places → IsFree offset (joined_kinds places others)
all_joined_free offset [] others f = refl
all_joined_free offset (kind ∷ places) [] f = f
all_joined_free offset (kind ∷ places) (other ∷ others) f =
    let both = free_parts offset kind places f in free_more offset (joined_kind kind other) (joined_kinds places others) (joined_free offset kind other both.0) (all_joined_free offset places others both.1)

joined_shape_free : (offset : ℕ) (shape other : Shape) → IsFreeShape offset shape → IsFreeShape offset (joined shape other)
joined_shape_free offset shape other f = (all_joined_free offset shape.locals other.locals f.0, all_joined_free offset shape.stack other.stack f.1)

-- so the rule of `new` is met where its own offset makes none
free_makes : (offset : ℕ) (instr : Instr) (shape : Shape) → IsFreeShape offset shape → may_make offset instr shape ≡ true
free_makes offset (instructions.New class) shape f = f.1
free_makes offset instr shape f = refl

-- the start holds none
filled_free : (offset count : ℕ) (parameters : List FieldType) → IsFree offset (filled count (map kind_of parameters))
filled_free offset zero parameters = refl
filled_free offset (suc count) [] = filled_free offset count []
filled_free offset (suc count) (type ∷ parameters) = free_more offset (kind_of type) (filled count (map kind_of parameters)) (type_free offset type) (filled_free offset count parameters)

-- CELLS

-- an offset of an instruction is one of the code, and each of those has a cell
line_within : (lines : List (Option Line)) (offset : ℕ) (line : Line) → or_no (slice_get lines offset) ≡ Some line → offset < length lines
line_within [] offset line e = cc
line_within (one ∷ lines) zero line e = omega arith
line_within (one ∷ lines) (suc offset) line e = omega (arith, line_within lines offset line e)

cell_there : (cells : List Cell) (offset : ℕ) → offset < length cells → (cell : Cell) × (slice_get cells offset ≡ Some cell)
cell_there [] offset l = absurd (omega arith)
cell_there (cell ∷ cells) zero l = (cell, refl)
cell_there (cell ∷ cells) (suc offset) l = cell_there cells offset (omega arith)

-- to store a shape leaves no offset unreached that was reached
unreached_before : (cells : List Cell) (offset : ℕ) (old new : Cell) (shape : Shape) → slice_get cells offset ≡ Some old → shape_of new ≡ Some shape
    → (place : ℕ) → shape_at (slice_set cells offset new) place ≡ None → shape_at cells place ≡ None
unreached_before cells offset old new shape e h = stored_each (λ place x. shape_in x ≡ None → shape_at cells place ≡ None) cells offset old new e (λ n. cc) (λ place n. n)

-- to settle what waits leaves all shapes as they are
same_shapes : (cells : List Cell) (offset : ℕ) (shape : Shape) → slice_get cells offset ≡ Some (Waiting shape) → (place : ℕ) → shape_at (slice_set cells offset (Settled shape)) place ≡ shape_at cells place
same_shapes cells offset shape e = stored_each (λ place x. shape_in x ≡ shape_at cells place) cells offset (Waiting shape) (Settled shape) e (sym (ap shape_in e)) (λ place. refl)

-- each shape that is passed is free of what is made at offsets that aren't reached
abbrev AllFree : List Cell → List (ℕ × Shape) → Type 0
AllFree cells [] = Unit {0}
AllFree cells (passed ∷ others) = ((place : ℕ) → shape_at cells place ≡ None → IsFreeShape place passed.1) × AllFree cells others

later_free : (cells next : List Cell) (passed : List (ℕ × Shape)) → ((place : ℕ) → shape_at next place ≡ None → shape_at cells place ≡ None) → AllFree cells passed → AllFree next passed
later_free cells next [] h f = tt
later_free cells next (one ∷ passed) h f = (λ place e. f.0 place (h place e), later_free cells next passed h f.1)

successors_free : (cells : List Cell) (offsets : List ℕ) (shape : Shape) (others : List (ℕ × Shape)) → ((place : ℕ) → shape_at cells place ≡ None → IsFreeShape place shape) → AllFree cells others
    → AllFree cells (map (λ offset. (offset, shape)) offsets ++ others)
successors_free cells [] shape others f g = g
successors_free cells (offset ∷ offsets) shape others f g = (f, successors_free cells offsets shape others f g)

handlers_free : (cells : List Cell) (handlers : List (ℕ × Thrown)) (shape : Shape) → ((place : ℕ) → shape_at cells place ≡ None → IsFreeShape place shape) → AllFree cells (map (to_handler shape) handlers)
handlers_free cells [] shape f = tt
handlers_free cells (handler ∷ handlers) shape f = ((λ place e. ((f place e).0, refl)), handlers_free cells handlers shape f)

passed_on : (cells : List Cell) (p : ℕ × Shape) (passed : List (ℕ × Shape)) (old new : Cell) (next : List Cell) → slice_get cells p.0 ≡ Some old → received old p.1 ≡ Some new
    → pass_all (slice_set cells p.0 new) passed ≡ Leaves next → pass_all cells (p ∷ passed) ≡ Leaves next
passed_on cells p passed old new next e f h = rw (e, f) h

turn_leaves : (method : Method) (cells : List Cell) (waiting : ℕ × Shape) (line : Line) (next : List Cell) → line_at method waiting.0 ≡ Some line
    → fault method.profile waiting.0 line.instr (is_none line.next) waiting.1 ≡ None → pass_all (slice_set cells waiting.0 (Settled waiting.1)) (passes waiting.0 line waiting.1) ≡ Leaves next
    → turn method cells waiting ≡ Leaves next
turn_leaves method cells waiting line next e f h = rw (e, f) h

-- THE VERIFIER STAYS WITHIN A SOLUTION

module _ (method : Method) (solution : List Cell) (rules : IsSolution method solution) where
  -- Cells so far: as many as the code has offsets; each shape is taken by the solution, and free of what is made at its own
  -- offset and at those that aren't reached.
  pub record IsBounded (cells : List Cell) : Type 0 where
    pub long : length cells ≡ length method.lines
    pub within : (offset : ℕ) (shape : Shape) → shape_at cells offset ≡ Some shape → Admits solution offset shape
    pub free : (offset : ℕ) (shape : Shape) → shape_at cells offset ≡ Some shape → (place : ℕ) → (place ≡ offset) ⊎ (shape_at cells place ≡ None) → IsFreeShape place shape

  abbrev AllTaken : List (ℕ × Shape) → Type 0
  AllTaken [] = Unit {0}
  AllTaken (passed ∷ others) = Admits solution passed.0 passed.1 × AllTaken others

  lower_taken : (offset : ℕ) (shape other : Shape) → Within shape other → Admits solution offset other → Admits solution offset shape
  lower_taken offset shape other u t = record { wider = t.wider; at = t.at; within = within_wider shape other t.wider u t.within }

  -- RECEIVING

  -- a cell that is passed a shape receives it, and the solution takes the new shape, which is free where the old one is
  record Got (offset : ℕ) (old : Cell) (shape : Shape) : Type 0 where
    pub cell : Cell
    pub is : received old shape ≡ Some cell
    pub new : Shape
    pub at : shape_of cell ≡ Some new
    pub taken : Admits solution offset new
    pub free : (place : ℕ) → ((held : Shape) → shape_of old ≡ Some held → IsFreeShape place held) → (shape_of old ≡ None → IsFreeShape place shape) → IsFreeShape place new

  of_one_depth : (offset : ℕ) (held shape : Shape) → Admits solution offset held → Admits solution offset shape → same_depth held shape ≡ true
  of_one_depth offset held shape a b =
      let e : a.wider ≡ b.wider = some_is _ _ (sym a.at ∙ b.at) in
      eq-eqb _ _ (within_long _ _ a.within.1 ∙ (ap (λ (x : Shape). length x.stack) e ∙ sym (within_long _ _ b.within.1)))

  joined_taken : (offset : ℕ) (held shape : Shape) → Admits solution offset held → Admits solution offset shape → Admits solution offset (joined held shape)
  joined_taken offset held shape a b = record { wider = a.wider; at = a.at; within = joined_shape_least held shape a.wider a.within (subst (Within shape) (some_is _ _ (sym b.at ∙ a.at)) b.within) }

  got : (offset : ℕ) (old : Cell) (shape : Shape) → ((held : Shape) → shape_of old ≡ Some held → Admits solution offset held) → Admits solution offset shape → Got offset old shape
  got offset Unreached shape a b = record { cell = Waiting shape; is = refl; new = shape; at = refl; taken = b; free = λ place f g. g refl }
  got offset (Waiting held) shape a b = record {
    cell = Waiting (joined held shape);
    is = rw (of_one_depth offset held shape (a held refl) b) refl;
    new = joined held shape;
    at = refl;
    taken = joined_taken offset held shape (a held refl) b;
    free = λ place f g. joined_shape_free place held shape (f held refl);
  }
  got offset (Settled held) shape a b = go (same_shape (joined held shape) held) refl
    where
      go : (x : Bool) → same_shape (joined held shape) held ≡ x → Got offset (Settled held) shape
      go true e = record {
        cell = Settled held;
        is = rw (of_one_depth offset held shape (a held refl) b, e) refl;
        new = held;
        at = refl;
        taken = a held refl;
        free = λ place f g. f held refl;
      }
      go false e = record {
        cell = Waiting (joined held shape);
        is = rw (of_one_depth offset held shape (a held refl) b, e) refl;
        new = joined held shape;
        at = refl;
        taken = joined_taken offset held shape (a held refl) b;
        free = λ place f g. joined_shape_free place held shape (f held refl);
      }

  stored_bounded : (cells : List Cell) (offset : ℕ) (old : Cell) (shape : Shape) → IsBounded cells → slice_get cells offset ≡ Some old → (g : Got offset old shape)
      → ((place : ℕ) → shape_at cells place ≡ None → IsFreeShape place shape) → IsBounded (slice_set cells offset g.cell)
  stored_bounded cells offset old shape b e g f = record {
    long = cells_long cells offset g.cell ∙ b.long;
    within = stored_each (λ q x. (held : Shape) → shape_in x ≡ Some held → Admits solution q held) cells offset old g.cell e
        (λ held h. subst (Admits solution offset) (some_is g.new held (sym g.at ∙ h)) g.taken) b.within;
    free = stored_each (λ q x. (held : Shape) → shape_in x ≡ Some held → (place : ℕ) → (place ≡ q) ⊎ (shape_at (slice_set cells offset g.cell) place ≡ None) → IsFreeShape place held) cells offset old g.cell e
        (λ held h place w. subst (IsFreeShape place) (some_is g.new held (sym g.at ∙ h))
        (g.free place (λ x y. b.free offset x (ap shape_in e ∙ y) place (before offset place w)) (λ y. f place (elim w [ inl z ↦ ap (shape_at cells) z ∙ (ap shape_in e ∙ y) | inr z ↦ gone place z ]))))
        (λ q held h place w. b.free q held h place (before q place w));
  }
    where
      gone : (place : ℕ) → shape_at (slice_set cells offset g.cell) place ≡ None → shape_at cells place ≡ None
      gone = unreached_before cells offset old g.cell g.new e g.at

      before : (q place : ℕ) → (place ≡ q) ⊎ (shape_at (slice_set cells offset g.cell) place ≡ None) → (place ≡ q) ⊎ (shape_at cells place ≡ None)
      before q place (inl z) = inl z
      before q place (inr z) = inr (unreached_before cells offset old g.cell g.new e g.at place z)

  -- all that is passed on is received
  passes_bounded : (passed : List (ℕ × Shape)) (cells : List Cell) → IsBounded cells → AllTaken passed → AllFree cells passed → (next : List Cell) × (pass_all cells passed ≡ Leaves next) × IsBounded next
  passes_bounded [] cells b t f = (cells, refl, b)
  passes_bounded (p ∷ passed) cells b t f =
      let h = rules.each p.0 t.0.wider t.0.at in
      let w = cell_there cells p.0 (subst (λ n. p.0 < n) (sym b.long) (line_within method.lines p.0 h.line h.is)) in
      let g = got p.0 w.0 p.1 (λ held e. b.within p.0 held (ap shape_in w.1 ∙ e)) t.0 in
      let i = passes_bounded passed (slice_set cells p.0 g.cell) (stored_bounded cells p.0 w.0 p.1 b w.1 g f.0) t.1
      (later_free cells (slice_set cells p.0 g.cell) passed (unreached_before cells p.0 w.0 g.cell g.new w.1 g.at) f.1) in
      (i.0, passed_on cells p passed w.0 g.cell i.0 w.1 g.is i.1, i.2)

  -- TURNS

  settled_bounded : (cells : List Cell) (offset : ℕ) (shape : Shape) → slice_get cells offset ≡ Some (Waiting shape) → IsBounded cells → IsBounded (slice_set cells offset (Settled shape))
  settled_bounded cells offset shape e b = record {
    long = cells_long cells offset (Settled shape) ∙ b.long;
    within = λ q held h. b.within q held (sym (same_shapes cells offset shape e q) ∙ h);
    free = λ q held h place w. b.free q held (sym (same_shapes cells offset shape e q) ∙ h) place (elim w [ inl z ↦ inl z | inr z ↦ inr (sym (same_shapes cells offset shape e place) ∙ z) ]);
  }

  -- the solution takes what it passes on from its own shape, and so what is passed on from a lower one
  each_taken : (passed : List (ℕ × Shape)) → ((n : ℕ) (one : ℕ × Shape) → slice_get passed n ≡ Some one → Admits solution one.0 one.1) → AllTaken passed
  each_taken [] h = tt
  each_taken (p ∷ passed) h = (h 0 p refl, each_taken passed (λ n one e. h (suc n) one e))

  lower_successors : (others lower : List (ℕ × Shape)) (offsets : List ℕ) (shape wider : Shape) → Within shape wider → AllTaken (map (λ offset. (offset, wider)) offsets ++ others) → (AllTaken others → AllTaken lower)
      → AllTaken (map (λ offset. (offset, shape)) offsets ++ lower)
  lower_successors others lower [] shape wider u h g = g h
  lower_successors others lower (offset ∷ offsets) shape wider u h g = (lower_taken offset shape wider u h.0, lower_successors others lower offsets shape wider u h.1 g)

  lower_handlers : (handlers : List (ℕ × Thrown)) (shape wider : Shape) → Within shape wider → AllTaken (map (to_handler wider) handlers) → AllTaken (map (to_handler shape) handlers)
  lower_handlers [] shape wider u h = tt
  lower_handlers (x ∷ handlers) shape wider u h =
      (lower_taken x.0 (to_handler shape x).1 (to_handler wider x).1 (u.0, all_within_self (kinds.Thrown x.1 ∷ [])) h.0, lower_handlers handlers shape wider u h.1)

  -- a turn has no fault, and stays within
  turn_bounded : (cells : List Cell) (waiting : ℕ × Shape) → IsBounded cells → lowest cells ≡ Some waiting → (next : List Cell) × (turn method cells waiting ≡ Leaves next) × IsBounded next
  turn_bounded cells waiting b e =
      let at : slice_get cells waiting.0 ≡ Some (Waiting waiting.1) = lowest_waits cells waiting e in
      let k = b.within waiting.0 waiting.1 (ap shape_in at) in
      let h = rules.each waiting.0 k.wider k.at in
      let line = h.line in
      let own = b.free waiting.0 waiting.1 (ap shape_in at) in
      let fine = fault_within method.profile waiting.0 line.instr (is_none line.next) waiting.1 k.wider h.fine k.within (free_makes waiting.0 line.instr waiting.1 (own waiting.0 (inl refl))) in
      let meet = takes_meet method.profile waiting.0 line.instr (is_none line.next) k.wider h.fine in
      let changed = slice_set cells waiting.0 (Settled waiting.1) in
      let taken = lower_successors (map (to_handler k.wider) line.handlers) (map (to_handler waiting.1) line.handlers) (successors line) (after waiting.0 line.instr waiting.1) (after waiting.0 line.instr k.wider)
      (after_within waiting.0 line.instr waiting.1 k.wider meet k.within) (each_taken (passes waiting.0 line k.wider) h.leads) (lower_handlers line.handlers waiting.1 k.wider k.within) in
      let gone : (place : ℕ) → shape_at changed place ≡ None → shape_at cells place ≡ None = λ place z. sym (same_shapes cells waiting.0 waiting.1 at place) ∙ z in
      let apart : (place : ℕ) → shape_at changed place ≡ None → waiting.0 ≡ place → ⊥ = λ place z q. (let f : Some waiting.1 ≡ None = sym (ap shape_in at) ∙ (ap (shape_at cells) q ∙ gone place z) in cc) in
      let free = successors_free changed (successors line) (after waiting.0 line.instr waiting.1) (map (to_handler waiting.1) line.handlers)
      (λ place z. after_free place waiting.0 line.instr waiting.1 (ne_eqb waiting.0 place (apart place z)) (own place (inr (gone place z))))
      (handlers_free changed line.handlers waiting.1 (λ place z. own place (inr (gone place z)))) in
      let r = passes_bounded (passes waiting.0 line waiting.1) changed (settled_bounded cells waiting.0 waiting.1 at b) taken free in
      (r.0, turn_leaves method cells waiting line r.0 h.is fine r.1, r.2)

  next_bounded : (cells : List Cell) (waiting : ℕ × Shape) (next : List Cell) → IsBounded cells → lowest cells ≡ Some waiting → turn method cells waiting ≡ Leaves next → IsBounded next
  next_bounded cells waiting next b e t = let x = turn_bounded cells waiting b e in subst IsBounded (leaves_is x.0 next (sym x.1 ∙ t)) x.2

  no_fault : (cells : List Cell) (outcome : Outcome) → Ends method cells outcome → IsBounded cells → (offset : ℕ) (why : VerifyKind) → outcome ≡ Fault offset why → ⊥
  no_fault cells outcome (Rests _ e) b offset why f = cc
  no_fault cells outcome (Stops _ waiting at found e t) b offset why f = let x = turn_bounded cells waiting b e in let y : Leaves x.0 ≡ Fails at found = sym x.1 ∙ t in cc
  no_fault cells outcome (Turns _ waiting next _ e t h) b offset why f = no_fault next outcome h (next_bounded cells waiting next b e t) offset why f

  last_bounded : (cells : List Cell) (outcome : Outcome) → Ends method cells outcome → IsBounded cells → (last : List Cell) → outcome ≡ Accepted last → IsBounded last
  last_bounded cells outcome (Rests _ e) b last f = subst IsBounded (accepted_is cells last f) b
  last_bounded cells outcome (Stops _ waiting at found e t) b last f = cc
  last_bounded cells outcome (Turns _ waiting next _ e t h) b last f = last_bounded next outcome h (next_bounded cells waiting next b e t) last f

  -- THE START

  start_bounded : 0 < length method.lines → IsBounded (start method)
  start_bounded l = with_code method IsBounded l (λ count e. record { long = ap suc (length-replicate count Unreached) ∙ sym e; within = first count; free = fresh count })
    where
      first : (count offset : ℕ) (shape : Shape) → shape_at (Waiting (entered method.profile) ∷ replicate count Unreached) offset ≡ Some shape → Admits solution offset shape
      first count zero shape h = subst (Admits solution 0) (some_is _ shape h) rules.entry
      first count (suc offset) shape h = absurd (unreached_empty count offset shape h)

      fresh : (count offset : ℕ) (shape : Shape) → shape_at (Waiting (entered method.profile) ∷ replicate count Unreached) offset ≡ Some shape
          → (place : ℕ) → (place ≡ offset) ⊎ (shape_at (Waiting (entered method.profile) ∷ replicate count Unreached) place ≡ None) → IsFreeShape place shape
      fresh count zero shape h place w = subst (IsFreeShape place) (some_is _ shape h) (filled_free place method.profile.max_locals method.profile.parameters, refl)
      fresh count (suc offset) shape h place w = absurd (unreached_empty count offset shape h)

  -- THE END

  -- the last shapes are within the solution
  pub last_least : 0 < length method.lines → (last : List Cell) → Verifies method (Accepted last) → (offset : ℕ) (shape : Shape) → shape_at last offset ≡ Some shape → Admits solution offset shape
  last_least l last h = (last_bounded (start method) (Accepted last) h (start_bounded l) last refl).within

  -- a method that has a solution has no fault
  pub solution_no_fault : 0 < length method.lines → (offset : ℕ) (why : VerifyKind) → Verifies method (Fault offset why) → ⊥
  solution_no_fault l offset why h = no_fault (start method) (Fault offset why) h (start_bounded l) offset why refl

-- so it is accepted
pub solution_accepted : (method : Method) (solution : List Cell) → 0 < length method.lines → IsSolution method solution → (cells : List Cell) × Verifies method (Accepted cells)
solution_accepted method solution l rules = go (outcome_exists method l)
  where
    go : (outcome : Outcome) × Verifies method outcome → (cells : List Cell) × Verifies method (Accepted cells)
    go (Accepted cells, h) = (cells, h)
    go (Fault offset why, h) = absurd (solution_no_fault method solution rules l offset why h)
