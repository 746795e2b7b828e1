-- What instructions did, where they throw.
use Rattle.std.proofs.Common.{◌≡◌, ℕ, zero, suc, ℤ, pos, ◌<◌, ◌≤◌, List, [], ◌∷◌, length, map, get_or, slice_get, slice_set, Option, Some, None, refl, sym, ap, subst, ◌∙◌}
use Rattle.std.specs.Prelude.{option_map}
use Rattle.std.proofs.lemmas.List.{length-map}
use Rattle.std.proofs.lemmas.Option.{get_or_from_slice_get, slice_get-get_or, slice_get-map, slice_get_past}
use Rattle.ms_machine.proofs.ValueMap.{slice_set_map}
use Rattle.ms_words.specs.declared.operator.Bin.{Bin}
use Rattle.ms_words.specs.declared.thrown.Thrown.TheVariants as throwables
use Rattle.ms_machine.specs.Instructions.{ArrayLength, ArrayLoad, ArrayStore, Divide, Sort, Store, Throw}
use Rattle.ms_machine.specs.Effects.{Asks, Does, Doing, Effect, Here, Indexes, Moves, Next, effect, next, on_cell, on_some, store_cell, stuck, throwing}
use Rattle.ms_machine.specs.Values.{Int, Value}
use Rattle.ms_interpreter.specs.declared.did.Did.{Did}
use Rattle.ms_interpreter.specs.declared.did.Did.TheVariants as did
use Rattle.ms_interpreter.specs.declared.did.Stop.TheVariants as stops
use Rattle.ms_interpreter.specs.declared.plan.Plan.TheVariants as plan
use Rattle.ms_interpreter.specs.declared.slot.Slot.{Slot}
use Rattle.ms_interpreter.specs.declared.slot.Slot.TheVariants as slots
use Rattle.ms_interpreter.specs.Doing.{ActsAnyhow, ActsFor, Throws, doing_of, for_arm, planned_here}
use Rattle.ms_interpreter.specs.Frames.{Frame, Shared}
use Rattle.ms_interpreter.specs.Locals.{with_slot}
use Rattle.ms_interpreter.proofs.LocalsOf.{with_slot_seen}
use Rattle.ms_interpreter.specs.Plans.{Constant, Given, Planned, plans}
use Rattle.ms_interpreter.specs.Seen.{Texts, values_of}

-- a divisor that is 0
pub divides_by_zero : {I : Type 0} (op : Bin) (arm : ℕ) (frame frame' : Frame I) (shared shared' : Shared I) (done : Did I) (a b : I) (below : List (Slot I))
    → frame.stack ≡ slots.Int b ∷ slots.Int a ∷ below → (arm ≡ 0 → ⊥) → Throws throwables.Arithmetic done shared shared' → ActsFor (Divide op) arm frame shared done frame' shared'
divides_by_zero op zero frame frame' shared shared' done a b below is other throws texts known = absurd (other refl)
divides_by_zero op (suc arm) frame frame' shared shared' done a b below is other throws texts known =
    subst (λ (stack : List (Slot _)). for_arm (suc arm) (effect (plans known) (Divide op) (planned_here texts (record frame { stack = stack }) shared)) ≡ doing_of known texts done (planned_here texts frame' shared'))
    (sym is) (throws texts known frame')

-- a null reference, where a throwable is wanted
pub throws_null : {I : Type 0} (frame frame' : Frame I) (shared shared' : Shared I) (done : Did I) (below : List (Slot I))
    → frame.stack ≡ slots.Null ∷ below → Throws throwables.NullPointer done shared shared' → ActsAnyhow Throw frame shared done frame' shared'
throws_null frame frame' shared shared' done below is throws texts arm known =
    subst (λ (stack : List (Slot _)). for_arm arm (effect (plans known) Throw (planned_here texts (record frame { stack = stack }) shared)) ≡ doing_of known texts done (planned_here texts frame' shared'))
    (sym is) (throws texts known frame')

-- or an array, of which the length is wanted
pub null_has_no_length : {I : Type 0} (frame frame' : Frame I) (shared shared' : Shared I) (done : Did I) (below : List (Slot I))
    → frame.stack ≡ slots.Null ∷ below → Throws throwables.NullPointer done shared shared' → ActsAnyhow ArrayLength frame shared done frame' shared'
null_has_no_length frame frame' shared shared' done below is throws texts arm known =
    subst (λ (stack : List (Slot _)). for_arm arm (effect (plans known) ArrayLength (planned_here texts (record frame { stack = stack }) shared)) ≡ doing_of known texts done (planned_here texts frame' shared'))
    (sym is) (throws texts known frame')

-- ARRAYS

-- the cells of an array, as the machine sees them
cells_seen : {I : Type 0} (shared : Shared I) (number : ℕ) (cells : Option (List I)) → cells ≡ slice_get shared.arrays number → slice_get (map (map Given) shared.arrays) number ≡ option_map (map Given) cells
cells_seen shared number cells is = slice_get-map (map Given) shared.arrays number ∙ ap (option_map (map Given)) (sym is)

-- what is done with an array that is there
pub with_cells : {I : Type 0} (shared : Shared I) (number : ℕ) (cells : List I) (go : List (Planned I) → Effect (Planned I)) → Some cells ≡ slice_get shared.arrays number
    → on_some (slice_get (map (map Given) shared.arrays) number) go ≡ go (map Given cells)
with_cells shared number cells go is = ap (λ (o : Option (List (Planned _))). on_some o go) (cells_seen shared number (Some cells) is)

-- and with one that isn't
pub without_cells : {I : Type 0} (shared : Shared I) (number : ℕ) (go : List (Planned I) → Effect (Planned I)) → None ≡ slice_get shared.arrays number
    → on_some (slice_get (map (map Given) shared.arrays) number) go ≡ stuck
without_cells shared number go is = ap (λ (o : Option (List (Planned _))). on_some o go) (cells_seen shared number None is)

-- the length of an array is put on the stack
pub has_length : {I : Type 0} (frame frame' : Frame I) (shared : Shared I) (number : ℕ) (cells : List I) (below : List (Slot I)) (word : ℤ)
    → frame.stack ≡ slots.Array number ∷ below → Some cells ≡ slice_get shared.arrays number → word ≡ pos (length cells) → frame' ≡ record frame { stack = below }
    → ActsAnyhow ArrayLength frame shared (did.Pushes (plan.Constant word)) frame' shared
has_length frame frame' shared number cells below word is there long left texts arm known =
    let here = planned_here texts frame shared in
    let go = λ (values : List (Planned _)). Does (next here (Int (Constant (pos (length values))) ∷ values_of Given texts below)) in
    rw (is, long, left) (ap (for_arm arm) (with_cells shared number cells go there) ∙ ap (λ (n : ℕ). Moves Next (record here { stack = Int (Constant (pos n)) ∷ values_of Given texts below })) (length-map cells Given))

-- a local that was stored
pub stores : {I : Type 0} (sort : Sort) (local : ℕ) (frame frame' : Frame I) (shared : Shared I) (slot : Slot I) (below : List (Slot I)) → frame.stack ≡ slot ∷ below
    → frame'.locals ≡ with_slot frame.locals local slot → frame'.stack ≡ below → ActsAnyhow (Store sort local) frame shared did.Next frame' shared
stores sort local frame frame' shared slot below is stored left texts arm known =
    rw (is, stored, left) (ap (λ (locals : List (Option (Value (Planned _)))). Moves Next (record (planned_here texts frame shared) { locals = locals; stack = values_of Given texts below }))
    (sym (with_slot_seen Given texts frame.locals local slot)))

-- an array that isn't there
pub no_array : {I : Type 0} (frame frame' : Frame I) (shared : Shared I) (number : ℕ) (below : List (Slot I)) → frame.stack ≡ slots.Array number ∷ below → None ≡ slice_get shared.arrays number
    → ActsAnyhow ArrayLength frame shared (did.Stops stops.Stuck) frame' shared
no_array frame frame' shared number below is there texts arm known =
    let here = planned_here texts frame shared in
    let go = λ (values : List (Planned _)). Does (next here (Int (Constant (pos (length values))) ∷ values_of Given texts below)) in
    rw is (ap (for_arm arm) (without_cells shared number go there))

-- CELLS

-- what is done with a cell that is there
on_some_cell : {I : Type 0} (here : Here (Planned I)) (cells : List I) (place : ℕ) (cell : I) (go : Planned I → Doing (Planned I)) → Some cell ≡ slice_get cells place
    → on_cell here (slice_get (map Given cells) place) go ≡ go (Given cell)
on_some_cell here cells place cell go is = ap (λ (o : Option (Planned _)). on_cell here o go) (slice_get-map Given cells place ∙ ap (option_map Given) (sym is))

-- and with one that isn't
on_no_cell : {I : Type 0} (here : Here (Planned I)) (cells : List I) (place : ℕ) (go : Planned I → Doing (Planned I)) → None ≡ slice_get cells place
    → on_cell here (slice_get (map Given cells) place) go ≡ throwing throwables.ArrayIndexOutOfBounds here
on_no_cell here cells place go is = ap (λ (o : Option (Planned _)). on_cell here o go) (slice_get-map Given cells place ∙ ap (option_map Given) (sym is))

-- what the machine sees of arrays of which one cell is changed
cell_seen : {I : Type 0} (arrays : List (List I)) (number place : ℕ) (cells : List I) (a : I) → Some cells ≡ slice_get arrays number
    → slice_set (map (map Given) arrays) number (slice_set (map Given cells) place (Given a)) ≡ map (map Given) (slice_set arrays number (slice_set (get_or arrays number []) place a))
cell_seen arrays number place cells a there =
    ap (slice_set (map (map Given) arrays) number) (slice_set_map Given cells place a)
    ∙ slice_set_map (map Given) arrays number (slice_set cells place a)
    ∙ ap (λ (list : List _). map (map Given) (slice_set arrays number (slice_set list place a))) (sym (get_or_from_slice_get arrays number cells [] (sym there)))

module _ {I : Type 0} (frame frame' : Frame I) (shared : Shared I) (arm number : ℕ) (index : I) (below : List (Slot I)) where
  -- a cell is loaded: what the test does
  abbrev loading : Texts → List (Planned I) → Effect (Planned I)
  loading texts cells =
      let here = planned_here texts frame shared in
      Asks (Indexes (Given index) (length cells)) (λ arm. on_cell here (slice_get cells arm) (λ a. next here (Int a ∷ values_of Given texts below)))

  pub loads_cell : (cells : List I) (cell : I) → frame.stack ≡ slots.Int index ∷ slots.Array number ∷ below → Some cells ≡ slice_get shared.arrays number → Some cell ≡ slice_get cells arm
      → frame'.locals ≡ frame.locals → frame'.stack ≡ slots.Int cell ∷ below → ActsFor ArrayLoad arm frame shared did.Next frame' shared
  loads_cell cells cell is there in_it locals left texts known =
      let here = planned_here texts frame shared in
      rw (is, locals, left) (ap (for_arm arm) (with_cells shared number cells (loading texts) there) ∙ on_some_cell here cells arm cell (λ a. next here (Int a ∷ values_of Given texts below)) in_it)

  pub load_out_of_range : (cells : List I) (shared' : Shared I) (done : Did I) → frame.stack ≡ slots.Int index ∷ slots.Array number ∷ below → Some cells ≡ slice_get shared.arrays number → None ≡ slice_get cells arm
      → Throws throwables.ArrayIndexOutOfBounds done shared shared' → ActsFor ArrayLoad arm frame shared done frame' shared'
  load_out_of_range cells shared' done is there out throws texts known =
      let here = planned_here texts frame shared in
      rw is (ap (for_arm arm) (with_cells shared number cells (loading texts) there) ∙ on_no_cell here cells arm (λ a. next here (Int a ∷ values_of Given texts below)) out ∙ throws texts known frame')

  pub loads_from_none : frame.stack ≡ slots.Int index ∷ slots.Array number ∷ below → None ≡ slice_get shared.arrays number → ActsFor ArrayLoad arm frame shared (did.Stops stops.Stuck) frame' shared
  loads_from_none is there texts known = rw is (ap (for_arm arm) (without_cells shared number (loading texts) there))

  pub loads_from_null : (shared' : Shared I) (done : Did I) → frame.stack ≡ slots.Int index ∷ slots.Null ∷ below → Throws throwables.NullPointer done shared shared' → ActsFor ArrayLoad arm frame shared done frame' shared'
  loads_from_null shared' done is throws texts known = rw is (throws texts known frame')

  module _ (a : I) where
    -- a cell is stored
    abbrev storing : Texts → List (Planned I) → Effect (Planned I)
    storing texts cells =
        let here = planned_here texts frame shared in
        Asks (Indexes (Given index) (length cells)) (λ arm. on_cell here (slice_get cells arm) (λ cell. store_cell here (values_of Given texts below) number cells arm (Given a)))

    pub stores_cell : (cells : List I) (shared' : Shared I) → frame.stack ≡ slots.Int a ∷ slots.Int index ∷ slots.Array number ∷ below → Some cells ≡ slice_get shared.arrays number → arm < length cells
        → frame'.locals ≡ frame.locals → frame'.stack ≡ below → shared' ≡ record shared { arrays = slice_set shared.arrays number (slice_set (get_or shared.arrays number []) arm a) }
        → ActsFor ArrayStore arm frame shared did.Next frame' shared'
    stores_cell cells shared' is there within locals left stored texts known =
        let here = planned_here texts frame shared in
        let go = λ (cell : Planned _). store_cell here (values_of Given texts below) number (map Given cells) arm (Given a) in
        rw (is, locals, left, stored) (ap (for_arm arm) (with_cells shared number cells (storing texts) there)
        ∙ on_some_cell here cells arm (get_or cells arm a) go (sym (slice_get-get_or cells arm a within))
        ∙ ap (λ (arrays : List (List (Planned _))). Moves Next (record here { stack = values_of Given texts below; memory = record here.memory { arrays = arrays } })) (cell_seen shared.arrays number arm cells a there))

    pub store_out_of_range : (cells : List I) (shared' : Shared I) (done : Did I) → frame.stack ≡ slots.Int a ∷ slots.Int index ∷ slots.Array number ∷ below → Some cells ≡ slice_get shared.arrays number → length cells ≤ arm
        → Throws throwables.ArrayIndexOutOfBounds done shared shared' → ActsFor ArrayStore arm frame shared done frame' shared'
    store_out_of_range cells shared' done is there out throws texts known =
        let here = planned_here texts frame shared in
        rw is (ap (for_arm arm) (with_cells shared number cells (storing texts) there)
        ∙ on_no_cell here cells arm (λ cell. store_cell here (values_of Given texts below) number (map Given cells) arm (Given a)) (sym (slice_get_past cells arm out)) ∙ throws texts known frame')

    pub stores_in_none : frame.stack ≡ slots.Int a ∷ slots.Int index ∷ slots.Array number ∷ below → None ≡ slice_get shared.arrays number → ActsFor ArrayStore arm frame shared (did.Stops stops.Stuck) frame' shared
    stores_in_none is there texts known = rw is (ap (for_arm arm) (without_cells shared number (storing texts) there))

    pub stores_in_null : (shared' : Shared I) (done : Did I) → frame.stack ≡ slots.Int a ∷ slots.Int index ∷ slots.Null ∷ below → Throws throwables.NullPointer done shared shared' → ActsFor ArrayStore arm frame shared done frame' shared'
    stores_in_null shared' done is throws texts known = rw is (throws texts known frame')
