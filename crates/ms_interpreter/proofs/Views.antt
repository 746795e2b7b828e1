-- What is read of the views of a program.
use Rattle.std.proofs.Common.{◌≡◌, ℕ, zero, suc, ◌≤◌, ◌<◌, nat_le, true, false, cond, List, [], ◌∷◌, ◌++◌, length, map, reverse, take, drop, Option, Some, None, refl, sym, ap, ◌∙◌, arith}
use Rattle.std.proofs.lemmas.List.{drop-map, length-map, length-reverse, reverse-append, take-map}
use Rattle.ms_machine.proofs.ValueMap.{reverse_map}
use Rattle.std.specs.Prelude.{IsSome, is_some, option_map, option_and_then, slice_get, Bool}
use Rattle.std.proofs.lemmas.Option.{none-some, same_Some}
use Rattle.ms_words.specs.Throwables.{is_a}
use Rattle.ms_words.specs.declared.item.Item.{Item}
use Rattle.ms_words.specs.declared.thrown.Thrown.{Thrown}
use Rattle.ms_program.specs.Programs.{Program, class_named}
use Rattle.ms_program.specs.declared.view.CatchPart.{CatchPart}
use Rattle.ms_program.specs.Views as views
use Rattle.ms_program.specs.Views.{view}
use Rattle.ms_machine.specs.Instructions.{Instr}
use Rattle.ms_machine.specs.Values.{Value, Throwable, Memory, Deep, Stuck, Threw}
use Rattle.ms_machine.specs.Effects.{Where, Moves}
use Rattle.ms_machine.specs.Control as control
use Rattle.ms_machine.specs.Control.{Done, Ends, Goes, View, Views, catching, caught, enters, goes_on, leaving, most_frames, perform, place, returned_with, returns, throws, viewed}
use Rattle.ms_linking.specs.declared.instruction.Instruction.{Instruction}
use Rattle.ms_linking.specs.Linked.{Numbers, handler_of, linked, linked_instr, views_of, with_instr}
use Rattle.ms_linking.specs.Told.{told}
use Rattle.ms_interpreter.specs.declared.slot.Slot.{Slot}
use Rattle.ms_interpreter.specs.declared.state.State.{State}
use Rattle.ms_interpreter.specs.Frames.{Frame}
use Rattle.ms_interpreter.specs.Leads.{below_of, state_of}
use Rattle.ms_interpreter.specs.Seen as seen
use Rattle.ms_interpreter.specs.Seen.{Texts, frame_of, locals_of, memory_of, value_of, values_of}
use Rattle.ms_interpreter.proofs.Settled.{map_after}

-- A PART OF A VIEW

part_of_instr : {A : Type 0} (v : views.View) (part : View → Option A) (part' : views.View → Option A) → ((v : views.View) (instr : Instr) → part (with_instr v instr) ≡ part' v)
    → (instr : Option Instr) → IsSome (option_map (with_instr v) instr) → option_and_then part (option_map (with_instr v) instr) ≡ part' v
part_of_instr v part part' same None is = absurd (let e = is in cc)
part_of_instr v part part' same (Some instr) is = same v instr

part_of_view : {A : Type 0} (numbers : Numbers) (part : View → Option A) (part' : views.View → Option A) → ((v : views.View) (instr : Instr) → part (with_instr v instr) ≡ part' v)
    → (v : Option views.View) → IsSome (option_and_then (linked numbers) v) → option_and_then part (option_and_then (linked numbers) v) ≡ option_and_then part' v
part_of_view numbers part part' same None is = refl
part_of_view numbers part part' same (Some v) is = part_of_instr v part part' same (option_and_then (linked_instr numbers v) v.instr) is

-- a part that doesn't depend on what the instruction is
pub part_seen : {A : Type 0} (P : Program) (item : Item) (part : View → Option A) (part' : views.View → Option A) → ((v : views.View) (instr : Instr) → part (with_instr v instr) ≡ part' v)
    → IsSome (views_of P item) → option_and_then part (views_of P item) ≡ option_and_then part' (view P item)
part_seen P item part part' same is = part_of_view (class_named P) part part' same (view P item) is

-- WHETHER THERE IS A VIEW

some_mapped : {A B : Type 0} (f : A → B) (o : Option A) → is_some (option_map f o) ≡ is_some o
some_mapped f None = refl
some_mapped f (Some a) = refl

-- there is one where the instruction is known
pub is_seen : (numbers : Numbers) (v : views.View) (found : Option Instruction) → option_map told found ≡ option_and_then (linked_instr numbers v) v.instr → is_some found ≡ is_some (linked numbers v)
is_seen numbers v found is = sym (some_mapped told found) ∙ ap is_some is ∙ sym (some_mapped (with_instr v) (option_and_then (linked_instr numbers v) v.instr))

-- WHERE THERE IS NONE THE RUN IS STUCK

unseen_at : {A : Type 0} (seen : Option View) (none : A) (go : View → A) → is_some seen ≡ false → viewed seen none go ≡ none
unseen_at None none go is = refl
unseen_at (Some view) none go is = absurd (let e = is in cc)

not_some : {A : Type 0} (o : Option A) → is_some o ≡ false → o ≡ None
not_some None is = refl
not_some (Some a) is = absurd (let e = is in cc)

empty : {A : Type 0} (xs : List A) → length xs ≡ 0 → xs ≡ []
empty [] is = refl
empty (x ∷ xs) is = absurd (omega (arith, is))

caught_seen : {V : Type 0} (seen : Option View) (class : Thrown) (go : Option Item → Done V) → IsSome seen
    → viewed seen (Ends Stuck) (λ view. go (catching view.handlers class)) ≡ go (option_and_then (λ view. catching view.handlers class) seen)
caught_seen None class go is = absurd (let e = is in cc)
caught_seen (Some view) class go is = refl

-- the handlers from one on
pub next_handler : (handlers : List CatchPart) (i : ℕ) (part : CatchPart) (class : Thrown) → slice_get handlers i ≡ Some part
    → catching (map handler_of (drop i handlers)) class ≡ cond (is_a class part.catches) (Some part.handler) (catching (map handler_of (drop (suc i) handlers)) class)
next_handler [] i part class is = absurd (none-some part is)
next_handler (first ∷ handlers) zero part class is =
    ap (λ (part : CatchPart). cond (is_a class part.catches) (Some part.handler) (catching (map handler_of handlers) class)) (same_Some first part is)
next_handler (first ∷ handlers) (suc i) part class is = next_handler handlers i part class is

-- and where there is none
pub no_handler : (handlers : List CatchPart) (i : ℕ) (class : Thrown) → slice_get handlers i ≡ None → catching (map handler_of (drop i handlers)) class ≡ None
no_handler [] zero class is = refl
no_handler [] (suc i) class is = refl
no_handler (first ∷ handlers) zero class is = absurd (none-some first (sym is))
no_handler (first ∷ handlers) (suc i) class is = no_handler handlers i class is

module _ {V : Type 0} where
  pub goes_seen : (seen : Option View) (part : View → Option Item) (frame : control.Frame V) (below : List (control.Frame V)) (memory : Memory V)
      → viewed seen (Ends Stuck) (λ view. goes_on (part view) frame below memory) ≡ goes_on (option_and_then part seen) frame below memory
  goes_seen None part frame below memory = refl
  goes_seen (Some view) part frame below memory = refl

  pub enters_seen : (seen : Option View) (part : View → Option Item) (locals : List (Option (Value V))) (initialises : Option ℕ) (frame : control.Frame V) (below : List (control.Frame V)) (memory : Memory V)
      → viewed seen (Ends Stuck) (λ view. enters (part view) locals initialises frame below memory) ≡ enters (option_and_then part seen) locals initialises frame below memory
  enters_seen None part locals initialises frame below memory = refl
  enters_seen (Some view) part locals initialises frame below memory = refl

  -- no instruction is seen there
  pub unseen : (P : Views) (at item : Item) (seen : Bool) (done : Done V) (go : View → Done V) → at ≡ item → seen ≡ is_some (P at) → seen ≡ false → viewed (P item) done go ≡ done
  unseen P at item seen done go same is none = unseen_at (P item) done go (ap (λ (at : Item). is_some (P at)) (sym same) ∙ sym is ∙ none)

  -- the lowest frame returns
  pub returns_last : (P : Views) (result : Option (Value V)) (memory : Memory V) (initialises : Option ℕ) (below : List (control.Frame V)) → is_some initialises ≡ false → below ≡ []
      → returns P result memory initialises below ≡ Ends (returned_with result)
  returns_last P result memory initialises below none last =
      ap (λ (initialises : Option ℕ). returns P result memory initialises below) (not_some initialises none) ∙ ap (λ (below : List (control.Frame V)). returns P result memory None below) last

  -- what comes of a throwable that leaves a frame
  abbrev pub unwound : Views → ℕ → Thrown → Memory V → List (control.Frame V) → Done V
  unwound P number class memory [] = Ends (Threw class)
  unwound P number class memory (caller ∷ below) = throws P number class memory caller below

  pub thrown_seen : (P : Views) (number : ℕ) (class : Thrown) (memory : Memory V) (frame : control.Frame V) (below : List (control.Frame V)) → IsSome (P frame.at)
      → throws P number class memory frame below ≡ caught (option_and_then (λ view. catching view.handlers class) (P frame.at)) (Throwable number class) frame below memory (leaving frame.initialises (unwound P number class memory below))
  thrown_seen P number class memory frame [] is = caught_seen (P frame.at) class (λ found. caught found (Throwable number class) frame [] memory (leaving frame.initialises (Ends (Threw class)))) is
  thrown_seen P number class memory frame (caller ∷ below) is =
      caught_seen (P frame.at) class (λ found. caught found (Throwable number class) frame (caller ∷ below) memory (leaving frame.initialises (throws P number class memory caller below))) is

  -- a frame of which no instruction is seen
  pub throws_unseen : (P : Views) (number : ℕ) (class : Thrown) (memory : Memory V) (frame : control.Frame V) (below : List (control.Frame V)) → is_some (P frame.at) ≡ false
      → throws P number class memory frame below ≡ Ends Stuck
  throws_unseen P number class memory frame [] none = unseen_at (P frame.at) (Ends Stuck) (λ view. caught (catching view.handlers class) (Throwable number class) frame [] memory (leaving frame.initialises (Ends (Threw class)))) none
  throws_unseen P number class memory frame (caller ∷ below) none =
      unseen_at (P frame.at) (Ends Stuck) (λ view. caught (catching view.handlers class) (Throwable number class) frame (caller ∷ below) memory (leaving frame.initialises (throws P number class memory caller below))) none

-- GOING ON, FROM THE TOP FRAME

module _ {I V : Type 0} (f : I → V) (texts : Texts) where
  -- at an item that the view gives
  pub moves : (P : Views) (state : State I) (at : Item) (where_to : Where) (item : Option Item) (done : Done V) → at ≡ state.top.at
      → option_and_then (λ view. place view where_to) (P at) ≡ item → goes_on item (frame_of f texts state.top) (below_of f texts state) (memory_of f texts state.memory) ≡ done
      → perform P (state_of f texts state) (Moves where_to (seen.here_of f texts state.top state.memory)) ≡ done
  moves P state at where_to item done same is goes =
      goes_seen (P state.top.at) (λ view. place view where_to) (frame_of f texts state.top) (below_of f texts state) (memory_of f texts state.memory)
      ∙ ap (λ (item : Option Item). goes_on item (frame_of f texts state.top) (below_of f texts state) (memory_of f texts state.memory))
      (ap (λ (at : Item). option_and_then (λ view. place view where_to) (P at)) (sym same) ∙ is)
      ∙ goes

  -- how many frames wait
  waits : (state : State I) → length (below_of f texts state) ≡ length state.below.items
  waits state = length-map (reverse state.below.items) (frame_of f texts) ∙ length-reverse state.below.items

  deep : (n : ℕ) → 255 ≤ n → nat_le most_frames (suc n) ≡ true
  unfolding most_frames
  deep n many = grind arith

  shallow : (n : ℕ) → n < 255 → nat_le most_frames (suc n) ≡ false
  unfolding most_frames
  shallow n few = grind arith

  pub enters_none : (state : State I) (item : Item) (locals : List (Option (Value V))) (initialises : Option ℕ) → 255 ≤ length state.below.items
      → enters (Some item) locals initialises (frame_of f texts state.top) (below_of f texts state) (memory_of f texts state.memory) ≡ Ends Deep
  enters_none state item locals initialises many =
      let above : control.Frame V = record { at = item; locals = locals; stack = []; initialises = initialises } in
      ap (λ (full : Bool). cond full (Ends Deep) (Goes (record { top = above; below = frame_of f texts state.top ∷ below_of f texts state; memory = memory_of f texts state.memory })))
      (ap (λ (n : ℕ). nat_le most_frames (suc n)) (waits state) ∙ deep (length state.below.items) many)

  pub enters_one : (state : State I) (item : Item) (locals : List (Option (Value V))) (initialises : Option ℕ) → length state.below.items < 255
      → enters (Some item) locals initialises (frame_of f texts state.top) (below_of f texts state) (memory_of f texts state.memory)
      ≡ Goes (record { top = record { at = item; locals = locals; stack = []; initialises = initialises }; below = frame_of f texts state.top ∷ below_of f texts state; memory = memory_of f texts state.memory })
  enters_one state item locals initialises few =
      let above : control.Frame V = record { at = item; locals = locals; stack = []; initialises = initialises } in
      ap (λ (full : Bool). cond full (Ends Deep) (Goes (record { top = above; below = frame_of f texts state.top ∷ below_of f texts state; memory = memory_of f texts state.memory })))
      (ap (λ (n : ℕ). nat_le most_frames (suc n)) (waits state) ∙ shallow (length state.below.items) few)

  -- a frame more that waits
  pub one_waits : (frames more : List (Frame I)) (frame : Frame I) → more ≡ frames ++ frame ∷ []
      → map (frame_of f texts) (reverse more) ≡ frame_of f texts frame ∷ map (frame_of f texts) (reverse frames)
  one_waits frames more frame is = ap (λ (frames : List (Frame I)). map (frame_of f texts) (reverse frames)) is ∙ ap (map (frame_of f texts)) (reverse-append frames (frame ∷ []))

  -- a call of a method that isn't there, and one of one that is
  pub enters_seen_at : (P : Views) (state : State I) (at : Item) (part : View → Option Item) (item : Option Item) (locals : List (Option (Value V))) (initialises : Option ℕ) (caller : control.Frame V) → at ≡ state.top.at
      → option_and_then part (P at) ≡ item
      → viewed (P state.top.at) (Ends Stuck) (λ view. enters (part view) locals initialises caller (below_of f texts state) (memory_of f texts state.memory))
      ≡ enters item locals initialises caller (below_of f texts state) (memory_of f texts state.memory)
  enters_seen_at P state at part item locals initialises caller same is =
      enters_seen (P state.top.at) part locals initialises caller (below_of f texts state) (memory_of f texts state.memory)
      ∙ ap (λ (item : Option Item). enters item locals initialises caller (below_of f texts state) (memory_of f texts state.memory))
      (ap (λ (at : Item). option_and_then part (P at)) (sym same) ∙ is)

  -- arguments as locals
  pub arguments_seen : (slots : List (Slot I)) (count : ℕ) → map (λ v. Some v) (reverse (take count (values_of f texts slots))) ≡ locals_of f texts (map Some (reverse (take count slots)))
  arguments_seen slots count =
      ap (λ (values : List (Value V)). map Some (reverse values)) (take-map (value_of f texts) count slots) ∙ ap (map Some) (reverse_map (value_of f texts) (take count slots))
      ∙ map_after Some (value_of f texts) (λ slot. Some (value_of f texts slot)) (λ slot. refl) (reverse (take count slots))
      ∙ sym (map_after (option_map (value_of f texts)) Some (λ slot. Some (value_of f texts slot)) (λ slot. refl) (reverse (take count slots)))

  pub rest_seen : (slots : List (Slot I)) (count : ℕ) → drop count (values_of f texts slots) ≡ values_of f texts (drop count slots)
  rest_seen slots count = drop-map (value_of f texts) count slots

  -- RETURNING AND THROWING

  -- no frame waits
  pub none_waits : (state : State I) → length state.below.items ≡ 0 → below_of f texts state ≡ []
  none_waits state none = ap (λ (frames : List (Frame I)). map (frame_of f texts) (reverse frames)) (empty state.below.items none)

  -- the caller goes on
  pub resumes : (P : Views) (state : State I) (at : Item) (item : Option Item) (caller : control.Frame V) (frame : Frame I) (done : Done V) → at ≡ state.top.at
      → option_and_then (λ view. view.next) (P at) ≡ item → caller ≡ frame_of f texts frame → goes_on item (frame_of f texts frame) (below_of f texts state) (memory_of f texts state.memory) ≡ done
      → viewed (P state.top.at) (Ends Stuck) (λ view. goes_on view.next caller (below_of f texts state) (memory_of f texts state.memory)) ≡ done
  resumes P state at item caller frame done same is left goes =
      goes_seen (P state.top.at) (λ view. view.next) caller (below_of f texts state) (memory_of f texts state.memory)
      ∙ ap (λ (item : Option Item). goes_on item caller (below_of f texts state) (memory_of f texts state.memory))
      (ap (λ (at : Item). option_and_then (λ view. view.next) (P at)) (sym same) ∙ is)
      ∙ ap (λ (frame : control.Frame V). goes_on item frame (below_of f texts state) (memory_of f texts state.memory)) left
      ∙ goes

  -- what is thrown, where the top frame catches it and where it doesn't
  pub throws_here : (P : Views) (state : State I) (at : Item) (number : ℕ) (class : Thrown) (found : Option Item) → at ≡ state.top.at → IsSome (P state.top.at)
      → option_and_then (λ view. catching view.handlers class) (P at) ≡ found
      → throws P number class (memory_of f texts state.memory) (frame_of f texts state.top) (below_of f texts state)
      ≡ caught found (Throwable number class) (frame_of f texts state.top) (below_of f texts state) (memory_of f texts state.memory)
      (leaving state.top.initialises (unwound P number class (memory_of f texts state.memory) (below_of f texts state)))
  throws_here P state at number class found same seen is =
      thrown_seen P number class (memory_of f texts state.memory) (frame_of f texts state.top) (below_of f texts state) seen
      ∙ ap (λ (found : Option Item). caught found (Throwable number class) (frame_of f texts state.top) (below_of f texts state) (memory_of f texts state.memory)
      (leaving state.top.initialises (unwound P number class (memory_of f texts state.memory) (below_of f texts state))))
      (ap (λ (at : Item). option_and_then (λ view. catching view.handlers class) (P at)) (sym same) ∙ is)

  -- a throwable that leaves the top frame, where that was pushed for no initialiser
  pub leaves : (P : Views) (state : State I) (at : Item) (number : ℕ) (class : Thrown) → at ≡ state.top.at → IsSome (P state.top.at)
      → option_and_then (λ view. catching view.handlers class) (P at) ≡ None → state.top.initialises ≡ None
      → throws P number class (memory_of f texts state.memory) (frame_of f texts state.top) (below_of f texts state) ≡ unwound P number class (memory_of f texts state.memory) (below_of f texts state)
  leaves P state at number class same seen is none =
      throws_here P state at number class None same seen is
      ∙ ap (λ (initialises : Option ℕ). leaving initialises (unwound P number class (memory_of f texts state.memory) (below_of f texts state))) none

  -- and comes to the next one
  pub unwinds : (P : Views) (state : State I) (at : Item) (number : ℕ) (class : Thrown) (frames : List (Frame I)) (caller : Frame I) → at ≡ state.top.at → IsSome (P state.top.at)
      → option_and_then (λ view. catching view.handlers class) (P at) ≡ None → state.top.initialises ≡ None → state.below.items ≡ frames ++ caller ∷ []
      → throws P number class (memory_of f texts state.memory) (frame_of f texts state.top) (below_of f texts state)
      ≡ throws P number class (memory_of f texts state.memory) (frame_of f texts caller) (map (frame_of f texts) (reverse frames))
  unwinds P state at number class frames caller same seen is none more =
      leaves P state at number class same seen is none
      ∙ ap (λ (below : List (control.Frame V)). unwound P number class (memory_of f texts state.memory) below) (one_waits frames state.below.items caller more)
