-- Where a doing leads keeps the arrays of a run short, and its frames at items that have views.
use Rattle.std.proofs.Common.{◌≡◌, ℕ, zero, suc, ℤ, Bool, true, false, cond, nat_le, List, [], ◌∷◌, length, map, Option, Some, None, refl, slice_get}
use Rattle.std.specs.Prelude.{IfSome}
use Rattle.std.specs.List.{AllByRecursion}
use Rattle.ms_words.specs.declared.item.Item.{Item}
use Rattle.ms_words.specs.declared.thrown.Thrown.{Thrown}
use Rattle.ms_words.specs.Throwables.{is_a}
use Rattle.ms_machine.specs.Ints.{Ints}
use Rattle.ms_machine.specs.Instructions.{Initialiser, Absent, Present, Foreign}
use Rattle.ms_machine.specs.Values.{Value, Throwable, Memory, Deep, Threw}
use Rattle.ms_machine.specs.Effects.{Where, Next, Target, Doing, Moves, Calls, Initialises, Returns, Raises, Stops, Test, Effect, Does, Asks, effect}
use Rattle.ms_machine.specs.Control.{Program, View, Views, Handler, Frame, State, Done, Ends, catching, caught, enters, entry_frame, goes_on, here_of, leaving, left_with, memory_at_start, most_frames, onto, perform, performed, place, returns, start, step, throws, viewed}
use Rattle.ms_machine.specs.Laws.{AllKeys, HasView, IsClosed, LeadsToViews}
use Rattle.ms_machine.proofs.EffectKeeps.{IsOf, IsShort, KeepsShort, LeavesShort, effect_short}
use Rattle.ms_machine.proofs.Keeping.{GoodDone, GoodStep, viewed_good}

-- what holds of what comes of a view, and where there is none
viewed_holds : {A : Type 0} (Q : A → Type 0) (o : Option View) (none : A) (go : View → A) → Q none → ((view : View) → o ≡ Some view → Q (go view)) → Q (viewed o none go)
viewed_holds Q None none go is all = is
viewed_holds Q (Some view) none go is all = all view refl

-- SHORT ARRAYS

module _ {V : Type 0} where
  abbrev pub HasShort : State V → Type 0
  HasShort state = KeepsShort state.memory

  goes_on_short : (item : Option Item) (frame : Frame V) (below : List (Frame V)) (memory : Memory V) → KeepsShort memory → GoodDone HasShort (goes_on item frame below memory)
  goes_on_short None frame below memory short = tt
  goes_on_short (Some item) frame below memory short = short

  caught_short : (item : Option Item) (throwable : Value V) (frame : Frame V) (below : List (Frame V)) (memory : Memory V) (otherwise : Done V) → KeepsShort memory → GoodDone HasShort otherwise → GoodDone HasShort (caught item throwable frame below memory otherwise)
  caught_short None throwable frame below memory otherwise short good = good
  caught_short (Some item) throwable frame below memory otherwise short good = short

  leaving_short : (initialises : Option ℕ) (otherwise : Done V) → GoodDone HasShort otherwise → GoodDone HasShort (leaving initialises otherwise)
  leaving_short None otherwise good = good
  leaving_short (Some class) otherwise good = tt

  throws_short : (P : Views) (number : ℕ) (class : Thrown) (memory : Memory V) (frame : Frame V) (below : List (Frame V)) → KeepsShort memory → GoodDone HasShort (throws P number class memory frame below)
  throws_short P number class memory frame [] short = viewed_holds (GoodDone HasShort) (P frame.at) _ _ tt (λ view is.
      caught_short (catching view.handlers class) (Throwable number class) frame [] memory _ short (leaving_short frame.initialises (Ends (Threw class)) tt))
  throws_short P number class memory frame (caller ∷ below) short = viewed_holds (GoodDone HasShort) (P frame.at) _ _ tt (λ view is.
      caught_short (catching view.handlers class) (Throwable number class) frame (caller ∷ below) memory _ short
      (leaving_short frame.initialises (throws P number class memory caller below) (throws_short P number class memory caller below short)))

  returns_short : (P : Views) (result : Option (Value V)) (memory : Memory V) (initialises : Option ℕ) (below : List (Frame V)) → KeepsShort memory → GoodDone HasShort (returns P result memory initialises below)
  returns_short P result memory None [] short = tt
  returns_short P result memory (Some class) [] short = tt
  returns_short P result memory (Some class) (caller ∷ below) short = short
  returns_short P result memory None (caller ∷ below) short = viewed_holds (GoodDone HasShort) (P caller.at) _ _ tt (λ view is. goes_on_short view.next (record caller { stack = onto result caller.stack }) below memory short)

  either_short : (b : Bool) (first second : Done V) → GoodDone HasShort first → GoodDone HasShort second → GoodDone HasShort (cond b first second)
  either_short true first second is other = is
  either_short false first second is other = other

  enters_short : (item : Option Item) (locals : List (Option (Value V))) (initialises : Option ℕ) (caller : Frame V) (below : List (Frame V)) (memory : Memory V) → KeepsShort memory → GoodDone HasShort (enters item locals initialises caller below memory)
  enters_short None locals initialises caller below memory short = tt
  enters_short (Some item) locals initialises caller below memory short = either_short (nat_le most_frames (suc (length below))) (Ends Deep) _ tt short

  perform_short : (P : Views) (state : State V) (doing : Doing V) → LeavesShort doing → GoodDone HasShort (perform P state doing)
  perform_short P state (Moves where_to here) short = viewed_holds (GoodDone HasShort) (P state.top.at) _ _ tt (λ view is. goes_on_short (place view where_to) (left_with state.top here) state.below here.memory short)
  perform_short P state (Calls arguments here) short = viewed_holds (GoodDone HasShort) (P state.top.at) _ _ tt (λ view is. enters_short view.callee (map (λ v. Some v) arguments) None (left_with state.top here) state.below here.memory short)
  perform_short P state (Initialises class here) short = viewed_holds (GoodDone HasShort) (P state.top.at) _ _ tt (λ view is. enters_short view.initialiser_first [] (Some class) (left_with state.top here) state.below here.memory short)
  perform_short P state (Returns result memory) short = returns_short P result memory state.top.initialises state.below short
  perform_short P state (Raises number class memory) short = throws_short P number class memory state.top state.below short
  perform_short P state (Stops end) short = tt

  pub start_short : (P : Program) (parameters : List V) → GoodDone HasShort (start P parameters)
  start_short P parameters = by_state P.entry.initialiser
    where
      by_state : (state : Initialiser) → GoodDone HasShort (start (record { entry = record P.entry { initialiser = state }; view = P.view }) parameters)
      by_state Absent = tt
      by_state Present = enters_short P.entry.initialiser_first [] (Some P.entry.class) (entry_frame P.entry.first parameters) [] (memory_at_start P.entry.class) tt
      by_state Foreign = tt

module _ {V : Type 0} (Q : List ℤ → Type 0) where
  performed_short : (P : Views) (state : State V) (e : Effect V) → IsShort Q e → GoodStep HasShort (IsOf Q) (performed P state e)
  performed_short P state (Does doing) short = perform_short P state doing short
  performed_short P state (Asks test arms) short = (short.0, λ arm. perform_short P state (arms arm) (short.1 arm))

  pub step_short : (I : Ints V) (P : Views) → AllKeys Q P → (state : State V) → HasShort state → GoodStep HasShort (IsOf Q) (step I P state)
  step_short I P keys state short = viewed_good HasShort (IsOf Q) (P state.top.at) _ (λ view is.
      performed_short P state (effect I view.instr (here_of state)) (effect_short Q I view.instr (here_of state) (keys state.top.at view is) short))

-- FRAMES AT ITEMS THAT HAVE VIEWS

catching_seen : (P : Views) (handlers : List Handler) (class : Thrown) → AllByRecursion (λ (handler : Handler). HasView P handler.begins) handlers → IfSome (catching handlers class) (HasView P)
catching_seen P [] class seen = tt
catching_seen P (handler ∷ handlers) class seen = by_test (is_a class handler.catches) (catching_seen P handlers class seen.1)
  where
    by_test : (b : Bool) → IfSome (catching handlers class) (HasView P) → IfSome (cond b (Some handler.begins) (catching handlers class)) (HasView P)
    by_test true rest = seen.0
    by_test false rest = rest

target_seen : (P : Views) (targets : List Item) (k : ℕ) → AllByRecursion (HasView P) targets → IfSome (slice_get targets k) (HasView P)
target_seen P [] k seen = tt
target_seen P (target ∷ targets) zero seen = seen.0
target_seen P (target ∷ targets) (suc k) seen = target_seen P targets k seen.1

place_seen : (P : Views) (view : View) (where_to : Where) → LeadsToViews P view → IfSome (place view where_to) (HasView P)
place_seen P view Next leads = leads.next
place_seen P view (Target k) leads = target_seen P view.targets k leads.targets

module _ {V : Type 0} (P : Views) (closed : (item : Item) (view : View) → P item ≡ Some view → LeadsToViews P view) where
  abbrev pub IsSeen : Frame V → Type 0
  IsSeen frame = HasView P frame.at

  -- the frame that runs and those that wait
  abbrev pub AreSeen : State V → Type 0
  AreSeen state = IsSeen state.top × AllByRecursion IsSeen state.below

  goes_on_seen : (item : Option Item) (frame : Frame V) (below : List (Frame V)) (memory : Memory V) → IfSome item (HasView P) → AllByRecursion IsSeen below → GoodDone AreSeen (goes_on item frame below memory)
  goes_on_seen None frame below memory seen others = tt
  goes_on_seen (Some item) frame below memory seen others = (seen, others)

  caught_seen : (item : Option Item) (throwable : Value V) (frame : Frame V) (below : List (Frame V)) (memory : Memory V) (otherwise : Done V) → IfSome item (HasView P) → AllByRecursion IsSeen below → GoodDone AreSeen otherwise
      → GoodDone AreSeen (caught item throwable frame below memory otherwise)
  caught_seen None throwable frame below memory otherwise seen others good = good
  caught_seen (Some item) throwable frame below memory otherwise seen others good = (seen, others)

  leaving_seen : (initialises : Option ℕ) (otherwise : Done V) → GoodDone AreSeen otherwise → GoodDone AreSeen (leaving initialises otherwise)
  leaving_seen None otherwise good = good
  leaving_seen (Some class) otherwise good = tt

  throws_seen : (number : ℕ) (class : Thrown) (memory : Memory V) (frame : Frame V) (below : List (Frame V)) → AllByRecursion IsSeen below → GoodDone AreSeen (throws P number class memory frame below)
  throws_seen number class memory frame [] others = viewed_holds (GoodDone AreSeen) (P frame.at) _ _ tt (λ view is.
      caught_seen (catching view.handlers class) (Throwable number class) frame [] memory _ (catching_seen P view.handlers class (closed frame.at view is).handlers) tt (leaving_seen frame.initialises (Ends (Threw class)) tt))
  throws_seen number class memory frame (caller ∷ below) others = viewed_holds (GoodDone AreSeen) (P frame.at) _ _ tt (λ view is.
      caught_seen (catching view.handlers class) (Throwable number class) frame (caller ∷ below) memory _ (catching_seen P view.handlers class (closed frame.at view is).handlers) others
      (leaving_seen frame.initialises (throws P number class memory caller below) (throws_seen number class memory caller below others.1)))

  returns_seen : (result : Option (Value V)) (memory : Memory V) (initialises : Option ℕ) (below : List (Frame V)) → AllByRecursion IsSeen below → GoodDone AreSeen (returns P result memory initialises below)
  returns_seen result memory None [] others = tt
  returns_seen result memory (Some class) [] others = tt
  returns_seen result memory (Some class) (caller ∷ below) others = others
  returns_seen result memory None (caller ∷ below) others = viewed_holds (GoodDone AreSeen) (P caller.at) _ _ tt (λ view is.
      goes_on_seen view.next (record caller { stack = onto result caller.stack }) below memory (closed caller.at view is).next others.1)

  either_seen : (b : Bool) (first second : Done V) → GoodDone AreSeen first → GoodDone AreSeen second → GoodDone AreSeen (cond b first second)
  either_seen true first second is other = is
  either_seen false first second is other = other

  pub enters_seen : (item : Option Item) (locals : List (Option (Value V))) (initialises : Option ℕ) (caller : Frame V) (below : List (Frame V)) (memory : Memory V) → IfSome item (HasView P) → IsSeen caller → AllByRecursion IsSeen below
      → GoodDone AreSeen (enters item locals initialises caller below memory)
  enters_seen None locals initialises caller below memory seen is others = tt
  enters_seen (Some item) locals initialises caller below memory seen is others = either_seen (nat_le most_frames (suc (length below))) (Ends Deep) _ tt (seen, (is, others))

  perform_seen : (state : State V) (doing : Doing V) → AreSeen state → GoodDone AreSeen (perform P state doing)
  perform_seen state (Moves where_to here) seen = viewed_holds (GoodDone AreSeen) (P state.top.at) _ _ tt (λ view is.
      goes_on_seen (place view where_to) (left_with state.top here) state.below here.memory (place_seen P view where_to (closed state.top.at view is)) seen.1)
  perform_seen state (Calls arguments here) seen = viewed_holds (GoodDone AreSeen) (P state.top.at) _ _ tt (λ view is.
      enters_seen view.callee (map (λ v. Some v) arguments) None (left_with state.top here) state.below here.memory (closed state.top.at view is).callee seen.0 seen.1)
  perform_seen state (Initialises class here) seen = viewed_holds (GoodDone AreSeen) (P state.top.at) _ _ tt (λ view is.
      enters_seen view.initialiser_first [] (Some class) (left_with state.top here) state.below here.memory (closed state.top.at view is).initialiser seen.0 seen.1)
  perform_seen state (Returns result memory) seen = returns_seen result memory state.top.initialises state.below seen.1
  perform_seen state (Raises number class memory) seen = throws_seen number class memory state.top state.below seen.1
  perform_seen state (Stops end) seen = tt

  -- any test
  abbrev pub IsAny : Test V → Type 0
  IsAny test = Unit {0}

  performed_seen : (state : State V) (e : Effect V) → AreSeen state → GoodStep AreSeen IsAny (performed P state e)
  performed_seen state (Does doing) seen = perform_seen state doing seen
  performed_seen state (Asks test arms) seen = (tt, λ arm. perform_seen state (arms arm) seen)

  pub step_seen : (I : Ints V) (state : State V) → AreSeen state → GoodStep AreSeen IsAny (step I P state)
  step_seen I state seen = viewed_good AreSeen IsAny (P state.top.at) _ (λ view is. performed_seen state (effect I view.instr (here_of state)) seen)

pub start_seen : {V : Type 0} (P : Program) → (closed : IsClosed P) → (parameters : List V) → GoodDone (AreSeen P.view closed.views) (start P parameters)
start_seen P closed parameters = by_state P.entry.initialiser
  where
    by_state : (state : Initialiser) → GoodDone (AreSeen P.view closed.views) (start (record { entry = record P.entry { initialiser = state }; view = P.view }) parameters)
    by_state Absent = (closed.first, tt)
    by_state Present = enters_seen P.view closed.views P.entry.initialiser_first [] (Some P.entry.class) (entry_frame P.entry.first parameters) [] (memory_at_start P.entry.class) closed.initialiser closed.first tt
    by_state Foreign = tt
