-- In a program whose items are fine, no step from a typed state is stuck, and each leads to a typed state.
use Rattle.std.proofs.Common.{◌≡◌, ℕ, zero, suc, ◌+◌, ◌<◌, ◌≤◌, ◌==◌, ℤ, pos, negsuc, Bool, true, false, cond, not, ◌&&◌, List, [], ◌∷◌, ◌++◌, take, drop, length, map, replicate, reverse, nat_le, nat_lt, Option, Some, None, refl, ◌∙◌, subst, arith, slice_get, slice_set, length-append}
use Rattle.std.specs.Prelude.{is_none}
use Rattle.std.proofs.lemmas.Bool.{eqb-false}
use Rattle.std.proofs.lemmas.List.{length-map, length-replicate, length-reverse, length-set}
use Rattle.ms_words.specs.declared.descriptor.FieldType.{FieldType}
use Rattle.ms_words.specs.declared.descriptor.FieldType.TheVariants as types
use Rattle.ms_words.specs.declared.item.Item.{Item}
use Rattle.ms_words.specs.declared.operator.Bin.TheVariants.{Add}
use Rattle.ms_words.specs.declared.thrown.Thrown.{Thrown}
use Rattle.ms_words.specs.declared.thrown.Thrown.TheVariants as throwables
use Rattle.ms_words.specs.Descriptors.{Signature}
use Rattle.ms_words.specs.Throwables.{is_a, number_of}
use Rattle.ms_machine.specs.Ints.{Ints}
use Rattle.ms_machine.specs.Instructions as instructions
use Rattle.ms_machine.specs.Instructions.{Comparison, Initialiser, Absent, Present, Foreign, Sort, OfInt, OfReference, Member, Instr, Skip, Push, PushNull, PushText, Load, Store, Shuffle, Change, Combine, Divide, Increment, Compare, CompareZero, CompareReferences, CompareNull, Goto, Switch, ReturnValue, ReturnVoid, GetStatic, PutStatic, Invoke, Construct, Throw, NewArray, ArrayLength, ArrayLoad, ArrayStore}
use Rattle.ms_machine.specs.Values as values
use Rattle.ms_machine.specs.Values.{Value, Throwable, Static, Memory, End, Returned, ReturnedVoid, Threw, InitFailed, Missing, Deep, HeapFull, SymLength, are_same, cells_of, is_null, is_started, made_in, with_local, with_static}
use Rattle.ms_machine.specs.Effects.{Here, Where, Next, Target, Doing, Moves, Initialises, Raises, Stops, Effect, Does, access, access_in, as_int, by_arm, by_initialiser, effect, field_name, first_value, get_static, greatest_length, initialiser_name, invoke, is_as, jump_if, make_array, making, method_name, most_cells, most_made, new_array, next, on_array, on_cell, on_int, on_local, on_top, put_static, starting, store_cell, taking, throwing, thrown, values_at}
use Rattle.ms_machine.specs.Control.{Frame, Handler, State, Done, Goes, Ends, View, Views, catching, caught, enters, goes_on, here_of, leaving, left_with, most_frames, onto, perform, performed, place, returned_with, returns, step, throws}
use Rattle.ms_typing.specs.declared.kind.PlaceKind.{PlaceKind}
use Rattle.ms_typing.specs.declared.kind.PlaceKind.TheVariants.{Int, Null, Array, Text, Ref, New, Unset}
use Rattle.ms_typing.specs.declared.kind.PlaceKind.TheVariants as kinds
use Rattle.ms_typing.specs.declared.kind.VerifyKind.TheVariants.{Depth, Kind, Local, FallOff, Return}
use Rattle.ms_typing.specs.Kinds.{Shape, Tag, IsInt, IsNull, IsArray, IsText, IsThrown, IsNew, holds}
use Rattle.ms_typing.specs.Rules as rules
use Rattle.ms_typing.specs.Rules.{Profile, Want, AnInt, AnArray, AThrowable, AText, AReference, AReferenceOrNew, ANew, Anything, after, all_meet, constructed_from, fault, first_fault, gives, has_depth, has_kinds, has_local, initialised, is_made_at, is_set, is_there, kind_at, kind_of, local_meets, local_of, local_want, locals_after, made_at, may_make, meets, or_none, reads, reads_set, rest_after, result_kinds, returned_want, returns_right, takes, tests, unset, want_of}
use Rattle.ms_typing.specs.Verifier.{filled}
use Rattle.ms_typing.specs.Typed.{AllLead, AreBelow, AreFine, Begins, HasFieldType, HasKind, HaveKinds, HaveLocals, HaveTypes, Is, IsReachable, IsSafe, IsSafeStep, IsTyped, Leads, ReturnsNoArray, Runs, Typings, Waits, member_of, moves_its_own, targets_of}
use Rattle.ms_typing.proofs.Values.{Meets, admits, appended_kinds, arguments, changed_local, filled_locals, first, held_local, initialised_survives, int_kind, kinds_more, locals_more, mapped_kinds, mapped_locals, meets_want, null_kind, put_back, second, static_kind, statics_more, stored_local, stored_static, typed_kind, unset_survives, wider_all, wider_locals}

equal_to_itself : (n : ℕ) → (n == n) ≡ true
equal_to_itself n = by_test (n == n) refl
  where
    by_test : (b : Bool) → (n == n) ≡ b → b ≡ true
    by_test true is = refl
    by_test false is = absurd (eqb-false n n is refl)

new_holds : (offset : ℕ) (class : Thrown) → holds (New offset class) (IsNew offset class) ≡ true
new_holds offset class = rw (equal_to_itself offset) (equal_to_itself (number_of class))

int_held : (kind : PlaceKind) → meets AnInt kind ≡ true → holds kind IsInt ≡ true
int_held Int fits = refl
int_held Null fits = absurd (let e = fits in cc)
int_held Array fits = absurd (let e = fits in cc)
int_held Text fits = absurd (let e = fits in cc)
int_held (kinds.Thrown class) fits = absurd (let e = fits in cc)
int_held Ref fits = absurd (let e = fits in cc)
int_held (New offset class) fits = absurd (let e = fits in cc)
int_held Unset fits = absurd (let e = fits in cc)

-- where no test fails, each holds
all_pass : (depth local kind right last : Bool) → first_fault ((depth, Depth) ∷ (local, Local) ∷ (kind, Kind) ∷ (right, Return) ∷ (last, FallOff) ∷ []) ≡ None → (local ≡ true) × (kind ≡ true) × (right ≡ true)
all_pass true true true true true none = (refl, refl, refl)
all_pass true true true true false none = absurd (let e = none in cc)
all_pass true true true false last none = absurd (let e = none in cc)
all_pass true true false right last none = absurd (let e = none in cc)
all_pass true false kind right last none = absurd (let e = none in cc)
all_pass false local kind right last none = absurd (let e = none in cc)

-- WHAT IS POPPED

-- what is still taken from these values, and what stays of their kinds
record Operands {V : Type 0} (n : ℕ) (wants : List Want) (ks last : List PlaceKind) (vs : List (Value V)) : Type 0 where
  meet : all_meet wants ks ≡ true
  have : HaveKinds n ks vs
  last_is : drop (length wants) ks ≡ last

as_many : (wants : List Want) (ks : List PlaceKind) → all_meet wants ks ≡ true → length wants ≤ length ks
as_many [] ks meet = omega arith
as_many (want ∷ wants) [] meet = absurd (let e = meet in cc)
as_many (want ∷ wants) (k ∷ ks) meet = omega (arith, as_many wants ks (second (meets want k) _ meet))

module _ {V : Type 0} where
  pop : (Q : Effect V → Type 0) (n : ℕ) (want : Want) (wants : List Want) (ks last : List PlaceKind) (vs : List (Value V)) (go : Value V → List (Value V) → Effect V) → Operands n (want ∷ wants) ks last vs
      → ((v : Value V) (rest : List (Value V)) (others : List PlaceKind) → HasKind n (kind_at ks 0) v → Meets n want v → Operands n wants others last rest → Q (go v rest)) → Q (on_top vs go)
  pop Q n want wants [] last vs go o all = absurd (let e = o.meet in cc)
  pop Q n want wants (k ∷ ks) last [] go o all = absurd o.have
  pop Q n want wants (k ∷ ks) last (v ∷ vs) go o all =
      all v vs ks o.have.0 (meets_want n want k v (first (meets want k) _ o.meet) o.have.0) (record { meet = second (meets want k) _ o.meet; have = o.have.1; last_is = o.last_is })

  int_of : (Q : Effect V → Type 0) (n : ℕ) (v : Value V) (go : V → Effect V) → Meets n AnInt v → ((a : V) → Q (go a)) → Q (as_int v go)
  int_of Q n v go m all = by_tag m.tag v m.is m.admits_it
    where
      by_tag : (tag : Tag) (v : Value V) → Is n tag v → admits AnInt tag ≡ true → Q (as_int v go)
      by_tag IsInt (values.Int a) is ok = all a
      by_tag IsNull v is ok = absurd (let e = ok in cc)
      by_tag IsArray v is ok = absurd (let e = ok in cc)
      by_tag IsText v is ok = absurd (let e = ok in cc)
      by_tag (IsThrown class) v is ok = absurd (let e = ok in cc)
      by_tag (IsNew offset class) v is ok = absurd (let e = ok in cc)
      by_tag tag v is ok = absurd is

  pop_int : (Q : Effect V → Type 0) (n : ℕ) (wants : List Want) (ks last : List PlaceKind) (vs : List (Value V)) (go : V → List (Value V) → Effect V) → Operands n (AnInt ∷ wants) ks last vs
      → ((a : V) (rest : List (Value V)) (others : List PlaceKind) → Operands n wants others last rest → Q (go a rest)) → Q (on_int vs go)
  pop_int Q n wants ks last vs go o all = pop Q n AnInt wants ks last vs _ o (λ v rest others kind m more. int_of Q n v _ m (λ a. all a rest others more))

  popped : (n : ℕ) (ks last : List PlaceKind) (vs : List (Value V)) → Operands n [] ks last vs → HaveKinds n last vs
  popped n ks last vs o = subst (λ l. HaveKinds n l vs) o.last_is o.have

  -- so many values from the top
  pop_all : (Q : Effect V → Type 0) (n count : ℕ) (ks : List PlaceKind) (vs : List (Value V)) (go : List (Value V) → List (Value V) → Effect V) → count ≤ length ks → HaveKinds n ks vs
      → ((taken below : List (Value V)) → HaveKinds n (take count ks) taken → HaveKinds n (drop count ks) below → Q (go taken below)) → Q (taking count vs go)
  pop_all Q n zero ks vs go within have all = all [] vs tt have
  pop_all Q n (suc count) [] vs go within have all = absurd (omega (arith, within))
  pop_all Q n (suc count) (k ∷ ks) [] go within have all = absurd have
  pop_all Q n (suc count) (k ∷ ks) (v ∷ vs) go within have all =
      pop_all Q n count ks vs (λ taken below. go (v ∷ taken) below) (omega (arith, within)) have.1 (λ taken below is rest. all (v ∷ taken) below (have.0, is) rest)

  module _ (P : Views) (T : Typings) where
    -- MEMORY THAT COMES LATER

    record IsLater (memory later : Memory V) : Type 0 where
      more : length memory.arrays ≤ length later.arrays
      statics : HaveTypes (length later.arrays) later.statics

    below_more : (n m : ℕ) → n ≤ m → (initialises : Option ℕ) (result : Option FieldType) (below : List (Frame V)) → AreBelow P T n initialises result below → AreBelow P T m initialises result below
    below_more n m more None result [] are = are
    below_more n m more (Some class) result [] are = are
    below_more n m more None result (frame ∷ below) are = (
      record { view = are.0.view; is = are.0.is; shape = are.0.shape; result = are.0.result; locals = locals_more n m more _ _ are.0.locals; stack = kinds_more n m more _ _ are.0.stack; next = are.0.next; handlers = are.0.handlers },
      below_more n m more frame.initialises are.0.result below are.1,
    )
    below_more n m more (Some class) result (frame ∷ below) are = (
      record { typing = are.0.typing; at = are.0.at; locals = locals_more n m more _ _ are.0.locals; stack = kinds_more n m more _ _ are.0.stack },
      below_more n m more frame.initialises are.0.typing.result below are.1,
    )

    -- GOING ON

    goes_safe : (to : Option Item) (result : Option FieldType) (shape : Shape) (frame : Frame V) (below : List (Frame V)) (memory : Memory V) → Leads T result to shape → HaveLocals (length memory.arrays) shape.locals frame.locals
        → HaveKinds (length memory.arrays) shape.stack frame.stack → AreBelow P T (length memory.arrays) frame.initialises result below → HaveTypes (length memory.arrays) memory.statics → IsSafe P T (goes_on to frame below memory)
    goes_safe to result shape frame below memory leads locals stack are statics = rw leads.is (record {
      top = record {
        typing = record { shape = leads.wider; result = result };
        at = leads.at;
        locals = wider_locals _ shape.locals leads.wider.locals frame.locals leads.within.0 locals;
        stack = wider_all _ shape.stack leads.wider.stack frame.stack leads.within.1 stack;
      };
      below = are;
      statics = statics;
    })

    caught_safe : (handlers : List Handler) (result : Option FieldType) (number : ℕ) (class : Thrown) (ks : List PlaceKind) (frame : Frame V) (below : List (Frame V)) (memory : Memory V) (otherwise : Done V) → AllLead T result handlers ks
        → HaveLocals (length memory.arrays) ks frame.locals → AreBelow P T (length memory.arrays) frame.initialises result below → HaveTypes (length memory.arrays) memory.statics → IsSafe P T otherwise
        → IsSafe P T (caught (catching handlers class) (Throwable number class) frame below memory otherwise)
    caught_safe [] result number class ks frame below memory otherwise lead locals are statics safe = safe
    caught_safe (handler ∷ handlers) result number class ks frame below memory otherwise lead locals are statics safe =
        by_test (is_a class handler.catches) refl (caught_safe handlers result number class ks frame below memory otherwise lead.1 locals are statics safe)
      where
        by_test : (b : Bool) → is_a class handler.catches ≡ b → IsSafe P T (caught (catching handlers class) (Throwable number class) frame below memory otherwise)
            → IsSafe P T (caught (cond b (Some handler.begins) (catching handlers class)) (Throwable number class) frame below memory otherwise)
        by_test true is rest = goes_safe (Some handler.begins) result (record { locals = ks; stack = kinds.Thrown handler.catches ∷ [] }) (record frame { stack = Throwable number class ∷ [] }) below memory lead.0 locals
            (record { tag = IsThrown class; is = refl; held = is }, tt) are statics
        by_test false is rest = rest

    left_safe : (initialises : Option ℕ) (otherwise : Done V) → (initialises ≡ None → IsSafe P T otherwise) → IsSafe P T (leaving initialises otherwise)
    left_safe None otherwise safe = safe refl
    left_safe (Some class) otherwise safe = tt

    throws_safe : (number : ℕ) (class : Thrown) (memory : Memory V) (frame : Frame V) (below : List (Frame V)) (view : View) (result : Option FieldType) (ks : List PlaceKind) → P frame.at ≡ Some view → AllLead T result view.handlers ks
        → HaveLocals (length memory.arrays) ks frame.locals → AreBelow P T (length memory.arrays) frame.initialises result below → HaveTypes (length memory.arrays) memory.statics → IsSafe P T (throws P number class memory frame below)
    throws_safe number class memory frame [] view result ks is lead locals are statics = rw is
        (caught_safe view.handlers result number class ks frame [] memory _ lead locals are statics (left_safe frame.initialises (Ends (Threw class)) (λ none. tt)))
    throws_safe number class memory frame (caller ∷ below) view result ks is lead locals are statics = rw is
        (caught_safe view.handlers result number class ks frame (caller ∷ below) memory _ lead locals are statics
        (by_frame frame.initialises are (λ w rest. throws_safe number class memory caller below w.view w.result w.shape.locals w.is w.handlers w.locals rest statics)))
      where
        by_frame : (initialises : Option ℕ) → AreBelow P T (length memory.arrays) initialises result (caller ∷ below)
            → ((w : Waits P T (length memory.arrays) result caller) → AreBelow P T (length memory.arrays) caller.initialises w.result below → IsSafe P T (throws P number class memory caller below))
            → IsSafe P T (leaving initialises (throws P number class memory caller below))
        by_frame None are further = further are.0 are.1
        by_frame (Some c) are further = tt

    -- RETURNING AND ENTERING

    -- a value of a result's type, or none
    abbrev HasResult : ℕ → Option FieldType → Option (Value V) → Type 0
    HasResult n None None = Unit {0}
    HasResult n (Some type) (Some v) = HasKind n (kind_of type) v
    HasResult n result v = ⊥

    onto_kinds : (n : ℕ) (result : Option FieldType) (v : Option (Value V)) (ks : List PlaceKind) (vs : List (Value V)) → HasResult n result v → HaveKinds n ks vs → HaveKinds n (result_kinds result ++ ks) (onto v vs)
    onto_kinds n None None ks vs has have = have
    onto_kinds n (Some type) (Some v) ks vs has have = (has, have)
    onto_kinds n None (Some v) ks vs has have = absurd has
    onto_kinds n (Some type) None ks vs has have = absurd has

    ends_safe : (n : ℕ) (result : Option FieldType) (v : Option (Value V)) → ReturnsNoArray result → HasResult n result v → IsSafe P T (Ends (returned_with v))
    ends_safe n None None no_array has = tt
    ends_safe n (Some types.IntArray) (Some v) no_array has = absurd no_array
    ends_safe n (Some (types.Int kind)) (Some v) no_array has = by_tag has.tag v has.is has.held
      where
        by_tag : (tag : Tag) (v : Value V) → Is n tag v → holds Int tag ≡ true → IsSafe P T (Ends (returned_with (Some v)))
        by_tag IsInt (values.Int a) is held = tt
        by_tag IsNull v is held = absurd (let e = held in cc)
        by_tag IsArray v is held = absurd (let e = held in cc)
        by_tag IsText v is held = absurd (let e = held in cc)
        by_tag (IsThrown class) v is held = absurd (let e = held in cc)
        by_tag (IsNew offset class) v is held = absurd (let e = held in cc)
        by_tag tag v is held = absurd is
    ends_safe n None (Some v) no_array has = absurd has
    ends_safe n (Some type) None no_array has = absurd has

    returns_safe : (v : Option (Value V)) (memory : Memory V) (initialises : Option ℕ) (result : Option FieldType) (below : List (Frame V)) → HasResult (length memory.arrays) result v → AreBelow P T (length memory.arrays) initialises result below
        → HaveTypes (length memory.arrays) memory.statics → IsSafe P T (returns P v memory initialises below)
    returns_safe v memory None result [] has are statics = ends_safe _ result v are has
    returns_safe v memory (Some class) result [] has are statics = absurd are
    returns_safe v memory (Some class) result (caller ∷ below) has are statics = record { top = are.0; below = are.1; statics = statics }
    returns_safe v memory None result (caller ∷ below) has are statics = rw are.0.is
        (goes_safe are.0.view.next are.0.result (record { locals = are.0.shape.locals; stack = result_kinds result ++ are.0.shape.stack }) (record caller { stack = onto v caller.stack }) below memory
        are.0.next are.0.locals (onto_kinds _ result v are.0.shape.stack caller.stack has are.0.stack) are.1 statics)

    pub enters_safe : (to : Option Item) (parameters : List FieldType) (result : Option FieldType) (locals : List (Option (Value V))) (initialises : Option ℕ) (caller : Frame V) (below : List (Frame V)) (memory : Memory V) (b : Begins T to parameters result)
        → HaveLocals (length memory.arrays) (filled b.count (map kind_of parameters)) locals → AreBelow P T (length memory.arrays) initialises result (caller ∷ below) → HaveTypes (length memory.arrays) memory.statics
        → IsSafe P T (enters to locals initialises caller below memory)
    enters_safe to parameters result locals initialises caller below memory b have are statics = rw b.leads.is (by_test (nat_le most_frames (suc (length below))))
      where
        shape : Shape
        shape = record { locals = filled b.count (map kind_of parameters); stack = [] }

        frame : Frame V
        frame = record { at = b.leads.item; locals = locals; stack = []; initialises = initialises }

        by_test : (full : Bool) → IsSafe P T (cond full (Ends Deep) (Goes (record { top = frame; below = caller ∷ below; memory = memory })))
        by_test true = tt
        by_test false = goes_safe (Some b.leads.item) result shape frame (caller ∷ below) memory (record { item = b.leads.item; is = refl; wider = b.leads.wider; at = b.leads.at; within = b.leads.within }) have tt are statics

    -- ONE INSTRUCTION, in a typed state whose item is fine

    module _ (I : Ints V) (state : State V) (view : View) (is_view : P state.top.at ≡ Some view) (offset : ℕ) (k : Shape) (result : Option FieldType)
        (at : T state.top.at ≡ Some (record { shape = k; result = result })) (locals : HaveLocals (length state.memory.arrays) k.locals state.top.locals) (stack : HaveKinds (length state.memory.arrays) k.stack state.top.stack)
        (handlers : AllLead T result view.handlers k.locals) (are : AreBelow P T (length state.memory.arrays) state.top.initialises result state.below) (statics : HaveTypes (length state.memory.arrays) state.memory.statics) where
      -- the effect is safe
      abbrev Safe : Effect V → Type 0
      Safe e = IsSafeStep P T (performed P state e)

      abbrev n : ℕ
      n = length state.memory.arrays

      same_memory : IsLater state.memory state.memory
      same_memory = record { more = omega arith; statics = statics }

      -- goes on in the frame, with kinds that are taken there
      moves : (place_of : Where) (shape : Shape) (here : Here V) → Leads T result (place view place_of) shape → HaveLocals (length here.memory.arrays) shape.locals here.locals → HaveKinds (length here.memory.arrays) shape.stack here.stack → IsLater state.memory here.memory
          → IsSafe P T (perform P state (Moves place_of here))
      moves place_of shape here leads have_locals have_stack later = rw is_view
          (goes_safe (place view place_of) result shape (left_with state.top here) state.below here.memory leads have_locals have_stack (below_more n _ later.more state.top.initialises result state.below are) later.statics)

      -- with the same locals and memory
      stays : (place_of : Where) (ks : List PlaceKind) (vs : List (Value V)) → Leads T result (place view place_of) (record { locals = k.locals; stack = ks }) → HaveKinds n ks vs → IsSafe P T (perform P state (Moves place_of (record (here_of state) { stack = vs })))
      stays place_of ks vs leads have = moves place_of (record { locals = k.locals; stack = ks }) (record (here_of state) { stack = vs }) leads locals have same_memory

      raises : (number : ℕ) (class : Thrown) (memory : Memory V) → IsLater state.memory memory → IsSafe P T (perform P state (Raises number class memory))
      raises number class memory later = throws_safe number class memory state.top state.below view result k.locals is_view handlers (locals_more n _ later.more _ _ locals) (below_more n _ later.more state.top.initialises result state.below are) later.statics

      making_safe : (go : ℕ → Memory V → Doing V) → ((number : ℕ) → IsSafe P T (perform P state (go number (record state.memory { throwables = suc state.memory.throwables })))) → IsSafe P T (perform P state (making state.memory go))
      making_safe go safe = by_test (nat_lt (made_in state.memory) most_made)
        where
          by_test : (room : Bool) → IsSafe P T (perform P state (cond room (go state.memory.throwables (record state.memory { throwables = suc state.memory.throwables })) (Stops HeapFull)))
          by_test true = safe state.memory.throwables
          by_test false = tt

      throwing_safe : (class : Thrown) → IsSafe P T (perform P state (throwing class (here_of state)))
      throwing_safe class = making_safe (λ number memory. Raises number class memory) (λ number. raises number class (record state.memory { throwables = suc state.memory.throwables }) (record { more = omega arith; statics = statics }))

      two_arms : (first_arm second_arm : Doing V) → IsSafe P T (perform P state first_arm) → IsSafe P T (perform P state second_arm) → (arm : ℕ) → IsSafe P T (perform P state (by_arm first_arm second_arm arm))
      two_arms first_arm second_arm safe other zero = safe
      two_arms first_arm second_arm safe other (suc arm) = other

      jumps : (is : Bool) (ks : List PlaceKind) (vs : List (Value V)) → Leads T result view.next (record { locals = k.locals; stack = ks }) → Leads T result (slice_get view.targets 0) (record { locals = k.locals; stack = ks }) → HaveKinds n ks vs
          → IsSafe P T (perform P state (jump_if is (here_of state) vs))
      jumps true ks vs next_leads target_leads have = stays (Target 0) ks vs target_leads have
      jumps false ks vs next_leads target_leads have = stays Next ks vs next_leads have

      -- the array that is taken, or null
      array_safe : (v : Value V) (go : ℕ → List V → Effect V) → Meets n AnArray v → ((number : ℕ) (cells : List V) → number < n → slice_get state.memory.arrays number ≡ Some cells → Safe (go number cells)) → Safe (on_array (here_of state) v go)
      array_safe v go m all = by_tag m.tag v m.is m.admits_it
        where
          there : (arrays : List (List V)) (number : ℕ) → number < length arrays → (cells : List V) × (slice_get arrays number ≡ Some cells)
          there [] number within = absurd (omega (arith, within))
          there (cells ∷ arrays) zero within = (cells, refl)
          there (cells ∷ arrays) (suc number) within = there arrays number (omega (arith, within))

          by_tag : (tag : Tag) (v : Value V) → Is n tag v → admits AnArray tag ≡ true → Safe (on_array (here_of state) v go)
          by_tag IsNull values.Null is ok = throwing_safe throwables.NullPointer
          by_tag IsArray (values.Array number) is ok = let cells = there state.memory.arrays number is in rw cells.1 (all number cells.0 is cells.1)
          by_tag IsInt v is ok = absurd (let e = ok in cc)
          by_tag IsText v is ok = absurd (let e = ok in cc)
          by_tag (IsThrown class) v is ok = absurd (let e = ok in cc)
          by_tag (IsNew p class) v is ok = absurd (let e = ok in cc)
          by_tag tag v is ok = absurd is

      cell_safe : (cell : Option V) (go : V → Doing V) → ((a : V) → IsSafe P T (perform P state (go a))) → IsSafe P T (perform P state (on_cell (here_of state) cell go))
      cell_safe None go all = throwing_safe throwables.ArrayIndexOutOfBounds
      cell_safe (Some a) go all = all a

      thrown_safe : (v : Value V) → Meets n AThrowable v → Safe (thrown (here_of state) v)
      thrown_safe v m = by_tag m.tag v m.is m.admits_it
        where
          by_tag : (tag : Tag) (v : Value V) → Is n tag v → admits AThrowable tag ≡ true → Safe (thrown (here_of state) v)
          by_tag IsNull values.Null is ok = throwing_safe throwables.NullPointer
          by_tag (IsThrown class) (Throwable number other) is ok = raises number other state.memory same_memory
          by_tag IsInt v is ok = absurd (let e = ok in cc)
          by_tag IsArray v is ok = absurd (let e = ok in cc)
          by_tag IsText v is ok = absurd (let e = ok in cc)
          by_tag (IsNew p class) v is ok = absurd (let e = ok in cc)
          by_tag tag v is ok = absurd is

      -- the frame, which runs the instruction again
      abbrev again : Runs T n state.top
      again = record { typing = record { shape = k; result = result }; at = at; locals = locals; stack = stack }

      -- a member is reached with its class started, or its initialiser runs first, or the run ends
      access_safe : (member : Member) (missing : List ℕ) (go : ℕ → Here V → Effect V) → ((c : ℕ) → member.class ≡ Some c → member.is_there ≡ true → (started : List ℕ) → Safe (go c (record (here_of state) { memory = record state.memory { started = started } })))
          → (IsReachable member → member.initialiser ≡ Present → Begins T view.initialiser_first [] None) → Safe (access member missing (here_of state) go)
      access_safe member missing go all begins = by_class member.class refl
        where
          by_parts : (c : ℕ) → member.class ≡ Some c → (there : Bool) → member.is_there ≡ there → (known : Bool) (initialiser : Initialiser) → member.initialiser ≡ initialiser
              → Safe (cond there (cond known (go c (here_of state)) (by_initialiser initialiser (go c (starting c (here_of state))) (Does (Initialises c (starting c (here_of state)))) (Does (Stops (Missing (initialiser_name member.class_name)))))) (Does (Stops (Missing missing))))
          by_parts c is_class false is_there known initialiser is_initialiser = tt
          by_parts c is_class true is_there true initialiser is_initialiser = all c is_class is_there state.memory.started
          by_parts c is_class true is_there false Absent is_initialiser = all c is_class is_there (state.memory.started ++ c ∷ [])
          by_parts c is_class true is_there false Present is_initialiser =
              let b = begins (record { number = c; class = is_class; is_there = is_there }) is_initialiser in
              rw is_view (enters_safe view.initialiser_first [] None [] (Some c) (left_with state.top (starting c (here_of state))) state.below (starting c (here_of state)).memory b (filled_locals n b.count [] [] tt) (again, are) statics)
          by_parts c is_class true is_there false Foreign is_initialiser = tt

          by_class : (class : Option ℕ) → member.class ≡ class → Safe (access_in member missing (here_of state) go class)
          by_class None is_class = tt
          by_class (Some c) is_class = by_parts c is_class member.is_there refl (is_started state.memory.started c) member.initialiser refl

      -- an array is made
      make_safe : (ks : List PlaceKind) (vs : List (Value V)) (size : ℕ) → Leads T result view.next (record { locals = k.locals; stack = Array ∷ ks }) → HaveKinds n ks vs → IsSafe P T (perform P state (make_array I (here_of state) vs size))
      make_safe ks vs size leads have =
          by_test (nat_le size greatest_length && (nat_le (cells_of state.memory.arrays + size) most_cells && nat_lt (made_in state.memory) most_made))
        where
          arrays : List (List V)
          arrays = state.memory.arrays ++ replicate size (I.constant (pos 0)) ∷ []

          memory : Memory V
          memory = record state.memory { arrays = arrays }

          longer : length arrays ≡ n + 1
          longer = length-append state.memory.arrays (replicate size (I.constant (pos 0)) ∷ [])

          more : n ≤ length arrays
          more = omega (arith, longer)

          by_test : (room : Bool) → IsSafe P T (perform P state (cond room (Moves Next (record (here_of state) { stack = values.Array n ∷ vs; memory = memory })) (Stops HeapFull)))
          by_test true = moves Next (record { locals = k.locals; stack = Array ∷ ks }) (record (here_of state) { stack = values.Array n ∷ vs; memory = memory }) leads (locals_more n (length arrays) more _ _ locals)
              (record { tag = IsArray; is = omega (arith, longer); held = refl }, kinds_more n (length arrays) more ks vs have)
              (record { more = more; statics = statics_more n (length arrays) more state.memory.statics statics })
          by_test false = tt

      new_array_safe : (ks : List PlaceKind) (vs : List (Value V)) (size : Option ℤ) → Leads T result view.next (record { locals = k.locals; stack = Array ∷ ks }) → HaveKinds n ks vs → IsSafe P T (perform P state (new_array I (here_of state) vs size))
      new_array_safe ks vs None leads have = tt
      new_array_safe ks vs (Some (pos size)) leads have = make_safe ks vs size leads have
      new_array_safe ks vs (Some (negsuc m)) leads have = throwing_safe throwables.NegativeArraySize

      store_safe : (ks : List PlaceKind) (vs : List (Value V)) (number : ℕ) (cells : List V) (cell : ℕ) (a : V) → Leads T result view.next (record { locals = k.locals; stack = ks }) → HaveKinds n ks vs → IsSafe P T (perform P state (store_cell (here_of state) vs number cells cell a))
      store_safe ks vs number cells cell a leads have =
          let changed : List (List V) = slice_set state.memory.arrays number (slice_set cells cell a) in
          let as_long : length changed ≡ n = length-set state.memory.arrays number (slice_set cells cell a) in
          let more : n ≤ length changed = omega (arith, as_long) in
          moves Next (record { locals = k.locals; stack = ks }) (record (here_of state) { stack = vs; memory = record state.memory { arrays = changed } }) leads (locals_more n (length changed) more _ _ locals) (kinds_more n (length changed) more ks vs have)
          (record { more = more; statics = statics_more n (length changed) more state.memory.statics statics })

      first_kind : (type : FieldType) (initial : ℤ) → HasKind n (kind_of type) (first_value I type initial)
      first_kind (types.Int kind) initial = int_kind n (I.constant initial)
      first_kind types.IntArray initial = null_kind n Array refl

      -- the rules that the instruction meets
      record IsRuled (instr : Instr) : Type 0 where
        meet : all_meet (takes instr) k.stack ≡ true
        set : reads_set (reads instr) (local_of instr) k ≡ true
        local : local_meets (reads instr) (local_of instr) k ≡ true
        right : returns_right result instr ≡ true
        next_leads : rules.goes_on instr ≡ true → Leads T result view.next (after offset instr k)
        targets : (j : ℕ) → j < targets_of instr → Leads T result (slice_get view.targets j) (after offset instr k)
        own : moves_its_own instr ≡ true
        field : HasFieldType instr
        callee : (member : Member) (signature : Signature) → instr ≡ Invoke member signature → IsReachable member → Begins T view.callee signature.parameters signature.result
        initialiser : (member : Member) → member_of instr ≡ Some member → IsReachable member → member.initialiser ≡ Present → Begins T view.initialiser_first [] None

      -- what is popped at first
      all_of : (instr : Instr) → IsRuled instr → Operands n (takes instr) k.stack (drop (length (takes instr)) k.stack) state.top.stack
      all_of instr r = record { meet = r.meet; have = stack; last_is = refl }

      returned_kind : (sort : Sort) (v : Value V) → returns_right result (ReturnValue sort) ≡ true → Meets n (returned_want sort) v → HasResult n result (Some v)
      returned_kind sort v right m = by_result result sort right m
        where
          by_result : (r : Option FieldType) (sort : Sort) → returns_right r (ReturnValue sort) ≡ true → Meets n (returned_want sort) v → HasResult n r (Some v)
          by_result (Some (types.Int kind)) OfInt right m = typed_kind n (types.Int kind) v m
          by_result (Some types.IntArray) OfReference right m = typed_kind n types.IntArray v m
          by_result (Some (types.Int kind)) OfReference right m = absurd (let e = right in cc)
          by_result (Some types.IntArray) OfInt right m = absurd (let e = right in cc)
          by_result None sort right m = absurd (let e = right in cc)

      void_result : returns_right result ReturnVoid ≡ true → HasResult n result None
      void_result right = by_result result right
        where
          by_result : (r : Option FieldType) → returns_right r ReturnVoid ≡ true → HasResult n r None
          by_result None right = tt
          by_result (Some (types.Int kind)) right = absurd (let e = right in cc)
          by_result (Some types.IntArray) right = absurd (let e = right in cc)

      local_safe : (instr : Instr) (local : ℕ) (want : Want) (go : Value V → Effect V) → reads instr ≡ Some want → local_of instr ≡ Some local → IsRuled instr → ((v : Value V) → HasKind n (kind_at k.locals local) v → Meets n want v → meets want (kind_at k.locals local) ≡ true → Safe (go v))
          → Safe (on_local state.top.locals local go)
      local_safe instr local want go is_want is_local r all =
          let set : reads_set (Some want) (Some local) k ≡ true = subst (λ w. reads_set w (Some local) k ≡ true) is_want (subst (λ l. reads_set (reads instr) l k ≡ true) is_local r.set) in
          let meet : local_meets (Some want) (Some local) k ≡ true = subst (λ w. local_meets w (Some local) k ≡ true) is_want (subst (λ l. local_meets (reads instr) l k ≡ true) is_local r.local) in
          let held = held_local n k.locals state.top.locals local locals set in
          rw held.1 (all held.0 held.2 (meets_want n want (kind_at k.locals local) held.0 meet held.2) meet)

      shuffle_safe : (count : ℕ) (places : List ℕ) → IsRuled (Shuffle count places) → Safe (effect I (Shuffle count places) (here_of state))
      shuffle_safe count places r =
          let same : length (replicate count Anything) ≡ count = length-replicate count Anything in
          let within : count ≤ length k.stack = omega (arith, same, as_many (replicate count Anything) k.stack r.meet) in
          let leads = subst (λ m. Leads T result view.next (record { locals = k.locals; stack = or_none (values_at k.stack places) ++ drop m k.stack })) same (r.next_leads refl) in
          pop_all Safe n count k.stack state.top.stack _ within stack (λ taken below is rest.
          let b = put_back n k.stack taken count places is within r.own in
          rw b.0.is (stays Next (or_none (values_at k.stack places) ++ drop count k.stack) _ leads (appended_kinds n _ _ _ _ b.0.has rest)))

      invoke_safe : (member : Member) (signature : Signature) (started : List ℕ) (class : ℕ) → IsRuled (Invoke member signature) → Begins T view.callee signature.parameters signature.result
          → Safe (invoke (length signature.parameters) class (record (here_of state) { memory = record state.memory { started = started } }))
      invoke_safe member signature started class r b =
          let ts = signature.parameters in
          let same : length (reverse (map want_of ts)) ≡ length ts = length-reverse (map want_of ts) ∙ length-map ts want_of in
          let within : length ts ≤ length k.stack = omega (arith, same, as_many (reverse (map want_of ts)) k.stack r.meet) in
          let leads = subst (λ m. Leads T result view.next (record { locals = k.locals; stack = result_kinds signature.result ++ drop m k.stack })) same (r.next_leads refl) in
          let memory : Memory V = record state.memory { started = started } in
          pop_all Safe n (length ts) k.stack state.top.stack _ within stack (λ taken below is rest.
          let here : Here V = record (here_of state) { stack = below; memory = memory } in
          rw is_view (enters_safe view.callee ts signature.result (map (λ v. Some v) (reverse taken)) None (left_with state.top here) state.below memory b
          (filled_locals n b.count (map kind_of ts) (reverse taken) (arguments n ts k.stack taken r.meet is))
          (record { view = view; is = is_view; shape = record { locals = k.locals; stack = drop (length ts) k.stack }; result = result; locals = locals; stack = rest; next = leads; handlers = handlers }, are) statics))

      initialised_safe : (with_message : Bool) (class : Thrown) → IsRuled (Construct with_message class) → (below : List (Value V)) → HaveKinds n (drop (constructed_from with_message) k.stack) below → IsSafe P T (perform P state (next (here_of state) below))
      initialised_safe with_message class r below rest =
          let made = made_at with_message k in
          moves Next (after offset (Construct with_message class) k) _ (r.next_leads refl) (mapped_locals n (initialised made) refl (initialised_survives n made) k.locals state.top.locals locals)
          (mapped_kinds n (initialised made) (initialised_survives n made) _ below rest) same_memory

      effect_safe : (instr : Instr) → IsRuled instr → Safe (effect I instr (here_of state))
      effect_safe Skip r = stays Next k.stack state.top.stack (r.next_leads refl) stack
      effect_safe (Push word) r = stays Next (Int ∷ k.stack) _ (r.next_leads refl) (int_kind n (I.constant word), stack)
      effect_safe PushNull r = stays Next (Null ∷ k.stack) _ (r.next_leads refl) (null_kind n Null refl, stack)
      effect_safe (PushText bytes) r = stays Next (Text ∷ k.stack) _ (r.next_leads refl) (record { tag = IsText; is = tt; held = refl }, stack)
      effect_safe (Load sort local) r = local_safe (Load sort local) local (local_want sort) _ refl refl r (λ v has m fits. stays Next (kind_at k.locals local ∷ k.stack) _ (r.next_leads refl) (has, stack))
      effect_safe (Store sort local) r = pop Safe n (local_want sort) [] k.stack (drop 1 k.stack) state.top.stack _ (all_of (Store sort local) r) (λ v rest ks has m o.
          moves Next (after offset (Store sort local) k) _ (r.next_leads refl) (stored_local n k.locals state.top.locals local (kind_at k.stack 0) v locals has) (popped n ks _ rest o) same_memory)
      effect_safe (Shuffle count places) r = shuffle_safe count places r
      effect_safe (Change op) r = pop_int Safe n [] k.stack (drop 1 k.stack) state.top.stack _ (all_of (Change op) r) (λ a rest ks o. stays Next (Int ∷ drop 1 k.stack) _ (r.next_leads refl) (int_kind n (I.unary op a), popped n ks _ rest o))
      effect_safe (Combine op) r = pop_int Safe n (AnInt ∷ []) k.stack (drop 2 k.stack) state.top.stack _ (all_of (Combine op) r) (λ b rest ks o. pop_int Safe n [] ks (drop 2 k.stack) rest _ o (λ a last js p.
          stays Next (Int ∷ drop 2 k.stack) _ (r.next_leads refl) (int_kind n (I.binary op a b), popped n js _ last p)))
      effect_safe (Divide op) r = pop_int Safe n (AnInt ∷ []) k.stack (drop 2 k.stack) state.top.stack _ (all_of (Divide op) r) (λ b rest ks o. pop_int Safe n [] ks (drop 2 k.stack) rest _ o (λ a last js p.
          λ arm within. two_arms _ _ (stays Next (Int ∷ drop 2 k.stack) _ (r.next_leads refl) (int_kind n (I.binary op a b), popped n js _ last p)) (throwing_safe throwables.Arithmetic) arm))
      effect_safe (Increment local by) r = local_safe (Increment local by) local AnInt _ refl refl r (λ v has m fits. int_of Safe n v _ m (λ a.
          moves Next k _ (r.next_leads refl) (changed_local n k.locals state.top.locals local (values.Int (I.binary Add a (I.constant by))) locals
          (record { tag = IsInt; is = tt; held = int_held (kind_at k.locals local) fits })) stack same_memory))
      effect_safe (Compare comparison) r = pop_int Safe n (AnInt ∷ []) k.stack (drop 2 k.stack) state.top.stack _ (all_of (Compare comparison) r) (λ b rest ks o. pop_int Safe n [] ks (drop 2 k.stack) rest _ o (λ a last js p.
          λ arm within. two_arms _ _ (stays Next (drop 2 k.stack) _ (r.next_leads refl) (popped n js _ last p)) (stays (Target 0) (drop 2 k.stack) _ (r.targets 0 (omega arith)) (popped n js _ last p)) arm))
      effect_safe (CompareZero comparison) r = pop_int Safe n [] k.stack (drop 1 k.stack) state.top.stack _ (all_of (CompareZero comparison) r) (λ a rest ks o.
          λ arm within. two_arms _ _ (stays Next (drop 1 k.stack) _ (r.next_leads refl) (popped n ks _ rest o)) (stays (Target 0) (drop 1 k.stack) _ (r.targets 0 (omega arith)) (popped n ks _ rest o)) arm)
      effect_safe (CompareReferences same) r = pop Safe n AReference (AReference ∷ []) k.stack (drop 2 k.stack) state.top.stack _ (all_of (CompareReferences same) r) (λ b rest ks has m o. pop Safe n AReference [] ks (drop 2 k.stack) rest _ o (λ a last js has' m' p.
          jumps (is_as same (are_same a b)) (drop 2 k.stack) last (r.next_leads refl) (r.targets 0 (omega arith)) (popped n js _ last p)))
      effect_safe (CompareNull null) r = pop Safe n AReference [] k.stack (drop 1 k.stack) state.top.stack _ (all_of (CompareNull null) r) (λ v rest ks has m o.
          jumps (is_as null (is_null v)) (drop 1 k.stack) rest (r.next_leads refl) (r.targets 0 (omega arith)) (popped n ks _ rest o))
      effect_safe Goto r = stays (Target 0) k.stack state.top.stack (r.targets 0 (omega arith)) stack
      effect_safe (Switch keys) r = pop_int Safe n [] k.stack (drop 1 k.stack) state.top.stack _ (all_of (Switch keys) r) (λ a rest ks o.
          λ arm within. stays (Target arm) (drop 1 k.stack) _ (r.targets arm within) (popped n ks _ rest o))
      effect_safe (ReturnValue sort) r = pop Safe n (returned_want sort) [] k.stack (drop 1 k.stack) state.top.stack _ (all_of (ReturnValue sort) r) (λ v rest ks has m o.
          returns_safe (Some v) state.memory state.top.initialises result state.below (returned_kind sort v r.right m) are statics)
      effect_safe ReturnVoid r = returns_safe None state.memory state.top.initialises result state.below (void_result r.right) are statics
      effect_safe (GetStatic member type initial) r = access_safe member (field_name member) (get_static I member type initial) (λ c is_class is_there started.
          moves Next (record { locals = k.locals; stack = kind_of type ∷ k.stack }) _ (r.next_leads refl) locals (static_kind n state.memory.statics c member.name member.descriptor type (first_value I type initial) statics r.field (first_kind type initial), stack)
          (record { more = omega arith; statics = statics })) (r.initialiser member refl)
      effect_safe (PutStatic member type) r = access_safe member (field_name member) (put_static member) (λ c is_class is_there started.
          pop Safe n (want_of type) [] k.stack (drop 1 k.stack) state.top.stack _ (all_of (PutStatic member type) r) (λ v rest ks has m o.
          moves Next (record { locals = k.locals; stack = drop 1 k.stack }) _ (r.next_leads refl) locals (popped n ks _ rest o)
          (record { more = omega arith; statics = stored_static n state.memory.statics c member.name member.descriptor type v statics r.field (typed_kind n type v m) }))) (r.initialiser member refl)
      effect_safe (Invoke member signature) r = access_safe member (method_name member) (invoke (length signature.parameters)) (λ c is_class is_there started. invoke_safe member signature started c r
          (r.callee member signature refl (record { number = c; class = is_class; is_there = is_there }))) (r.initialiser member refl)
      effect_safe (instructions.New class) r = making_safe (λ number memory. Moves Next (record (here_of state) { stack = Throwable number class ∷ state.top.stack; memory = memory })) (λ number.
          moves Next (after offset (instructions.New class) k) _ (r.next_leads refl) (mapped_locals n (unset offset) refl (unset_survives n offset) k.locals state.top.locals locals) (record { tag = IsNew offset class; is = refl; held = new_holds offset class }, stack)
          (record { more = omega arith; statics = statics }))
      effect_safe (Construct true class) r = pop_all Safe n 2 k.stack state.top.stack (λ taken below. Does (next (here_of state) below)) (as_many (takes (Construct true class)) k.stack r.meet) stack (λ taken below is rest. initialised_safe true class r below rest)
      effect_safe (Construct false class) r = pop_all Safe n 1 k.stack state.top.stack (λ taken below. Does (next (here_of state) below)) (as_many (takes (Construct false class)) k.stack r.meet) stack (λ taken below is rest. initialised_safe false class r below rest)
      effect_safe Throw r = pop Safe n AThrowable [] k.stack (drop 1 k.stack) state.top.stack _ (all_of Throw r) (λ v rest ks has m o. thrown_safe v m)
      effect_safe NewArray r = pop_int Safe n [] k.stack (drop 1 k.stack) state.top.stack _ (all_of NewArray r) (λ a rest ks o. new_array_safe (drop 1 k.stack) rest (I.known a) (r.next_leads refl) (popped n ks _ rest o))
      effect_safe ArrayLength r = pop Safe n AnArray [] k.stack (drop 1 k.stack) state.top.stack _ (all_of ArrayLength r) (λ v rest ks has m o. array_safe v _ m (λ number cells within is.
          stays Next (Int ∷ drop 1 k.stack) _ (r.next_leads refl) (int_kind n (I.constant (pos (length cells))), popped n ks _ rest o)))
      effect_safe ArrayLoad r = pop_int Safe n (AnArray ∷ []) k.stack (drop 2 k.stack) state.top.stack _ (all_of ArrayLoad r) (λ index rest ks o. pop Safe n AnArray [] ks (drop 2 k.stack) rest _ o (λ v last js has m p. array_safe v _ m (λ number cells within is.
          λ arm below. cell_safe (slice_get cells arm) _ (λ a. stays Next (Int ∷ drop 2 k.stack) _ (r.next_leads refl) (int_kind n a, popped n js _ last p)))))
      effect_safe ArrayStore r = pop_int Safe n (AnInt ∷ AnArray ∷ []) k.stack (drop 3 k.stack) state.top.stack _ (all_of ArrayStore r) (λ a rest ks o. pop_int Safe n (AnArray ∷ []) ks (drop 3 k.stack) rest _ o (λ index low js p.
          pop Safe n AnArray [] js (drop 3 k.stack) low _ p (λ v last is has m q. array_safe v _ m (λ number cells within there.
          λ arm below. cell_safe (slice_get cells arm) _ (λ cell. store_safe (drop 3 k.stack) last number cells arm a (r.next_leads refl) (popped n is _ last q))))))

    -- STEPS

    -- a step from a typed state, in a program whose items are fine
    pub step_safe : AreFine P T → (I : Ints V) (state : State V) → IsTyped P T state → IsSafeStep P T (step I P state)
    step_safe all I state typed =
        let top = typed.top in
        let shape = top.typing.shape in
        let fine = all state.top.at top.typing top.at in
        let instr = fine.view.instr in
        let all_hold = all_pass (has_depth fine.profile fine.offset instr shape) (has_local fine.profile instr shape) (has_kinds fine.offset instr shape) (returns_right fine.profile.result instr) (not (rules.goes_on instr && is_none fine.view.next)) fine.fine in
        rw fine.is (effect_safe I state fine.view fine.is fine.offset shape top.typing.result top.at top.locals top.stack fine.handlers typed.below typed.statics instr (record {
          meet = first (all_meet (takes instr) shape.stack) _ all_hold.1;
          set = second (is_there fine.profile.max_locals (local_of instr)) _ all_hold.0;
          local = first (local_meets (reads instr) (local_of instr) shape) _ (second (all_meet (takes instr) shape.stack) _ all_hold.1);
          right = subst (λ r. returns_right r instr ≡ true) fine.result all_hold.2;
          next_leads = fine.next;
          targets = fine.targets;
          own = fine.own;
          field = fine.field;
          callee = fine.callee;
          initialiser = fine.initialiser;
        }))
