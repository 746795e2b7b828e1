-- An effect commutes with a map of ints.
use Rattle.std.proofs.Common.{◌≡◌, ℕ, zero, suc, ◌+◌, ℤ, pos, negsuc, Bool, cond, nat_le, nat_lt, ◌&&◌, List, [], ◌∷◌, ◌++◌, length, map, replicate, Option, Some, None, refl, sym, ap, ◌∙◌, slice_get, slice_set}
use Rattle.std.specs.Option.{option_map}
use Rattle.std.proofs.lemmas.List.{length-map, map-append}
use Rattle.std.proofs.lemmas.Option.{slice_get-map}
use Rattle.ms_words.specs.declared.descriptor.FieldType.{FieldType}
use Rattle.ms_words.specs.declared.descriptor.FieldType.TheVariants as types
use Rattle.ms_words.specs.declared.operator.Bin.TheVariants.{Add}
use Rattle.ms_words.specs.declared.thrown.Thrown.{Thrown}
use Rattle.ms_words.specs.declared.thrown.Thrown.TheVariants as throwables
use Rattle.ms_machine.specs.Ints.{Ints}
use Rattle.ms_machine.specs.Instructions.{Initialiser, Absent, Present, Foreign, Member, Instr, Skip, Push, PushNull, PushText, Load, Store, Shuffle, Change, Combine, Divide, Increment, Compare, CompareZero, CompareReferences, CompareNull, Goto, Switch, ReturnValue, ReturnVoid, GetStatic, PutStatic, Invoke, New, Construct, Throw, NewArray, ArrayLength, ArrayLoad, ArrayStore}
use Rattle.ms_machine.specs.Values.{Value, Int, Null, Array, Text, Throwable, Memory, Missing, HeapFull, are_same, cells_of, is_null, is_started, made_in, static_value, with_local}
use Rattle.ms_machine.specs.Effects.{Here, Doing, Moves, Next, Calls, Initialises, Raises, Stops, Effect, Does, Asks, Compares, Divides, Indexes, access, access_in, as_int, by_arm, by_initialiser, effect, field_name, first_value, get_static, greatest_length, is_as, initialiser_name, invoke, jump, jump_if, make_array, making, method_name, most_cells, most_made, new_array, next, on_array, on_cell, on_int, on_local, on_some, on_top, once_started, put_static, starting, store_cell, taking, throwing, thrown, values_at}
use Rattle.ms_machine.specs.Maps.{Respects, map_doing, map_effect, map_here, map_locals, map_memory, map_static, map_value, map_values}
use Rattle.ms_machine.proofs.ValueMap.{cells_map, cond_map, local_map, made_map, null_map, replicate_map, reverse_map, same_map, slice_set_map, static_map, static_value_map, values_at_map}

pub by_initialiser_map : {A B : Type 0} (h : A → B) (state : Initialiser) (x y z : A) → by_initialiser state (h x) (h y) (h z) ≡ h (by_initialiser state x y z)
by_initialiser_map h Absent x y z = refl
by_initialiser_map h Present x y z = refl
by_initialiser_map h Foreign x y z = refl

module _ {V W : Type 0} (f : V → W) where
  -- OPERANDS

  on_top_map : (stack : List (Value V)) (go : Value V → List (Value V) → Effect V) (go' : Value W → List (Value W) → Effect W)
      → ((v : Value V) (below : List (Value V)) → go' (map_value f v) (map_values f below) ≡ map_effect f (go v below))
      → on_top (map_values f stack) go' ≡ map_effect f (on_top stack go)
  on_top_map [] go go' same = refl
  on_top_map (v ∷ below) go go' same = same v below

  as_int_map : (v : Value V) (go : V → Effect V) (go' : W → Effect W) → ((a : V) → go' (f a) ≡ map_effect f (go a)) → as_int (map_value f v) go' ≡ map_effect f (as_int v go)
  as_int_map (Int a) go go' same = same a
  as_int_map Null go go' same = refl
  as_int_map (Array number) go go' same = refl
  as_int_map (Text bytes) go go' same = refl
  as_int_map (Throwable number class) go go' same = refl

  on_int_map : (stack : List (Value V)) (go : V → List (Value V) → Effect V) (go' : W → List (Value W) → Effect W)
      → ((a : V) (below : List (Value V)) → go' (f a) (map_values f below) ≡ map_effect f (go a below))
      → on_int (map_values f stack) go' ≡ map_effect f (on_int stack go)
  on_int_map stack go go' same =
      on_top_map stack (λ v below. as_int v (λ a. go a below)) (λ v below. as_int v (λ a. go' a below))
      (λ v below. as_int_map v (λ a. go a below) (λ a. go' a (map_values f below)) (λ a. same a below))

  taking_map : (count : ℕ) (stack : List (Value V)) (go : List (Value V) → List (Value V) → Effect V) (go' : List (Value W) → List (Value W) → Effect W)
      → ((values below : List (Value V)) → go' (map_values f values) (map_values f below) ≡ map_effect f (go values below))
      → taking count (map_values f stack) go' ≡ map_effect f (taking count stack go)
  taking_map zero stack go go' same = same [] stack
  taking_map (suc count) stack go go' same =
      on_top_map stack (λ top rest. taking count rest (λ values below. go (top ∷ values) below)) (λ top rest. taking count rest (λ values below. go' (top ∷ values) below))
      (λ top rest. taking_map count rest (λ values below. go (top ∷ values) below) (λ values below. go' (map_value f top ∷ values) below) (λ values below. same (top ∷ values) below))

  on_some_map : {A B : Type 0} (g : A → B) (o : Option A) (go : A → Effect V) (go' : B → Effect W) → ((a : A) → go' (g a) ≡ map_effect f (go a))
      → on_some (option_map g o) go' ≡ map_effect f (on_some o go)
  on_some_map g None go go' same = refl
  on_some_map g (Some v) go go' same = same v

  on_local_map : (locals : List (Option (Value V))) (local : ℕ) (go : Value V → Effect V) (go' : Value W → Effect W) → ((v : Value V) → go' (map_value f v) ≡ map_effect f (go v))
      → on_local (map_locals f locals) local go' ≡ map_effect f (on_local locals local go)
  on_local_map locals local go go' same =
      ap (λ o. on_some o (λ held. on_some held go')) (slice_get-map (option_map (map_value f)) locals local)
      ∙ on_some_map (option_map (map_value f)) (slice_get locals local) (λ held. on_some held go) (λ held. on_some held go') (λ held. on_some_map (map_value f) held go go' same)

  by_arm_map : (first second : Doing V) (arm : ℕ) → by_arm (map_doing f first) (map_doing f second) arm ≡ map_doing f (by_arm first second arm)
  by_arm_map first second zero = refl
  by_arm_map first second (suc arm) = refl

  jump_if_map : (is : Bool) (here : Here V) (stack : List (Value V)) → jump_if is (map_here f here) (map_values f stack) ≡ map_doing f (jump_if is here stack)
  jump_if_map is here stack = cond_map (map_doing f) is (jump 0 here stack) (next here stack)

  -- MAKING AND THROWING

  making_map : (memory : Memory V) (go : ℕ → Memory V → Doing V) (go' : ℕ → Memory W → Doing W) → ((number : ℕ) (memory : Memory V) → go' number (map_memory f memory) ≡ map_doing f (go number memory))
      → making (map_memory f memory) go' ≡ map_doing f (making memory go)
  making_map memory go go' same =
      let more : Memory V = record memory { throwables = suc memory.throwables } in
      (λ i. cond (nat_lt (made_map f memory i) most_made) (same memory.throwables more i) (Stops HeapFull))
      ∙ cond_map (map_doing f) (nat_lt (made_in memory) most_made) (go memory.throwables more) (Stops HeapFull)

  throwing_map : (class : Thrown) (here : Here V) → throwing class (map_here f here) ≡ map_doing f (throwing class here)
  throwing_map class here = making_map here.memory (λ number memory. Raises number class memory) (λ number memory. Raises number class memory) (λ number memory. refl)

  thrown_map : (here : Here V) (v : Value V) → thrown (map_here f here) (map_value f v) ≡ map_effect f (thrown here v)
  thrown_map here (Int a) = refl
  thrown_map here Null = ap Does (throwing_map throwables.NullPointer here)
  thrown_map here (Array number) = refl
  thrown_map here (Text bytes) = refl
  thrown_map here (Throwable number class) = refl

  -- MEMBERS

  access_in_map : (member : Member) (missing : List ℕ) (here : Here V) (go : ℕ → Here V → Effect V) (go' : ℕ → Here W → Effect W)
      → ((class : ℕ) (here : Here V) → go' class (map_here f here) ≡ map_effect f (go class here)) → (class : Option ℕ)
      → access_in member missing (map_here f here) go' class ≡ map_effect f (access_in member missing here go class)
  access_in_map member missing here go go' same None = refl
  access_in_map member missing here go go' same (Some class) =
      let no_initialiser : Effect V = Does (Stops (Missing (initialiser_name member.class_name))) in
      let first : Effect V = Does (Initialises class (starting class here)) in
      ap (λ e. cond member.is_there e (Does (Stops (Missing missing))))
      ((λ i. cond (is_started here.memory.started class) (same class here i) (by_initialiser member.initialiser (same class (starting class here) i) (map_effect f first) (map_effect f no_initialiser)))
      ∙ ap (cond (is_started here.memory.started class) (map_effect f (go class here))) (by_initialiser_map (map_effect f) member.initialiser (go class (starting class here)) first no_initialiser)
      ∙ cond_map (map_effect f) (is_started here.memory.started class) (go class here) (by_initialiser member.initialiser (go class (starting class here)) first no_initialiser))
      ∙ cond_map (map_effect f) member.is_there (once_started member class here go) (Does (Stops (Missing missing)))

  access_map : (member : Member) (missing : List ℕ) (here : Here V) (go : ℕ → Here V → Effect V) (go' : ℕ → Here W → Effect W)
      → ((class : ℕ) (here : Here V) → go' class (map_here f here) ≡ map_effect f (go class here))
      → access member missing (map_here f here) go' ≡ map_effect f (access member missing here go)
  access_map member missing here go go' same = access_in_map member missing here go go' same member.class

  put_static_map : (member : Member) (class : ℕ) (here : Here V) → put_static member class (map_here f here) ≡ map_effect f (put_static member class here)
  put_static_map member class here = on_top_map here.stack _ _ (λ v below.
      ap (λ statics. Does (Moves Next (record (map_here f here) { stack = map_values f below; memory = record (map_memory f here.memory) { statics = statics } })))
      (static_map f here.memory.statics class member.name member.descriptor v))

  invoke_map : (parameters class : ℕ) (here : Here V) → invoke parameters class (map_here f here) ≡ map_effect f (invoke parameters class here)
  invoke_map parameters class here = taking_map parameters here.stack _ _ (λ values below.
      ap (λ arguments. Does (Calls arguments (record (map_here f here) { stack = map_values f below }))) (reverse_map (map_value f) values))

  -- ARRAYS

  on_array_map : (here : Here V) (v : Value V) (go : ℕ → List V → Effect V) (go' : ℕ → List W → Effect W) → ((number : ℕ) (cells : List V) → go' number (map f cells) ≡ map_effect f (go number cells))
      → on_array (map_here f here) (map_value f v) go' ≡ map_effect f (on_array here v go)
  on_array_map here (Int a) go go' same = refl
  on_array_map here Null go go' same = ap Does (throwing_map throwables.NullPointer here)
  on_array_map here (Array number) go go' same =
      ap (λ o. on_some o (go' number)) (slice_get-map (map f) here.memory.arrays number) ∙ on_some_map (map f) (slice_get here.memory.arrays number) (go number) (go' number) (same number)
  on_array_map here (Text bytes) go go' same = refl
  on_array_map here (Throwable number class) go go' same = refl

  on_cell_map : (here : Here V) (cell : Option V) (go : V → Doing V) (go' : W → Doing W) → ((a : V) → go' (f a) ≡ map_doing f (go a))
      → on_cell (map_here f here) (option_map f cell) go' ≡ map_doing f (on_cell here cell go)
  on_cell_map here None go go' same = throwing_map throwables.ArrayIndexOutOfBounds here
  on_cell_map here (Some a) go go' same = same a

  -- a test of an index, with a cell for each arm
  indexed_map : (here : Here V) (index : V) (cells : List V) (go : ℕ → V → Doing V) (go' : ℕ → W → Doing W) → ((arm : ℕ) (a : V) → go' arm (f a) ≡ map_doing f (go arm a))
      → Asks (Indexes (f index) (length (map f cells))) (λ arm. on_cell (map_here f here) (slice_get (map f cells) arm) (go' arm))
      ≡ map_effect f (Asks (Indexes index (length cells)) (λ arm. on_cell here (slice_get cells arm) (go arm)))
  indexed_map here index cells go go' same =
      λ i. Asks (Indexes (f index) (length-map cells f i)) (λ arm. (ap (λ cell. on_cell (map_here f here) cell (go' arm)) (slice_get-map f cells arm) ∙ on_cell_map here (slice_get cells arm) (go arm) (go' arm) (same arm)) i)

  store_map : (here : Here V) (below : List (Value V)) (number : ℕ) (cells : List V) (place : ℕ) (a : V)
      → store_cell (map_here f here) (map_values f below) number (map f cells) place (f a) ≡ map_doing f (store_cell here below number cells place a)
  store_map here below number cells place a =
      ap (λ arrays. Moves Next (record (map_here f here) { stack = map_values f below; memory = record (map_memory f here.memory) { arrays = arrays } }))
      (ap (slice_set (map (map f) here.memory.arrays) number) (slice_set_map f cells place a) ∙ slice_set_map (map f) here.memory.arrays number (slice_set cells place a))

  -- WHAT EACH INSTRUCTION DOES

  module _ (I : Ints V) (J : Ints W) (r : Respects I J f) where
    first_map : (type : FieldType) (initial : ℤ) → first_value J type initial ≡ map_value f (first_value I type initial)
    first_map (types.Int kind) initial = ap Int (sym (r.constant initial))
    first_map types.IntArray initial = refl

    get_static_map : (member : Member) (type : FieldType) (initial : ℤ) (class : ℕ) (here : Here V) → get_static J member type initial class (map_here f here) ≡ map_effect f (get_static I member type initial class here)
    get_static_map member type initial class here =
        ap (λ v. Does (next (map_here f here) (v ∷ map_values f here.stack)))
        (ap (static_value (map (map_static f) here.memory.statics) class member.name member.descriptor) (first_map type initial)
        ∙ static_value_map f here.memory.statics class member.name member.descriptor (first_value I type initial))

    make_array_map : (here : Here V) (below : List (Value V)) (size : ℕ) → make_array J (map_here f here) (map_values f below) size ≡ map_doing f (make_array I here below size)
    make_array_map here below size =
        let arrays = here.memory.arrays in
        let fits : Bool = nat_le size greatest_length && (nat_le (cells_of arrays + size) most_cells && nat_lt (made_in here.memory) most_made) in
        let made : Doing V = Moves Next (record here { stack = Array (length arrays) ∷ below; memory = record here.memory { arrays = arrays ++ replicate size (I.constant (pos 0)) ∷ [] } }) in
        let zeros : replicate size (J.constant (pos 0)) ≡ map f (replicate size (I.constant (pos 0))) = ap (replicate size) (sym (r.constant (pos 0))) ∙ replicate_map f size (I.constant (pos 0)) in
        let more : map (map f) arrays ++ replicate size (J.constant (pos 0)) ∷ [] ≡ map (map f) (arrays ++ replicate size (I.constant (pos 0)) ∷ []) =
        ap (λ cells. map (map f) arrays ++ cells ∷ []) zeros ∙ sym (map-append (map f) arrays (replicate size (I.constant (pos 0)) ∷ [])) in
        (λ i. cond (nat_le size greatest_length && (nat_le (cells_map f arrays i + size) most_cells && nat_lt (made_map f here.memory i) most_made))
        (Moves Next (record (map_here f here) { stack = Array (length-map arrays (map f) i) ∷ map_values f below; memory = record (map_memory f here.memory) { arrays = more i } })) (Stops HeapFull))
        ∙ cond_map (map_doing f) fits made (Stops HeapFull)

    new_array_map : (here : Here V) (below : List (Value V)) (size : Option ℤ) → new_array J (map_here f here) (map_values f below) size ≡ map_doing f (new_array I here below size)
    new_array_map here below None = refl
    new_array_map here below (Some (pos size)) = make_array_map here below size
    new_array_map here below (Some (negsuc n)) = throwing_map throwables.NegativeArraySize here

    pub effect_map : (instr : Instr) (here : Here V) → effect J instr (map_here f here) ≡ map_effect f (effect I instr here)
    effect_map Skip here = refl
    effect_map (Push word) here = ap (λ a. Does (next (map_here f here) (Int a ∷ map_values f here.stack))) (sym (r.constant word))
    effect_map PushNull here = refl
    effect_map (PushText bytes) here = refl
    effect_map (Load sort local) here = on_local_map here.locals local _ _ (λ v. refl)
    effect_map (Store sort local) here = on_top_map here.stack _ _ (λ v below.
        ap (λ locals. Does (Moves Next (record (map_here f here) { locals = locals; stack = map_values f below }))) (local_map f here.locals local v))
    effect_map (Shuffle count places) here = taking_map count here.stack _ _ (λ values below.
        ap (λ o. on_some o (λ back. Does (next (map_here f here) (back ++ map_values f below)))) (values_at_map f values places)
        ∙ on_some_map (map_values f) (values_at values places) _ _ (λ back. ap (λ stack. Does (next (map_here f here) stack)) (sym (map-append (map_value f) back below))))
    effect_map (Change op) here = on_int_map here.stack _ _ (λ a below. ap (λ c. Does (next (map_here f here) (Int c ∷ map_values f below))) (sym (r.unary op a)))
    effect_map (Combine op) here = on_int_map here.stack _ _ (λ b rest. on_int_map rest _ _ (λ a below.
        ap (λ c. Does (next (map_here f here) (Int c ∷ map_values f below))) (sym (r.binary op a b))))
    effect_map (Divide op) here = on_int_map here.stack _ _ (λ b rest. on_int_map rest _ _ (λ a below.
        (λ i. Asks (Divides (f b)) (by_arm (next (map_here f here) (Int (sym (r.binary op a b) i) ∷ map_values f below)) (throwing_map throwables.Arithmetic here i)))
        ∙ ap (Asks (Divides (f b))) (λ i arm. by_arm_map (next here (Int (I.binary op a b) ∷ below)) (throwing throwables.Arithmetic here) arm i)))
    effect_map (Increment local by) here = on_local_map here.locals local _ _ (λ v. as_int_map v _ _ (λ a.
        ap (λ locals. Does (Moves Next (record (map_here f here) { locals = locals })))
        (ap (λ c. with_local (map_locals f here.locals) local (Int c)) (ap (J.binary Add (f a)) (sym (r.constant by)) ∙ sym (r.binary Add a (I.constant by))) ∙ local_map f here.locals local (Int (I.binary Add a (I.constant by))))))
    effect_map (Compare comparison) here = on_int_map here.stack _ _ (λ b rest. on_int_map rest _ _ (λ a below.
        ap (Asks (Compares comparison (f a) (f b))) (λ i arm. by_arm_map (next here below) (jump 0 here below) arm i)))
    effect_map (CompareZero comparison) here = on_int_map here.stack _ _ (λ a below.
        ap (λ c. Asks (Compares comparison (f a) c) (by_arm (next (map_here f here) (map_values f below)) (jump 0 (map_here f here) (map_values f below)))) (sym (r.constant (pos 0)))
        ∙ ap (Asks (Compares comparison (f a) (f (I.constant (pos 0))))) (λ i arm. by_arm_map (next here below) (jump 0 here below) arm i))
    effect_map (CompareReferences same) here = on_top_map here.stack _ _ (λ b rest. on_top_map rest _ _ (λ a below.
        ap (λ is. Does (jump_if (is_as same is) (map_here f here) (map_values f below))) (same_map f a b) ∙ ap Does (jump_if_map (is_as same (are_same a b)) here below)))
    effect_map (CompareNull null) here = on_top_map here.stack _ _ (λ v below.
        ap (λ is. Does (jump_if (is_as null is) (map_here f here) (map_values f below))) (null_map f v) ∙ ap Does (jump_if_map (is_as null (is_null v)) here below))
    effect_map Goto here = refl
    effect_map (Switch keys) here = on_int_map here.stack _ _ (λ a below. refl)
    effect_map (ReturnValue sort) here = on_top_map here.stack _ _ (λ v below. refl)
    effect_map ReturnVoid here = refl
    effect_map (GetStatic member type initial) here = access_map member (field_name member) here (get_static I member type initial) (get_static J member type initial) (get_static_map member type initial)
    effect_map (PutStatic member type) here = access_map member (field_name member) here (put_static member) (put_static member) (put_static_map member)
    effect_map (Invoke member signature) here =
        let parameters = length signature.parameters in
        access_map member (method_name member) here (invoke parameters) (invoke parameters) (invoke_map parameters)
    effect_map (New class) here = ap Does (making_map here.memory
        (λ number memory. Moves Next (record here { stack = Throwable number class ∷ here.stack; memory = memory }))
        (λ number memory. Moves Next (record (map_here f here) { stack = Throwable number class ∷ map_values f here.stack; memory = memory })) (λ number memory. refl))
    effect_map (Construct with_message class) here = taking_map (cond with_message 2 1) here.stack _ _ (λ values below. refl)
    effect_map Throw here = on_top_map here.stack _ _ (λ v below. thrown_map here v)
    effect_map NewArray here = on_int_map here.stack _ _ (λ a below.
        ap (λ known. Does (new_array J (map_here f here) (map_values f below) known)) (r.known a) ∙ ap Does (new_array_map here below (I.known a)))
    effect_map ArrayLength here = on_top_map here.stack _ _ (λ v below. on_array_map here v _ _ (λ number cells.
        ap (λ a. Does (next (map_here f here) (Int a ∷ map_values f below))) (ap (λ size. J.constant (pos size)) (length-map cells f) ∙ sym (r.constant (pos (length cells))))))
    effect_map ArrayLoad here = on_int_map here.stack _ _ (λ index rest. on_top_map rest _ _ (λ v below. on_array_map here v _ _ (λ number cells.
        indexed_map here index cells (λ arm a. next here (Int a ∷ below)) (λ arm a. next (map_here f here) (Int a ∷ map_values f below)) (λ arm a. refl))))
    effect_map ArrayStore here = on_int_map here.stack _ _ (λ a rest. on_int_map rest _ _ (λ index low. on_top_map low _ _ (λ v below. on_array_map here v _ _ (λ number cells.
        indexed_map here index cells (λ arm cell. store_cell here below number cells arm a) (λ arm cell. store_cell (map_here f here) (map_values f below) number (map f cells) arm (f a)) (λ arm cell. store_map here below number cells arm a)))))
