-- An instruction keeps the arrays of a run short, and asks only tests of its own keys and of such arrays.
use Rattle.std.proofs.Common.{◌≡◌, ℕ, zero, suc, ◌+◌, ◌≤◌, ℤ, pos, negsuc, Bool, true, false, cond, nat_le, nat_lt, ◌&&◌, List, [], ◌∷◌, ◌++◌, length, replicate, Option, Some, None, refl, subst, arith, slice_get, slice_set}
use Rattle.std.specs.List.{AllByRecursion}
use Rattle.std.proofs.lemmas.List.{length-replicate, length-set}
use Rattle.std.proofs.lemmas.Bool.{leb-true}
use Rattle.ms_words.specs.declared.thrown.Thrown.{Thrown}
use Rattle.ms_words.specs.declared.thrown.Thrown.TheVariants as throwables
use Rattle.ms_machine.specs.Ints.{Ints}
use Rattle.ms_machine.specs.Instructions.{Initialiser, Absent, Present, Foreign, Member, Instr, Skip, Push, PushNull, PushText, Load, Store, Shuffle, Change, Combine, Divide, Increment, Compare, CompareZero, CompareReferences, CompareNull, Goto, Switch, ReturnValue, ReturnVoid, GetStatic, PutStatic, Invoke, New, Construct, Throw, NewArray, ArrayLength, ArrayLoad, ArrayStore}
use Rattle.ms_machine.specs.Values.{Value, Int, Null, Array, Text, Throwable, Memory, HeapFull, Missing, cells_of, is_started, made_in}
use Rattle.ms_machine.specs.Effects.{Here, Doing, Moves, Next, Calls, Initialises, Returns, Raises, Stops, Test, Compares, Divides, Selects, Indexes, Effect, Does, Asks, access, access_in, as_int, by_arm, by_initialiser, effect, field_name, get_static, greatest_length, initialiser_name, invoke, jump, make_array, making, method_name, most_cells, most_made, new_array, next, on_array, on_cell, on_int, on_local, on_some, on_top, put_static, starting, store_cell, taking, throwing, thrown, values_at}
use Rattle.ms_machine.specs.Laws.{keys_of}

-- each array has at most 256 cells
abbrev pub AreShort : {V : Type 0} → List (List V) → Type 0
AreShort arrays = AllByRecursion (λ cells. length cells ≤ 256) arrays

abbrev pub KeepsShort : {V : Type 0} → Memory V → Type 0
KeepsShort memory = AreShort memory.arrays

-- what an instruction does leaves short arrays
abbrev pub LeavesShort : {V : Type 0} → Doing V → Type 0
LeavesShort (Moves place here) = KeepsShort here.memory
LeavesShort (Calls arguments here) = KeepsShort here.memory
LeavesShort (Initialises class here) = KeepsShort here.memory
LeavesShort (Returns result memory) = KeepsShort memory
LeavesShort (Raises number class memory) = KeepsShort memory
LeavesShort (Stops end) = Unit {0}

some_is : {A : Type 0} (x y : A) → ◌≡◌ {A = Option A} (Some x) (Some y) → x ≡ y
some_is x y e = cc

module _ {V : Type 0} (Q : List ℤ → Type 0) where
  -- a test of such keys, or of such an array
  abbrev pub IsOf : Test V → Type 0
  IsOf (Compares comparison a b) = Unit {0}
  IsOf (Divides b) = Unit {0}
  IsOf (Selects a keys) = Q keys
  IsOf (Indexes a size) = size ≤ 256

  -- an effect that asks such a test, if it asks one, and does such things
  abbrev pub IsShort : Effect V → Type 0
  IsShort (Does doing) = LeavesShort doing
  IsShort (Asks test arms) = IsOf test × ((arm : ℕ) → LeavesShort (arms arm))

  -- OPERANDS

  on_top_short : (stack : List (Value V)) (go : Value V → List (Value V) → Effect V) → ((v : Value V) (below : List (Value V)) → IsShort (go v below)) → IsShort (on_top stack go)
  on_top_short [] go all = tt
  on_top_short (v ∷ below) go all = all v below

  as_int_short : (v : Value V) (go : V → Effect V) → ((a : V) → IsShort (go a)) → IsShort (as_int v go)
  as_int_short (Int a) go all = all a
  as_int_short Null go all = tt
  as_int_short (Array number) go all = tt
  as_int_short (Text bytes) go all = tt
  as_int_short (Throwable number class) go all = tt

  on_int_short : (stack : List (Value V)) (go : V → List (Value V) → Effect V) → ((a : V) (below : List (Value V)) → IsShort (go a below)) → IsShort (on_int stack go)
  on_int_short stack go all = on_top_short stack _ (λ v below. as_int_short v _ (λ a. all a below))

  taking_short : (count : ℕ) (stack : List (Value V)) (go : List (Value V) → List (Value V) → Effect V) → ((values below : List (Value V)) → IsShort (go values below)) → IsShort (taking count stack go)
  taking_short zero stack go all = all [] stack
  taking_short (suc count) stack go all = on_top_short stack _ (λ top rest. taking_short count rest (λ values below. go (top ∷ values) below) (λ values below. all (top ∷ values) below))

  on_some_short : {A : Type 0} (o : Option A) (go : A → Effect V) → ((a : A) → o ≡ Some a → IsShort (go a)) → IsShort (on_some o go)
  on_some_short None go all = tt
  on_some_short (Some a) go all = all a refl

  on_local_short : (locals : List (Option (Value V))) (local : ℕ) (go : Value V → Effect V) → ((v : Value V) → IsShort (go v)) → IsShort (on_local locals local go)
  on_local_short locals local go all = on_some_short (slice_get locals local) _ (λ held is. on_some_short held go (λ v held_is. all v))

  by_arm_short : (first second : Doing V) → LeavesShort first → LeavesShort second → (arm : ℕ) → LeavesShort (by_arm first second arm)
  by_arm_short first second is other zero = is
  by_arm_short first second is other (suc arm) = other

  either_short : (b : Bool) (first second : Doing V) → LeavesShort first → LeavesShort second → LeavesShort (cond b first second)
  either_short true first second is other = is
  either_short false first second is other = other

  -- MAKING AND THROWING

  making_short : (memory : Memory V) (go : ℕ → Memory V → Doing V) → ((number : ℕ) → LeavesShort (go number (record memory { throwables = suc memory.throwables }))) → LeavesShort (making memory go)
  making_short memory go all = either_short (nat_lt (made_in memory) most_made) _ (Stops HeapFull) (all memory.throwables) tt

  throwing_short : (class : Thrown) (here : Here V) → KeepsShort here.memory → LeavesShort (throwing class here)
  throwing_short class here short = making_short here.memory (λ number memory. Raises number class memory) (λ number. short)

  thrown_short : (here : Here V) (v : Value V) → KeepsShort here.memory → IsShort (thrown here v)
  thrown_short here (Int a) short = tt
  thrown_short here Null short = throwing_short throwables.NullPointer here short
  thrown_short here (Array number) short = tt
  thrown_short here (Text bytes) short = tt
  thrown_short here (Throwable number class) short = short

  -- MEMBERS

  access_in_short : (member : Member) (missing : List ℕ) (here : Here V) (go : ℕ → Here V → Effect V) → KeepsShort here.memory → ((class : ℕ) (here : Here V) → KeepsShort here.memory → IsShort (go class here)) → (class : Option ℕ) → IsShort (access_in member missing here go class)
  access_in_short member missing here go short all None = tt
  access_in_short member missing here go short all (Some class) = by_parts member.is_there (is_started here.memory.started class) member.initialiser
    where
      by_parts : (there known : Bool) (state : Initialiser)
          → IsShort (cond there (cond known (go class here) (by_initialiser state (go class (starting class here)) (Does (Initialises class (starting class here))) (Does (Stops (Missing (initialiser_name member.class_name)))))) (Does (Stops (Missing missing))))
      by_parts false known state = tt
      by_parts true true state = all class here short
      by_parts true false Absent = all class (starting class here) short
      by_parts true false Present = short
      by_parts true false Foreign = tt

  access_short : (member : Member) (missing : List ℕ) (here : Here V) (go : ℕ → Here V → Effect V) → KeepsShort here.memory → ((class : ℕ) (here : Here V) → KeepsShort here.memory → IsShort (go class here)) → IsShort (access member missing here go)
  access_short member missing here go short all = access_in_short member missing here go short all member.class

  -- ARRAYS

  got_short : (arrays : List (List V)) (number : ℕ) (cells : List V) → AreShort arrays → slice_get arrays number ≡ Some cells → length cells ≤ 256
  got_short [] number cells short is = absurd (let e = is in cc)
  got_short (first ∷ arrays) zero cells short is = subst (λ (xs : List V). length xs ≤ 256) (some_is first cells is) short.0
  got_short (first ∷ arrays) (suc number) cells short is = got_short arrays number cells short.1 is

  on_array_short : (here : Here V) (v : Value V) (go : ℕ → List V → Effect V) → KeepsShort here.memory → ((number : ℕ) (cells : List V) → length cells ≤ 256 → IsShort (go number cells)) → IsShort (on_array here v go)
  on_array_short here (Int a) go short all = tt
  on_array_short here Null go short all = throwing_short throwables.NullPointer here short
  on_array_short here (Array number) go short all = on_some_short (slice_get here.memory.arrays number) (go number) (λ cells is. all number cells (got_short here.memory.arrays number cells short is))
  on_array_short here (Text bytes) go short all = tt
  on_array_short here (Throwable number class) go short all = tt

  on_cell_short : (here : Here V) (cell : Option V) (go : V → Doing V) → KeepsShort here.memory → ((a : V) → LeavesShort (go a)) → LeavesShort (on_cell here cell go)
  on_cell_short here None go short all = throwing_short throwables.ArrayIndexOutOfBounds here short
  on_cell_short here (Some a) go short all = all a

  more_short : (arrays : List (List V)) (cells : List V) → AreShort arrays → length cells ≤ 256 → AreShort (arrays ++ cells ∷ [])
  more_short [] cells short small = (small, tt)
  more_short (first ∷ arrays) cells short small = (short.0, more_short arrays cells short.1 small)

  set_short : (arrays : List (List V)) (number : ℕ) (cells : List V) → AreShort arrays → length cells ≤ 256 → AreShort (slice_set arrays number cells)
  set_short [] number cells short small = short
  set_short (first ∷ arrays) zero cells short small = (small, short.1)
  set_short (first ∷ arrays) (suc number) cells short small = (short.0, set_short arrays number cells short.1 small)

  store_short : (here : Here V) (below : List (Value V)) (number : ℕ) (cells : List V) (place : ℕ) (a : V) → KeepsShort here.memory → length cells ≤ 256 → LeavesShort (store_cell here below number cells place a)
  store_short here below number cells place a short small = set_short here.memory.arrays number (slice_set cells place a) short (omega (arith, length-set cells place a))

  make_array_short : (I : Ints V) (here : Here V) (below : List (Value V)) (size : ℕ) → KeepsShort here.memory → LeavesShort (make_array I here below size)
  unfolding greatest_length
  make_array_short I here below size short = by_test (nat_le size 256) refl (nat_le (cells_of here.memory.arrays + size) most_cells && nat_lt (made_in here.memory) most_made)
    where
      zeros : List V
      zeros = replicate size (I.constant (pos 0))

      by_test : (small : Bool) → nat_le size 256 ≡ small → (room : Bool)
          → LeavesShort (cond (small && room) (Moves Next (record here { stack = Array (length here.memory.arrays) ∷ below; memory = record here.memory { arrays = here.memory.arrays ++ zeros ∷ [] } })) (Stops HeapFull))
      by_test true is true = more_short here.memory.arrays zeros short (omega (arith, length-replicate size (I.constant (pos 0)), leb-true size 256 is))
      by_test true is false = tt
      by_test false is room = tt

  new_array_short : (I : Ints V) (here : Here V) (below : List (Value V)) (size : Option ℤ) → KeepsShort here.memory → LeavesShort (new_array I here below size)
  new_array_short I here below None short = tt
  new_array_short I here below (Some (pos size)) short = make_array_short I here below size short
  new_array_short I here below (Some (negsuc n)) short = throwing_short throwables.NegativeArraySize here short

  -- WHAT EACH INSTRUCTION DOES

  pub effect_short : (I : Ints V) (instr : Instr) (here : Here V) → Q (keys_of instr) → KeepsShort here.memory → IsShort (effect I instr here)
  effect_short I Skip here q short = short
  effect_short I (Push word) here q short = short
  effect_short I PushNull here q short = short
  effect_short I (PushText bytes) here q short = short
  effect_short I (Load sort local) here q short = on_local_short here.locals local _ (λ v. short)
  effect_short I (Store sort local) here q short = on_top_short here.stack _ (λ v below. short)
  effect_short I (Shuffle count places) here q short = taking_short count here.stack _ (λ values below. on_some_short (values_at values places) _ (λ back is. short))
  effect_short I (Change op) here q short = on_int_short here.stack _ (λ a below. short)
  effect_short I (Combine op) here q short = on_int_short here.stack _ (λ b rest. on_int_short rest _ (λ a below. short))
  effect_short I (Divide op) here q short = on_int_short here.stack _ (λ b rest. on_int_short rest _ (λ a below.
      (tt, by_arm_short (next here (Int (I.binary op a b) ∷ below)) (throwing throwables.Arithmetic here) short (throwing_short throwables.Arithmetic here short))))
  effect_short I (Increment local by) here q short = on_local_short here.locals local _ (λ v. as_int_short v _ (λ a. short))
  effect_short I (Compare comparison) here q short = on_int_short here.stack _ (λ b rest. on_int_short rest _ (λ a below. (tt, by_arm_short (next here below) (jump 0 here below) short short)))
  effect_short I (CompareZero comparison) here q short = on_int_short here.stack _ (λ a below. (tt, by_arm_short (next here below) (jump 0 here below) short short))
  effect_short I (CompareReferences same) here q short = on_top_short here.stack _ (λ b rest. on_top_short rest _ (λ a below. either_short _ (jump 0 here below) (next here below) short short))
  effect_short I (CompareNull null) here q short = on_top_short here.stack _ (λ v below. either_short _ (jump 0 here below) (next here below) short short)
  effect_short I Goto here q short = short
  effect_short I (Switch keys) here q short = on_int_short here.stack _ (λ a below. (q, λ arm. short))
  effect_short I (ReturnValue sort) here q short = on_top_short here.stack _ (λ v below. short)
  effect_short I ReturnVoid here q short = short
  effect_short I (GetStatic member type initial) here q short = access_short member (field_name member) here (get_static I member type initial) short (λ class here short. short)
  effect_short I (PutStatic member type) here q short = access_short member (field_name member) here (put_static member) short (λ class here short. on_top_short here.stack _ (λ v below. short))
  effect_short I (Invoke member signature) here q short =
      access_short member (method_name member) here (invoke (length signature.parameters)) short (λ class here short. taking_short (length signature.parameters) here.stack _ (λ values below. short))
  effect_short I (New class) here q short = making_short here.memory (λ number memory. Moves Next (record here { stack = Throwable number class ∷ here.stack; memory = memory })) (λ number. short)
  effect_short I (Construct with_message class) here q short = taking_short (cond with_message 2 1) here.stack _ (λ values below. short)
  effect_short I Throw here q short = on_top_short here.stack _ (λ v below. thrown_short here v short)
  effect_short I NewArray here q short = on_int_short here.stack _ (λ a below. new_array_short I here below (I.known a) short)
  effect_short I ArrayLength here q short = on_top_short here.stack _ (λ v below. on_array_short here v _ short (λ number cells small. short))
  effect_short I ArrayLoad here q short = on_int_short here.stack _ (λ index rest. on_top_short rest _ (λ v below. on_array_short here v _ short (λ number cells small.
      (small, λ arm. on_cell_short here (slice_get cells arm) (λ a. next here (Int a ∷ below)) short (λ a. short)))))
  effect_short I ArrayStore here q short = on_int_short here.stack _ (λ a rest. on_int_short rest _ (λ index low. on_top_short low _ (λ v below. on_array_short here v _ short (λ number cells small.
      (small, λ arm. on_cell_short here (slice_get cells arm) (λ cell. store_cell here below number cells arm a) short (λ cell. store_short here below number cells arm a short small))))))
