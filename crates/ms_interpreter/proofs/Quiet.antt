-- Instructions that ask no test.
use Rattle.std.proofs.Common.{◌≡◌, ℕ, zero, suc, Bool, true, false, cond, List, [], ◌∷◌, ◌++◌, length, Option, Some, None, refl}
use Rattle.std.specs.Prelude.{slice_get}
use Rattle.ms_machine.specs.Ints.{Ints}
use Rattle.ms_machine.specs.Instructions.{Initialiser, Absent, Present, Foreign, Member, Instr, Skip, Push, PushNull, PushText, Load, Store, Shuffle, Change, Combine, Divide, Increment, Compare, CompareZero, CompareReferences, CompareNull, Goto, Switch, ReturnValue, ReturnVoid, GetStatic, PutStatic, Invoke, New, Construct, Throw, NewArray, ArrayLength, ArrayLoad, ArrayStore}
use Rattle.ms_machine.specs.Values.{Value, Int, Null, Array, Text, Throwable, Missing, is_started}
use Rattle.ms_machine.specs.Effects.{Here, Effect, Does, Initialises, Stops, access, as_int, by_initialiser, effect, access_in, field_name, get_static, initialiser_name, invoke, method_name, on_array, on_int, on_local, on_some, on_top, once_started, put_static, starting, next, taking, thrown, values_at}
use Rattle.std.specs.Borrow.{Bor}
use Rattle.ms_words.specs.declared.operator.Bin.{Bin}
use Rattle.ms_code.specs.declared.instruction.Switch.{Switch as Cases}
use Rattle.ms_linking.specs.declared.instruction.Comparison.{Comparison}
use Rattle.ms_linking.specs.declared.instruction.Instruction.{Instruction}
use Rattle.ms_linking.specs.declared.instruction.Instruction.TheVariants as code
use Rattle.ms_linking.specs.Told.{told}
use Rattle.ms_interpreter.specs.Doing.{test_of}

-- whether an instruction may ask a test
abbrev pub asks : Instr → Bool
asks (Divide op) = true
asks (Compare comparison) = true
asks (CompareZero comparison) = true
asks (Switch keys) = true
asks ArrayLoad = true
asks ArrayStore = true
asks other = false

module _ {V : Type 0} where
  abbrev IsQuiet : Effect V → Type 0
  IsQuiet effect = test_of effect ≡ None

  on_top_quiet : (stack : List (Value V)) (go : Value V → List (Value V) → Effect V) → ((v : Value V) (below : List (Value V)) → IsQuiet (go v below)) → IsQuiet (on_top stack go)
  on_top_quiet [] go quiet = refl
  on_top_quiet (v ∷ below) go quiet = quiet v below

  as_int_quiet : (v : Value V) (go : V → Effect V) → ((a : V) → IsQuiet (go a)) → IsQuiet (as_int v go)
  as_int_quiet (Int a) go quiet = quiet a
  as_int_quiet Null go quiet = refl
  as_int_quiet (Array number) go quiet = refl
  as_int_quiet (Text bytes) go quiet = refl
  as_int_quiet (Throwable number class) go quiet = refl

  on_int_quiet : (stack : List (Value V)) (go : V → List (Value V) → Effect V) → ((a : V) (below : List (Value V)) → IsQuiet (go a below)) → IsQuiet (on_int stack go)
  on_int_quiet stack go quiet = on_top_quiet stack (λ top below. as_int top (λ a. go a below)) (λ top below. as_int_quiet top (λ a. go a below) (λ a. quiet a below))

  taking_quiet : (count : ℕ) (stack : List (Value V)) (go : List (Value V) → List (Value V) → Effect V) → ((values below : List (Value V)) → IsQuiet (go values below)) → IsQuiet (taking count stack go)
  taking_quiet zero stack go quiet = quiet [] stack
  taking_quiet (suc count) stack go quiet =
      on_top_quiet stack (λ top rest. taking count rest (λ values below. go (top ∷ values) below)) (λ top rest. taking_quiet count rest (λ values below. go (top ∷ values) below) (λ values below. quiet (top ∷ values) below))

  on_some_quiet : {A : Type 0} (o : Option A) (go : A → Effect V) → ((a : A) → IsQuiet (go a)) → IsQuiet (on_some o go)
  on_some_quiet None go quiet = refl
  on_some_quiet (Some a) go quiet = quiet a

  on_local_quiet : (locals : List (Option (Value V))) (local : ℕ) (go : Value V → Effect V) → ((v : Value V) → IsQuiet (go v)) → IsQuiet (on_local locals local go)
  on_local_quiet locals local go quiet = on_some_quiet (slice_get locals local) (λ held. on_some held go) (λ held. on_some_quiet held go quiet)

  by_initialiser_quiet : (state : Initialiser) (none present foreign : Effect V) → IsQuiet none → IsQuiet present → IsQuiet foreign → IsQuiet (by_initialiser state none present foreign)
  by_initialiser_quiet Absent none present foreign a b c = a
  by_initialiser_quiet Present none present foreign a b c = b
  by_initialiser_quiet Foreign none present foreign a b c = c

  cond_quiet : (test : Bool) (first second : Effect V) → IsQuiet first → IsQuiet second → IsQuiet (cond test first second)
  cond_quiet true first second a b = a
  cond_quiet false first second a b = b

  access_quiet : (member : Member) (missing : List ℕ) (here : Here V) (go : ℕ → Here V → Effect V) → ((class : ℕ) (here : Here V) → IsQuiet (go class here)) → IsQuiet (access member missing here go)
  access_quiet member missing here go quiet = by_class member.class
    where
      started_quiet : (class : ℕ) → IsQuiet (once_started member class here go)
      started_quiet class =
          cond_quiet (is_started here.memory.started class) (go class here) _ (quiet class here)
          (by_initialiser_quiet member.initialiser (go class (starting class here)) (Does (Initialises class (starting class here))) (Does (Stops (Missing (initialiser_name member.class_name)))) (quiet class (starting class here)) refl refl)

      by_class : (class : Option ℕ) → IsQuiet (access_in member missing here go class)
      by_class None = refl
      by_class (Some class) = cond_quiet member.is_there (once_started member class here go) (Does (Stops (Missing missing))) (started_quiet class) refl

  on_array_quiet : (here : Here V) (v : Value V) (go : ℕ → List V → Effect V) → ((number : ℕ) (cells : List V) → IsQuiet (go number cells)) → IsQuiet (on_array here v go)
  on_array_quiet here (Int a) go quiet = refl
  on_array_quiet here Null go quiet = refl
  on_array_quiet here (Array number) go quiet = on_some_quiet (slice_get here.memory.arrays number) (go number) (quiet number)
  on_array_quiet here (Text bytes) go quiet = refl
  on_array_quiet here (Throwable number class) go quiet = refl

  thrown_quiet : (here : Here V) (v : Value V) → IsQuiet (thrown here v)
  thrown_quiet here (Int a) = refl
  thrown_quiet here Null = refl
  thrown_quiet here (Array number) = refl
  thrown_quiet here (Text bytes) = refl
  thrown_quiet here (Throwable number class) = refl

  pub effect_quiet : (I : Ints V) (instr : Instr) (here : Here V) → asks instr ≡ false → test_of (effect I instr here) ≡ None
  effect_quiet I Skip here quiet = refl
  effect_quiet I (Push word) here quiet = refl
  effect_quiet I PushNull here quiet = refl
  effect_quiet I (PushText bytes) here quiet = refl
  effect_quiet I (Load sort local) here quiet = on_local_quiet here.locals local _ (λ v. refl)
  effect_quiet I (Store sort local) here quiet = on_top_quiet here.stack _ (λ v below. refl)
  effect_quiet I (Shuffle count places) here quiet = taking_quiet count here.stack _ (λ values below. on_some_quiet (values_at values places) (λ back. Does (next here (back ++ below))) (λ back. refl))
  effect_quiet I (Change op) here quiet = on_int_quiet here.stack _ (λ a below. refl)
  effect_quiet I (Combine op) here quiet = on_int_quiet here.stack _ (λ b rest. on_int_quiet rest _ (λ a below. refl))
  effect_quiet I (Divide op) here quiet = absurd (let e = quiet in cc)
  effect_quiet I (Increment local by) here quiet = on_local_quiet here.locals local _ (λ v. as_int_quiet v _ (λ a. refl))
  effect_quiet I (Compare comparison) here quiet = absurd (let e = quiet in cc)
  effect_quiet I (CompareZero comparison) here quiet = absurd (let e = quiet in cc)
  effect_quiet I (CompareReferences same) here quiet = on_top_quiet here.stack _ (λ b rest. on_top_quiet rest _ (λ a below. refl))
  effect_quiet I (CompareNull null) here quiet = on_top_quiet here.stack _ (λ v below. refl)
  effect_quiet I Goto here quiet = refl
  effect_quiet I (Switch keys) here quiet = absurd (let e = quiet in cc)
  effect_quiet I (ReturnValue sort) here quiet = on_top_quiet here.stack _ (λ v below. refl)
  effect_quiet I ReturnVoid here quiet = refl
  effect_quiet I (GetStatic member type initial) here quiet = access_quiet member (field_name member) here (get_static I member type initial) (λ class here. refl)
  effect_quiet I (PutStatic member type) here quiet = access_quiet member (field_name member) here (put_static member) (λ class here. on_top_quiet here.stack _ (λ v below. refl))
  effect_quiet I (Invoke member signature) here quiet = access_quiet member (method_name member) here (invoke (length signature.parameters)) (λ class here. taking_quiet (length signature.parameters) here.stack _ (λ values below. refl))
  effect_quiet I (New class) here quiet = refl
  effect_quiet I (Construct with_message class) here quiet = taking_quiet (cond with_message 2 1) here.stack _ (λ values below. refl)
  effect_quiet I Throw here quiet = on_top_quiet here.stack _ (λ v below. thrown_quiet here v)
  effect_quiet I NewArray here quiet = on_int_quiet here.stack _ (λ a below. refl)
  effect_quiet I ArrayLength here quiet = on_top_quiet here.stack _ (λ v below. on_array_quiet here v _ (λ number cells. refl))
  effect_quiet I ArrayLoad here quiet = absurd (let e = quiet in cc)
  effect_quiet I ArrayStore here quiet = absurd (let e = quiet in cc)

-- none of the instructions that may ask a test
pub record IsOther (instruction : Instruction) : Type 0 where
  pub divide : (op : Bin) → instruction ≡ code.Divide op → ⊥
  pub compare : (comparison : Comparison) → instruction ≡ code.Compare comparison → ⊥
  pub compare_zero : (comparison : Comparison) → instruction ≡ code.CompareZero comparison → ⊥
  pub switch : (switch : Bor Cases) → instruction ≡ code.Switch switch → ⊥
  pub load : instruction ≡ code.ArrayLoad → ⊥
  pub store : instruction ≡ code.ArrayStore → ⊥

pub others_are_quiet : (instruction : Instruction) → IsOther instruction → asks (told instruction) ≡ false
others_are_quiet code.Skip is = refl
others_are_quiet (code.Push word) is = refl
others_are_quiet code.PushNull is = refl
others_are_quiet (code.PushText bytes) is = refl
others_are_quiet (code.Load sort local) is = refl
others_are_quiet (code.Store sort local) is = refl
others_are_quiet (code.Shuffle count places) is = refl
others_are_quiet (code.Change op) is = refl
others_are_quiet (code.Combine op) is = refl
others_are_quiet (code.Divide op) is = absurd (is.divide op refl)
others_are_quiet (code.Increment local by) is = refl
others_are_quiet (code.Compare comparison) is = absurd (is.compare comparison refl)
others_are_quiet (code.CompareZero comparison) is = absurd (is.compare_zero comparison refl)
others_are_quiet (code.CompareReferences same) is = refl
others_are_quiet (code.CompareNull null) is = refl
others_are_quiet code.Goto is = refl
others_are_quiet (code.Switch switch) is = absurd (is.switch switch refl)
others_are_quiet (code.ReturnValue sort) is = refl
others_are_quiet code.ReturnVoid is = refl
others_are_quiet (code.GetStatic member type initial) is = refl
others_are_quiet (code.PutStatic member type) is = refl
others_are_quiet (code.Invoke member signature) is = refl
others_are_quiet (code.New class) is = refl
others_are_quiet (code.Construct with_message class) is = refl
others_are_quiet code.Throw is = refl
others_are_quiet code.NewArray is = refl
others_are_quiet code.ArrayLength is = refl
others_are_quiet code.ArrayLoad is = absurd (is.load refl)
others_are_quiet code.ArrayStore is = absurd (is.store refl)
