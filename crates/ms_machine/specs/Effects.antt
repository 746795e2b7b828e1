-- What an instruction does to the frame that it stands in and to memory (JVMS SE 8, sections 2.6 and 6.5).
use Rattle.std.specs.Prelude.{ℕ, zero, suc, ◌+◌, ℤ, pos, negsuc, Bool, true, false, cond, not, ◌&&◌, nat_le, nat_lt, List, [], ◌∷◌, ◌++◌, length, replicate, reverse, codes, Option, Some, None, slice_get, slice_set}
use Rattle.ms_words.specs.declared.descriptor.FieldType.{FieldType}
use Rattle.ms_words.specs.declared.descriptor.FieldType.TheVariants as types
use Rattle.ms_words.specs.declared.operator.Bin.TheVariants.{Add}
use Rattle.ms_words.specs.declared.thrown.Thrown.{Thrown}
use Rattle.ms_words.specs.declared.thrown.Thrown.TheVariants as throwables
use Rattle.ms_machine.specs.Ints.{Ints}
use Rattle.ms_machine.specs.Instructions.{Comparison, Initialiser, Absent, Present, Foreign, Member, Instr, Skip, Push, PushNull, PushText, Load, Store, Shuffle, Change, Combine, Divide, Increment, Compare, CompareZero, CompareReferences, CompareNull, Goto, Switch, ReturnValue, ReturnVoid, GetStatic, PutStatic, Invoke, New, Construct, Throw, NewArray, ArrayLength, ArrayLoad, ArrayStore}
use Rattle.ms_machine.specs.Values.{Value, Int, Null, Array, Text, Throwable, Memory, End, Missing, SymLength, HeapFull, Stuck, are_same, cells_of, is_null, is_started, made_in, static_value, with_local, with_static}

-- what an instruction works on: the locals, the operand stack with its top first, and memory (JVMS SE 8, sections 2.6.1
-- and 2.6.2)
pub record Here (V : Type 0) : Type 0 where
  pub locals : List (Option (Value V))
  pub stack : List (Value V)
  pub memory : Memory V

-- DOING

-- where a frame goes on: at the next instruction, or at a target of this one
pub data Where : Type 0 where
  Next : Where
  Target : ℕ → Where

-- what an instruction does once its tests are known
pub data Doing (V : Type 0) : Type 0 where
  -- goes on in the same frame
  Moves : Where → Here V → Doing V
  -- calls the member's method with these arguments
  Calls : List (Value V) → Here V → Doing V
  -- runs the initialiser of a class first: nothing is popped, and the memory has the class marked as started already
  Initialises : ℕ → Here V → Doing V
  -- returns to the frame below
  Returns : Option (Value V) → Memory V → Doing V
  -- throws a throwable
  Raises : ℕ → Thrown → Memory V → Doing V
  -- ends the run
  Stops : End V → Doing V

-- A test of ints: how two compare, a divisor that is 0, the case of a switch, an index of an array of
-- some length.
pub data Test (V : Type 0) : Type 0 where
  Compares : Comparison → V → V → Test V
  Divides : V → Test V
  Selects : V → List ℤ → Test V
  Indexes : V → ℕ → Test V

-- an instruction does something, or asks a test and does something for each arm
pub data Effect (V : Type 0) : Type 0 where
  Does : Doing V → Effect V
  Asks : Test V → (ℕ → Doing V) → Effect V

-- OPERANDS

-- no rule applies
abbrev pub stuck : {V : Type 0} → Effect V
stuck = Does (Stops Stuck)

-- with the top of the stack
abbrev pub on_top : {V : Type 0} → List (Value V) → (Value V → List (Value V) → Effect V) → Effect V
on_top [] go = stuck
on_top (top ∷ below) go = go top below

-- with the int that a value is
abbrev pub as_int : {V : Type 0} → Value V → (V → Effect V) → Effect V
as_int (Int a) go = go a
as_int other go = stuck

-- with the int on top of the stack
abbrev pub on_int : {V : Type 0} → List (Value V) → (V → List (Value V) → Effect V) → Effect V
on_int stack go = on_top stack (λ top below. as_int top (λ a. go a below))

-- with so many values from the top of the stack, the top first
abbrev pub taking : {V : Type 0} → ℕ → List (Value V) → (List (Value V) → List (Value V) → Effect V) → Effect V
taking zero stack go = go [] stack
taking (suc count) stack go = on_top stack (λ top rest. taking count rest (λ values below. go (top ∷ values) below))

-- with what is there
abbrev pub on_some : {V A : Type 0} → Option A → (A → Effect V) → Effect V
on_some None go = stuck
on_some (Some a) go = go a

-- with the value of a local
abbrev pub on_local : {V : Type 0} → List (Option (Value V)) → ℕ → (Value V → Effect V) → Effect V
on_local locals local go = on_some (slice_get locals local) (λ held. on_some held go)

-- one more value, where both are there
abbrev pub with_value : {A : Type 0} → Option A → Option (List A) → Option (List A)
with_value None values = None
with_value (Some v) None = None
with_value (Some v) (Some values) = Some (v ∷ values)

-- the values of places, where each is there
abbrev pub values_at : {A : Type 0} → List A → List ℕ → Option (List A)
values_at values [] = Some []
values_at values (place ∷ places) = with_value (slice_get values place) (values_at values places)

-- GOING ON

-- at the next instruction, with this stack
abbrev pub next : {V : Type 0} → Here V → List (Value V) → Doing V
next here stack = Moves Next (record here { stack = stack })

-- at a target, with this stack
abbrev pub jump : {V : Type 0} → ℕ → Here V → List (Value V) → Doing V
jump target here stack = Moves (Target target) (record here { stack = stack })

-- at the first target where this is so, and else at the next instruction
abbrev pub jump_if : {V : Type 0} → Bool → Here V → List (Value V) → Doing V
jump_if is here stack = cond is (jump 0 here stack) (next here stack)

-- whether something is as it is wanted: so, or not so
abbrev pub is_as : (wanted is : Bool) → Bool
is_as true is = is
is_as false is = not is

-- of two things the one for the arm: the first for arm 0
abbrev pub by_arm : {A : Type 0} → A → A → ℕ → A
by_arm first second zero = first
by_arm first second (suc arm) = second

-- MAKING AND THROWING

-- the most arrays and throwables that a run makes, the most cells of its arrays in all, and the greatest length of an
-- array: bounds of this project, not of the standard
unfoldable pub most_made : ℕ
most_made = 4096

unfoldable pub most_cells : ℕ
most_cells = 4096

unfoldable pub greatest_length : ℕ
greatest_length = 256

-- a throwable is made, with its number, where there is room
abbrev pub making : {V : Type 0} → Memory V → (ℕ → Memory V → Doing V) → Doing V
making memory go =
    cond (nat_lt (made_in memory) most_made) (go memory.throwables (record memory { throwables = suc memory.throwables })) (Stops HeapFull)

-- the machine throws (JVMS SE 8, section 2.10)
abbrev pub throwing : {V : Type 0} → Thrown → Here V → Doing V
throwing class here = making here.memory (λ number memory. Raises number class memory)

-- a throwable is thrown, and for null a NullPointerException
abbrev pub thrown : {V : Type 0} → Here V → Value V → Effect V
thrown here (Throwable number class) = Does (Raises number class here.memory)
thrown here Null = Does (throwing throwables.NullPointer here)
thrown here other = stuck

-- MEMBERS

-- the name of a class's initialiser, of a field, and of a method, as an end names what is missing
abbrev pub initialiser_name : List ℕ → List ℕ
initialiser_name class_name = class_name ++ codes ".<clinit>"

abbrev pub field_name : Member → List ℕ
field_name member = member.class_name ++ codes "." ++ member.name

abbrev pub method_name : Member → List ℕ
method_name member = field_name member ++ member.descriptor

-- the class is marked as started
abbrev pub starting : {V : Type 0} → ℕ → Here V → Here V
starting class here = record here { memory = record here.memory { started = here.memory.started ++ class ∷ [] } }

-- one of three, by the state of an initialiser: the first where there is none
abbrev pub by_initialiser : {A : Type 0} → Initialiser → A → A → A → A
by_initialiser Absent none present foreign = none
by_initialiser Present none present foreign = present
by_initialiser Foreign none present foreign = foreign

-- With a class that is started. One that isn't yet is marked as started; then its initialiser runs first, if it has one,
-- and a foreign one ends the run (JVMS SE 8, section 5.5).
abbrev pub once_started : {V : Type 0} → Member → ℕ → Here V → (ℕ → Here V → Effect V) → Effect V
once_started member class here go =
    cond (is_started here.memory.started class) (go class here)
    (by_initialiser member.initialiser (go class (starting class here)) (Does (Initialises class (starting class here)))
    (Does (Stops (Missing (initialiser_name member.class_name)))))

-- for `access`: the same, by the number of the class, where that is there
abbrev pub access_in : {V : Type 0} → Member → (missing : List ℕ) → Here V → (ℕ → Here V → Effect V) → Option ℕ → Effect V
access_in member missing here go None = Does (Stops (Missing member.class_name))
access_in member missing here go (Some class) = cond member.is_there (once_started member class here go) (Does (Stops (Missing missing)))

-- With the number of a member's class, once that is started. What the run misses first ends it: the class, then the member,
-- under the name of a missing one, and then the initialiser of the class (JVMS SE 8, section 5.4.3).
abbrev pub access : {V : Type 0} → Member → (missing : List ℕ) → Here V → (ℕ → Here V → Effect V) → Effect V
access member missing here go = access_in member missing here go member.class

-- what a field of a type is at first: this int, or null
abbrev pub first_value : {V : Type 0} → Ints V → FieldType → ℤ → Value V
first_value I (types.Int kind) word = Int (I.constant word)
first_value I types.IntArray word = Null

-- the value of a field is put on the stack
abbrev pub get_static : {V : Type 0} → Ints V → Member → FieldType → ℤ → ℕ → Here V → Effect V
get_static I member type initial class here =
    Does (next here (static_value here.memory.statics class member.name member.descriptor (first_value I type initial) ∷ here.stack))

-- a value is taken into a field
abbrev pub put_static : {V : Type 0} → Member → ℕ → Here V → Effect V
put_static member class here = on_top here.stack (λ v below.
    Does (Moves Next (record here { stack = below; memory = record here.memory { statics = with_static here.memory.statics class member.name member.descriptor v } })))

-- as many arguments as there are parameters are taken, of which the last is on top, and the method is called
abbrev pub invoke : {V : Type 0} → ℕ → ℕ → Here V → Effect V
invoke parameters class here = taking parameters here.stack (λ values below. Does (Calls (reverse values) (record here { stack = below })))

-- ARRAYS

-- with the cells of the array that a value is, and its number; null throws
abbrev pub on_array : {V : Type 0} → Here V → Value V → (ℕ → List V → Effect V) → Effect V
on_array here (Array number) go = on_some (slice_get here.memory.arrays number) (go number)
on_array here Null go = Does (throwing throwables.NullPointer here)
on_array here other go = stuck

-- with the cell of an arm; the arm out of range throws
abbrev pub on_cell : {V : Type 0} → Here V → Option V → (V → Doing V) → Doing V
on_cell here None go = throwing throwables.ArrayIndexOutOfBounds here
on_cell here (Some cell) go = go cell

-- an array of this many cells, each 0, is made, where there is room
abbrev pub make_array : {V : Type 0} → Ints V → Here V → List (Value V) → ℕ → Doing V
make_array I here below size =
    cond (nat_le size greatest_length && (nat_le (cells_of here.memory.arrays + size) most_cells && nat_lt (made_in here.memory) most_made))
    (Moves Next (record here { stack = Array (length here.memory.arrays) ∷ below; memory = record here.memory { arrays = here.memory.arrays ++ replicate size (I.constant (pos 0)) ∷ [] } }))
    (Stops HeapFull)

-- an array of a length that is known is made
abbrev pub new_array : {V : Type 0} → Ints V → Here V → List (Value V) → Option ℤ → Doing V
new_array I here below None = Stops SymLength
new_array I here below (Some (pos size)) = make_array I here below size
new_array I here below (Some (negsuc n)) = throwing throwables.NegativeArraySize here

-- an int is stored in a cell
abbrev pub store_cell : {V : Type 0} → Here V → List (Value V) → ℕ → List V → ℕ → V → Doing V
store_cell here below number cells place a =
    Moves Next (record here { stack = below; memory = record here.memory { arrays = slice_set here.memory.arrays number (slice_set cells place a) } })

-- WHAT EACH INSTRUCTION DOES

-- the effect of an instruction (JVMS SE 8, section 6.5)
abbrev pub effect : {V : Type 0} → Ints V → Instr → Here V → Effect V
effect I Skip here = Does (next here here.stack)
effect I (Push word) here = Does (next here (Int (I.constant word) ∷ here.stack))
effect I PushNull here = Does (next here (Null ∷ here.stack))
effect I (PushText bytes) here = Does (next here (Text bytes ∷ here.stack))
effect I (Load sort local) here = on_local here.locals local (λ v. Does (next here (v ∷ here.stack)))
effect I (Store sort local) here = on_top here.stack (λ v below. Does (Moves Next (record here { locals = with_local here.locals local v; stack = below })))
effect I (Shuffle count places) here = taking count here.stack (λ values below. on_some (values_at values places) (λ back. Does (next here (back ++ below))))
effect I (Change op) here = on_int here.stack (λ a below. Does (next here (Int (I.unary op a) ∷ below)))
effect I (Combine op) here = on_int here.stack (λ b rest. on_int rest (λ a below. Does (next here (Int (I.binary op a b) ∷ below))))
effect I (Divide op) here = on_int here.stack (λ b rest. on_int rest (λ a below.
    Asks (Divides b) (by_arm (next here (Int (I.binary op a b) ∷ below)) (throwing throwables.Arithmetic here))))
effect I (Increment local by) here = on_local here.locals local (λ v. as_int v (λ a.
    Does (Moves Next (record here { locals = with_local here.locals local (Int (I.binary Add a (I.constant by))) }))))
effect I (Compare comparison) here = on_int here.stack (λ b rest. on_int rest (λ a below. Asks (Compares comparison a b) (by_arm (next here below) (jump 0 here below))))
effect I (CompareZero comparison) here = on_int here.stack (λ a below. Asks (Compares comparison a (I.constant (pos 0))) (by_arm (next here below) (jump 0 here below)))
effect I (CompareReferences same) here = on_top here.stack (λ b rest. on_top rest (λ a below. Does (jump_if (is_as same (are_same a b)) here below)))
effect I (CompareNull null) here = on_top here.stack (λ v below. Does (jump_if (is_as null (is_null v)) here below))
effect I Goto here = Does (jump 0 here here.stack)
effect I (Switch keys) here = on_int here.stack (λ a below. Asks (Selects a keys) (λ arm. jump arm here below))
effect I (ReturnValue sort) here = on_top here.stack (λ v below. Does (Returns (Some v) here.memory))
effect I ReturnVoid here = Does (Returns None here.memory)
effect I (GetStatic member type initial) here = access member (field_name member) here (get_static I member type initial)
effect I (PutStatic member type) here = access member (field_name member) here (put_static member)
effect I (Invoke member signature) here = access member (method_name member) here (invoke (length signature.parameters))
effect I (New class) here = Does (making here.memory (λ number memory. Moves Next (record here { stack = Throwable number class ∷ here.stack; memory = memory })))
effect I (Construct with_message class) here = taking (cond with_message 2 1) here.stack (λ values below. Does (next here below))
effect I Throw here = on_top here.stack (λ v below. thrown here v)
effect I NewArray here = on_int here.stack (λ a below. Does (new_array I here below (I.known a)))
effect I ArrayLength here = on_top here.stack (λ v below. on_array here v (λ number cells. Does (next here (Int (I.constant (pos (length cells))) ∷ below))))
effect I ArrayLoad here = on_int here.stack (λ index rest. on_top rest (λ v below. on_array here v (λ number cells.
    Asks (Indexes index (length cells)) (λ arm. on_cell here (slice_get cells arm) (λ a. next here (Int a ∷ below))))))
effect I ArrayStore here = on_int here.stack (λ a rest. on_int rest (λ index low. on_top low (λ v below. on_array here v (λ number cells.
    Asks (Indexes index (length cells)) (λ arm. on_cell here (slice_get cells arm) (λ cell. store_cell here below number cells arm a))))))
