-- Values, locals, and what the frames of a run share (JVMS SE 8, sections 2.2, 2.5 and 2.6.1).
use Rattle.std.specs.Prelude.{ℕ, zero, suc, ◌+◌, ◌==◌, ◌&&◌, ◌||◌, Bool, true, false, cond, List, [], ◌∷◌, length, Option, Some, None}
use Rattle.std.specs.Str.{bytes_eq}
use Rattle.ms_words.specs.declared.thrown.Thrown.{Thrown}

-- VALUES

-- the values: an int, or one of the references
pub data Value (V : Type 0) : Type 0 where
  Int : V → Value V
  Null : Value V
  -- an array of ints, by its number
  Array : ℕ → Value V
  -- a string, by its bytes
  Text : List ℕ → Value V
  -- a throwable, by its number, and its class
  Throwable : ℕ → Thrown → Value V

-- Whether two references are the same: arrays and throwables by their numbers, strings by their bytes, and null is null
-- alone.
abbrev pub are_same : {V : Type 0} → Value V → Value V → Bool
are_same Null Null = true
are_same (Array a) (Array b) = a == b
are_same (Text a) (Text b) = bytes_eq a b
are_same (Throwable a class) (Throwable b other) = a == b
are_same a b = false

-- whether a reference is null
abbrev pub is_null : {V : Type 0} → Value V → Bool
is_null Null = true
is_null other = false

-- LOCALS, where one that was never stored has no value

-- the locals with a value in one of them
abbrev pub with_local : {V : Type 0} → List (Option (Value V)) → ℕ → Value V → List (Option (Value V))
with_local [] zero v = Some v ∷ []
with_local [] (suc local) v = None ∷ with_local [] local v
with_local (held ∷ locals) zero v = Some v ∷ locals
with_local (held ∷ locals) (suc local) v = held ∷ with_local locals local v

-- STATIC FIELDS

-- a static field, by the number of its class, its name and its descriptor, with its value
pub record Static (V : Type 0) : Type 0 where
  pub class : ℕ
  pub name : List ℕ
  pub descriptor : List ℕ
  pub value : Value V

-- whether it is the field of this class, name and descriptor
abbrev pub is_field : {V : Type 0} → ℕ → (name descriptor : List ℕ) → Static V → Bool
is_field class name descriptor static = static.class == class && (bytes_eq static.name name && bytes_eq static.descriptor descriptor)

-- the value of a field, or what it is at first, where it was never stored
abbrev pub static_value : {V : Type 0} → List (Static V) → ℕ → (name descriptor : List ℕ) → Value V → Value V
static_value [] class name descriptor initial = initial
static_value (static ∷ statics) class name descriptor initial =
    cond (is_field class name descriptor static) static.value (static_value statics class name descriptor initial)

-- the fields with a value in one of them
abbrev pub with_static : {V : Type 0} → List (Static V) → ℕ → (name descriptor : List ℕ) → Value V → List (Static V)
with_static [] class name descriptor v = record { class = class; name = name; descriptor = descriptor; value = v } ∷ []
with_static (static ∷ statics) class name descriptor v =
    cond (is_field class name descriptor static) (record static { value = v } ∷ statics) (static ∷ with_static statics class name descriptor v)

-- MEMORY

-- what all frames share: static fields, the numbers of the classes that were started, the cells of each array, and how many
-- throwables were made
pub record Memory (V : Type 0) : Type 0 where
  pub statics : List (Static V)
  pub started : List ℕ
  pub arrays : List (List V)
  pub throwables : ℕ

-- whether a class was started
abbrev pub is_started : List ℕ → ℕ → Bool
is_started [] class = false
is_started (first ∷ started) class = first == class || is_started started class

-- how many cells arrays have in all
abbrev pub cells_of : {V : Type 0} → List (List V) → ℕ
cells_of [] = 0
cells_of (cells ∷ arrays) = length cells + cells_of arrays

-- how many arrays and throwables were made
abbrev pub made_in : {V : Type 0} → Memory V → ℕ
made_in memory = length memory.arrays + memory.throwables

-- ENDS

-- How a run ends by itself: it returned, with an int or with nothing; a throwable left the entry, or the initialiser of
-- this class; it came to a class or a member that is absent, or to a method or an initialiser that is foreign, of this name;
-- it executed too many instructions; too many frames would stand; the length of an array was no constant; too much was
-- made. `Stuck` is the end of a run that no rule covers; a verified program has none.
pub data End (V : Type 0) : Type 0 where
  Returned : V → End V
  ReturnedVoid : End V
  Threw : Thrown → End V
  InitFailed : ℕ → End V
  Missing : List ℕ → End V
  Runaway : End V
  Deep : End V
  SymLength : End V
  HeapFull : End V
  Stuck : End V
