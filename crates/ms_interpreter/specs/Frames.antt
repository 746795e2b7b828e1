-- What the interpreter keeps of a run: frames, and what they share (JVMS SE 8, sections 2.5 and 2.6). Its ints are of any type.
use Rattle.std.specs.Prelude.{◌≡◌, ℕ, suc, ◌+◌, Bool, true, false, ◌&&◌, nat_le, nat_lt, List, length, map, Option, Some, None}
use Rattle.std.specs.Global.{Vec}
use Rattle.ms_words.specs.declared.item.Item.{Item}
use Rattle.ms_machine.specs.Effects.{greatest_length, most_cells, most_made}
use Rattle.ms_machine.specs.Values.{cells_of}
use Rattle.ms_interpreter.specs.declared.slot.Slot.{Slot}

-- a frame: where it is, its locals, its operand stack with the top first, and the class whose initialiser it runs, if it
-- was pushed for one
pub record Frame (I : Type 0) : Type 0 where
  pub at : Item
  pub locals : List (Option (Slot I))
  pub stack : List (Slot I)
  pub initialises : Option ℕ

-- a static field that was stored, by the number of its class, its name and its descriptor, with what it holds
pub record Field (I : Type 0) : Type 0 where
  pub class : ℕ
  pub name : List ℕ
  pub descriptor : List ℕ
  pub slot : Slot I

-- what all frames share: the static fields that were stored, the numbers of the classes that were started, the cells of each
-- array, and how many throwables were made
pub record Shared (I : Type 0) : Type 0 where
  pub statics : List (Field I)
  pub started : List ℕ
  pub arrays : List (List I)
  pub throwables : ℕ

-- how many arrays and throwables were made
abbrev pub made_in : {I : Type 0} → Shared I → ℕ
made_in shared = length shared.arrays + shared.throwables

-- the lists of vectors
abbrev pub lists_in : {I : Type 0} → List (Vec I) → List (List I)
lists_in vectors = map (λ vector. vector.items) vectors

-- whether an array of this length may be made
abbrev pub has_room : {I : Type 0} → Shared I → ℕ → Bool
has_room shared size = nat_le size greatest_length && (nat_le (cells_of shared.arrays + size) most_cells && nat_lt (made_in shared) most_made)

-- a throwable was made, with its number; or none, where as much was made as may be
abbrev pub MadeThrowable : {I : Type 0} → Shared I → Option ℕ → Shared I → Type 0
MadeThrowable shared None shared' = (nat_lt (made_in shared) most_made ≡ false) × (shared' ≡ shared)
MadeThrowable shared (Some number) shared' = (nat_lt (made_in shared) most_made ≡ true) × (number ≡ shared.throwables) × (shared' ≡ record shared { throwables = suc shared.throwables })
