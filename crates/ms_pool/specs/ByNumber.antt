-- What stands in a pool under a number, and what is said of it: texts, names of classes, ints, and the fields and
-- methods that are referred to (JVMS SE 8, sections 4.4.1 to 4.4.7). Each is None exactly where the number isn't
-- that of an entry of the tag, in a pool whose entries name what they should.
use Rattle.std.specs.Prelude.{ℕ, List, Bool, ◌||◌, ◌==◌, if◌then◌else◌, Option, Some, None, ℤ, map, option_map, option_and_then, Ok, Err}
use Rattle.std.specs.Int.{cast_signed, w32}
use Rattle.ms_pool.specs.Places.{place_in}
use Rattle.ms_pool.specs.Pools.{Entry, Utf8, Word, One, Two, Placed, has_tag, placed_at, tag_of}
use Rattle.ms_pool.specs.PoolReading.{Read, entry_at}

-- the entry of this number
abbrev pub entry_of : List (Option Placed) → ℕ → Option Entry
entry_of slots i = option_map (λ placed. placed.entry) (placed_at slots i)

-- the tag of the entry of this number
abbrev pub tag_numbered : List (Option Placed) → ℕ → Option ℕ
tag_numbered slots i = option_map tag_of (entry_of slots i)

-- TEXTS

-- the text that an entry holds, where it is a Utf8
abbrev pub text_held : Entry → Option (List ℕ)
text_held (Utf8 text) = Some text
text_held entry = None

-- the bytes of the Utf8 of this number
abbrev pub utf8 : List (Option Placed) → ℕ → Option (List ℕ)
utf8 slots i = option_and_then text_held (entry_of slots i)

-- the text that a Class or a String names, where it has this tag, which is 7 or 8
abbrev pub text_named : ℕ → List (Option Placed) → Entry → Option (List ℕ)
text_named wanted slots (One tag index) = if tag == wanted then utf8 slots index else None
text_named wanted slots entry = None

-- the name of the Class of this number
abbrev pub class_name : List (Option Placed) → ℕ → Option (List ℕ)
class_name slots i = option_and_then (text_named 7 slots) (entry_of slots i)

-- the text of the String of this number
abbrev pub string_text : List (Option Placed) → ℕ → Option (List ℕ)
string_text slots i = option_and_then (text_named 8 slots) (entry_of slots i)

-- INTS

-- the int that an entry holds, where it is an Integer
abbrev pub int_held : Entry → Option ℤ
int_held (Word tag number) = if tag == 3 then Some (cast_signed w32 number) else None
int_held entry = None

-- the int of the Integer of this number
abbrev pub integer : List (Option Placed) → ℕ → Option ℤ
integer slots i = option_and_then int_held (entry_of slots i)

-- FIELDS AND METHODS

-- the numbers of a NameAndType
abbrev pub name_and_type : Entry → Option (ℕ × ℕ)
name_and_type (Two tag first second) = if tag == 12 then Some (first, second) else None
name_and_type entry = None

-- a Fieldref, Methodref or InterfaceMethodref
abbrev pub is_member_tag : ℕ → Bool
is_member_tag tag = tag == 9 || (tag == 10 || tag == 11)

-- its tag, and the numbers of its Class and its NameAndType
abbrev pub member_held : Entry → Option (ℕ × ℕ × ℕ)
member_held (Two tag first second) = if is_member_tag tag then Some (tag, first, second) else None
member_held entry = None

-- the field or method that an entry refers to: the tag, and the name of its class, its name and its descriptor
pub record Reference : Type 0 where
  pub tag : ℕ
  pub class : List ℕ
  pub name : List ℕ
  pub desc : List ℕ

infixl 10 ◌>>=◌
-- what is found, and what is found with it
abbrev ◌>>=◌ : {A B : Type 0} → Option A → (A → Option B) → Option B
found >>= next = option_and_then next found

-- the field or method of these: a tag, and the numbers of a Class and a NameAndType
abbrev pub referred : List (Option Placed) → ℕ × ℕ × ℕ → Option Reference
referred slots held = do
  class ← class_name slots held.1
  second ← entry_of slots held.2
  numbers ← name_and_type second
  name ← utf8 slots numbers.0
  desc ← utf8 slots numbers.1
  Some (record { tag = held.0; class = class; name = name; desc = desc })

-- the field or method of the entry of this number
abbrev pub member : List (Option Placed) → ℕ → Option Reference
member slots i = do
  entry ← entry_of slots i
  held ← member_held entry
  referred slots held

-- whether the entry of this number refers to a field or method
abbrev pub is_member : List (Option Placed) → ℕ → Bool
is_member slots i = has_tag slots i 9 || (has_tag slots i 10 || has_tag slots i 11)

-- THE PLACES OF ENTRIES

-- the place of a tag, and 0 where there is no entry
abbrev pub place_of : Option Placed → ℕ
place_of None = 0
place_of (Some placed) = placed.at

-- the place of each number's tag, and 0 where no entry has the number
abbrev pub places_of : List (Option Placed) → List ℕ
places_of slots = map place_of slots

-- an entry that is read, with this place
abbrev pub found_at : ℕ → Read Entry → Option Placed
found_at at (Ok x) = Some (record { at = at; entry = x.0 })
found_at at (Err fault) = None

-- The entry that stands whole in these bytes with its tag at this place. Place 0 is none: the tags of a pool stand
-- behind its count.
abbrev pub entry_in : List ℕ → ℕ → Option Placed
entry_in bytes at = if at == 0 then None else found_at at (entry_at 2 (place_in bytes at))

-- The entries that stand in these bytes at these places. For the places of a pool, and the bytes that it was read
-- from, they are the pool's: that is a law.
abbrev pub entries_in : List ℕ → List ℕ → List (Option Placed)
entries_in bytes places = map (entry_in bytes) places
