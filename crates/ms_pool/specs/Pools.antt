-- The constant pool of a class file (JVMS SE 8, section 4.4): its entries, how they are spelled, and what
-- their numbers name. The bytes of texts are not checked.
use Rattle.std.specs.Prelude.{◌≡◌, ◌⊎◌, ℕ, ◌+◌, ◌-◌, ◌^◌, ◌<◌, ◌≤◌, List, [], ◌∷◌, ◌++◌, length, Bool, false, not, IsTrue, ◌||◌, ◌==◌, nat_lt, if◌then◌else◌, Option, Some, None, option_and_then, slice_get}
use Rattle.std.specs.List.{AllByRecursion, flat_map, list_all}
use Rattle.byteorder.specs.Endian.{big_number}
use Rattle.ms_pool.specs.declared.pool.PoolFault.{PoolFault}
use Rattle.ms_pool.specs.declared.pool.PoolFault.TheVariants.{Short, Pool, Index}
use Rattle.ms_pool.specs.Places.{Place, behind, number_bytes}

-- ENTRIES

-- an entry: its tag, where its form has several, and what it holds
pub data Entry : Type 0 where
  -- Utf8: a text
  Utf8 : List ℕ → Entry
  -- Integer or Float: a number of four bytes
  Word : (tag number : ℕ) → Entry
  -- Long or Double: eight bytes
  Wide : (tag : ℕ) → (bytes : List ℕ) → Entry
  -- Class, String or MethodType: the number of another entry
  One : (tag index : ℕ) → Entry
  -- Fieldref, Methodref, InterfaceMethodref, NameAndType or InvokeDynamic: two numbers of entries, or a number of
  -- a bootstrap method and that of an entry
  Two : (tag first second : ℕ) → Entry
  -- MethodHandle: a kind, and the number of an entry
  Handle : (kind index : ℕ) → Entry

-- THE TAGS (table 4.4-A)

-- Integer and Float
abbrev pub is_word_tag : ℕ → Bool
is_word_tag tag = tag == 3 || tag == 4

-- Long and Double
abbrev pub is_wide_tag : ℕ → Bool
is_wide_tag tag = tag == 5 || tag == 6

-- Class, String and MethodType
abbrev pub is_one_tag : ℕ → Bool
is_one_tag tag = tag == 7 || (tag == 8 || tag == 16)

-- Fieldref, Methodref, InterfaceMethodref, NameAndType and InvokeDynamic
abbrev pub is_two_tag : ℕ → Bool
is_two_tag tag = tag == 9 || (tag == 10 || (tag == 11 || (tag == 12 || tag == 18)))

-- the tag of an entry
abbrev pub tag_of : Entry → ℕ
tag_of (Utf8 text) = 1
tag_of (Word tag number) = tag
tag_of (Wide tag bytes) = tag
tag_of (One tag index) = tag
tag_of (Two tag first second) = tag
tag_of (Handle kind index) = 15

-- the entry has one of the tags of its form, and its numbers fit in their bytes
abbrev pub IsEntry : Entry → Type 0
IsEntry (Utf8 text) = length text < 2 ^ 16
IsEntry (Word tag number) = IsTrue (is_word_tag tag) × (number < 2 ^ 32)
IsEntry (Wide tag bytes) = IsTrue (is_wide_tag tag) × (length bytes ≡ 8)
IsEntry (One tag index) = IsTrue (is_one_tag tag) × (index < 2 ^ 16)
IsEntry (Two tag first second) = IsTrue (is_two_tag tag) × (first < 2 ^ 16) × (second < 2 ^ 16)
IsEntry (Handle kind index) = (kind < 2 ^ 8) × (index < 2 ^ 16)

-- HOW THEY ARE SPELLED

-- a number of one byte
abbrev pub u1 : ℕ → List ℕ
u1 n = number_bytes 1 n

-- a number of two bytes
abbrev pub u2 : ℕ → List ℕ
u2 n = number_bytes 2 n

-- a number of four bytes
abbrev pub u4 : ℕ → List ℕ
u4 n = number_bytes 4 n

-- an entry: its tag, and what it holds
abbrev pub spelled_entry : Entry → List ℕ
spelled_entry (Utf8 text) = u1 1 ++ u2 (length text) ++ text
spelled_entry (Word tag number) = u1 tag ++ u4 number
spelled_entry (Wide tag bytes) = u1 tag ++ bytes
spelled_entry (One tag index) = u1 tag ++ u2 index
spelled_entry (Two tag first second) = u1 tag ++ u2 first ++ u2 second
spelled_entry (Handle kind index) = u1 15 ++ u1 kind ++ u2 index

-- how many numbers an entry takes: a Long and a Double take two (section 4.4.5)
abbrev pub width_of : Entry → ℕ
width_of entry = if is_wide_tag (tag_of entry) then 2 else 1

-- how many numbers entries take
abbrev pub width : List Entry → ℕ
width [] = 0
width (entry ∷ entries) = width_of entry + width entries

-- constant_pool_count, which is one more than the numbers of the entries (section 4.1), and the entries
abbrev pub spelled_pool : List Entry → List ℕ
spelled_pool entries = u2 (width entries + 1) ++ flat_map spelled_entry entries

-- WHAT THE NUMBERS NAME

-- an entry with the place of its tag in the file
pub record Placed : Type 0 where
  pub at : ℕ
  pub entry : Entry

-- what an entry, its tag at this place, has under its numbers: None under the second number of a Long or Double
abbrev pub slots_of : ℕ → Entry → List (Option Placed)
slots_of at entry =
    if is_wide_tag (tag_of entry) then Some (record { at = at; entry = entry }) ∷ None ∷ []
    else Some (record { at = at; entry = entry }) ∷ []

-- the entries by their numbers, from some number on, the first of them with its tag at this place
abbrev pub placed : ℕ → List Entry → List (Option Placed)
placed at [] = []
placed at (entry ∷ entries) = slots_of at entry ++ placed (at + length (spelled_entry entry)) entries

-- The entries by their numbers, which begin at 1, of a pool whose count has this place: None stands for the
-- number 0 too. So there are as many as the count says.
abbrev pub numbered : ℕ → List Entry → List (Option Placed)
numbered at entries = None ∷ placed (at + 2) entries

-- the entry of this number
abbrev pub placed_at : List (Option Placed) → ℕ → Option Placed
placed_at slots i = option_and_then (λ slot. slot) (slice_get slots i)

-- whether there is an entry, and it has this tag
abbrev pub has_tag_of : ℕ → Option Placed → Bool
has_tag_of tag None = false
has_tag_of tag (Some placed) = tag_of placed.entry == tag

-- whether the entry of this number has this tag
abbrev pub has_tag : List (Option Placed) → ℕ → ℕ → Bool
has_tag slots i tag = has_tag_of tag (placed_at slots i)

-- the numbers that an entry names, each with the tag that is wanted there (sections 4.4.1 to 4.4.3 and 4.4.6); those
-- of a MethodHandle, a MethodType and an InvokeDynamic are not looked at
abbrev pub wanted : Entry → List (ℕ × ℕ)
wanted (Utf8 text) = []
wanted (Word tag number) = []
wanted (Wide tag bytes) = []
wanted (One tag index) = if tag == 16 then [] else (index, 1) ∷ []
wanted (Two tag first second) =
    if tag == 12 then (first, 1) ∷ (second, 1) ∷ []
    else (if tag == 18 then [] else (first, 7) ∷ (second, 12) ∷ [])
wanted (Handle kind index) = []

-- whether each number that the entry names has the tag that is wanted
abbrev pub is_linked : List (Option Placed) → Entry → Bool
is_linked slots entry = list_all (λ reference. has_tag slots reference.0 reference.1) (wanted entry)

-- whether there is an entry that names a number without the wanted tag
abbrev pub is_unlinked : List (Option Placed) → Option Placed → Bool
is_unlinked slots None = false
is_unlinked slots (Some placed) = not (is_linked slots placed.entry)

-- the first entry, in order of number, that names a number without the wanted tag
abbrev pub first_unlinked : List (Option Placed) → List (Option Placed) → Option Placed
first_unlinked all [] = None
first_unlinked all (slot ∷ slots) = if is_unlinked all slot then slot else first_unlinked all slots

-- the first of all
abbrev pub unlinked : List (Option Placed) → Option Placed
unlinked slots = first_unlinked slots slots

-- THE POOL THAT BYTES ARE

-- from a place on stand this count, the entries, one after another, and these bytes
pub record AreSpelled (place : Place) (count : ℕ) (entries : List Entry) (rest : List ℕ) : Type 0 where
  pub fit : AllByRecursion IsEntry entries
  pub bytes : place.left ≡ u2 count ++ flat_map spelled_entry entries ++ rest

-- the bytes from a place on begin with the pool of these entries, and the other place is the one behind it
pub record IsPool (place : Place) (entries : List Entry) (after : Place) : Type 0 where
  pub count : width entries + 1 < 2 ^ 16
  pub spelled : AreSpelled place (width entries + 1) entries after.left
  pub moved : after.at ≡ place.at + length (spelled_pool entries)
  pub linked : unlinked (numbered place.at entries) ≡ None

-- the bytes from a place on begin with a pool that has these entries by their numbers
pub record IsPoolOf (place : Place) (slots : List (Option Placed)) (after : Place) : Type 0 where
  pub entries : List Entry
  pub is : IsPool place entries after
  pub slots_are : slots ≡ numbered place.at entries

-- THE FIRST FAULT

-- of several parts of so many bytes, one behind the other, the first that doesn't fit in what is left: the place where
-- it would begin
abbrev pub short_in : List ℕ → Place → Option PoolFault
short_in [] place = None
short_in (n ∷ parts) place = if nat_lt (length place.left) n then Some (Short place.at) else short_in parts (behind place n)

-- the fault of a text, behind its tag
abbrev pub fault_of_text : Place → Option PoolFault
fault_of_text place = short_in (2 ∷ big_number 2 place.left ∷ []) place

-- The fault of what stands behind a tag that has the place `at`, where the pool has so many numbers left.
abbrev pub fault_behind : (tag at numbers_left : ℕ) → Place → Option PoolFault
fault_behind tag at numbers_left place =
    if tag == 1 then fault_of_text place
    else (if is_word_tag tag then short_in (4 ∷ []) place
    else (if is_wide_tag tag then (if numbers_left == 1 then Some (Pool at) else short_in (8 ∷ []) place)
    else (if is_one_tag tag then short_in (2 ∷ []) place
    else (if is_two_tag tag then short_in (2 ∷ 2 ∷ []) place
    else (if tag == 15 then short_in (1 ∷ 2 ∷ []) place
    else Some (Pool at))))))

-- the fault of the entry at a place, where the pool has so many numbers left
abbrev pub fault_of_entry : ℕ → Place → Option PoolFault
fault_of_entry numbers_left place =
    if nat_lt (length place.left) 1 then Some (Short place.at)
    else fault_behind (big_number 1 place.left) place.at numbers_left (behind place 1)

-- an entry has a fault behind whole ones that don't take all numbers
pub record EntryHasFault (place : Place) (fault : PoolFault) : Type 0 where
  pub count : ℕ
  pub before : List Entry
  pub rest : List ℕ
  pub fits : count < 2 ^ 16
  pub spelled : AreSpelled place count before rest
  pub more : width before + 1 < count
  pub fault_is : fault_of_entry (count - 1 - width before) (record { at = place.at + 2 + length (flat_map spelled_entry before); left = rest }) ≡ Some fault

-- all entries are whole, and the fault is at the tag of the first that names a number without the wanted tag
pub record LinkHasFault (place : Place) (fault : PoolFault) : Type 0 where
  pub entries : List Entry
  pub rest : List ℕ
  pub count : width entries + 1 < 2 ^ 16
  pub spelled : AreSpelled place (width entries + 1) entries rest
  pub placed : Placed
  pub first : unlinked (numbered place.at entries) ≡ Some placed
  pub fault_is : fault ≡ Index placed.at

-- the first fault of bytes that begin with no pool
abbrev pub IsFirstFault : Place → PoolFault → Type 0
IsFirstFault place fault =
    ((length place.left < 2) × (fault ≡ Short place.at))
    ⊎ ((2 ≤ length place.left) × (big_number 2 place.left ≡ 0) × (fault ≡ Pool place.at))
    ⊎ EntryHasFault place fault
    ⊎ LinkHasFault place fault

-- the bytes begin with a pool
pub record HasPool (place : Place) : Type 0 where
  pub entries : List Entry
  pub after : Place
  pub is : IsPool place entries after

-- they have a first fault
pub record HasFirstFault (place : Place) : Type 0 where
  pub fault : PoolFault
  pub is : IsFirstFault place fault
