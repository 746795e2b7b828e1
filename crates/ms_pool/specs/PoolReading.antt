-- How a pool is read, part by part from left to right. That this agrees with how it is spelled, and with the first
-- fault, is proved; what is cited of it is the entry at a place, for an index of places.
use Rattle.std.specs.Prelude.{ℕ, zero, suc, ◌-◌, List, [], ◌∷◌, Option, Some, None, ◌==◌, if◌then◌else◌, Result, Ok, Err}
use Rattle.ms_pool.specs.declared.cursor.Short as cursor
use Rattle.ms_pool.specs.declared.pool.PoolFault.{PoolFault}
use Rattle.ms_pool.specs.declared.pool.PoolFault.TheVariants.{Short, Pool, Index}
use Rattle.ms_pool.specs.Places.{Place, number_at, run_at}
use Rattle.ms_pool.specs.Formats.{and_then, or_short}
use Rattle.ms_pool.specs.Pools.{Entry, Utf8, Word, Wide, One, Two, Handle, is_word_tag, is_wide_tag, Placed, is_one_tag, is_two_tag, numbered, tag_of, unlinked}

-- a read of a pool
abbrev pub Read : Type 0 → Type 0
Read X = Result (X × Place) PoolFault

infixl 10 ◌>>=◌
-- a read, and what is read after it
abbrev pub ◌>>=◌ : {A B : Type 0} → Result A PoolFault → (A → Result B PoolFault) → Result B PoolFault
read >>= next = and_then read next

-- a read that doesn't fit is a fault of the pool
abbrev pub of_short : {X : Type 0} → Result X cursor.Short → Result X PoolFault
of_short read = or_short Short read

-- a number of one byte
abbrev pub u1_at : Place → Read ℕ
u1_at place = of_short (number_at 1 place)

-- a number of two bytes
abbrev pub u2_at : Place → Read ℕ
u2_at place = of_short (number_at 2 place)

-- a number of four bytes
abbrev pub u4_at : Place → Read ℕ
u4_at place = of_short (number_at 4 place)

-- a run of n bytes
abbrev pub bytes_at : ℕ → Place → Read (List ℕ)
bytes_at n place = of_short (run_at n place)

-- behind the tag, a Utf8
unfoldable pub text_at : Place → Read Entry
text_at place = do
  size ← u2_at place
  text ← bytes_at size.0 size.1
  Ok (Utf8 text.0, text.1)

-- an Integer or Float
unfoldable pub word_at : ℕ → Place → Read Entry
word_at tag place = do
  number ← u4_at place
  Ok (Word tag number.0, number.1)

-- a Long or Double
unfoldable pub wide_at : ℕ → Place → Read Entry
wide_at tag place = do
  bytes ← bytes_at 8 place
  Ok (Wide tag bytes.0, bytes.1)

-- a Class, String or MethodType
unfoldable pub one_at : ℕ → Place → Read Entry
one_at tag place = do
  index ← u2_at place
  Ok (One tag index.0, index.1)

-- a Fieldref, Methodref, InterfaceMethodref, NameAndType or InvokeDynamic
unfoldable pub two_at : ℕ → Place → Read Entry
two_at tag place = do
  first ← u2_at place
  second ← u2_at first.1
  Ok (Two tag first.0 second.0, second.1)

-- a MethodHandle
unfoldable pub handle_at : Place → Read Entry
handle_at place = do
  kind ← u1_at place
  index ← u2_at kind.1
  Ok (Handle kind.0 index.0, index.1)

-- what stands behind a tag at a place, where the pool has so many numbers left
unfoldable pub behind_tag : (tag at left : ℕ) → Place → Read Entry
behind_tag tag at left place =
    if tag == 1 then text_at place
    else (if is_word_tag tag then word_at tag place
    else (if is_wide_tag tag then (if left == 1 then Err (Pool at) else wide_at tag place)
    else (if is_one_tag tag then one_at tag place
    else (if is_two_tag tag then two_at tag place
    else (if tag == 15 then handle_at place
    else Err (Pool at))))))

-- the entry at a place, where the pool has so many numbers left
unfoldable pub entry_at : ℕ → Place → Read Entry
entry_at left place = do
  tag ← u1_at place
  behind_tag tag.0 place.at left tag.1

-- the entries of a pool that has so many numbers left
unfoldable pub entries_at : ℕ → Place → Read (List Entry)
entries_at zero place = Ok ([], place)
entries_at (suc zero) place = do
  entry ← entry_at 1 place
  Ok (entry.0 ∷ [], entry.1)
entries_at (suc (suc left)) place = do
  entry ← entry_at (suc (suc left)) place
  rest ← if is_wide_tag (tag_of entry.0) then entries_at left entry.1 else entries_at (suc left) entry.1
  Ok (entry.0 ∷ rest.0, rest.1)

-- the entries, where each number that they name has the tag that is wanted
abbrev pub linked : List Entry × Place → Option Placed → Read (List Entry)
linked entries None = Ok entries
linked entries (Some placed) = Err (Index placed.at)

-- the pool at a place
unfoldable pub pool_at : Place → Read (List Entry)
pool_at place = do
  count ← u2_at place
  if count.0 == 0 then Err (Pool place.at) else do
    entries ← entries_at (count.0 - 1) count.1
    linked entries (unlinked (numbered place.at entries.0))
