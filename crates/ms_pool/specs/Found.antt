-- What the readers of a pool return, seen as the definitions have it. But for `member_view`, these are for private
-- functions.
use Rattle.std.specs.Prelude.{◌≡◌, ◌⊎◌, Result, Ok, Err, List, ◌∷◌, ℕ}
use Rattle.ms_pool.specs.declared.pool.PoolFault.{PoolFault}
use Rattle.ms_pool.specs.declared.pool.PoolFault.TheVariants.{NoMemory}
use Rattle.ms_pool.specs.declared.entry.RawEntry.{RawEntry}
use Rattle.ms_pool.specs.declared.entry.RawEntry.TheVariants as raw
use Rattle.ms_pool.specs.declared.index.Member.{Member}
use Rattle.ms_pool.specs.ByNumber.{Reference, places_of}
use Rattle.ms_pool.specs.Places.{Place}
use Rattle.ms_pool.specs.Pools.{Entry, Utf8, Word, Wide, One, Two, Handle, AreSpelled, numbered, placed, unlinked}
use Rattle.ms_pool.specs.PoolReading.{Read, linked, pool_at}

-- an entry, without where its bytes lie in memory
abbrev pub entry_view : RawEntry → Entry
entry_view (raw.Utf8 text) = Utf8 text.now
entry_view (raw.Word tag number) = Word tag number
entry_view (raw.Wide tag bytes) = Wide tag bytes.now
entry_view (raw.One tag index) = One tag index
entry_view (raw.Two tag first second) = Two tag first second
entry_view (raw.Handle kind index) = Handle kind index

-- a field or method, without where its names lie in memory
abbrev pub member_view : Member → Reference
member_view member = record { tag = member.tag; class = member.class.now; name = member.name.now; desc = member.desc.now }

-- What a reader returned, seen by `seen`, is what is read, and the place is the one behind it. Such a reader takes no
-- memory.
abbrev pub Finds : {X Y : Type 0} → (X → Y) → Result X PoolFault → Place → Read Y → Type 0
Finds seen (Ok x) place read = read ≡ Ok (seen x, place)
Finds seen (Err fault) place read = read ≡ Err fault

-- memory ran out, or what is read has this fault
abbrev pub Fails : {Y : Type 0} → PoolFault → Read Y → Type 0
Fails fault read = (fault ≡ NoMemory) ⊎ (read ≡ Err fault)

-- these are the places of the entries that are read from a place on, by their numbers, behind a 0 for the number 0
pub record ArePlaces (start : Place) (places : List ℕ) (after : Place) (read : Read (List Entry)) : Type 0 where
  pub entries : List Entry
  pub found : read ≡ Ok (entries, after)
  pub places_are : places ≡ 0 ∷ places_of (placed start.at entries)

-- what a reader of entries returned is their places, or memory ran out, or it is the fault that is read
abbrev pub Lists : {X : Type 0} → (X → List ℕ) → Place → Result X PoolFault → Place → Read (List Entry) → Type 0
Lists seen start (Ok places) after read = ArePlaces start (seen places) after read
Lists seen start (Err fault) after read = Fails fault read

-- these are the places, by their numbers, of the entries of a pool that is spelled from a place on, but for what they
-- name
pub record AreCounted (start : Place) (places : List ℕ) (after : Place) : Type 0 where
  pub entries : List Entry
  pub count : ℕ
  pub spelled : AreSpelled start count entries after.left
  pub read : pool_at start ≡ linked (entries, after) (unlinked (numbered start.at entries))
  pub places_are : places ≡ places_of (numbered start.at entries)
