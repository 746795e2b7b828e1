-- Files by name, and what a shelf answers.
use Rattle.std.specs.Prelude.{◌≡◌, ℕ, ◌≤◌, List, Option, Some, None, nat_lt, if◌then◌else◌, length, find}
use Rattle.std.specs.Str.{bytes_eq}
use Rattle.std.specs.Option.{option_map}
use Rattle.ms_outside.specs.Counts.{ShelfCounts, CountsGrow, Rose}
use Rattle.ms_outside.specs.declared.shelf.Fetch.{Fetch}
use Rattle.ms_outside.specs.declared.shelf.Fetch.TheVariants as fetched

-- a file of a shelf
pub record File : Type 0 where
  pub name : List ℕ
  pub bytes : List ℕ

-- the bytes of the first file of this name
abbrev pub contents_of : List File → List ℕ → Option (List ℕ)
contents_of files name = option_map (λ file. file.bytes) (find (λ file. bytes_eq file.name name) files)

-- what a shelf answers to a name
pub data Answer : Type 0 where
  -- no file has it
  Absent : Answer
  -- the file has more bytes than a shelf hands out
  TooLong : Answer
  -- the file's bytes
  Found : List ℕ → Answer

-- the most bytes that a shelf hands out of one file
abbrev pub most_bytes : ℕ
most_bytes = 1048576

-- the answer for what a file holds, where there is one
abbrev pub answer_of_contents : Option (List ℕ) → Answer
answer_of_contents None = Absent
answer_of_contents (Some bytes) = if nat_lt most_bytes (length bytes) then TooLong else Found bytes

-- the answer of these files to a name
abbrev pub answer_of : List File → List ℕ → Answer
answer_of files name = answer_of_contents (contents_of files name)

-- the answer that a fetch brought, if it brought one
abbrev pub answered : Fetch → Option Answer
answered (fetched.Bytes bytes) = Some (Found bytes.items)
answered fetched.Absent = Some Absent
answered fetched.TooLong = Some TooLong
answered fetched.Failed = None
answered fetched.NoMemory = None

-- a name that a shelf was asked for, with the answer that it gave, if it gave one
abbrev pub Asking : Type 0
Asking = List ℕ × Option Answer

-- an answer has at most as many bytes as a shelf hands out
abbrev pub IsWithinLimit : Answer → Type 0
IsWithinLimit Absent = Unit {0}
IsWithinLimit TooLong = Unit {0}
IsWithinLimit (Found bytes) = length bytes ≤ most_bytes

-- the count that tells why this answer came has risen, and the count of faults rose for a fault alone
abbrev pub HasRisenFor : Fetch → ShelfCounts → ShelfCounts → Type 0
HasRisenFor (fetched.Bytes bytes) before now = now.faults ≡ before.faults
HasRisenFor fetched.Absent before now = Rose before.misses now.misses × (now.faults ≡ before.faults)
HasRisenFor fetched.TooLong before now = Rose before.overlong now.overlong × (now.faults ≡ before.faults)
HasRisenFor fetched.Failed before now = Rose before.faults now.faults
HasRisenFor fetched.NoMemory before now = now.faults ≡ before.faults

-- what a fetch says of the shelf's counts
pub record FetchHasCauses (before now : ShelfCounts) (result : Fetch) : Type 0 where
  pub grow : CountsGrow before now
  pub cause : HasRisenFor result before now
