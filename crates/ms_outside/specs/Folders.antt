-- What a file of the system that could not be opened or read answers.
use Rattle.std.specs.declared.io.ErrorKind.{ErrorKind}
use Rattle.std.specs.declared.io.ErrorKind.TheVariants as kinds
use Rattle.ms_outside.specs.declared.shelf.Fetch.{Fetch}
use Rattle.ms_outside.specs.declared.shelf.Fetch.TheVariants as fetched

-- an open failed with this kind: no such file, a path through something that is no folder, a name that no file can have,
-- no memory, or any other fault
abbrev pub open_answer : ErrorKind → Fetch
open_answer kinds.NotFound = fetched.Absent
open_answer kinds.NotADirectory = fetched.Absent
open_answer kinds.InvalidFilename = fetched.Absent
open_answer kinds.InvalidInput = fetched.Absent
open_answer kinds.OutOfMemory = fetched.NoMemory
open_answer _ = fetched.Failed

-- a read failed with this kind: no memory, or any other fault
abbrev pub read_answer : ErrorKind → Fetch
read_answer kinds.OutOfMemory = fetched.NoMemory
read_answer _ = fetched.Failed
