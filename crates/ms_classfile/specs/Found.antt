-- What the readers of a thin file return, seen as the parts of a file, and that it is what the
-- definitions of `Reading` give. But for `view`, these definitions are for private functions.
use Rattle.std.specs.Prelude.{◌≡◌, Option, Some, None, Result, Ok, Err}
use Rattle.ms_pool.specs.Places.{Place}
use Rattle.ms_classfile.specs.declared.thin.failure.Failure.{Failure}
use Rattle.ms_classfile.specs.declared.thin.failure.Failure.TheVariants as failures
use Rattle.ms_classfile.specs.declared.thin.failure.Refused.{Refused}
use Rattle.ms_classfile.specs.declared.thin.parts.PoolEntry.{PoolEntry}
use Rattle.ms_classfile.specs.declared.thin.parts.PoolEntry.TheVariants as entries
use Rattle.ms_classfile.specs.declared.thin.parts.RawAttribute.{RawAttribute}
use Rattle.ms_classfile.specs.declared.thin.parts.ThinMethod.{ThinMethod}
use Rattle.ms_classfile.specs.ThinFile.{Entry, Utf8, Class, Attribute, Method}

-- an entry of the pool, without where its bytes lie in memory
abbrev pub entry_view : PoolEntry → Entry
entry_view (entries.Utf8 text) = Utf8 text.now
entry_view (entries.Class name) = Class name

-- the same for an attribute
abbrev pub attribute_view : RawAttribute → Attribute
attribute_view attribute = record { name = attribute.name; content = attribute.content.now }

-- the same for a method
abbrev pub view : ThinMethod → Method
view method = record { class = method.class.now; name = method.name.now; descriptor = method.descriptor.now; kinds = method.kinds; result = method.result; max_stack = method.max_stack; instructions = method.instructions.items }

-- nothing is read, unless memory ran out
abbrev pub Fails : {Y : Type 0} → Failure → Option Y → Type 0
Fails failures.NotThin read = read ≡ None
Fails failures.NoMemory read = Unit {0}

-- What a function returned, seen by `seen`, is what is read, unless memory ran out.
abbrev pub Gives : {X Y : Type 0} → (X → Y) → Result X Failure → Option Y → Type 0
Gives seen (Ok x) read = read ≡ Some (seen x)
Gives seen (Err failure) read = Fails failure read

-- It is what is read, and the place is the one behind it, unless memory ran out.
abbrev pub Leads : {X Y : Type 0} → (X → Y) → Result X Failure → Place → Option (Y × Place) → Type 0
Leads seen (Ok x) place read = read ≡ Some (seen x, place)
Leads seen (Err failure) place read = Fails failure read

-- It is what is read, and the place is the one behind it. Such a read takes no memory.
abbrev pub Finds : {X Y : Type 0} → (X → Y) → Result X Refused → Place → Option (Y × Place) → Type 0
Finds seen (Ok x) place read = read ≡ Some (seen x, place)
Finds seen (Err refused) place read = read ≡ None

-- The place is the one behind what is read. Such a read takes no memory.
abbrev pub LeadsBehind : Result Unit Refused → Place → Option Place → Type 0
LeadsBehind (Ok x) place read = read ≡ Some place
LeadsBehind (Err refused) place read = read ≡ None
