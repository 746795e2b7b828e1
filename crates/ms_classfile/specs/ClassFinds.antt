-- For private functions: that what a reader of a part returned is what the format reads.
use Rattle.std.specs.Prelude.{◌≡◌, ℕ, Result, Ok, Err}
use Rattle.ms_pool.specs.Places.{Place}
use Rattle.ms_classfile.specs.declared.fault.ClassFault.{ClassFault}
use Rattle.ms_classfile.specs.declared.fault.ClassFault.TheVariants.{At, NoMemory}
use Rattle.ms_classfile.specs.declared.reading.numbers.Inside.{Inside}
use Rattle.ms_classfile.specs.declared.reading.numbers.Inside.TheVariants.{File, Code}
use Rattle.ms_classfile.specs.ClassFile.{shape, short}

-- the fault of a part that doesn't fit
abbrev pub short_of : Inside → ℕ → ClassFault
short_of File = short
short_of (Code attribute_at) = shape attribute_at

-- What a reader returned, seen by `seen`, is what is read, and the place is the one behind it. Such a reader takes no
-- memory.
abbrev pub Finds : {X Y : Type 0} → (X → Y) → Result X ClassFault → Place → Result (Y × Place) ClassFault → Type 0
Finds seen (Ok x) place read = read ≡ Ok (seen x, place)
Finds seen (Err fault) place read = read ≡ Err fault

-- nothing is read, with this fault, unless memory ran out
abbrev pub Fails : {Y : Type 0} → ClassFault → Result Y ClassFault → Type 0
Fails (At kind at) read = read ≡ Err (At kind at)
Fails NoMemory read = Unit {0}

-- It is what is read, and the place is the one behind it, unless memory ran out.
abbrev pub Leads : {X Y : Type 0} → (X → Y) → Result X ClassFault → Place → Result (Y × Place) ClassFault → Type 0
Leads seen (Ok x) place read = read ≡ Ok (seen x, place)
Leads seen (Err fault) place read = Fails fault read

-- It is what is read, wherever, unless memory ran out.
abbrev pub Gives : {X Y : Type 0} → (X → Y) → Result X ClassFault → Result (Y × Place) ClassFault → Type 0
Gives seen (Ok x) read = (after : Place) × (read ≡ Ok (seen x, after))
Gives seen (Err fault) read = Fails fault read
