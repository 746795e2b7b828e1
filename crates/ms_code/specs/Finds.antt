-- For private functions: that what a reader of a part returned is what the format reads.
use Rattle.std.specs.Prelude.{◌≡◌, Result, Ok, Err}
use Rattle.ms_pool.specs.Places.{Place}
use Rattle.ms_code.specs.declared.trouble.Trouble.{Trouble}
use Rattle.ms_code.specs.declared.trouble.Trouble.TheVariants.{Foreign, At, NoMemory}

-- What a reader returned, seen by `seen`, is what is read, and the place is the one behind it. Such a reader takes no
-- memory.
abbrev pub Finds : {X Y : Type 0} → (X → Y) → Result X Trouble → Place → Result (Y × Place) Trouble → Type 0
Finds seen (Ok x) place read = read ≡ Ok (seen x, place)
Finds seen (Err trouble) place read = read ≡ Err trouble

-- nothing is read, with this trouble, unless memory ran out
abbrev pub Fails : {Y : Type 0} → Trouble → Result Y Trouble → Type 0
Fails Foreign read = read ≡ Err Foreign
Fails (At kind at) read = read ≡ Err (At kind at)
Fails NoMemory read = Unit {0}

-- It is what is read, and the place is the one behind it, unless memory ran out.
abbrev pub Leads : {X Y : Type 0} → (X → Y) → Result X Trouble → Place → Result (Y × Place) Trouble → Type 0
Leads seen (Ok x) place read = read ≡ Ok (seen x, place)
Leads seen (Err trouble) place read = Fails trouble read

-- It is what is read, wherever, unless memory ran out.
abbrev pub Gives : {X Y : Type 0} → (X → Y) → Result X Trouble → Result (Y × Place) Trouble → Type 0
Gives seen (Ok x) read = (after : Place) × (read ≡ Ok (seen x, after))
Gives seen (Err trouble) read = Fails trouble read
