-- Places in a list of bytes, and what is read there.
use Rattle.std.specs.Prelude.{◌≡◌, ℕ, ◌+◌, List, length, take, drop, nat_lt, if◌then◌else◌, Result, Ok, Err}
use Rattle.byteorder.specs.Endian.{big_number, big_bytes}
use Rattle.ms_pool.specs.declared.cursor.Short.{Short}

-- a place: how many bytes come before it, and the bytes from there on
pub record Place : Type 0 where
  pub at : ℕ
  pub left : List ℕ

-- the place in these bytes that so many of them come before; behind their end nothing is left
abbrev pub place_in : List ℕ → ℕ → Place
place_in bytes at = record { at = at; left = drop at bytes }

-- the place at the beginning of these bytes
abbrev pub beginning : List ℕ → Place
beginning bytes = record { at = 0; left = bytes }

-- the place n bytes further on
abbrev pub behind : Place → ℕ → Place
behind place n = record { at = place.at + n; left = drop n place.left }

-- the lowest n bytes of a number, the highest of them first
abbrev pub number_bytes : ℕ → ℕ → List ℕ
number_bytes n number = big_bytes n number

-- the first n bytes from a place, and the place behind them; or the place, where fewer bytes are left
abbrev pub run_at : ℕ → Place → Result (List ℕ × Place) Short
run_at n place = if nat_lt (length place.left) n then Err (record { at = place.at }) else Ok (take n place.left, behind place n)

-- the number in the first n bytes from a place, the highest byte first, and the place behind it
abbrev pub number_at : ℕ → Place → Result (ℕ × Place) Short
number_at n place = if nat_lt (length place.left) n then Err (record { at = place.at }) else Ok (big_number n place.left, behind place n)

-- the place, with n bytes from it on alone
abbrev pub first_of : Place → ℕ → Place
first_of place n = record { at = place.at; left = take n place.left }

-- the first n bytes from a place as a place of their own, and the place behind them
abbrev pub part_at : ℕ → Place → Result (Place × Place) Short
part_at n place = if nat_lt (length place.left) n then Err (record { at = place.at }) else Ok (first_of place n, behind place n)

-- What a read gave, seen by view, is what the definition gives at the old place, and it led to the place behind
-- it. One that doesn't fit stays where it was.
abbrev pub Reads : {X Y : Type 0} → (X → Y) → (Place → Result (Y × Place) Short) → Place → Result X Short → Place → Type 0
Reads view reading old (Ok x) new = reading old ≡ Ok (view x, new)
Reads view reading old (Err short) new = (reading old ≡ Err short) × (new ≡ old)
