-- How names are printed.
use Rattle.std.specs.Prelude.{ℕ, ◌+◌, ◌/◌, ◌%◌, List, [], ◌∷◌, Bool, not, ◌&&◌, ◌==◌, nat_le, nat_lt, if◌then◌else◌}
use Rattle.std.specs.List.{flat_map}

-- the hexadecimal digit of a number below 16, the letters small
abbrev pub hex_digit : ℕ → ℕ
hex_digit digit = if nat_lt digit 10 then 48 + digit else 87 + digit

-- whether a byte of a name is printed as it is: it is from 0x21 to 0x7E and no backslash
abbrev pub is_printed : ℕ → Bool
is_printed byte = nat_le 0x21 byte && nat_le byte 0x7E && not (byte == 92)

-- a byte of a printed name: as it is, or as \x and two small hexadecimal digits
abbrev pub printed_byte : ℕ → List ℕ
printed_byte byte = if is_printed byte then byte ∷ [] else 92 ∷ 120 ∷ hex_digit (byte / 16) ∷ hex_digit (byte % 16) ∷ []

-- a name as it is printed
abbrev pub printed_name : List ℕ → List ℕ
printed_name name = flat_map printed_byte name
