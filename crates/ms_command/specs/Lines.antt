-- Lines that may hold a command, and their tokens.
use Rattle.std.specs.Prelude.{ℕ, List, length, Bool, not, ◌&&◌, ◌==◌, nat_le, filter}
use Rattle.std.specs.List.{list_all, slice_split}

-- a byte from 0x20 to 0x7E: a printable ASCII character or a space
abbrev pub is_plain_byte : ℕ → Bool
is_plain_byte byte = nat_le 0x20 byte && nat_le byte 0x7E

-- the most bytes of a line that can be a command
abbrev pub most_line_bytes : ℕ
most_line_bytes = 4096

-- whether a line can be a command: it isn't too long, and each of its bytes is plain
abbrev pub is_plain : List ℕ → Bool
is_plain line = nat_le (length line) most_line_bytes && list_all is_plain_byte line

-- whether a byte is a space
abbrev pub is_space : ℕ → Bool
is_space byte = byte == 32

-- whether a part of a line has a byte: then it is a token
abbrev pub is_filled : List ℕ → Bool
is_filled part = not (length part == 0)

-- the parts of a line between its spaces that aren't empty
abbrev pub tokens : List ℕ → List (List ℕ)
tokens line = filter is_filled (slice_split is_space line)
