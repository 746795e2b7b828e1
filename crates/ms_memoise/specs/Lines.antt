-- Lines of a stream of bytes. All of them are std's `lines`: the parts ended by a line feed, less a
-- carriage return before it, and then what follows the last line feed, where it isn't empty.
use Rattle.std.specs.Prelude.{ℕ, ◌-◌, List, length, take, map, Bool, ◌==◌}
use Rattle.std.specs.List.{slice_split}
use Rattle.std.specs.Str.Lines.{strip_carriage_return}

-- whether a byte is a line feed
abbrev pub is_line_feed : ℕ → Bool
is_line_feed byte = byte == 10

-- the parts between line feeds: one more than there are line feeds
abbrev pub parts : List ℕ → List (List ℕ)
parts bytes = slice_split is_line_feed bytes

-- the lines ended by a line feed
abbrev pub whole_lines : List ℕ → List (List ℕ)
whole_lines bytes = map strip_carriage_return (take (length (parts bytes) - 1) (parts bytes))
