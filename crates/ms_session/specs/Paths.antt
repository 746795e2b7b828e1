-- Which strings some input takes, and the paths of a program to a depth. The inputs are all inputs of the
-- entry, in their order, so the first one that takes a string is the least one.
use Rattle.std.specs.Prelude.{ℕ, zero, suc, ◌^◌, ◌-◌, List, [], ◌∷◌, ◌++◌, length, take, map, filter, ℤ, pos, Bool, false, Option, Some, None, is_some}
use Rattle.std.specs.Int.{w8, w16, w32, cast_signed}
use Rattle.std.specs.List.{filter_map, flat_map, list_any}
use Rattle.ms_words.specs.declared.end.PathEnd.{PathEnd}
use Rattle.ms_words.specs.declared.kind.Kind.{Kind}
use Rattle.ms_words.specs.declared.kind.Kind.TheVariants.{Z, B, C, S, I}
use Rattle.ms_words.specs.Inputs.{Words, bits_of}
use Rattle.ms_trie.specs.declared.row.Outcome.TheVariants.{Path}
use Rattle.ms_trie.specs.declared.row.PathRow.{PathRow}
use Rattle.ms_machine.specs.Control.{Program}
use Rattle.ms_machine.specs.Tests.{arms_of}
use Rattle.ms_machine.specs.Segments.{After, Choice, Over}
use Rattle.ms_machine.specs.Runs.{end_of, segment_after, string}
use Rattle.ms_jvm.specs.Ends.{path_end_of}
use Rattle.ms_session.specs.Strings.{below, same}

-- ALL INPUTS, in their order

-- the word of a kind whose bits are this number, unsigned
abbrev pub word_with : Kind → ℕ → ℤ
word_with Z n = pos n
word_with B n = cast_signed w8 n
word_with C n = pos n
word_with S n = cast_signed w16 n
word_with I n = cast_signed w32 n

-- the words of a kind
unfoldable pub words_of : Kind → List ℤ
words_of kind = map (word_with kind) (below (2 ^ bits_of kind))

-- the words of all inputs of these kinds
abbrev pub inputs_of : List Kind → List (List ℤ)
inputs_of [] = [] ∷ []
inputs_of (kind ∷ kinds) = flat_map (λ word. map (λ words. word ∷ words) (inputs_of kinds)) (words_of kind)

-- the input of the entry with these words
abbrev pub input_with : Program → List ℤ → Words
input_with P words = record { kinds = P.entry.kinds; words = words }

-- VERDICTS

-- the inputs that take a string, by their words
abbrev pub takers : Program → List ℕ → List (List ℤ)
takers P p = filter (λ words. same (string P (input_with P words) (length p)) p) (inputs_of P.entry.kinds)

-- the first of a list
abbrev pub first_of : {X : Type 0} → List X → Option X
first_of [] = None
first_of (x ∷ xs) = Some x

-- the least input that takes a string, if one does
abbrev pub least_of : Program → List ℕ → Option (List ℤ)
least_of P p = first_of (takers P p)

-- whether some input takes the string
abbrev pub is_sat : Program → List ℕ → Bool
is_sat P p = is_some (least_of P p)

-- the string without its last arm
abbrev pub parent : List ℕ → List ℕ
parent p = take (length p - 1) p

-- whether there is an input, and it takes the string
abbrev pub takes_it : Program → List ℕ → Option (List ℤ) → Bool
takes_it P p None = false
takes_it P p (Some words) = same (string P (input_with P words) (length p)) p

-- whether the least input of the string without its last arm takes that arm too
abbrev pub is_inherited : Program → List ℕ → Bool
is_inherited P p = takes_it P p (least_of P (parent p))

-- THE TREE OF STRINGS

-- how many arms the choice has that a segment comes to
abbrev pub arms_in : {V : Type 0} → After V → ℕ
arms_in (Choice test arms) = arms_of test
arms_in (Over end) = 0

-- the same for the run of an input, where there is one
abbrev pub arms_of_run : Program → List ℕ → Option (List ℤ) → ℕ
arms_of_run P p None = 0
arms_of_run P p (Some words) = arms_in (segment_after P (input_with P words) p).after

-- how many arms the choice has that comes after a string that some input takes
abbrev pub arms_after : Program → List ℕ → ℕ
arms_after P p = arms_of_run P p (least_of P p)

-- The strings of at most so many arms more that begin with p, each of whose proper prefixes from p on some
-- input takes, and whose arms exist: in choice order, each once.
unfoldable pub tree_from : Program → ℕ → List ℕ → List (List ℕ)
tree_from P zero p = p ∷ []
tree_from P (suc depth) p = p ∷ flat_map (λ arm. tree_from P depth (p ++ arm ∷ [])) (below (arms_after P p))

-- all strings of at most so many arms, each of whose proper prefixes some input takes, and whose arms exist
abbrev pub tree : Program → ℕ → List (List ℕ)
tree P depth = tree_from P depth []

-- PATHS

-- whether the string is that of the run of some input to this depth
abbrev pub is_path : Program → ℕ → List ℕ → Bool
is_path P depth p = list_any (λ words. same (string P (input_with P words) depth) p) (inputs_of P.entry.kinds)

-- the row of a string, an input and an end
abbrev pub row_with : Program → List ℕ → List ℤ → Option PathEnd → Option PathRow
row_with P p words None = None
row_with P p words (Some end) = Some (record { choices = p; outcome = Path (input_with P words) end })

-- the row of a string and its least input
abbrev pub row_of_least : Program → ℕ → List ℕ → Option (List ℤ) → Option PathRow
row_of_least P depth p None = None
row_of_least P depth p (Some words) = row_with P p words (path_end_of (end_of P (input_with P words) depth))

-- the row of a path: its string, its least input, and the end of the run of that input
abbrev pub row_of : Program → ℕ → List ℕ → Option PathRow
row_of P depth p = row_of_least P depth p (least_of P p)

-- The report to a depth: in choice order and each once, the strings that some input has as its run to that
-- depth, with least input and end. It does not depend on what was explored.
abbrev pub report : Program → ℕ → List PathRow
report P depth = filter_map (row_of P depth) (filter (is_path P depth) (tree P depth))
