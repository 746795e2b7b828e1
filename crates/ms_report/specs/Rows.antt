-- The text of the rows of a report: `path STRING input A,B,.. END` and `undecided STRING`, each a line.
use Rattle.std.specs.Prelude.{ℕ, List, [], ◌∷◌, ◌++◌, ℤ, Bool, true, false, codes}
use Rattle.std.specs.Fmt.{decimal, signed_decimal}
use Rattle.std.specs.List.{flat_map, join_by}
use Rattle.ms_command.specs.Endings.{end_text}
use Rattle.ms_command.specs.Texts.{line_end}
use Rattle.ms_trie.specs.declared.row.Outcome.{Outcome}
use Rattle.ms_trie.specs.declared.row.Outcome.TheVariants.{Undecided, Path}
use Rattle.ms_trie.specs.declared.row.PathRow.{PathRow}

-- the arms of a string, joined by points, or `-` where it has none
abbrev pub string_text : List ℕ → List ℕ
string_text [] = codes "-"
string_text (arm ∷ arms) = join_by decimal (codes ".") (arm ∷ arms)

-- the words of an input, joined by commas, or `-` where there are none
abbrev pub input_text : List ℤ → List ℕ
input_text [] = codes "-"
input_text (word ∷ words) = join_by signed_decimal (codes ",") (word ∷ words)

-- the line that says what became of a string, by the names of the program's classes
abbrev pub line_of : List (List ℕ) → List ℕ → Outcome → List ℕ
line_of names string Undecided = codes "undecided " ++ string_text string ++ line_end
line_of names string (Path input end) =
    codes "path " ++ string_text string ++ codes " input " ++ input_text input.words ++ codes " " ++ end_text names end ++ line_end

-- the line of a row
abbrev pub row_text : List (List ℕ) → PathRow → List ℕ
row_text names row = line_of names row.choices row.outcome

-- the lines of rows
abbrev pub rows_text : List (List ℕ) → List PathRow → List ℕ
rows_text names rows = flat_map (row_text names) rows

-- whether a row is that of a path
abbrev pub is_path : Outcome → Bool
is_path Undecided = false
is_path (Path input end) = true
