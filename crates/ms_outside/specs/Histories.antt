-- What a shelf was asked. No memory is taken for it: notes are made that proofs alone read, first one of the answer and
-- then one of each byte of the name.
use Rattle.std.specs.Prelude.{ℕ, List, [], ◌∷◌, ◌++◌, Option, Some, None, fold}
use Rattle.ms_outside.specs.Counts.{ShelfCounts}
use Rattle.ms_outside.specs.Shelves.{Asking, answered}
use Rattle.ms_outside.specs.declared.shelf.Fetch.{Fetch}

-- the last name has one more byte
abbrev pub with_byte : List Asking → ℕ → List Asking
with_byte [] byte = []
with_byte (last ∷ []) byte = (last.0 ++ byte ∷ [], last.1) ∷ []
with_byte (first ∷ (second ∷ others)) byte = first ∷ with_byte (second ∷ others) byte

-- what was asked, with one more note: of a fetch, whose name is still empty, or of a byte of its name, which has the fetch
-- with it once more, unread
abbrev pub with_note : List Asking → Option ℕ × Fetch → List Asking
with_note asked (None, fetched) = asked ++ ([], answered fetched) ∷ []
with_note asked (Some byte, fetched) = with_byte asked byte

-- what was asked, by all notes
abbrev pub asked_in : List (Option ℕ × Fetch) → List Asking
asked_in notes = fold with_note [] notes

-- what an adapter over files shows of a shelf: what it was asked, with the answers that it gave, and its counts
pub record ShelfHistory : Type 0 where
  pub asked : List Asking
  pub counts : ShelfCounts
