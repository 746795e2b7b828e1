-- Reports written row by row.
use Rattle.std.proofs.Common.{◌≡◌, ℕ, ◌+◌, ◌<◌, List, [], ◌∷◌, ◌++◌, Option, length, take, drop, get_or, true, false, not, refl, sym, ap, ◌∙◌, subst, suc, zero, append-nil, take-append-drop}
use Rattle.std.proofs.Math.Seq.{split_at, take-append-add, take-append_seam}
use Rattle.std.proofs.lemmas.List.{take_more}
use Rattle.std.proofs.lemmas.List.Concat.{flat_map-append}
use Rattle.std.proofs.lemmas.List.Sums.{count_by_more_no, count_by_more_yes}
use Rattle.std.specs.Io.KnownBytes.{Appends}
use Rattle.std.proofs.KnownBytes.{Appends-trans}
use Rattle.ms_outside.specs.Sinks.{TakesPart}
use Rattle.ms_trie.specs.declared.row.PathRow.{PathRow}
use Rattle.ms_report.specs.declared.report.Totals.{Totals}
use Rattle.ms_report.specs.Rows.{is_path, row_text, rows_text}
use Rattle.ms_report.specs.Stops.{totals_of}

-- some first bytes of a text are first bytes of what begins with the text
front : (n : ℕ) (text rest : List ℕ) → (k : ℕ) × (take n text ≡ take k (text ++ rest))
front zero text rest = (0, refl)
front (suc n) [] rest = (0, refl)
front (suc n) (byte ∷ text) rest = let more = front n text rest in (suc more.0, ap (λ l. byte ∷ l) more.1)

part_grown : (a b : Option (List ℕ)) (x y : List ℕ) → Appends a b x → TakesPart a b (x ++ y)
part_grown a b x y grown = (length x, subst (Appends a b) (sym (take-append_seam x y)) grown)

part_after : (a b c : Option (List ℕ)) (x text rest : List ℕ) → Appends a b x → TakesPart b c text → TakesPart a c (x ++ (text ++ rest))
part_after a b c x text rest grown part =
    let k = front part.0 text rest in
    let whole : take (length x + k.0) (x ++ (text ++ rest)) ≡ x ++ take part.0 text = take-append-add x (text ++ rest) k.0 ∙ ap (λ l. x ++ l) (sym k.1) in
    (length x + k.0, subst (Appends a c) (sym whole) (Appends-trans a b c x (take part.0 text) grown part.1))

rows_to : (names : List (List ℕ)) (rows : List PathRow) (i : ℕ) → rows_text names rows ≡ rows_text names (take i rows) ++ rows_text names (drop i rows)
rows_to names rows i = ap (rows_text names) (sym (take-append-drop i rows)) ∙ flat_map-append (row_text names) (take i rows) (drop i rows)

rows_at : (names : List (List ℕ)) (rows : List PathRow) (i : ℕ) (row : PathRow) → i < length rows → row ≡ get_or rows i row
    → rows_text names rows ≡ rows_text names (take i rows) ++ (row_text names row ++ rows_text names (drop (suc i) rows))
rows_at names rows i row within is =
    ap (rows_text names) (split_at rows i row within) ∙ flat_map-append (row_text names) (take i rows) (get_or rows i row ∷ drop (suc i) rows)
    ∙ ap (λ at. rows_text names (take i rows) ++ (row_text names at ++ rows_text names (drop (suc i) rows))) (sym is)

rows_more : (names : List (List ℕ)) (rows : List PathRow) (i : ℕ) (row : PathRow) → i < length rows → row ≡ get_or rows i row
    → rows_text names (take (i + 1) rows) ≡ rows_text names (take i rows) ++ row_text names row
rows_more names rows i row within is =
    ap (rows_text names) (take_more rows i row within) ∙ flat_map-append (row_text names) (take i rows) (get_or rows i row ∷ [])
    ∙ ap (λ l. rows_text names (take i rows) ++ l) (append-nil (row_text names (get_or rows i row)))
    ∙ ap (λ at. rows_text names (take i rows) ++ row_text names at) (sym is)

-- a sink that has taken the rows so far has taken first bytes of all
pub rows_stopped : (names : List (List ℕ)) (a b : Option (List ℕ)) (rows : List PathRow) (i : ℕ) → Appends a b (rows_text names (take i rows)) → TakesPart a b (rows_text names rows)
rows_stopped names a b rows i grown = subst (TakesPart a b) (sym (rows_to names rows i)) (part_grown a b (rows_text names (take i rows)) (rows_text names (drop i rows)) grown)

-- and so has one that then took some first bytes of the next
pub row_broken : (names : List (List ℕ)) (a b c : Option (List ℕ)) (rows : List PathRow) (i : ℕ) (row : PathRow) (text : List ℕ) → i < length rows → row ≡ get_or rows i row
    → text ≡ row_text names row → Appends a b (rows_text names (take i rows)) → TakesPart b c text → TakesPart a c (rows_text names rows)
row_broken names a b c rows i row text within is text_is grown part =
    subst (TakesPart a c) (sym (rows_at names rows i row within is))
    (part_after a b c (rows_text names (take i rows)) (row_text names row) (rows_text names (drop (suc i) rows)) grown (subst (TakesPart b c) text_is part))

-- the next row after the rows so far
pub row_written : (names : List (List ℕ)) (a b c : Option (List ℕ)) (rows : List PathRow) (i : ℕ) (row : PathRow) (text : List ℕ) → i < length rows → row ≡ get_or rows i row
    → text ≡ row_text names row → Appends a b (rows_text names (take i rows)) → Appends b c text → Appends a c (rows_text names (take (i + 1) rows))
row_written names a b c rows i row text within is text_is grown more =
    subst (Appends a c) (ap (λ l. rows_text names (take i rows) ++ l) text_is ∙ sym (rows_more names rows i row within is))
    (Appends-trans a b c (rows_text names (take i rows)) text grown more)

pub path_counted : (rows : List PathRow) (i : ℕ) (row : PathRow) (totals : Totals) → i < length rows → row ≡ get_or rows i row
    → totals ≡ totals_of (take i rows) → is_path row.outcome ≡ true → record totals { paths = totals.paths + 1 } ≡ totals_of (take (i + 1) rows)
path_counted rows i row totals within is counted path =
    let paths = count_by_more_yes (λ (row : PathRow). is_path row.outcome) rows i row within (ap (λ (row : PathRow). is_path row.outcome) (sym is) ∙ path) in
    let undecided = count_by_more_no (λ (row : PathRow). not (is_path row.outcome)) rows i row within (ap (λ (row : PathRow). not (is_path row.outcome)) (sym is) ∙ ap not path) in
    cc

pub undecided_counted : (rows : List PathRow) (i : ℕ) (row : PathRow) (totals : Totals) → i < length rows → row ≡ get_or rows i row
    → totals ≡ totals_of (take i rows) → is_path row.outcome ≡ false → record totals { undecided = totals.undecided + 1 } ≡ totals_of (take (i + 1) rows)
undecided_counted rows i row totals within is counted undone =
    let paths = count_by_more_no (λ (row : PathRow). is_path row.outcome) rows i row within (ap (λ (row : PathRow). is_path row.outcome) (sym is) ∙ undone) in
    let undecided = count_by_more_yes (λ (row : PathRow). not (is_path row.outcome)) rows i row within (ap (λ (row : PathRow). not (is_path row.outcome)) (sym is) ∙ ap not undone) in
    cc
