-- The lines of bytes, found from left to right. What is kept of each is its first bytes.
use Rattle.std.proofs.Common.{◌≡◌, ℕ, ◌+◌, ◌-◌, ◌<◌, ◌≤◌, List, [], ◌∷◌, ◌++◌, length, take, map, true, false, cond, Bool, ◌==◌, nat_lt, refl, sym, ap, ◌∙◌, arith, append_assoc, append-nil, length-append, inl, inr}
use Rattle.std.proofs.lemmas.List.{take_all, take-append-le, map-append, length-take}
use Rattle.std.proofs.Math.Seq.{take-append_seam}
use Rattle.std.proofs.lemmas.List.Splits.{length-slice_split}
use Rattle.std.specs.List.{onto_first}
use Rattle.std.specs.Str.Lines.{lines, lines_of_parts, strip_carriage_return}
use Rattle.std.proofs.lemmas.Bool.{cases_lt, cond-true, cond-false, lt-ltb, le-ltb}
use Rattle.ms_memoise.specs.Lines.{is_line_feed, parts, whole_lines}
use Rattle.ms_memoise.specs.Feeding.{fed_kept, fed_lines, kept_more, most_kept}
use Rattle.ms_memoise.specs.Turns.{last_lines}

-- what is kept of a line
abbrev pub cut : List ℕ → List ℕ
cut line = take most_kept line

-- the lines that bytes end, where this came of the line at their beginning, and what came of the line after them
abbrev pub scan_lines : List ℕ → List ℕ → List (List ℕ)
scan_lines line [] = []
scan_lines line (byte ∷ bytes) = cond (byte == 10) (line ∷ scan_lines [] bytes) (scan_lines (line ++ byte ∷ []) bytes)

abbrev pub scan_rest : List ℕ → List ℕ → List ℕ
scan_rest line [] = line
scan_rest line (byte ∷ bytes) = cond (byte == 10) (scan_rest [] bytes) (scan_rest (line ++ byte ∷ []) bytes)

-- WHAT IS KEPT

one_longer : (line : List ℕ) (byte : ℕ) → length (line ++ byte ∷ []) ≡ length line + 1
one_longer line byte = length-append line (byte ∷ [])

-- where there is room
cut_room : (n : ℕ) (line : List ℕ) (byte : ℕ) → length line < n → cond (nat_lt (length (take n line)) n) (take n line ++ byte ∷ []) (take n line) ≡ take n (line ++ byte ∷ [])
cut_room n line byte room =
    let whole : take n line ≡ line = take_all n line (omega arith) in
    let longer : take n (line ++ byte ∷ []) ≡ line ++ byte ∷ [] = take_all n (line ++ byte ∷ []) (omega (arith, one_longer line byte)) in
    rw (whole, longer) (cond-true _ _ _ (lt-ltb (length line) n room))

-- and where there is none
cut_full : (n : ℕ) (line : List ℕ) (byte : ℕ) → n ≤ length line → cond (nat_lt (length (take n line)) n) (take n line ++ byte ∷ []) (take n line) ≡ take n (line ++ byte ∷ [])
cut_full n line byte full =
    cond-false _ _ _ (le-ltb (length (take n line)) n (omega (arith, length-take n line))) ∙ sym (take-append-le n line (byte ∷ []) full)

pub cut_more : (line : List ℕ) (byte : ℕ) → kept_more (cut line) byte ≡ cut (line ++ byte ∷ [])
cut_more line byte = elim (cases_lt (length line) most_kept) [ inl room ↦ cut_room most_kept line byte room | inr full ↦ cut_full most_kept line byte full ]

fed_lines_at : (b : Bool) (line : List ℕ) (a a' : List (List ℕ)) (c c' : List (List ℕ)) → a ≡ map cut c → a' ≡ map cut c' → cond b (cut line ∷ a) a' ≡ map cut (cond b (line ∷ c) c')
fed_lines_at true line a a' c c' p q = ap (λ l. cut line ∷ l) p
fed_lines_at false line a a' c c' p q = q

fed_kept_at : (b : Bool) (a a' c c' : List ℕ) → a ≡ cut c → a' ≡ cut c' → cond b a a' ≡ cut (cond b c c')
fed_kept_at true a a' c c' p q = p
fed_kept_at false a a' c c' p q = q

-- what is kept of each line is its first bytes
pub fed_lines_scanned : (line bytes : List ℕ) → fed_lines (cut line) bytes ≡ map cut (scan_lines line bytes)
fed_lines_scanned line [] = refl
fed_lines_scanned line (byte ∷ bytes) =
    fed_lines_at (byte == 10) line _ _ _ _ (fed_lines_scanned [] bytes) (ap (λ k. fed_lines k bytes) (cut_more line byte) ∙ fed_lines_scanned (line ++ byte ∷ []) bytes)

pub fed_kept_scanned : (line bytes : List ℕ) → fed_kept (cut line) bytes ≡ cut (scan_rest line bytes)
fed_kept_scanned line [] = refl
fed_kept_scanned line (byte ∷ bytes) =
    fed_kept_at (byte == 10) _ _ _ _ (fed_kept_scanned [] bytes) (ap (λ k. fed_kept k bytes) (cut_more line byte) ∙ fed_kept_scanned (line ++ byte ∷ []) bytes)

-- MORE BYTES

scan_lines_at : (b : Bool) (line : List ℕ) (whole front whole' front' : List (List ℕ)) (rest : List ℕ → List (List ℕ)) (k k' : List ℕ) → whole ≡ front ++ rest k → whole' ≡ front' ++ rest k'
    → cond b (line ∷ whole) whole' ≡ cond b (line ∷ front) front' ++ rest (cond b k k')
scan_lines_at true line whole front whole' front' rest k k' p q = ap (λ l. line ∷ l) p
scan_lines_at false line whole front whole' front' rest k k' p q = q

pub scan_lines_append : (line xs ys : List ℕ) → scan_lines line (xs ++ ys) ≡ scan_lines line xs ++ scan_lines (scan_rest line xs) ys
scan_lines_append line [] ys = refl
scan_lines_append line (x ∷ xs) ys =
    scan_lines_at (x == 10) line _ _ _ _ (λ k. scan_lines k ys) _ _ (scan_lines_append [] xs ys) (scan_lines_append (line ++ x ∷ []) xs ys)

-- THE PARTS BETWEEN LINE FEEDS

-- the first part, behind what came before
abbrev behind : List ℕ → List (List ℕ) → List (List ℕ)
behind line [] = line ∷ []
behind line (part ∷ more) = (line ++ part) ∷ more

behind_nothing : (xs : List (List ℕ)) → 0 < length xs → behind [] xs ≡ xs
behind_nothing [] some = absurd (omega arith)
behind_nothing (x ∷ xs) some = refl

behind_first : (line : List ℕ) (byte : ℕ) (xs : List (List ℕ)) → behind line (onto_first byte xs) ≡ behind (line ++ byte ∷ []) xs
behind_first line byte [] = refl
behind_first line byte (x ∷ xs) = ap (λ l. l ∷ xs) (sym (append_assoc line (byte ∷ []) x))

parts_at : (b : Bool) (line : List ℕ) (byte : ℕ) (ps : List (List ℕ)) (a a' : List (List ℕ)) (r r' : List ℕ) → 0 < length ps → behind [] ps ≡ a ++ r ∷ [] → behind (line ++ byte ∷ []) ps ≡ a' ++ r' ∷ []
    → behind line (cond b ([] ∷ ps) (onto_first byte ps)) ≡ cond b (line ∷ a) a' ++ cond b r r' ∷ []
parts_at true line byte ps a a' r r' some p q = ap (λ l. l ∷ ps) (append-nil line) ∙ ap (λ l. line ∷ l) (sym (behind_nothing ps some) ∙ p)
parts_at false line byte ps a a' r r' some p q = behind_first line byte ps ∙ q

some_parts : (bytes : List ℕ) → 0 < length (parts bytes)
some_parts bytes = omega (arith, length-slice_split is_line_feed bytes)

parts_behind : (line bytes : List ℕ) → behind line (parts bytes) ≡ scan_lines line bytes ++ scan_rest line bytes ∷ []
parts_behind line [] = ap (λ l. l ∷ []) (append-nil line)
parts_behind line (byte ∷ bytes) =
    parts_at (byte == 10) line byte (parts bytes) _ _ _ _ (some_parts bytes) (parts_behind [] bytes) (parts_behind (line ++ byte ∷ []) bytes)

pub parts_scanned : (bytes : List ℕ) → parts bytes ≡ scan_lines [] bytes ++ scan_rest [] bytes ∷ []
parts_scanned bytes = sym (behind_nothing (parts bytes) (some_parts bytes)) ∙ parts_behind [] bytes

but_last : (xs : List (List ℕ)) (x : List ℕ) → take (length (xs ++ x ∷ []) - 1) (xs ++ x ∷ []) ≡ xs
but_last xs x =
    let less : length (xs ++ x ∷ []) - 1 ≡ length xs = omega (arith, length-append xs (x ∷ [])) in
    rw less (take-append_seam xs (x ∷ []))

pub whole_lines_scanned : (bytes : List ℕ) → whole_lines bytes ≡ map strip_carriage_return (scan_lines [] bytes)
whole_lines_scanned bytes =
    ap (λ ps. map strip_carriage_return (take (length ps - 1) ps)) (parts_scanned bytes) ∙ ap (map strip_carriage_return) (but_last (scan_lines [] bytes) (scan_rest [] bytes))

lines_parts : (xs : List (List ℕ)) (x : List ℕ) → lines_of_parts (xs ++ x ∷ []) ≡ map strip_carriage_return xs ++ last_lines x
lines_parts [] x = refl
lines_parts (y ∷ []) x = refl
lines_parts (y ∷ z ∷ xs) x = ap (λ l. strip_carriage_return y ∷ l) (lines_parts (z ∷ xs) x)

-- the lines: those ended by a line feed, and then what is left, where it isn't empty
pub lines_scanned : (bytes : List ℕ) → lines bytes ≡ whole_lines bytes ++ last_lines (scan_rest [] bytes)
lines_scanned bytes =
    ap lines_of_parts (parts_scanned bytes) ∙ lines_parts (scan_lines [] bytes) (scan_rest [] bytes) ∙ ap (λ l. l ++ last_lines (scan_rest [] bytes)) (sym (whole_lines_scanned bytes))

-- the lines ended by a line feed are the first ones, whatever bytes follow
pub whole_append : (xs ys : List ℕ) → whole_lines (xs ++ ys) ≡ whole_lines xs ++ map strip_carriage_return (scan_lines (scan_rest [] xs) ys)
whole_append xs ys =
    whole_lines_scanned (xs ++ ys) ∙ ap (map strip_carriage_return) (scan_lines_append [] xs ys)
    ∙ map-append strip_carriage_return (scan_lines [] xs) (scan_lines (scan_rest [] xs) ys)
    ∙ ap (λ l. l ++ map strip_carriage_return (scan_lines (scan_rest [] xs) ys)) (sym (whole_lines_scanned xs))

pub lines_append : (xs ys : List ℕ) → lines (xs ++ ys) ≡ whole_lines xs ++ (map strip_carriage_return (scan_lines (scan_rest [] xs) ys) ++ last_lines (scan_rest [] (xs ++ ys)))
lines_append xs ys =
    lines_scanned (xs ++ ys) ∙ ap (λ l. l ++ last_lines (scan_rest [] (xs ++ ys))) (whole_append xs ys)
    ∙ append_assoc (whole_lines xs) (map strip_carriage_return (scan_lines (scan_rest [] xs) ys)) (last_lines (scan_rest [] (xs ++ ys)))
