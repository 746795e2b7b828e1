-- What stands under the numbers of a pool of lines.
use Rattle.std.proofs.Common.{◌≡◌, ℕ, zero, suc, ◌+◌, ◌^◌, ◌≤◌, ◌<◌, Bool, true, false, cond, not, List, [], ◌∷◌, ◌++◌, length, map, Option, Some, None, slice_get, option_map, option_and_then, refl, ap, ◌∙◌, arith, ℤ, pos, negsuc, FitsSigned, w32}
use Rattle.std.specs.Prelude.{◌&&◌, ◌==◌}
use Rattle.std.specs.Int.{cast_unsigned}
use Rattle.std.specs.List.{AllByRecursion, list_all, list_any}
use Rattle.std.proofs.lemmas.Bool.{or_parts, and_parts, ltb-false}
use Rattle.std.proofs.lemmas.Int.{to_z-of_z}
use Rattle.ms_pool.specs.Pools as pools
use Rattle.ms_pool.specs.Pools.{Entry, IsEntry, Placed, first_unlinked, has_tag, has_tag_of, is_unlinked, is_wide_tag, numbered, placed, placed_at, slots_of, spelled_entry, tag_of, unlinked, wanted}
use Rattle.ms_pool.specs.ByNumber as by_number
use Rattle.ms_pool.specs.ByNumber.{class_name, int_held, integer, text_held, text_named, utf8}
use Rattle.ms_classwrite.specs.declared.plan.PoolLine.{PoolLine}
use Rattle.ms_classwrite.specs.declared.plan.PoolLine.TheVariants.{Utf8, Integer, Class, Text, NameAndType, Field, Method}
use Rattle.ms_classwrite.specs.Plans.{entry_of, is_linked, is_tagged, line_at}
use Rattle.ms_classwrite.specs.Layout.{is_long_line}
use Rattle.ms_classwrite.specs.ReadBack.{LineFits}
use Rattle.ms_classwrite.proofs.There.{all_more}
use Rattle.ms_classwrite.proofs.Written.{not_wide}

-- the entry in a slot
abbrev held : Option Placed → Option Entry
held slot = option_map (λ (p : Placed). p.entry) slot

one_slot : (at : ℕ) (line : PoolLine) (rest : List (Option Placed)) → slots_of at (entry_of line) ++ rest ≡ Some (record { at = at; entry = entry_of line }) ∷ rest
one_slot at line rest = rw (not_wide line) refl

placed_line : (at : ℕ) (lines : List PoolLine) (i : ℕ) → held (option_and_then (λ (slot : Option Placed). slot) (slice_get (placed at (map entry_of lines)) i)) ≡ option_map entry_of (slice_get lines i)
placed_line at [] i = refl
placed_line at (line ∷ lines) zero = ap (λ (slots : List (Option Placed)). held (option_and_then (λ (slot : Option Placed). slot) (slice_get slots 0))) (one_slot at line (placed (at + length (spelled_entry (entry_of line))) (map entry_of lines)))
placed_line at (line ∷ lines) (suc i) =
    let rest = placed (at + length (spelled_entry (entry_of line))) (map entry_of lines) in
    ap (λ (slots : List (Option Placed)). held (option_and_then (λ (slot : Option Placed). slot) (slice_get slots (suc i)))) (one_slot at line rest) ∙ placed_line (at + length (spelled_entry (entry_of line))) lines i

-- the entry of a number is that of the line
pub numbered_line : (at : ℕ) (lines : List PoolLine) (i : ℕ) → by_number.entry_of (numbered at (map entry_of lines)) i ≡ option_map entry_of (line_at lines i)
numbered_line at lines zero = refl
numbered_line at lines (suc i) = placed_line (at + 2) lines i

entry_at : (at : ℕ) (lines : List PoolLine) (i : ℕ) (line : PoolLine) → line_at lines i ≡ Some line → by_number.entry_of (numbered at (map entry_of lines)) i ≡ Some (entry_of line)
entry_at at lines i line is = numbered_line at lines i ∙ ap (option_map entry_of) is

-- TEXTS, CLASSES AND INTS

pub text_at : (at : ℕ) (lines : List PoolLine) (i : ℕ) (text : List ℕ) → line_at lines i ≡ Some (Utf8 text) → utf8 (numbered at (map entry_of lines)) i ≡ Some text
text_at at lines i text is = ap (option_and_then text_held) (entry_at at lines i (Utf8 text) is)

pub class_at : (at : ℕ) (lines : List PoolLine) (i name : ℕ) (text : List ℕ) → line_at lines i ≡ Some (Class name) → line_at lines name ≡ Some (Utf8 text) → class_name (numbered at (map entry_of lines)) i ≡ Some text
class_at at lines i name text is named = ap (option_and_then (text_named 7 (numbered at (map entry_of lines)))) (entry_at at lines i (Class name) is) ∙ text_at at lines name text named

pub int_at : (at : ℕ) (lines : List PoolLine) (i : ℕ) (int : ℤ) → FitsSigned w32 int → line_at lines i ≡ Some (Integer int) → integer (numbered at (map entry_of lines)) i ≡ Some int
int_at at lines i int fits is = ap (option_and_then int_held) (entry_at at lines i (Integer int) is) ∙ ap (λ (n : ℤ). Some n) (to_z-of_z w32 int fits)

-- LINKS

tag_held : (tag : ℕ) (slot : Option Placed) (line : Option PoolLine) → held slot ≡ option_map entry_of line → has_tag_of tag slot ≡ is_tagged tag line
tag_held tag None None is = refl
tag_held tag (Some p) (Some line) is = ap (λ (e : Entry). tag_of e == tag) (some_is p.entry (entry_of line) is)
  where
    some_is : (d e : Entry) → ◌≡◌ {A = Option Entry} (Some d) (Some e) → d ≡ e
    some_is d e is = cc
tag_held tag None (Some line) is = absurd cc
tag_held tag (Some p) None is = absurd cc

pub tag_at : (at : ℕ) (lines : List PoolLine) (i tag : ℕ) → has_tag (numbered at (map entry_of lines)) i tag ≡ is_tagged tag (line_at lines i)
tag_at at lines i tag = tag_held tag (placed_at (numbered at (map entry_of lines)) i) (line_at lines i) (numbered_line at lines i)

linked_at : (at : ℕ) (lines : List PoolLine) (line : PoolLine) → is_linked lines line ≡ true → pools.is_linked (numbered at (map entry_of lines)) (entry_of line) ≡ true
linked_at at lines line is = all_more (λ (r : ℕ × ℕ). is_tagged r.1 (line_at lines r.0)) (λ (r : ℕ × ℕ). has_tag (numbered at (map entry_of lines)) r.0 r.1) (λ r tagged. tag_at at lines r.0 r.1 ∙ tagged) (wanted (entry_of line)) is

none_unlinked : (all : List (Option Placed)) (at : ℕ) (lines : List PoolLine) → list_all (λ (line : PoolLine). pools.is_linked all (entry_of line)) lines ≡ true → first_unlinked all (placed at (map entry_of lines)) ≡ None
none_unlinked all at [] is = refl
none_unlinked all at (line ∷ lines) is =
    let h = and_parts (pools.is_linked all (entry_of line)) (list_all (λ (other : PoolLine). pools.is_linked all (entry_of other)) lines) is in
    let next = at + length (spelled_entry (entry_of line)) in
    ap (first_unlinked all) (one_slot at line (placed next (map entry_of lines)))
    ∙ ap (λ (b : Bool). cond (not b) (Some (record { at = at; entry = entry_of line })) (first_unlinked all (placed next (map entry_of lines)))) h.0
    ∙ none_unlinked all next lines h.1

-- a pool whose lines name what they should
pub pool_linked : (at : ℕ) (lines : List PoolLine) → list_all (is_linked lines) lines ≡ true → unlinked (numbered at (map entry_of lines)) ≡ None
pool_linked at lines is = none_unlinked (numbered at (map entry_of lines)) (at + 2) lines (all_more (is_linked lines) (λ (line : PoolLine). pools.is_linked (numbered at (map entry_of lines)) (entry_of line)) (λ line linked. linked_at at lines line linked) lines is)

-- THE NUMBERS FIT

get_within : (lines : List PoolLine) (i tag : ℕ) → is_tagged tag (slice_get lines i) ≡ true → i < length lines
get_within [] i tag is = absurd cc
get_within (line ∷ lines) zero tag is = omega arith
get_within (line ∷ lines) (suc i) tag is = omega (arith, get_within lines i tag is)

tag_within : (lines : List PoolLine) (i tag : ℕ) → is_tagged tag (line_at lines i) ≡ true → i ≤ length lines
tag_within lines zero tag is = omega arith
tag_within lines (suc i) tag is = omega (arith, get_within lines i tag is)

-- the line is no longer text than fits, and names numbers of so many lines
one_fits : (lines : List PoolLine) (i tag : ℕ) (rest : Bool) → length lines ≤ 65534 → (is_tagged tag (line_at lines i) && rest) ≡ true → (i < 2 ^ 16) × (rest ≡ true)
one_fits lines i tag rest few is =
    let h = and_parts (is_tagged tag (line_at lines i)) rest is in
    (omega (arith, few, tag_within lines i tag h.0), h.1)

unsigned_fits : (int : ℤ) → FitsSigned w32 int → cast_unsigned w32 int < 2 ^ 32
unsigned_fits (pos n) fits = omega (arith, fits.sfits)
unsigned_fits (negsuc n) fits = omega arith

pub entry_fits : (lines : List PoolLine) (line : PoolLine) → LineFits line → length lines ≤ 65534 → is_linked lines line ≡ true → is_long_line line ≡ false → IsEntry (entry_of line)
entry_fits lines (Utf8 s) fits few linked short = omega (arith, ltb-false 65535 (length s) short)
entry_fits lines (Integer m) fits few linked short = (refl, unsigned_fits m fits)
entry_fits lines (Class i) fits few linked short = (refl, (one_fits lines i 1 true few linked).0)
entry_fits lines (Text i) fits few linked short = (refl, (one_fits lines i 1 true few linked).0)
entry_fits lines (NameAndType i j) fits few linked short =
    let first = one_fits lines i 1 (is_tagged 1 (line_at lines j) && true) few linked in
    (refl, first.0, (one_fits lines j 1 true few first.1).0)
entry_fits lines (Field i j) fits few linked short =
    let first = one_fits lines i 7 (is_tagged 12 (line_at lines j) && true) few linked in
    (refl, first.0, (one_fits lines j 12 true few first.1).0)
entry_fits lines (Method i j) fits few linked short =
    let first = one_fits lines i 7 (is_tagged 12 (line_at lines j) && true) few linked in
    (refl, first.0, (one_fits lines j 12 true few first.1).0)

pub entries_fit : (all lines : List PoolLine) → AllByRecursion LineFits lines → length all ≤ 65534 → list_all (is_linked all) lines ≡ true → list_any is_long_line lines ≡ false → AllByRecursion IsEntry (map entry_of lines)
entries_fit all [] fits few linked short = tt
entries_fit all (line ∷ lines) fits few linked short =
    let h = and_parts (is_linked all line) (list_all (is_linked all) lines) linked in
    let s = or_parts (is_long_line line) (list_any is_long_line lines) short in
    (entry_fits all line fits.0 few h.0 s.0, entries_fit all lines fits.1 few h.1 s.1)
