-- What stands in a pool under a number is what stands in the bytes at its place.
use Rattle.std.proofs.Common.{◌≡◌, ℕ, ◌+◌, ◌<◌, ◌≤◌, Bool, true, false, cond, ltb, List, [], ◌∷◌, ◌++◌, length, drop, get_or, Option, Some, None, refl, ap, sym, ◌∙◌, append_assoc, arith, option_map, option_and_then, slice_get}
use Rattle.std.specs.Prelude.{◌==◌}
use Rattle.std.specs.List.{AllByRecursion, flat_map}
use Rattle.std.proofs.lemmas.Bool.{lt-ltb}
use Rattle.std.proofs.lemmas.List.{drop-drop, drop_at, length-drop}
use Rattle.std.proofs.lemmas.Option.{slice_get-get_or, slice_get-map, slice_get_past}
use Rattle.byteorder.specs.Numbers.{length-bytes_high_first}
use Rattle.ms_pool.specs.Places.{Place, place_in}
use Rattle.ms_pool.specs.Pools.{Entry, IsEntry, IsPool, Placed, is_wide_tag, numbered, placed, placed_at, spelled_entry, tag_of, u2, width}
use Rattle.ms_pool.specs.PoolReading.{entry_at}
use Rattle.ms_pool.specs.ByNumber.{entries_in, entry_in, entry_of, places_of}
use Rattle.ms_pool.proofs.Again.{entry_reaches}
use Rattle.ms_pool.proofs.Pools.{not_zero}

-- nothing stands behind the end
pub none_past : (bytes : List ℕ) (at : ℕ) → length bytes < at → entry_in bytes at ≡ None
unfolding entry_at
none_past bytes at past =
    let short : ltb (length (drop at bytes)) 1 ≡ true = lt-ltb _ _ (omega (arith, past, length-drop at bytes)) in
    rw short (by_test (at == 0))
  where
    by_test : (b : Bool) → ◌≡◌ {A = Option Placed} (cond b None None) None
    by_test true = refl
    by_test false = refl

through : (bytes : List ℕ) (slot : Option ℕ) → option_and_then (λ (s : Option Placed). s) (option_map (entry_in bytes) slot) ≡ option_and_then (entry_in bytes) slot
through bytes None = refl
through bytes (Some at) = refl

pub placed_by : (bytes places : List ℕ) (i : ℕ) → placed_at (entries_in bytes places) i ≡ option_and_then (entry_in bytes) (slice_get places i)
placed_by bytes places i = ap (option_and_then (λ (s : Option Placed). s)) (slice_get-map (entry_in bytes) places i) ∙ through bytes (slice_get places i)

pub entry_there : (bytes places : List ℕ) (i d : ℕ) → i < length places → entry_of (entries_in bytes places) i ≡ option_map (λ placed. placed.entry) (entry_in bytes (get_or places i d))
entry_there bytes places i d below = rw (placed_by bytes places i, slice_get-get_or places i d below) refl

pub no_entry : (bytes places : List ℕ) (i : ℕ) → length places ≤ i → entry_of (entries_in bytes places) i ≡ None
no_entry bytes places i past = rw (placed_by bytes places i, slice_get_past places i past) refl

-- entries that are spelled in the bytes from a place on stand there
pub entries_stand : (bytes : List ℕ) (at : ℕ) (entries : List Entry) (rest : List ℕ) → 0 < at → AllByRecursion IsEntry entries → drop at bytes ≡ flat_map spelled_entry entries ++ rest → entries_in bytes (places_of (placed at entries)) ≡ placed at entries
entries_stand bytes at [] rest some sound spelled = refl
entries_stand bytes at (entry ∷ entries) rest some sound spelled =
    let n = length (spelled_entry entry) in
    let regrouped : drop at bytes ≡ spelled_entry entry ++ (flat_map spelled_entry entries ++ rest) = spelled ∙ append_assoc (spelled_entry entry) (flat_map spelled_entry entries) rest in
    let one : entry_in bytes at ≡ Some (record { at = at; entry = entry }) = stands bytes at entry (flat_map spelled_entry entries ++ rest) some sound.0 regrouped in
    let behind : drop (at + n) bytes ≡ flat_map spelled_entry entries ++ rest = sym (drop-drop n at bytes) ∙ ap (drop n) regrouped ∙ drop_at (spelled_entry entry) (flat_map spelled_entry entries ++ rest) n refl in
    let others = entries_stand bytes (at + n) entries rest (omega (arith, some)) sound.1 behind in
    by_width (is_wide_tag (tag_of entry)) n one others
  where
    stands : (bytes : List ℕ) (at : ℕ) (entry : Entry) (rest : List ℕ) → 0 < at → IsEntry entry → drop at bytes ≡ spelled_entry entry ++ rest → entry_in bytes at ≡ Some (record { at = at; entry = entry })
    stands bytes at entry rest some sound spelled =
        let reach = entry_reaches 2 entry (place_in bytes at) rest sound (λ wide. refl) spelled in
        rw (not_zero at some, reach.found) refl

    by_width : (wide : Bool) (n : ℕ) → entry_in bytes at ≡ Some (record { at = at; entry = entry }) → entries_in bytes (places_of (placed (at + n) entries)) ≡ placed (at + n) entries
        → entries_in bytes (places_of (cond wide (Some (record { at = at; entry = entry }) ∷ None ∷ []) (Some (record { at = at; entry = entry }) ∷ []) ++ placed (at + n) entries))
        ≡ cond wide (Some (record { at = at; entry = entry }) ∷ None ∷ []) (Some (record { at = at; entry = entry }) ∷ []) ++ placed (at + n) entries
    by_width true n one others = rw (one, others) refl
    by_width false n one others = rw (one, others) refl

-- so do those of a pool, by their numbers
pub pool_stands : (bytes : List ℕ) (at : ℕ) (entries : List Entry) (after : Place) → IsPool (place_in bytes at) entries after → entries_in bytes (places_of (numbered at entries)) ≡ numbered at entries
pool_stands bytes at entries after is =
    let count = u2 (width entries + 1) in
    let behind : drop (at + 2) bytes ≡ flat_map spelled_entry entries ++ after.left = sym (drop-drop 2 at bytes) ∙ ap (drop 2) is.spelled.bytes ∙ drop_at count (flat_map spelled_entry entries ++ after.left) 2 (length-bytes_high_first 2 (width entries + 1)) in
    ap (λ (slots : List (Option Placed)). None ∷ slots) (entries_stand bytes (at + 2) entries after.left (omega arith) is.spelled.fit behind)
