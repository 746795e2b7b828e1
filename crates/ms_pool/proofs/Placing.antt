-- The places of entries that are read one after another.
use Rattle.std.proofs.Common.{◌≡◌, ℕ, zero, suc, ◌+◌, ◌-◌, ◌<◌, ◌≤◌, Bool, true, false, cond, List, [], ◌∷◌, ◌++◌, length, Option, Some, None, Ok, Err, refl, sym, ap, subst, ◌∙◌, append_assoc, length-append, arith, inl, inr}
use Rattle.std.specs.Prelude.{◌==◌}
use Rattle.std.specs.List.{flat_map}
use Rattle.std.proofs.lemmas.List.{append-nil, length-map, map-append}
use Rattle.ms_pool.specs.declared.pool.PoolFault.{PoolFault}
use Rattle.ms_pool.specs.Places.{Place}
use Rattle.ms_pool.specs.Numbers.{IsBytes}
use Rattle.ms_pool.specs.Pools.{Entry, Placed, is_wide_tag, placed, slots_of, spelled_entry, tag_of, width_of}
use Rattle.ms_pool.specs.PoolReading.{◌>>=◌, Read, entry_at, entries_at}
use Rattle.ms_pool.specs.ByNumber.{place_of, places_of}
use Rattle.ms_pool.specs.Found.{ArePlaces}
use Rattle.ms_pool.proofs.Entries.{Takes, entry_found, takes_both}
use Rattle.ms_pool.proofs.Lists.{broad, fails_first, narrow, pick_false, pick_true, takes_none, which}

-- entries that were read before
abbrev with_front : List Entry → Read (List Entry) → Read (List Entry)
with_front front read = read >>= λ rest. Ok (front ++ rest.0, rest.1)

-- what has been read so far, from the start to a place, where so many numbers are left
pub record IsListing (start : Place) (numbers : ℕ) (places : List ℕ) (left : ℕ) (place : Place) : Type 0 where
  pub front : List Entry
  pub takes : Takes start (flat_map spelled_entry front) place
  pub so_far : with_front front (entries_at left place) ≡ entries_at numbers start
  pub places_are : places ≡ 0 ∷ places_of (placed start.at front)
  pub many : length places + left ≡ numbers + 1

with_none : (read : Read (List Entry)) → with_front [] read ≡ read
with_none (Ok x) = refl
with_none (Err fault) = refl

pub begun : (start : Place) (numbers : ℕ) → IsBytes start.left → IsListing start numbers (0 ∷ []) numbers start
begun start numbers fits = record {
  front = [];
  takes = takes_none start fits;
  so_far = with_none (entries_at numbers start);
  places_are = refl;
  many = omega arith;
}

pub enough : (start : Place) (numbers left : ℕ) (places : List ℕ) (place : Place) (entry : Entry) (after : Place) → IsListing start numbers places left place → 0 < left → entry_at left place ≡ Ok (entry, after) → width_of entry ≤ left
enough start numbers left places place entry after listing some found =
    let one = entry_found left place (entry, after) listing.takes.fits found in
    elim (which (is_wide_tag (tag_of entry))) [
      | inl wide ↦ at_least left some (one.room wide) (broad (is_wide_tag (tag_of entry)) wide)
      | inr not_wide ↦ omega (arith, some, narrow (is_wide_tag (tag_of entry)) not_wide)
    ]
  where
    at_least : (left : ℕ) → 0 < left → (left == 1) ≡ false → width_of entry ≡ 2 → width_of entry ≤ left
    at_least zero some not_one two = absurd (omega (arith, some))
    at_least (suc zero) some not_one two = absurd cc
    at_least (suc (suc left)) some not_one two = omega (arith, two)

-- an entry before those that are read
abbrev before : Entry → Read (List Entry) → Read (List Entry)
before entry read = read >>= λ rest. Ok (entry ∷ rest.0, rest.1)

first_and_rest : (left : ℕ) (place : Place) (entry : Entry) (after : Place) → 0 < left → width_of entry ≤ left → entry_at left place ≡ Ok (entry, after) → entries_at left place ≡ before entry (entries_at (left - width_of entry) after)
unfolding entries_at
first_and_rest zero place entry after some room found = absurd (omega (arith, some))
first_and_rest (suc zero) place entry after some room found =
    let none : 1 - width_of entry ≡ 0 = elim (which (is_wide_tag (tag_of entry))) [
      | inl wide ↦ absurd (omega (arith, room, broad (is_wide_tag (tag_of entry)) wide))
      | inr not_wide ↦ omega (arith, narrow (is_wide_tag (tag_of entry)) not_wide)
    ] in
    rw (found, none) refl
first_and_rest (suc (suc left)) place entry after some room found = elim (which (is_wide_tag (tag_of entry))) [
  | inl wide ↦
      let less : suc (suc left) - width_of entry ≡ left = omega (arith, broad (is_wide_tag (tag_of entry)) wide) in
      rw found (ap (before entry) (pick_true (is_wide_tag (tag_of entry)) _ _ _ wide (ap (λ (n : ℕ). entries_at n after) (sym less))))
  | inr not_wide ↦
      let less : suc (suc left) - width_of entry ≡ suc left = omega (arith, narrow (is_wide_tag (tag_of entry)) not_wide) in
      rw found (ap (before entry) (pick_false (is_wide_tag (tag_of entry)) _ _ _ not_wide (ap (λ (n : ℕ). entries_at n after) (sym less))))
]

regroup : (front : List Entry) (entry : Entry) (read : Read (List Entry)) → with_front front (before entry read) ≡ with_front (front ++ entry ∷ []) read
regroup front entry (Ok x) = ap (λ (all : List Entry). Ok (all, x.1)) (simp append_assoc)
regroup front entry (Err fault) = refl

spelled_push : (front : List Entry) (entry : Entry) → flat_map spelled_entry (front ++ entry ∷ []) ≡ flat_map spelled_entry front ++ spelled_entry entry
spelled_push [] entry = append-nil (spelled_entry entry)
spelled_push (first ∷ front) entry = ap (λ (l : List ℕ). spelled_entry first ++ l) (spelled_push front entry) ∙ sym (append_assoc (spelled_entry first) (flat_map spelled_entry front) (spelled_entry entry))

pub placed_push : (at : ℕ) (front : List Entry) (entry : Entry) → placed at (front ++ entry ∷ []) ≡ placed at front ++ slots_of (at + length (flat_map spelled_entry front)) entry
placed_push at [] entry =
    let here : at ≡ at + 0 = omega arith in
    append-nil (slots_of at entry) ∙ ap (λ (n : ℕ). slots_of n entry) here
placed_push at (first ∷ front) entry =
    let further : at + length (spelled_entry first) + length (flat_map spelled_entry front) ≡ at + length (flat_map spelled_entry (first ∷ front)) = omega (arith, length-append (spelled_entry first) (flat_map spelled_entry front)) in
    ap (λ (l : List (Option Placed)). slots_of at first ++ l) (placed_push (at + length (spelled_entry first)) front entry ∙ ap (λ (n : ℕ). placed (at + length (spelled_entry first)) front ++ slots_of n entry) further)
    ∙ sym (append_assoc (slots_of at first) (placed (at + length (spelled_entry first)) front) (slots_of (at + length (flat_map spelled_entry (first ∷ front))) entry))

pub many_slots : (wide : Bool) (slot : Option Placed) → length (cond wide (slot ∷ None ∷ []) (slot ∷ [])) ≡ cond wide 2 1
many_slots true slot = refl
many_slots false slot = refl

pub goes_on : (start : Place) (numbers left : ℕ) (places added : List ℕ) (place : Place) (entry : Entry) (after : Place) (taken : ℕ) → IsListing start numbers places left place → 0 < left → entry_at left place ≡ Ok (entry, after)
    → taken ≡ width_of entry → added ≡ places ++ places_of (slots_of place.at entry) → IsListing start numbers added (left - taken) after
goes_on start numbers left places added place entry after taken listing some found taken_is added_is =
    let one = entry_found left place (entry, after) listing.takes.fits found in
    let room : width_of entry ≤ left = enough start numbers left places place entry after listing some found in
    let step = first_and_rest left place entry after some room found in
    let slots : placed start.at (listing.front ++ entry ∷ []) ≡ placed start.at listing.front ++ slots_of place.at entry =
    placed_push start.at listing.front entry ∙ ap (λ (n : ℕ). placed start.at listing.front ++ slots_of n entry) (sym listing.takes.moved) in
    let long : length (places_of (slots_of place.at entry)) ≡ width_of entry = length-map (slots_of place.at entry) place_of ∙ many_slots (is_wide_tag (tag_of entry)) (Some (record { at = place.at; entry = entry })) in
    record {
      front = listing.front ++ entry ∷ [];
      takes = subst (λ (l : List ℕ). Takes start l after) (sym (spelled_push listing.front entry)) (takes_both start place after (flat_map spelled_entry listing.front) (spelled_entry entry) listing.takes one.takes);
      so_far = ap (λ (n : ℕ). with_front (listing.front ++ entry ∷ []) (entries_at (left - n) after)) taken_is ∙ sym (regroup listing.front entry (entries_at (left - width_of entry) after)) ∙ ap (with_front listing.front) (sym step) ∙ listing.so_far;
      places_are = added_is ∙ ap (λ (l : List ℕ). l ++ places_of (slots_of place.at entry)) listing.places_are ∙ ap (λ (l : List ℕ). 0 ∷ l) (sym (map-append place_of (placed start.at listing.front) (slots_of place.at entry)) ∙ ap places_of (sym slots));
      many = omega (arith, listing.many, taken_is, room, ap length added_is, length-append places (places_of (slots_of place.at entry)), long);
    }

pub fails : (start : Place) (numbers left : ℕ) (places : List ℕ) (place : Place) (fault : PoolFault) → IsListing start numbers places left place → 0 < left → entry_at left place ≡ Err fault → entries_at numbers start ≡ Err fault
fails start numbers left places place fault listing some found = sym listing.so_far ∙ ap (with_front listing.front) (fails_first left place fault some found)

pub is_done : (start : Place) (numbers left : ℕ) (places : List ℕ) (place : Place) → IsListing start numbers places left place → left ≤ 0 → ArePlaces start places place (entries_at numbers start)
unfolding entries_at
is_done start numbers left places place listing none =
    let zero_left : left ≡ 0 = omega (arith, none) in
    let last : entries_at left place ≡ Ok ([], place) = ap (λ (n : ℕ). entries_at n place) zero_left in
    record {
      entries = listing.front;
      found = sym listing.so_far ∙ ap (with_front listing.front) last ∙ ap (λ (l : List Entry). Ok (l, place)) (append-nil listing.front);
      places_are = listing.places_are;
    }
