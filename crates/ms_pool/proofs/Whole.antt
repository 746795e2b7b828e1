-- A pool that is read behind its count stands in the bytes, and a fault on the way is that of the reading.
use Rattle.std.proofs.Common.{◌≡◌, ℕ, ◌+◌, ◌-◌, ◌<◌, ◌⊎◌, List, ◌∷◌, ◌++◌, length, drop, Option, Some, None, Result, Ok, Err, IfErr, refl, ap, sym, subst, ◌∙◌, arith, inl, inr, option_map, unwrap_or}
use Rattle.std.specs.List.{flat_map}
use Rattle.std.proofs.lemmas.List.{drop-drop, drop_at}
use Rattle.byteorder.specs.Numbers.{length-bytes_high_first}
use Rattle.ms_pool.specs.declared.cursor.Short as cursor
use Rattle.ms_pool.specs.declared.pool.PoolFault.{PoolFault}
use Rattle.ms_pool.specs.declared.pool.PoolFault.TheVariants.{Short, Pool, Index, NoMemory}
use Rattle.ms_pool.specs.Places.{Place, number_at, place_in}
use Rattle.ms_pool.specs.Numbers.{IsBytes, IsBytes-drop, width2}
use Rattle.ms_pool.specs.Pools.{IsFirstFault, IsPoolOf, Placed, numbered, placed, spelled_entry, u2, unlinked}
use Rattle.ms_pool.specs.PoolReading.{entries_at, linked, of_short, pool_at}
use Rattle.ms_pool.specs.ByNumber.{entries_in, places_of}
use Rattle.ms_pool.specs.Found.{AreCounted, ArePlaces, Fails, Lists}
use Rattle.ms_pool.proofs.Entries.{number_takes}
use Rattle.ms_pool.proofs.Lists.{entries_found}
use Rattle.ms_pool.proofs.Pools.{not_zero, pool_breaks, pool_found}
use Rattle.ms_pool.proofs.Slots.{entries_stand}

pub fit_here : (bytes : List ℕ) (place : Place) → IsBytes bytes → place ≡ place_in bytes place.at → IsBytes place.left
fit_here bytes place fits is = subst (λ (p : Place). IsBytes p.left) (sym is) (IsBytes-drop place.at bytes fits)

pub fit_behind : (place : Place) (count : ℕ) (second : Place) → IsBytes place.left → number_at 2 place ≡ Ok (count, second) → IsBytes second.left
fit_behind place count second fits found = (number_takes 2 width2 place (count, second) fits (ap of_short found)).0.fits

pub counted : (place second after : Place) (count : ℕ) (places : List ℕ) → IsBytes place.left → number_at 2 place ≡ Ok (count, second) → 0 < count → ArePlaces second places after (entries_at (count - 1) second) → AreCounted place places after
unfolding pool_at
counted place second after count places fits found some listed =
    let at_count : of_short (number_at 2 place) ≡ Ok (count, second) = ap of_short found in
    let one = number_takes 2 width2 place (count, second) fits at_count in
    let two : length (u2 count) ≡ 2 = length-bytes_high_first 2 count in
    let all = entries_found (count - 1) second (listed.entries, after) one.0.fits listed.found in
    record {
      entries = listed.entries;
      count = count;
      spelled = record { fit = all.sound; bytes = one.0.bytes ∙ ap (λ l. u2 count ++ l) all.takes.bytes };
      read = rw (at_count, not_zero count some, listed.found) refl;
      places_are = listed.places_are ∙ ap (λ (n : ℕ). 0 ∷ places_of (placed n listed.entries)) (omega (arith, one.0.moved, two));
    }

-- THE FIRST FAULT

pub short_count : (place : Place) (short : cursor.Short) → number_at 2 place ≡ Err short → Fails (Short short.at) (pool_at place)
unfolding pool_at
short_count place short found = inr (rw found refl)

pub no_count : (place second : Place) (count : ℕ) → number_at 2 place ≡ Ok (count, second) → count ≡ 0 → Fails (Pool place.at) (pool_at place)
unfolding pool_at
no_count place second count found none = inr (rw (found, none) refl)

pub fails_behind : {X : Type 0} (seen : X → List ℕ) (place second after : Place) (count : ℕ) (result : Result X PoolFault) → number_at 2 place ≡ Ok (count, second) → 0 < count → Lists seen second result after (entries_at (count - 1) second) → IfErr result (λ fault. Fails fault (pool_at place))
unfolding pool_at
fails_behind seen place second after count (Ok x) found some listed = tt
fails_behind seen place second after count (Err fault) found some (inl memory) = inl memory
fails_behind seen place second after count (Err fault) found some (inr broken) = inr (rw (found, not_zero count some, broken) refl)

-- WHAT THE ENTRIES NAME

pub all_stand : (bytes : List ℕ) (place after : Place) (places : List ℕ) → place ≡ place_in bytes place.at → (all : AreCounted place places after) → entries_in bytes places ≡ numbered place.at all.entries
all_stand bytes place after places is all =
    let behind : drop (place.at + 2) bytes ≡ flat_map spelled_entry all.entries ++ after.left =
    sym (drop-drop 2 place.at bytes) ∙ ap (drop 2) (ap (λ (p : Place). p.left) (sym is) ∙ all.spelled.bytes) ∙ drop_at (u2 all.count) (flat_map spelled_entry all.entries ++ after.left) 2 (length-bytes_high_first 2 all.count) in
    ap (entries_in bytes) all.places_are ∙ ap (λ (slots : List (Option Placed)). None ∷ slots) (entries_stand bytes (place.at + 2) all.entries after.left (omega arith) all.spelled.fit behind)

-- the places are those of what stands in the bytes
pub kept : (bytes : List ℕ) (place after : Place) (places : List ℕ) → place ≡ place_in bytes place.at → AreCounted place places after → places_of (entries_in bytes places) ≡ places
kept bytes place after places is all = ap places_of (all_stand bytes place after places is all) ∙ sym all.places_are

pub unlinked_at : (bytes : List ℕ) (place after : Place) (places : List ℕ) (at : ℕ) → IsBytes bytes → place ≡ place_in bytes place.at → AreCounted place places after → Some at ≡ option_map (λ (p : Placed). p.at) (unlinked (entries_in bytes places)) → IsFirstFault place (Index at)
unlinked_at bytes place after places at fits is all found =
    pool_breaks place (Index at) (fit_here bytes place fits is)
    (all.read ∙ by_first (unlinked (numbered place.at all.entries)) (found ∙ ap (λ (slots : List (Option Placed)). option_map (λ (p : Placed). p.at) (unlinked slots)) (all_stand bytes place after places is all)))
  where
    by_first : (first : Option Placed) → Some at ≡ option_map (λ (p : Placed). p.at) first → linked (all.entries, after) first ≡ Err (Index at)
    by_first None same = absurd cc
    by_first (Some p) same = ap (λ (n : Option ℕ). Err (Index (unwrap_or n at))) (sym same)

pub all_linked : (bytes : List ℕ) (place after : Place) (places : List ℕ) → IsBytes bytes → place ≡ place_in bytes place.at → AreCounted place places after → None ≡ option_map (λ (p : Placed). p.at) (unlinked (entries_in bytes places)) → IsPoolOf place (entries_in bytes places) after
all_linked bytes place after places fits is all found =
    let slots_are = all_stand bytes place after places is all in
    record {
      entries = all.entries;
      is = pool_found place (all.entries, after) (fit_here bytes place fits is) (all.read ∙ by_first (unlinked (numbered place.at all.entries)) (found ∙ ap (λ (slots : List (Option Placed)). option_map (λ (p : Placed). p.at) (unlinked slots)) slots_are));
      slots_are = slots_are;
    }
  where
    by_first : (first : Option Placed) → None ≡ option_map (λ (p : Placed). p.at) first → linked (all.entries, after) first ≡ Ok (all.entries, after)
    by_first None same = refl
    by_first (Some p) same = absurd cc

pub first_fault : (bytes : List ℕ) (place : Place) (fault : PoolFault) → IsBytes bytes → place ≡ place_in bytes place.at → Fails fault (pool_at place) → (fault ≡ NoMemory) ⊎ IsFirstFault place fault
first_fault bytes place fault fits is (inl memory) = inl memory
first_fault bytes place fault fits is (inr broken) = inr (pool_breaks place fault (fit_here bytes place fits is) broken)
