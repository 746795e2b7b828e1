-- What is read as a pool is the pool that the bytes are, and where they are none the fault is the first.
use Rattle.std.proofs.Common.{◌≡◌, ℕ, zero, suc, ◌+◌, ◌-◌, ◌<◌, ◌≤◌, ◌⊎◌, Bool, true, false, cond, ltb, List, ◌++◌, length, Option, Some, None, Ok, Err, refl, sym, ap, subst, ◌∙◌, append_assoc, arith, inl, inr}
use Rattle.std.specs.Prelude.{◌==◌}
use Rattle.std.specs.List.{flat_map}
use Rattle.std.proofs.lemmas.Bool.{eqb-true, ltb-true, lt-ltb, ltb-false, le-ltb}
use Rattle.byteorder.specs.Endian.{big_number}
use Rattle.byteorder.specs.Numbers.{length-bytes_high_first}
use Rattle.ms_pool.specs.declared.pool.PoolFault.{PoolFault}
use Rattle.ms_pool.specs.declared.pool.PoolFault.TheVariants.{Short, Pool, Index}
use Rattle.ms_pool.specs.Places.{Place, behind}
use Rattle.ms_pool.specs.Numbers.{IsBytes, width2}
use Rattle.ms_pool.specs.Exact.{err_is, ok_is, then_err, then_ok}
use Rattle.ms_pool.specs.Pools.{Entry, HasFirstFault, HasPool, IsFirstFault, IsPool, Placed, fault_of_entry, numbered, spelled_entry, spelled_pool, u2, unlinked, width}
use Rattle.ms_pool.specs.PoolReading.{Read, entries_at, linked, of_short, pool_at, u2_at}
use Rattle.ms_pool.proofs.Entries.{Takes, number_takes, takes_both}
use Rattle.ms_pool.proofs.Again.{number_reaches}
use Rattle.ms_pool.proofs.Lists.{breaks_again, either_err, either_read, entries_break, entries_found, entries_reach, place_is, which}

-- the links hold
linked_ok : (entries : List Entry × Place) (first : Option Placed) (y : List Entry × Place) → linked entries first ≡ Ok y → (first ≡ None) × (entries ≡ y)
linked_ok entries None y found = (refl, ok_is entries y found)
linked_ok entries (Some placed) y found = absurd cc

linked_err : (entries : List Entry × Place) (first : Option Placed) (fault : PoolFault) → linked entries first ≡ Err fault → (placed : Placed) × (first ≡ Some placed) × (fault ≡ Index placed.at)
linked_err entries None fault found = absurd cc
linked_err entries (Some placed) fault found = (placed, refl, sym (err_is {A = List Entry × Place} (Index placed.at) fault found))

above_zero : (n : ℕ) → (n == 0) ≡ false → 0 < n
above_zero zero is = absurd cc
above_zero (suc n) is = omega arith

pub not_zero : (n : ℕ) → 0 < n → (n == 0) ≡ false
not_zero n some = elim (which (n == 0)) [
  | inl none ↦ absurd (omega (arith, some, eqb-true n 0 none))
  | inr other ↦ other
]

-- the count, and the entries behind it
counted : (place : Place) (count : ℕ × Place) (entries : List Entry) (after : Place) → Takes place (u2 count.0) count.1 → Takes count.1 (flat_map spelled_entry entries) after → count.0 ≡ width entries + 1 → Takes place (spelled_pool entries) after
counted place count entries after one two many = takes_both place count.1 after (u2 (width entries + 1)) (flat_map spelled_entry entries) (subst (λ (n : ℕ). Takes place (u2 n) count.1) many one) two

pub pool_found : (place : Place) (x : List Entry × Place) → IsBytes place.left → pool_at place ≡ Ok x → IsPool place x.0 x.1
unfolding pool_at
pool_found place x fits found =
    then_ok (u2_at place) _ x found (λ count at_count more.
    let one = number_takes 2 width2 place count fits at_count in
    elim (either_read (count.0 == 0) _ _ x more) [
      | inl p ↦ absurd (let q = p.1 in cc)
      | inr p ↦
          let some : 0 < count.0 = above_zero count.0 p.0 in
          then_ok (entries_at (count.0 - 1) count.1) _ x p.1 (λ entries at_entries last.
          let all = entries_found (count.0 - 1) count.1 entries one.0.fits at_entries in
          let many : count.0 ≡ width entries.0 + 1 = omega (arith, some, all.many) in
          let takes = counted place count entries.0 entries.1 one.0 all.takes many in
          let links = linked_ok entries (unlinked (numbered place.at entries.0)) x last in
          subst (λ (y : List Entry × Place). IsPool place y.0 y.1) links.1
          (record {
            count = omega (arith, one.1, many);
            spelled = record { fit = all.sound; bytes = takes.bytes ∙ append_assoc (u2 (width entries.0 + 1)) (flat_map spelled_entry entries.0) entries.1.left };
            moved = takes.moved;
            linked = links.0;
          }))
    ])

-- the count is read, and then the entries
pub reaches_entries : (place : Place) (count : ℕ) (more : List ℕ) → count < 65536 → 0 < count → place.left ≡ u2 count ++ more → (next : Place) × (next.left ≡ more) × (u2_at place ≡ Ok (count, next)) × ((count == 0) ≡ false)
reaches_entries place count more below some spelled =
    let one = number_reaches 2 count place more below spelled in
    (one.after, one.left, one.found, not_zero count some)

pub pool_reaches : (place after : Place) (entries : List Entry) → IsBytes place.left → IsPool place entries after → pool_at place ≡ Ok (entries, after)
unfolding pool_at
pool_reaches place after entries fits is =
    let start = reaches_entries place (width entries + 1) (flat_map spelled_entry entries ++ after.left) (omega (arith, is.count)) (omega arith) is.spelled.bytes in
    let all = entries_reach (width entries) entries start.0 after.left is.spelled.fit refl start.1 in
    let less : width entries + 1 - 1 ≡ width entries = omega arith in
    let found : pool_at place ≡ Ok (entries, all.after) = rw (start.2, start.3, less, all.found, is.linked) refl in
    let again = pool_found place (entries, all.after) fits found in
    let same : all.after ≡ after = place_is all.after after (again.moved ∙ sym is.moved) all.left in
    found ∙ ap (λ (p : Place). Ok (entries, p)) same

-- THE FIRST FAULT

-- the count doesn't fit
short_count : (place : Place) (fault : PoolFault) → u2_at place ≡ Err fault → (length place.left < 2) × (fault ≡ Short place.at)
short_count place fault found = by_test (ltb (length place.left) 2) refl found
  where
    by_test : (b : Bool) → ltb (length place.left) 2 ≡ b → of_short {X = ℕ × Place} (cond b (Err (record { at = place.at })) (Ok (big_number 2 place.left, behind place 2))) ≡ Err fault → (length place.left < 2) × (fault ≡ Short place.at)
    by_test true is found = (ltb-true _ _ is, sym (err_is {A = ℕ × Place} (Short place.at) fault found))
    by_test false is found = absurd cc

-- the count is the number there
count_is : (place : Place) (count : ℕ × Place) → u2_at place ≡ Ok count → (2 ≤ length place.left) × (big_number 2 place.left ≡ count.0)
count_is place count found = by_test (ltb (length place.left) 2) refl found
  where
    by_test : (b : Bool) → ltb (length place.left) 2 ≡ b → of_short {X = ℕ × Place} (cond b (Err (record { at = place.at })) (Ok (big_number 2 place.left, behind place 2))) ≡ Ok count → (2 ≤ length place.left) × (big_number 2 place.left ≡ count.0)
    by_test true is found = absurd cc
    by_test false is found = (ltb-false _ _ is, ap (λ (x : ℕ × Place). x.0) (ok_is (big_number 2 place.left, behind place 2) count found))

pub pool_breaks : (place : Place) (fault : PoolFault) → IsBytes place.left → pool_at place ≡ Err fault → IsFirstFault place fault
unfolding pool_at
pool_breaks place fault fits found =
    then_err (u2_at place) _ fault found (λ short. inl (short_count place fault short)) (λ count at_count more.
    let one = number_takes 2 width2 place count fits at_count in
    let two : length (u2 count.0) ≡ 2 = length-bytes_high_first 2 count.0 in
    elim (either_err (count.0 == 0) _ _ fault more) [
      | inl p ↦
          let number = count_is place count at_count in
          inr (inl (number.0, number.1 ∙ eqb-true count.0 0 p.0, sym (err_is {A = List Entry × Place} (Pool place.at) fault p.1)))
      | inr p ↦
          let some : 0 < count.0 = above_zero count.0 p.0 in
          then_err (entries_at (count.0 - 1) count.1) _ fault p.1
          (λ broken.
          let b = entries_break (count.0 - 1) count.1 fault one.0.fits broken in
          let spelled : place.left ≡ u2 count.0 ++ flat_map spelled_entry b.before ++ b.at.left = one.0.bytes ∙ ap (λ l. u2 count.0 ++ l) b.takes.bytes in
          let there : b.at ≡ record { at = place.at + 2 + length (flat_map spelled_entry b.before); left = b.at.left } = place_is b.at (record { at = place.at + 2 + length (flat_map spelled_entry b.before); left = b.at.left }) (omega (arith, b.takes.moved, one.0.moved, two)) refl in
          inr (inr (inl (record {
            count = count.0;
            before = b.before;
            rest = b.at.left;
            fits = omega (arith, one.1);
            spelled = record { fit = b.sound; bytes = spelled };
            more = omega (arith, b.more);
            fault_is = ap (fault_of_entry (count.0 - 1 - width b.before)) (sym there) ∙ b.fault_is;
          }))))
          (λ entries at_entries last.
          let all = entries_found (count.0 - 1) count.1 entries one.0.fits at_entries in
          let many : count.0 ≡ width entries.0 + 1 = omega (arith, some, all.many) in
          let takes = counted place count entries.0 entries.1 one.0 all.takes many in
          let links = linked_err entries (unlinked (numbered place.at entries.0)) fault last in
          inr (inr (inr (record {
            entries = entries.0;
            rest = entries.1.left;
            count = omega (arith, one.1, many);
            spelled = record { fit = all.sound; bytes = takes.bytes ∙ append_assoc (u2 (width entries.0 + 1)) (flat_map spelled_entry entries.0) entries.1.left };
            placed = links.0;
            first = links.1;
            fault_is = links.2;
          }))))
    ])

pub pool_breaks_again : (place : Place) (fault : PoolFault) → IsBytes place.left → IsFirstFault place fault → pool_at place ≡ Err fault
unfolding pool_at
pool_breaks_again place fault fits (inl short) =
    let test : ltb (length place.left) 2 ≡ true = lt-ltb _ _ short.0 in
    rw (test, short.1) refl
pool_breaks_again place fault fits (inr (inl none)) =
    let test : ltb (length place.left) 2 ≡ false = le-ltb _ _ none.0 in
    let zero_is : (big_number 2 place.left == 0) ≡ true = ap (λ (n : ℕ). n == 0) none.1 in
    rw (test, zero_is, none.2) refl
pool_breaks_again place fault fits (inr (inr (inl b))) =
    let start = reaches_entries place b.count (flat_map spelled_entry b.before ++ b.rest) (omega (arith, b.fits)) (omega (arith, b.more)) b.spelled.bytes in
    let one = number_takes 2 width2 place (b.count, start.0) fits start.2 in
    let two : length (u2 b.count) ≡ 2 = length-bytes_high_first 2 b.count in
    let at : Place = record { at = place.at + 2 + length (flat_map spelled_entry b.before); left = b.rest } in
    let broken = breaks_again (b.count - 1) b.before start.0 at fault one.0.fits b.spelled.fit (omega (arith, b.more)) start.1 (omega (arith, one.0.moved, two)) b.fault_is in
    rw (start.2, start.3, broken) refl
pool_breaks_again place fault fits (inr (inr (inr b))) =
    let start = reaches_entries place (width b.entries + 1) (flat_map spelled_entry b.entries ++ b.rest) (omega (arith, b.count)) (omega arith) b.spelled.bytes in
    let all = entries_reach (width b.entries) b.entries start.0 b.rest b.spelled.fit refl start.1 in
    let less : width b.entries + 1 - 1 ≡ width b.entries = omega arith in
    rw (start.2, start.3, less, all.found, b.first, b.fault_is) refl

-- the bytes determine the pool
pub one_pool : (place after after' : Place) (entries entries' : List Entry) → IsBytes place.left → IsPool place entries after → IsPool place entries' after' → (entries ≡ entries') × (after ≡ after')
one_pool place after after' entries entries' fits p q =
    let same : (entries, after) ≡ (entries', after') = ok_is (entries, after) (entries', after') (sym (pool_reaches place after entries fits p) ∙ pool_reaches place after' entries' fits q) in
    (ap (λ (x : List Entry × Place). x.0) same, ap (λ (x : List Entry × Place). x.1) same)

-- and the fault
pub one_fault : (place : Place) (fault fault' : PoolFault) → IsBytes place.left → IsFirstFault place fault → IsFirstFault place fault' → fault ≡ fault'
one_fault place fault fault' fits p q = err_is {A = List Entry × Place} fault fault' (sym (pool_breaks_again place fault fits p) ∙ pool_breaks_again place fault' fits q)

-- not both of them
pub not_both : (place after : Place) (entries : List Entry) (fault : PoolFault) → IsBytes place.left → IsPool place entries after → IsFirstFault place fault → ⊥
not_both place after entries fault fits p q = absurd (let e = sym (pool_reaches place after entries fits p) ∙ pool_breaks_again place fault fits q in cc)

-- but one of them
pub pool_or_fault : (place : Place) → IsBytes place.left → HasPool place ⊎ HasFirstFault place
pool_or_fault place fits = by_read (pool_at place) refl
  where
    by_read : (read : Read (List Entry)) → pool_at place ≡ read → HasPool place ⊎ HasFirstFault place
    by_read (Ok x) is = inl (record { entries = x.0; after = x.1; is = pool_found place x fits is })
    by_read (Err fault) is = inr (record { fault = fault; is = pool_breaks place fault fits is })
