-- The constant pool that is read is spelled there, and one that is spelled is read.
use Rattle.std.proofs.Common.{◌≡◌, ℕ, ◌+◌, ◌-◌, ◌^◌, ◌<◌, true, ltb, eqb, List, ◌++◌, length, Some, refl, ap, subst, ◌∙◌, append_assoc, arith, inl, inr}
use Rattle.std.specs.Prelude.{IsTrue, ◌==◌, nat_lt}
use Rattle.std.specs.List.{list_all, flat_map, AllByRecursion}
use Rattle.std.proofs.lemmas.Bool.{ltb-true, lt-ltb, eqb-true}
use Rattle.ms_pool.specs.Places.{Place}
use Rattle.ms_pool.specs.Numbers.{width1, width2}
use Rattle.ms_classfile.specs.ThinFile.{Entry, Utf8, Class, u1, u2, spelled_entry, spelled_pool, EntryFits, is_linked}
use Rattle.ms_classfile.specs.Reading.{provided, u1_at, u2_at, bytes_at, repeated, text_at, class_at, entry_at, pool_at}
use Rattle.ms_classfile.proofs.Steps.{then_some, provided_some, some_is, either}
use Rattle.ms_classfile.proofs.Spelling.{Takes, Takes-is, Reaches, number_takes, number_reaches, run_takes, run_reaches, repeated_takes, repeated_reaches}

text_takes : (start front : List ℕ) (place : Place) (x : Entry × Place) → Takes start (front ++ u1 1) place.left → text_at place ≡ Some x → Takes start (front ++ spelled_entry x.0) x.1.left × EntryFits x.0
unfolding text_at
text_takes start front place x takes found =
    then_some (u2_at place) _ x found (λ size at_size more.
    then_some (bytes_at size.0 size.1) _ x more (λ text at_text last.
    let one = number_takes 2 width2 start (front ++ u1 1) place size takes at_size in
    let two = run_takes size.0 start (front ++ u1 1 ++ u2 size.0) size.1 text one.0 at_text in
    let regrouped : front ++ u1 1 ++ u2 size.0 ++ text.0 ≡ front ++ spelled_entry (Utf8 text.0) = rw two.1.0 (simp append_assoc) in
    subst (λ (y : Entry × Place). Takes start (front ++ spelled_entry y.0) y.1.left × EntryFits y.0) (some_is (Utf8 text.0, text.1) x last)
    (Takes-is start _ _ _ regrouped two.0, rw two.1.0 one.1)))

class_takes : (start front : List ℕ) (place : Place) (x : Entry × Place) → Takes start (front ++ u1 7) place.left → class_at place ≡ Some x → Takes start (front ++ spelled_entry x.0) x.1.left × EntryFits x.0
unfolding class_at
class_takes start front place x takes found =
    then_some (u2_at place) _ x found (λ name at_name last.
    let one = number_takes 2 width2 start (front ++ u1 7) place name takes at_name in
    subst (λ (y : Entry × Place). Takes start (front ++ spelled_entry y.0) y.1.left × EntryFits y.0) (some_is (Class name.0, name.1) x last)
    (Takes-is start _ _ _ (append_assoc front (u1 7) (u2 name.0)) one.0, one.1))

tag_is : (start front : List ℕ) (tag : ℕ × Place) (n : ℕ) → Takes start (front ++ u1 tag.0) tag.1.left → eqb tag.0 n ≡ true → Takes start (front ++ u1 n) tag.1.left
tag_is start front tag n takes e = Takes-is start _ _ _ (ap (λ (k : ℕ). front ++ u1 k) (eqb-true _ _ e)) takes

entry_takes : (start front : List ℕ) (place : Place) (x : Entry × Place) → Takes start front place.left → entry_at place ≡ Some x → Takes start (front ++ spelled_entry x.0) x.1.left × EntryFits x.0
unfolding entry_at
entry_takes start front place x takes found =
    then_some (u1_at place) _ x found (λ tag at_tag more.
    let one = number_takes 1 width1 start front place tag takes at_tag in
    elim (either (tag.0 == 1) (text_at tag.1) (provided (tag.0 == 7) (class_at tag.1)) (Some x) more) [
      | inl p ↦ text_takes start front tag.1 x (tag_is start front tag 1 one.0 p.0) p.1
      | inr p ↦
          let q = provided_some (tag.0 == 7) (class_at tag.1) x p.1 in
          class_takes start front tag.1 x (tag_is start front tag 7 one.0 q.0) q.1
    ])

entry_reaches : (x : Entry) (place : Place) (rest : List ℕ) → EntryFits x → place.left ≡ spelled_entry x ++ rest → Reaches (entry_at place) x rest
unfolding entry_at text_at class_at
entry_reaches (Utf8 text) place rest fits spelled =
    let tag = number_reaches 1 1 place (u2 (length text) ++ (text ++ rest)) (omega arith) spelled in
    let size = number_reaches 2 (length text) tag.after (text ++ rest) fits tag.left in
    let run = run_reaches text size.after rest size.left in
    record { after = run.after; found = rw (tag.found, size.found, run.found) refl; left = run.left }
entry_reaches (Class name) place rest fits spelled =
    let tag = number_reaches 1 7 place (u2 name ++ rest) (omega arith) spelled in
    let number = number_reaches 2 name tag.after rest fits tag.left in
    record { after = number.after; found = rw (tag.found, number.found) refl; left = number.left }

-- what has a spelling as a pool, and links within it
pub record IsPool (pool : List Entry) : Type 0 where
  pub entries : length pool + 1 < 2 ^ 16
  pub each : AllByRecursion EntryFits pool
  pub links : IsTrue (list_all (is_linked pool) pool)

pub pool_takes : (start front : List ℕ) (place : Place) (x : List Entry × Place) → Takes start front place.left → pool_at place ≡ Some x → Takes start (front ++ spelled_pool x.0) x.1.left × IsPool x.0
unfolding pool_at
pool_takes start front place x takes found =
    then_some (u2_at place) _ x found (λ count at_count more.
    then_some (provided (nat_lt 0 count.0) (repeated entry_at (count.0 - 1) count.1)) _ x more (λ pool at_pool last.
    let several = provided_some (nat_lt 0 count.0) (repeated entry_at (count.0 - 1) count.1) pool at_pool in
    let linked = provided_some (list_all (is_linked pool.0) pool.0) (Some pool) x last in
    let above : 0 < count.0 = ltb-true _ _ several.0 in
    let one = number_takes 2 width2 start front place count takes at_count in
    let all = repeated_takes entry_at spelled_entry EntryFits entry_takes (count.0 - 1) start (front ++ u2 count.0) count.1 pool one.0 several.1 in
    let number : count.0 ≡ length pool.0 + 1 = omega (arith, all.1.0) in
    let regrouped : front ++ u2 count.0 ++ flat_map spelled_entry pool.0 ≡ front ++ spelled_pool pool.0 =
    append_assoc front (u2 count.0) (flat_map spelled_entry pool.0) ∙ ap (λ (n : ℕ). front ++ (u2 n ++ flat_map spelled_entry pool.0)) number in
    subst (λ (y : List Entry × Place). Takes start (front ++ spelled_pool y.0) y.1.left × IsPool y.0) (some_is pool x linked.1)
    (Takes-is start _ _ _ regrouped all.0, record { entries = rw (← number) one.1; each = all.1.1; links = linked.0 })))

pub pool_reaches : (pool : List Entry) (place : Place) (rest : List ℕ) → IsPool pool → place.left ≡ spelled_pool pool ++ rest → Reaches (pool_at place) pool rest
unfolding pool_at
pool_reaches pool place rest sound spelled =
    let count = number_reaches 2 (length pool + 1) place (flat_map spelled_entry pool ++ rest) sound.entries spelled in
    let above : ltb 0 (length pool + 1) ≡ true = lt-ltb _ _ (omega arith) in
    let fewer : length pool + 1 - 1 ≡ length pool = omega arith in
    let all = repeated_reaches entry_at spelled_entry EntryFits entry_reaches pool count.after rest sound.each count.left in
    record { after = all.after; found = rw (count.found, above, fewer, all.found, sound.links) refl; left = all.left }
