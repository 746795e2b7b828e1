-- The entries that are read are spelled there, one after another, and those that are spelled are read again.
use Rattle.std.proofs.Common.{◌≡◌, ℕ, zero, suc, ◌+◌, ◌-◌, ◌<◌, ◌⊎◌, Bool, true, false, cond, List, [], ◌∷◌, ◌++◌, length, Some, Result, Ok, Err, refl, sym, ap, subst, ◌∙◌, append_assoc, length-append, arith, inl, inr}
use Rattle.std.specs.Prelude.{◌==◌}
use Rattle.std.specs.List.{AllByRecursion, flat_map}
use Rattle.std.proofs.lemmas.Bool.{eqb-true}
use Rattle.ms_pool.specs.declared.pool.PoolFault.{PoolFault}
use Rattle.ms_pool.specs.Places.{Place}
use Rattle.ms_pool.specs.Numbers.{IsBytes}
use Rattle.ms_pool.specs.Exact.{ok_is, then_err, then_ok}
use Rattle.ms_pool.specs.Pools.{Entry, IsEntry, fault_of_entry, is_wide_tag, spelled_entry, tag_of, width, width_of}
use Rattle.ms_pool.specs.PoolReading.{◌>>=◌, Read, entry_at, entries_at}
use Rattle.ms_pool.proofs.Entries.{Takes, entry_found, takes_both}
use Rattle.ms_pool.proofs.Faults.{entry_fault, fault_in}
use Rattle.ms_pool.proofs.Again.{Reaches, entry_reaches}

-- these entries were read there, and take so many numbers
pub record AreFound (left : ℕ) (place : Place) (x : List Entry × Place) : Type 0 where
  pub takes : Takes place (flat_map spelled_entry x.0) x.1
  pub sound : AllByRecursion IsEntry x.0
  pub many : width x.0 ≡ left

pub narrow : (wide : Bool) → wide ≡ false → ◌≡◌ {A = ℕ} (cond wide 2 1) 1
narrow true is = absurd cc
narrow false is = refl

pub broad : (wide : Bool) → wide ≡ true → ◌≡◌ {A = ℕ} (cond wide 2 1) 2
broad true is = refl
broad false is = absurd cc

pub which : (b : Bool) → (b ≡ true) ⊎ (b ≡ false)
which true = inl refl
which false = inr refl

not_both : {X : Type 0} → (b : Bool) → b ≡ true → b ≡ false → X
not_both true p q = absurd cc
not_both false p q = absurd cc

pub takes_none : (place : Place) → IsBytes place.left → Takes place [] place
takes_none place fits = record { bytes = refl; moved = omega arith; fits = fits }

entry_first : (left : ℕ) (entry : Entry) (rest : List Entry) (place between after : Place) → Takes place (spelled_entry entry) between → Takes between (flat_map spelled_entry rest) after → Takes place (flat_map spelled_entry (entry ∷ rest)) after
entry_first left entry rest place between after p q = takes_both place between after (spelled_entry entry) (flat_map spelled_entry rest) p q

pub either_read : {X : Type 0} (b : Bool) (x y : Result X PoolFault) (z : X) → cond b x y ≡ Ok z → ((b ≡ true) × (x ≡ Ok z)) ⊎ ((b ≡ false) × (y ≡ Ok z))
either_read true x y z is = inl (refl, is)
either_read false x y z is = inr (refl, is)

pub entries_found : (left : ℕ) (place : Place) (x : List Entry × Place) → IsBytes place.left → entries_at left place ≡ Ok x → AreFound left place x
unfolding entries_at
entries_found zero place x fits found =
    subst (AreFound 0 place) (ok_is ([], place) x found) (record { takes = takes_none place fits; sound = tt; many = refl })
entries_found (suc zero) place x fits found =
    then_ok (entry_at 1 place) _ x found (λ entry at_entry last.
    let one = entry_found 1 place entry fits at_entry in
    let other : is_wide_tag (tag_of entry.0) ≡ false = elim (which (is_wide_tag (tag_of entry.0))) [
      | inl wide ↦ absurd (let r = one.room wide in cc)
      | inr not_wide ↦ not_wide
    ] in
    subst (AreFound 1 place) (ok_is (entry.0 ∷ [], entry.1) x last)
    (record {
      takes = entry_first 1 entry.0 [] place entry.1 entry.1 one.takes (takes_none entry.1 one.takes.fits);
      sound = (one.sound, tt);
      many = omega (arith, narrow (is_wide_tag (tag_of entry.0)) other);
    }))
entries_found (suc (suc left)) place x fits found =
    then_ok (entry_at (suc (suc left)) place) _ x found (λ entry at_entry more.
    then_ok (cond (is_wide_tag (tag_of entry.0)) (entries_at left entry.1) (entries_at (suc left) entry.1)) _ x more (λ rest at_rest last.
    let one = entry_found (suc (suc left)) place entry fits at_entry in
    subst (AreFound (suc (suc left)) place) (ok_is (entry.0 ∷ rest.0, rest.1) x last)
    (elim (either_read (is_wide_tag (tag_of entry.0)) (entries_at left entry.1) (entries_at (suc left) entry.1) rest at_rest) [
      | inl p ↦
          let others = entries_found left entry.1 rest one.takes.fits p.1 in
          record {
            takes = entry_first left entry.0 rest.0 place entry.1 rest.1 one.takes others.takes;
            sound = (one.sound, others.sound);
            many = omega (arith, broad (is_wide_tag (tag_of entry.0)) p.0, others.many);
          }
      | inr p ↦
          let others = entries_found (suc left) entry.1 rest one.takes.fits p.1 in
          record {
            takes = entry_first left entry.0 rest.0 place entry.1 rest.1 one.takes others.takes;
            sound = (one.sound, others.sound);
            many = omega (arith, narrow (is_wide_tag (tag_of entry.0)) p.0, others.many);
          }
    ])))

-- an entry takes a number at least
positive : (wide : Bool) → ◌<◌ 0 (cond wide 2 1)
positive true = omega arith
positive false = omega arith

not_last : (left : ℕ) → 1 < left → (left == 1) ≡ false
not_last left more = elim (which (left == 1)) [
  | inl last ↦ absurd (omega (arith, more, eqb-true left 1 last))
  | inr other ↦ other
]

pub pick_true : {X : Type 0} (b : Bool) (x y z : X) → b ≡ true → x ≡ z → cond b x y ≡ z
pick_true true x y z is same = same
pick_true false x y z is same = absurd cc

pub pick_false : {X : Type 0} (b : Bool) (x y z : X) → b ≡ false → y ≡ z → cond b x y ≡ z
pick_false true x y z is same = absurd cc
pick_false false x y z is same = same

-- an entry before those that are read
abbrev before : Entry → Read (List Entry) → Read (List Entry)
before entry read = read >>= λ rest. Ok (entry ∷ rest.0, rest.1)

pub entries_reach : (left : ℕ) (entries : List Entry) (place : Place) (rest : List ℕ) → AllByRecursion IsEntry entries → width entries ≡ left → place.left ≡ flat_map spelled_entry entries ++ rest
    → Reaches (entries_at left place) entries rest
unfolding entries_at
entries_reach zero [] place rest sound many spelled = record { after = place; found = refl; left = spelled }
entries_reach zero (entry ∷ entries) place rest sound many spelled = absurd (omega (arith, many, positive (is_wide_tag (tag_of entry))))
entries_reach (suc left) [] place rest sound many spelled = absurd (omega (arith, many))
entries_reach (suc zero) (entry ∷ []) place rest sound many spelled =
    let other : is_wide_tag (tag_of entry) ≡ false = elim (which (is_wide_tag (tag_of entry))) [
      | inl wide ↦ absurd (omega (arith, many, broad (is_wide_tag (tag_of entry)) wide))
      | inr not_wide ↦ not_wide
    ] in
    let one = entry_reaches 1 entry place rest sound.0 (λ wide. not_both (is_wide_tag (tag_of entry)) wide other) (spelled ∙ append_assoc (spelled_entry entry) [] rest) in
    record { after = one.after; found = rw one.found refl; left = one.left }
entries_reach (suc zero) (entry ∷ next ∷ entries) place rest sound many spelled = absurd (omega (arith, many, positive (is_wide_tag (tag_of entry)), positive (is_wide_tag (tag_of next))))
entries_reach (suc (suc left)) (entry ∷ entries) place rest sound many spelled =
    let one = entry_reaches (suc (suc left)) entry place (flat_map spelled_entry entries ++ rest) sound.0 (λ wide. not_last (suc (suc left)) (omega arith)) (spelled ∙ append_assoc (spelled_entry entry) (flat_map spelled_entry entries) rest) in
    elim (which (is_wide_tag (tag_of entry))) [
      | inl wide ↦
          let others = entries_reach left entries one.after rest sound.1 (omega (arith, many, broad (is_wide_tag (tag_of entry)) wide)) one.left in
          record { after = others.after; found = rw one.found (ap (before entry) (pick_true (is_wide_tag (tag_of entry)) _ _ _ wide others.found)); left = others.left }
      | inr not_wide ↦
          let others = entries_reach (suc left) entries one.after rest sound.1 (omega (arith, many, narrow (is_wide_tag (tag_of entry)) not_wide)) one.left in
          record { after = others.after; found = rw one.found (ap (before entry) (pick_false (is_wide_tag (tag_of entry)) _ _ _ not_wide others.found)); left = others.left }
    ]

-- THE FIRST FAULT

-- an entry has this fault behind whole ones that leave numbers over
pub record Breaks (left : ℕ) (place : Place) (fault : PoolFault) : Type 0 where
  pub before : List Entry
  pub at : Place
  pub takes : Takes place (flat_map spelled_entry before) at
  pub sound : AllByRecursion IsEntry before
  pub more : width before < left
  pub fault_is : fault_of_entry (left - width before) at ≡ Some fault

pub err_of_fault : {X : Type 0} (read : Result X PoolFault) (fault : PoolFault) → fault_in read ≡ Some fault → read ≡ Err fault
err_of_fault (Ok x) fault is = absurd cc
err_of_fault (Err other) fault is = cc

breaks_here : (left : ℕ) (place : Place) (fault : PoolFault) → IsBytes place.left → 0 < left → entry_at left place ≡ Err fault → Breaks left place fault
breaks_here left place fault fits some is = record {
  before = [];
  at = place;
  takes = takes_none place fits;
  sound = tt;
  more = some;
  fault_is = ap (λ (n : ℕ). fault_of_entry n place) (omega arith) ∙ sym (entry_fault left place) ∙ ap fault_in is;
}

breaks_later : (left less : ℕ) (place : Place) (entry : Entry) (between : Place) (fault : PoolFault) → Takes place (spelled_entry entry) between → IsEntry entry → left ≡ width_of entry + less → Breaks less between fault → Breaks left place fault
breaks_later left less place entry between fault takes sound is b = record {
  before = entry ∷ b.before;
  at = b.at;
  takes = entry_first left entry b.before place between b.at takes b.takes;
  sound = (sound, b.sound);
  more = omega (arith, is, b.more);
  fault_is = ap (λ (n : ℕ). fault_of_entry n b.at) (omega (arith, is, b.more)) ∙ b.fault_is;
}

pub either_err : {X : Type 0} (b : Bool) (x y : Result X PoolFault) (z : PoolFault) → cond b x y ≡ Err z → ((b ≡ true) × (x ≡ Err z)) ⊎ ((b ≡ false) × (y ≡ Err z))
either_err true x y z is = inl (refl, is)
either_err false x y z is = inr (refl, is)

pub entries_break : (left : ℕ) (place : Place) (fault : PoolFault) → IsBytes place.left → entries_at left place ≡ Err fault → Breaks left place fault
unfolding entries_at
entries_break zero place fault fits found = absurd cc
entries_break (suc zero) place fault fits found =
    then_err (entry_at 1 place) _ fault found (λ first. breaks_here 1 place fault fits (omega arith) first) (λ entry at_entry last. absurd (let l = last in cc))
entries_break (suc (suc left)) place fault fits found =
    then_err (entry_at (suc (suc left)) place) _ fault found (λ first. breaks_here (suc (suc left)) place fault fits (omega arith) first) (λ entry at_entry more.
    then_err (cond (is_wide_tag (tag_of entry.0)) (entries_at left entry.1) (entries_at (suc left) entry.1)) _ fault more
    (λ failed.
    let one = entry_found (suc (suc left)) place entry fits at_entry in
    elim (either_err (is_wide_tag (tag_of entry.0)) (entries_at left entry.1) (entries_at (suc left) entry.1) fault failed) [
      | inl p ↦ breaks_later (suc (suc left)) left place entry.0 entry.1 fault one.takes one.sound (omega (arith, broad (is_wide_tag (tag_of entry.0)) p.0)) (entries_break left entry.1 fault one.takes.fits p.1)
      | inr p ↦ breaks_later (suc (suc left)) (suc left) place entry.0 entry.1 fault one.takes one.sound (omega (arith, narrow (is_wide_tag (tag_of entry.0)) p.0)) (entries_break (suc left) entry.1 fault one.takes.fits p.1)
    ])
    (λ rest at_rest last. absurd (let l = last in cc)))

pub place_is : (p q : Place) → p.at ≡ q.at → p.left ≡ q.left → p ≡ q
place_is p q at left = ap (λ (a : ℕ). record { at = a; left = p.left }) at ∙ ap (λ (l : List ℕ). record { at = q.at; left = l }) left

pub fails_first : (left : ℕ) (place : Place) (fault : PoolFault) → 0 < left → entry_at left place ≡ Err fault → entries_at left place ≡ Err fault
unfolding entries_at
fails_first zero place fault some is = absurd (omega (arith, some))
fails_first (suc zero) place fault some is = rw is refl
fails_first (suc (suc left)) place fault some is = rw is refl

pub breaks_again : (left : ℕ) (whole : List Entry) (place at : Place) (fault : PoolFault) → IsBytes place.left → AllByRecursion IsEntry whole → width whole < left → place.left ≡ flat_map spelled_entry whole ++ at.left
    → at.at ≡ place.at + length (flat_map spelled_entry whole) → fault_of_entry (left - width whole) at ≡ Some fault → entries_at left place ≡ Err fault
unfolding entries_at
breaks_again left [] place at fault fits sound more spelled moved is =
    let same : at ≡ place = place_is at place (omega (arith, moved)) (sym spelled) in
    let here : fault_of_entry left place ≡ Some fault = ap (fault_of_entry left) (sym same) ∙ ap (λ (n : ℕ). fault_of_entry n at) (omega arith) ∙ is in
    fails_first left place fault more (err_of_fault (entry_at left place) fault (entry_fault left place ∙ here))
breaks_again zero (entry ∷ whole) place at fault fits sound more spelled moved is = absurd (omega (arith, more))
breaks_again (suc zero) (entry ∷ whole) place at fault fits sound more spelled moved is = absurd (omega (arith, more, positive (is_wide_tag (tag_of entry))))
breaks_again (suc (suc left)) (entry ∷ whole) place at fault fits sound more spelled moved is =
    let one = entry_reaches (suc (suc left)) entry place (flat_map spelled_entry whole ++ at.left) sound.0 (λ wide. not_last (suc (suc left)) (omega arith)) (spelled ∙ append_assoc (spelled_entry entry) (flat_map spelled_entry whole) at.left) in
    let there = entry_found (suc (suc left)) place (entry, one.after) fits one.found in
    let further : at.at ≡ one.after.at + length (flat_map spelled_entry whole) = omega (arith, moved, there.takes.moved, length-append (spelled_entry entry) (flat_map spelled_entry whole)) in
    elim (which (is_wide_tag (tag_of entry))) [
      | inl wide ↦
          let less : left - width whole ≡ suc (suc left) - width (entry ∷ whole) = omega (arith, more, broad (is_wide_tag (tag_of entry)) wide) in
          let others = breaks_again left whole one.after at fault there.takes.fits sound.1 (omega (arith, more, broad (is_wide_tag (tag_of entry)) wide)) one.left further (ap (λ (n : ℕ). fault_of_entry n at) less ∙ is) in
          rw one.found (ap (before entry) (pick_true (is_wide_tag (tag_of entry)) _ _ _ wide others))
      | inr not_wide ↦
          let less : suc left - width whole ≡ suc (suc left) - width (entry ∷ whole) = omega (arith, more, narrow (is_wide_tag (tag_of entry)) not_wide) in
          let others = breaks_again (suc left) whole one.after at fault there.takes.fits sound.1 (omega (arith, more, narrow (is_wide_tag (tag_of entry)) not_wide)) one.left further (ap (λ (n : ℕ). fault_of_entry n at) less ∙ is) in
          rw one.found (ap (before entry) (pick_false (is_wide_tag (tag_of entry)) _ _ _ not_wide others))
    ]
