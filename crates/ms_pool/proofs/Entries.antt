-- The entry that is read is spelled there, and one that is spelled is read.
use Rattle.std.proofs.Common.{◌≡◌, ℕ, ◌+◌, ◌^◌, ◌<◌, ◌⊎◌, Bool, true, false, cond, List, ◌++◌, length, drop, Result, Ok, Err, refl, sym, ap, subst, ◌∙◌, append_assoc, length-append, arith, inl, inr}
use Rattle.std.specs.Prelude.{◌==◌, ◌||◌}
use Rattle.std.proofs.lemmas.Bool.{eqb-true}
use Rattle.std.proofs.lemmas.List.{length-take, take-append-drop}
use Rattle.ms_pool.specs.declared.cursor.Short as cursor
use Rattle.ms_pool.specs.Places.{Place, number_at, number_bytes, run_at}
use Rattle.ms_pool.specs.Numbers.{IsBytes, IsBytes-drop, IsRead, IsWidth, number_is_read, run_is_read, width1, width2, width4}
use Rattle.ms_pool.specs.Exact.{ok_is, then_ok}
use Rattle.ms_pool.specs.Pools.{Entry, Utf8, Word, Wide, One, Two, Handle, IsEntry, is_one_tag, is_two_tag, is_wide_tag, is_word_tag, spelled_entry, tag_of, u1, u2, u4}
use Rattle.ms_pool.specs.PoolReading.{of_short, u1_at, u2_at, u4_at, bytes_at, text_at, word_at, wide_at, one_at, two_at, handle_at, behind_tag, entry_at}

-- from one place to the other stand these bytes
pub record Takes (place : Place) (text : List ℕ) (after : Place) : Type 0 where
  pub bytes : place.left ≡ text ++ after.left
  pub moved : after.at ≡ place.at + length text
  pub fits : IsBytes after.left

takes_of : (n : ℕ) (text : List ℕ) (place after : Place) → IsBytes place.left → IsRead n text place after → Takes place text after
takes_of n text place after fits r =
    subst (Takes place text) (sym r.moved)
    (record {
      bytes = sym (take-append-drop n place.left) ∙ ap (λ l. l ++ drop n place.left) (sym r.front);
      moved = ap (λ m. place.at + m) (omega (arith, r.enough, length-take n place.left, ap length r.front));
      fits = IsBytes-drop n place.left fits;
    })

pub takes_both : (a b c : Place) (s t : List ℕ) → Takes a s b → Takes b t c → Takes a (s ++ t) c
takes_both a b c s t p q = record {
  bytes = p.bytes ∙ ap (λ l. s ++ l) q.bytes ∙ sym (append_assoc s t c.left);
  moved = omega (arith, p.moved, q.moved, length-append s t);
  fits = q.fits;
}

unshort : {X : Type 0} (read : Result X cursor.Short) (x : X) → of_short read ≡ Ok x → read ≡ Ok x
unshort (Ok y) x found = cc
unshort (Err short) x found = absurd cc

pub number_takes : (n : ℕ) → IsWidth n → (place : Place) (x : ℕ × Place) → IsBytes place.left → of_short (number_at n place) ≡ Ok x → Takes place (number_bytes n x.0) x.1 × (x.0 < 256 ^ n)
number_takes n wide place x fits found =
    let r = number_is_read n wide place x fits (unshort (number_at n place) x found) in
    (takes_of n (number_bytes n x.0) place x.1 fits r.0, r.1)

run_takes : (n : ℕ) (place : Place) (x : List ℕ × Place) → IsBytes place.left → of_short (run_at n place) ≡ Ok x → Takes place x.0 x.1 × (length x.0 ≡ n)
run_takes n place x fits found =
    let r = run_is_read n place x (unshort (run_at n place) x found) in
    (takes_of n x.0 place x.1 fits r, omega (arith, r.enough, length-take n place.left, ap length r.front))

-- what an entry holds behind its tag, as it is spelled
abbrev pub rest_of : Entry → List ℕ
rest_of (Utf8 text) = u2 (length text) ++ text
rest_of (Word tag number) = u4 number
rest_of (Wide tag bytes) = bytes
rest_of (One tag index) = u2 index
rest_of (Two tag first second) = u2 first ++ u2 second
rest_of (Handle kind index) = u1 kind ++ u2 index

spelled_is : (entry : Entry) → spelled_entry entry ≡ u1 (tag_of entry) ++ rest_of entry
spelled_is (Utf8 text) = refl
spelled_is (Word tag number) = refl
spelled_is (Wide tag bytes) = refl
spelled_is (One tag index) = refl
spelled_is (Two tag first second) = refl
spelled_is (Handle kind index) = refl

-- an entry was read behind this tag, where so many numbers are left
pub record Found (tag left : ℕ) (place : Place) (x : Entry × Place) : Type 0 where
  pub takes : Takes place (rest_of x.0) x.1
  pub tag_is : tag_of x.0 ≡ tag
  pub sound : IsEntry x.0
  pub room : is_wide_tag (tag_of x.0) ≡ true → (left == 1) ≡ false

text_found : (left : ℕ) (place : Place) (x : Entry × Place) → IsBytes place.left → text_at place ≡ Ok x → Found 1 left place x
unfolding text_at
text_found left place x fits found =
    then_ok (u2_at place) _ x found (λ size at_size more.
    then_ok (bytes_at size.0 size.1) _ x more (λ text at_text last.
    let one = number_takes 2 width2 place size fits at_size in
    let two = run_takes size.0 size.1 text one.0.fits at_text in
    subst (Found 1 left place) (ok_is (Utf8 text.0, text.1) x last)
    (record {
      takes = takes_both place size.1 text.1 (u2 (length text.0)) text.0 (subst (λ (n : ℕ). Takes place (u2 n) size.1) (sym two.1) one.0) two.0;
      tag_is = refl;
      sound = omega (arith, one.1, two.1);
      room = λ wide. absurd (let w = wide in cc);
    })))

word_found : (tag left : ℕ) (place : Place) (x : Entry × Place) → IsBytes place.left → is_word_tag tag ≡ true → is_wide_tag tag ≡ false → word_at tag place ≡ Ok x → Found tag left place x
unfolding word_at
word_found tag left place x fits is other found =
    then_ok (u4_at place) _ x found (λ number at_number last.
    let one = number_takes 4 width4 place number fits at_number in
    subst (Found tag left place) (ok_is (Word tag number.0, number.1) x last)
    (record { takes = one.0; tag_is = refl; sound = (is, one.1); room = λ wide. absurd (let w = sym wide ∙ other in cc) }))

wide_found : (tag left : ℕ) (place : Place) (x : Entry × Place) → IsBytes place.left → is_wide_tag tag ≡ true → (left == 1) ≡ false → wide_at tag place ≡ Ok x → Found tag left place x
unfolding wide_at
wide_found tag left place x fits is room found =
    then_ok (bytes_at 8 place) _ x found (λ bytes at_bytes last.
    let one = run_takes 8 place bytes fits at_bytes in
    subst (Found tag left place) (ok_is (Wide tag bytes.0, bytes.1) x last)
    (record { takes = one.0; tag_is = refl; sound = (is, one.1); room = λ wide. room }))

one_found : (tag left : ℕ) (place : Place) (x : Entry × Place) → IsBytes place.left → is_one_tag tag ≡ true → is_wide_tag tag ≡ false → one_at tag place ≡ Ok x → Found tag left place x
unfolding one_at
one_found tag left place x fits is other found =
    then_ok (u2_at place) _ x found (λ index at_index last.
    let one = number_takes 2 width2 place index fits at_index in
    subst (Found tag left place) (ok_is (One tag index.0, index.1) x last)
    (record { takes = one.0; tag_is = refl; sound = (is, one.1); room = λ wide. absurd (let w = sym wide ∙ other in cc) }))

two_found : (tag left : ℕ) (place : Place) (x : Entry × Place) → IsBytes place.left → is_two_tag tag ≡ true → is_wide_tag tag ≡ false → two_at tag place ≡ Ok x → Found tag left place x
unfolding two_at
two_found tag left place x fits is other found =
    then_ok (u2_at place) _ x found (λ first at_first more.
    then_ok (u2_at first.1) _ x more (λ second at_second last.
    let one = number_takes 2 width2 place first fits at_first in
    let two = number_takes 2 width2 first.1 second one.0.fits at_second in
    subst (Found tag left place) (ok_is (Two tag first.0 second.0, second.1) x last)
    (record {
      takes = takes_both place first.1 second.1 (u2 first.0) (u2 second.0) one.0 two.0;
      tag_is = refl;
      sound = (is, one.1, two.1);
      room = λ wide. absurd (let w = sym wide ∙ other in cc);
    })))

handle_found : (left : ℕ) (place : Place) (x : Entry × Place) → IsBytes place.left → handle_at place ≡ Ok x → Found 15 left place x
unfolding handle_at
handle_found left place x fits found =
    then_ok (u1_at place) _ x found (λ kind at_kind more.
    then_ok (u2_at kind.1) _ x more (λ index at_index last.
    let one = number_takes 1 width1 place kind fits at_kind in
    let two = number_takes 2 width2 kind.1 index one.0.fits at_index in
    subst (Found 15 left place) (ok_is (Handle kind.0 index.0, index.1) x last)
    (record {
      takes = takes_both place kind.1 index.1 (u1 kind.0) (u2 index.0) one.0 two.0;
      tag_is = refl;
      sound = (one.1, two.1);
      room = λ wide. absurd (let w = wide in cc);
    })))

-- which way a test went
either : {A : Type 0} (test : Bool) (x y z : A) → cond test x y ≡ z → ((test ≡ true) × (x ≡ z)) ⊎ ((test ≡ false) × (y ≡ z))
either true x y z e = inl (refl, e)
either false x y z e = inr (refl, e)

behind_found : (tag at left : ℕ) (place : Place) (x : Entry × Place) → IsBytes place.left → behind_tag tag at left place ≡ Ok x → Found tag left place x
unfolding behind_tag
behind_found tag at left place x fits found =
    elim (either (tag == 1) _ _ _ found) [
      | inl p ↦ subst (λ (t : ℕ). Found t left place x) (sym (eqb-true tag 1 p.0)) (text_found left place x fits p.1)
      | inr p ↦ elim (either (is_word_tag tag) _ _ _ p.1) [
        | inl q ↦ word_found tag left place x fits q.0 (word_not_wide tag q.0) q.1
        | inr q ↦ elim (either (is_wide_tag tag) _ _ _ q.1) [
          | inl r ↦ elim (either (left == 1) _ _ _ r.1) [
            | inl s ↦ absurd (let t = s.1 in cc)
            | inr s ↦ wide_found tag left place x fits r.0 s.0 s.1
          ]
          | inr r ↦ elim (either (is_one_tag tag) _ _ _ r.1) [
            | inl s ↦ one_found tag left place x fits s.0 r.0 s.1
            | inr s ↦ elim (either (is_two_tag tag) _ _ _ s.1) [
              | inl t ↦ two_found tag left place x fits t.0 r.0 t.1
              | inr t ↦ elim (either (tag == 15) _ _ _ t.1) [
                | inl u ↦ subst (λ (t : ℕ). Found t left place x) (sym (eqb-true tag 15 u.0)) (handle_found left place x fits u.1)
                | inr u ↦ absurd (let v = u.1 in cc)
              ]
            ]
          ]
        ]
      ]
    ]
  where
    or_cases : (b c : Bool) → (b || c) ≡ true → (b ≡ true) ⊎ (c ≡ true)
    or_cases true c is = inl refl
    or_cases false c is = inr is

    word_not_wide : (tag : ℕ) → is_word_tag tag ≡ true → is_wide_tag tag ≡ false
    word_not_wide tag is = elim (or_cases (tag == 3) (tag == 4) is) [
      | inl e ↦ ap is_wide_tag (eqb-true tag 3 e)
      | inr e ↦ ap is_wide_tag (eqb-true tag 4 e)
    ]

-- the entry that is read, where so many numbers are left, is spelled there
pub record IsFound (left : ℕ) (place : Place) (x : Entry × Place) : Type 0 where
  pub takes : Takes place (spelled_entry x.0) x.1
  pub sound : IsEntry x.0
  pub room : is_wide_tag (tag_of x.0) ≡ true → (left == 1) ≡ false

pub entry_found : (left : ℕ) (place : Place) (x : Entry × Place) → IsBytes place.left → entry_at left place ≡ Ok x → IsFound left place x
unfolding entry_at
entry_found left place x fits found =
    then_ok (u1_at place) _ x found (λ tag at_tag more.
    let one = number_takes 1 width1 place tag fits at_tag in
    let rest = behind_found tag.0 place.at left tag.1 x one.0.fits more in
    record {
      takes = subst (λ (t : List ℕ). Takes place t x.1) (ap (λ (n : ℕ). u1 n ++ rest_of x.0) (sym rest.tag_is) ∙ sym (spelled_is x.0)) (takes_both place tag.1 x.1 (u1 tag.0) (rest_of x.0) one.0 rest.takes);
      sound = rest.sound;
      room = rest.room;
    })
