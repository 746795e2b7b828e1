-- The law of formats: what is read is spelled, and else the fault that is read is the first one.
use Rattle.std.proofs.Common.{◌≡◌, ◌⊎◌, ℕ, zero, suc, ◌<◌, ◌≤◌, List, [], ◌∷◌, ◌++◌, length, take, drop, Bool, true, false, cond, ltb, Option, Some, None, Result, Ok, Err, refl, sym, ap, subst, ◌∙◌, arith, inl, inr}
use Rattle.std.proofs.lemmas.Bool.{ltb-true, lt-ltb, ltb-false, le-ltb}
use Rattle.std.proofs.lemmas.List.{length-append, length-take, take_at, drop_at, take-append-drop}
use Rattle.byteorder.specs.Endian.{big_number}
use Rattle.byteorder.specs.Numbers.{big_from-lt, big_from-take, big_number-reads_back, length-bytes_high_first}
use Rattle.ms_pool.specs.declared.cursor.Short.{Short}
use Rattle.ms_pool.specs.Places.{Place, behind, first_of, number_bytes, part_at}
use Rattle.ms_pool.specs.Numbers.{IsBytes, IsBytes-drop, IsBytes-take, IsWidth}
use Rattle.ms_pool.specs.Formats.{Format, number, run, done, here, found, check, end, if_none_left, or_short, IsNumber, IsRun, IsShort, and_then, BreaksLater, ◌>>=◌, added, either, repeated, within, filled, IsWithin, BreaksWithin}

-- from a place whose numbers are bytes, what is read is what is spelled, and the fault is the first
pub record IsExact {Fault X : Type 0} (format : Format Fault X) : Type 0 where
  pub fits : (place : Place) (x : X × Place) → IsBytes place.left → format.read place ≡ Ok x → IsBytes x.1.left
  pub spells : (place : Place) (x : X × Place) → IsBytes place.left → format.read place ≡ Ok x → format.Spells place x.0 x.1
  pub reads : (place : Place) (x : X) (after : Place) → IsBytes place.left → format.Spells place x after → format.read place ≡ Ok (x, after)
  pub breaks : (place : Place) (fault : Fault) → IsBytes place.left → format.read place ≡ Err fault → format.Breaks place fault
  pub faults : (place : Place) (fault : Fault) → IsBytes place.left → format.Breaks place fault → format.read place ≡ Err fault

-- two values that are one answer are one
pub ok_is : {A Fault : Type 0} (x y : A) → ◌≡◌ {A = Result A Fault} (Ok x) (Ok y) → x ≡ y
ok_is x y e = cc

-- two faults that are one answer are one
pub err_is : {A Fault : Type 0} (x y : Fault) → ◌≡◌ {A = Result A Fault} (Err x) (Err y) → x ≡ y
err_is x y e = cc

-- WHETHER ENOUGH BYTES ARE LEFT

-- what stands from a place on, where n bytes are left
abbrev pub if_enough : {X : Type 0} → ℕ → Place → X → Result X Short
if_enough n place x = cond (ltb (length place.left) n) (Err (record { at = place.at })) (Ok x)

-- where something stands there, enough bytes are left, and this is it
pub enough_ok : {Fault X : Type 0} (short : ℕ → Fault) (n : ℕ) (place : Place) (x y : X) → or_short short (if_enough n place x) ≡ Ok y → (n ≤ length place.left) × (x ≡ y)
enough_ok short n place x y found = by_test (ltb (length place.left) n) refl found
  where
    by_test : (b : Bool) → ltb (length place.left) n ≡ b → or_short short (cond b (Err (record { at = place.at })) (Ok x)) ≡ Ok y → (n ≤ length place.left) × (x ≡ y)
    by_test true is found = absurd cc
    by_test false is found = (ltb-false _ _ is, ok_is x y found)

enough_err : {Fault X : Type 0} (short : ℕ → Fault) (n : ℕ) (place : Place) (x : X) (fault : Fault) → or_short short (if_enough n place x) ≡ Err fault → IsShort short n place fault
enough_err {X = X} short n place x fault found = by_test (ltb (length place.left) n) refl found
  where
    by_test : (b : Bool) → ltb (length place.left) n ≡ b → or_short short (cond b (Err (record { at = place.at })) (Ok x)) ≡ Err fault → IsShort short n place fault
    by_test true is found = (ltb-true _ _ is, sym (err_is {A = X} (short place.at) fault found))
    by_test false is found = absurd cc

is_enough : {Fault X : Type 0} (short : ℕ → Fault) (n : ℕ) (place : Place) (x : X) → n ≤ length place.left → or_short short (if_enough n place x) ≡ Ok x
is_enough short n place x enough =
    let test : ltb (length place.left) n ≡ false = le-ltb _ _ enough in
    rw test refl

is_short : {Fault X : Type 0} (short : ℕ → Fault) (n : ℕ) (place : Place) (x : X) (fault : Fault) → IsShort short n place fault → or_short short (if_enough n place x) ≡ Err fault
is_short short n place x fault is =
    let test : ltb (length place.left) n ≡ true = lt-ltb _ _ is.0 in
    rw test (ap (λ f. Err f) (sym is.1))

place_is : (p q : Place) → p.at ≡ q.at → p.left ≡ q.left → p ≡ q
place_is p q at left = ap (λ (a : ℕ). record { at = a; left = p.left }) at ∙ ap (λ (l : List ℕ). record { at = q.at; left = l }) left

-- ONE PART

-- a number of 1, 2 or 4 bytes
pub number_exact : {Fault : Type 0} (short : ℕ → Fault) (n : ℕ) → IsWidth n → IsExact (number short n)
number_exact short n wide = record {
  fits = λ place x bytes found. subst (λ (y : ℕ × Place). IsBytes y.1.left) (enough_ok short n place (big_number n place.left, behind place n) x found).1 (IsBytes-drop n place.left bytes);
  spells = λ place x bytes found.
      let p = enough_ok short n place (big_number n place.left, behind place n) x found in
      subst (λ (y : ℕ × Place). IsNumber n place y.0 y.1) p.1
      (record {
        fits = big_from-lt 0 n place.left bytes;
        bytes = sym (take-append-drop n place.left) ∙ ap (λ l. l ++ drop n place.left) (sym (back place p.0 bytes));
        moved = refl;
      });
  reads = λ place x after bytes is.
      let len : length (number_bytes n x) ≡ n = length-bytes_high_first n x in
      let enough : n ≤ length place.left = omega (arith, ap length is.bytes, length-append (number_bytes n x) after.left, len) in
      let value : big_number n place.left ≡ x = ap (big_number n) is.bytes ∙ big_number-reads_back n x after.left is.fits in
      let there : behind place n ≡ after = place_is (behind place n) after (sym is.moved) (ap (drop n) is.bytes ∙ drop_at (number_bytes n x) after.left n len) in
      is_enough short n place (big_number n place.left, behind place n) enough ∙ ap (λ (y : ℕ × Place). Ok y) (ap (λ (m : ℕ). (m, behind place n)) value ∙ ap (λ (p : Place). (x, p)) there);
  breaks = λ place fault bytes found. enough_err short n place (big_number n place.left, behind place n) fault found;
  faults = λ place fault bytes is. is_short short n place (big_number n place.left, behind place n) fault is;
}
  where
    back : (place : Place) → n ≤ length place.left → IsBytes place.left → number_bytes n (big_number n place.left) ≡ take n place.left
    back place enough bytes = ap (number_bytes n) (sym (big_from-take 0 n n place.left (omega arith))) ∙ wide.back (take n place.left) (omega (arith, enough, length-take n place.left)) (IsBytes-take n place.left bytes)

-- a run of bytes
pub run_exact : {Fault : Type 0} (short : ℕ → Fault) (n : ℕ) → IsExact (run short n)
run_exact short n = record {
  fits = λ place x bytes found. subst (λ (y : List ℕ × Place). IsBytes y.1.left) (enough_ok short n place (take n place.left, behind place n) x found).1 (IsBytes-drop n place.left bytes);
  spells = λ place x bytes found.
      let p = enough_ok short n place (take n place.left, behind place n) x found in
      subst (λ (y : List ℕ × Place). IsRun n place y.0 y.1) p.1
      (record { many = omega (arith, p.0, length-take n place.left); bytes_are = sym (take-append-drop n place.left); moved = refl });
  reads = λ place x after bytes is.
      let enough : n ≤ length place.left = omega (arith, ap length is.bytes_are, length-append x after.left, is.many) in
      let value : take n place.left ≡ x = ap (take n) is.bytes_are ∙ take_at x after.left n is.many in
      let there : behind place n ≡ after = place_is (behind place n) after (sym is.moved) (ap (drop n) is.bytes_are ∙ drop_at x after.left n is.many) in
      is_enough short n place (take n place.left, behind place n) enough ∙ ap (λ (y : List ℕ × Place). Ok y) (ap (λ (l : List ℕ). (l, behind place n)) value ∙ ap (λ (p : Place). (x, p)) there);
  breaks = λ place fault bytes found. enough_err short n place (take n place.left, behind place n) fault found;
  faults = λ place fault bytes is. is_short short n place (take n place.left, behind place n) fault is;
}

-- NO PART

-- a value without bytes
pub done_exact : {Fault X : Type 0} (x : X) → IsExact {Fault = Fault} (done x)
done_exact {X = X} x = record {
  fits = λ place y bytes found. subst (λ (z : X × Place). IsBytes z.1.left) (ok_is (x, place) y found) bytes;
  spells = λ place y bytes found. subst (λ (z : X × Place). (z.0 ≡ x) × (z.1 ≡ place)) (ok_is (x, place) y found) (refl, refl);
  reads = λ place y after bytes is. ap (λ (z : X). Ok (z, place)) (sym is.0) ∙ ap (λ (p : Place). Ok (y, p)) (sym is.1);
  breaks = λ place fault bytes found. absurd (let f = found in cc);
  faults = λ place fault bytes is. absurd is;
}

-- the place
pub here_exact : {Fault : Type 0} → IsExact {Fault = Fault} here
here_exact = record {
  fits = λ place y bytes found. subst (λ (z : ℕ × Place). IsBytes z.1.left) (ok_is (place.at, place) y found) bytes;
  spells = λ place y bytes found. subst (λ (z : ℕ × Place). (z.0 ≡ place.at) × (z.1 ≡ place)) (ok_is (place.at, place) y found) (refl, refl);
  reads = λ place y after bytes is. ap (λ (z : ℕ). Ok (z, place)) (sym is.0) ∙ ap (λ (p : Place). Ok (y, p)) (sym is.1);
  breaks = λ place fault bytes found. absurd (let f = found in cc);
  faults = λ place fault bytes is. absurd is;
}

-- what was looked up
pub found_exact : {Fault X : Type 0} (option : Option X) (fault : Fault) → IsExact (found option fault)
found_exact {X = X} (Some x) fault = record {
  fits = λ place y bytes found. subst (λ (z : X × Place). IsBytes z.1.left) (ok_is (x, place) y found) bytes;
  spells = λ place y bytes found. subst (λ (z : X × Place). (Some x ≡ Some z.0) × (z.1 ≡ place)) (ok_is (x, place) y found) (refl, refl);
  reads = λ place y after bytes is. ap (λ (z : X). Ok (z, place)) (some_is x y is.0) ∙ ap (λ (p : Place). Ok (y, p)) (sym is.1);
  breaks = λ place broken bytes found. absurd (let f = found in cc);
  faults = λ place broken bytes is. absurd (let i = is.0 in cc);
}
  where
    some_is : (x y : X) → ◌≡◌ {A = Option X} (Some x) (Some y) → x ≡ y
    some_is x y e = cc
found_exact {X = X} None fault = record {
  fits = λ place y bytes found. absurd (let f = found in cc);
  spells = λ place y bytes found. absurd (let f = found in cc);
  reads = λ place y after bytes is. absurd (let i = is.0 in cc);
  breaks = λ place broken bytes found. (refl, sym (err_is {A = X × Place} fault broken found));
  faults = λ place broken bytes is. ap (λ f. Err f) (sym is.1);
}

-- a check
pub check_exact : {Fault : Type 0} (test : Bool) (fault : Fault) → IsExact (check test fault)
check_exact true fault = record {
  fits = λ place y bytes found. subst (λ (z : Unit {0} × Place). IsBytes z.1.left) (ok_is (tt, place) y found) bytes;
  spells = λ place y bytes found. subst (λ (z : Unit {0} × Place). (true ≡ true) × (z.1 ≡ place)) (ok_is (tt, place) y found) (refl, refl);
  reads = λ place y after bytes is. ap (λ (p : Place). Ok (tt, p)) (sym is.1);
  breaks = λ place broken bytes found. absurd (let f = found in cc);
  faults = λ place broken bytes is. absurd (let i = is.0 in cc);
}
check_exact false fault = record {
  fits = λ place y bytes found. absurd (let f = found in cc);
  spells = λ place y bytes found. absurd (let f = found in cc);
  reads = λ place y after bytes is. absurd (let i = is.0 in cc);
  breaks = λ place broken bytes found. (refl, sym (err_is {A = Unit {0} × Place} fault broken found));
  faults = λ place broken bytes is. ap (λ f. Err f) (sym is.1);
}

-- the end of the bytes
pub end_exact : {Fault : Type 0} (trailing : ℕ → Fault) → IsExact (end trailing)
end_exact {Fault = Fault} trailing = record {
  fits = λ place y bytes found. subst (λ (p : Place). IsBytes p.left) (sym (ends place place.left y refl found).1) bytes;
  spells = λ place y bytes found. ends place place.left y refl found;
  reads = λ place y after bytes is. read_end place is.0 ∙ ap (λ (p : Place). Ok (tt, p)) (sym is.1);
  breaks = λ place fault bytes found. goes_on place place.left fault refl found;
  faults = λ place fault bytes is. read_more place place.left refl is.0 ∙ ap (λ f. Err f) (sym is.1);
}
  where
    ends : (place : Place) (left : List ℕ) (y : Unit {0} × Place) → place.left ≡ left → if_none_left trailing place.at left place ≡ Ok y → (place.left ≡ []) × (y.1 ≡ place)
    ends place [] y same found = (same, ap (λ (z : Unit {0} × Place). z.1) (sym (ok_is (tt, place) y found)))
    ends place (byte ∷ left) y same found = absurd cc

    read_end : (place : Place) → place.left ≡ [] → if_none_left trailing place.at place.left place ≡ Ok (tt, place)
    read_end place none = rw none refl

    goes_on : (place : Place) (left : List ℕ) (fault : Fault) → place.left ≡ left → if_none_left trailing place.at left place ≡ Err fault → (0 < length place.left) × (fault ≡ trailing place.at)
    goes_on place [] fault same found = absurd cc
    goes_on place (byte ∷ left) fault same found = (omega (arith, ap length same), sym (err_is {A = Unit {0} × Place} (trailing place.at) fault found))

    read_more : (place : Place) (left : List ℕ) → place.left ≡ left → 0 < length place.left → if_none_left trailing place.at place.left place ≡ Err (trailing place.at)
    read_more place [] same some = absurd (omega (arith, some, ap length same))
    read_more place (byte ∷ left) same some = rw same refl

-- PARTS

-- what was read first and what was read behind it
pub then_ok : {A B Fault P : Type 0} (read : Result A Fault) (next : A → Result B Fault) (y : B) → and_then read next ≡ Ok y → ((x : A) → read ≡ Ok x → next x ≡ Ok y → P) → P
then_ok (Ok x) next y found use_both = use_both x refl found
then_ok (Err fault) next y found use_both = absurd cc

-- what was read first failed, or what was read behind it did
pub then_err : {A B Fault P : Type 0} (read : Result A Fault) (next : A → Result B Fault) (fault : Fault) → and_then read next ≡ Err fault → (read ≡ Err fault → P) → ((x : A) → read ≡ Ok x → next x ≡ Err fault → P) → P
then_err (Ok x) next fault found use_first use_both = use_both x refl found
then_err {B = B} (Err other) next fault found use_first use_both = use_first (ap (λ f. Err f) (err_is {A = B} other fault found))

-- one part, and then the one that it leads to
pub both_exact : {Fault X Y : Type 0} (first : Format Fault X) (rest : X → Format Fault Y) → IsExact first → ((x : X) → IsExact (rest x)) → IsExact (first >>= rest)
both_exact {Fault = Fault} {X = X} {Y = Y} first rest one more = record {
  fits = λ place y bytes found. then_ok (first.read place) _ y found (λ x is_first is_rest. (more x.0).fits x.1 y (one.fits place x bytes is_first) is_rest);
  spells = λ place y bytes found. then_ok (first.read place) _ y found (λ x is_first is_rest.
      record { x = x.0; between = x.1; is_first = one.spells place x bytes is_first; is_rest = (more x.0).spells x.1 y (one.fits place x bytes is_first) is_rest });
  reads = λ place y after bytes is.
      let found = one.reads place is.x is.between bytes is.is_first in
      ap (λ (r : Result (X × Place) Fault). and_then r (λ (f : X × Place). (rest f.0).read f.1)) found ∙ (more is.x).reads is.between y after (one.fits place (is.x, is.between) bytes found) is.is_rest;
  breaks = λ place fault bytes found. then_err (first.read place) _ fault found (λ is_first. inl (one.breaks place fault bytes is_first)) (λ x is_first broken.
      inr (record { x = x.0; between = x.1; is_first = one.spells place x bytes is_first; broken = (more x.0).breaks x.1 fault (one.fits place x bytes is_first) broken }));
  faults = λ place fault bytes is. by_part place fault bytes is;
}
  where
    by_part : (place : Place) (fault : Fault) → IsBytes place.left → first.Breaks place fault ⊎ BreaksLater first rest place fault → and_then (first.read place) (λ (f : X × Place). (rest f.0).read f.1) ≡ Err fault
    by_part place fault bytes (inl is_first) = ap (λ (r : Result (X × Place) Fault). and_then r (λ (f : X × Place). (rest f.0).read f.1)) (one.faults place fault bytes is_first)
    by_part place fault bytes (inr later) =
        let found = one.reads place later.x later.between bytes later.is_first in
        ap (λ (r : Result (X × Place) Fault). and_then r (λ (f : X × Place). (rest f.0).read f.1)) found ∙ (more later.x).faults later.between fault (one.fits place (later.x, later.between) bytes found) later.broken

-- a part so many times, each led to by the one before
pub repeated_exact : {Fault X : Type 0} (n : ℕ) (part : X → Format Fault X) (known : X) → ((x : X) → IsExact (part x)) → IsExact (repeated n part known)
repeated_exact zero part known each = done_exact known
repeated_exact (suc n) part known each = both_exact (part known) (repeated n part) (each known) (λ x. repeated_exact n part x each)

-- a part that is added to those before it
pub added_exact : {Fault X : Type 0} (part : List X → Format Fault X) (before : List X) → IsExact (part before) → IsExact (added part before)
added_exact part before one = both_exact (part before) (λ x. done (before ++ x ∷ [])) one (λ x. done_exact (before ++ x ∷ []))

-- a content that fills the bytes
pub filled_exact : {Fault X : Type 0} (trailing : ℕ → Fault) (content : Format Fault X) → IsExact content → IsExact (filled trailing content)
filled_exact trailing content one = both_exact content (λ x. end trailing >>= λ ended. done x) one (λ x. both_exact (end trailing) (λ ended. done x) (end_exact trailing) (λ ended. done_exact x))

-- a content that fills the next n bytes
pub within_exact : {Fault X : Type 0} (short trailing : ℕ → Fault) (n : ℕ) (content : Format Fault X) → IsExact content → IsExact (within short trailing n content)
within_exact {Fault = Fault} {X = X} short trailing n content one = record {
  fits = λ place y bytes is_read. (spelled place y bytes is_read).1;
  spells = λ place y bytes is_read. (spelled place y bytes is_read).0;
  reads = λ place y after bytes is.
      let inner = (filled_exact trailing content one).reads (first_of place n) y is.last (IsBytes-take n place.left bytes) is.is in
      ap (λ r. and_then r next) (is_enough short n place (first_of place n, behind place n) is.enough) ∙ ap (λ r. and_then r (λ (f : X × Place). Ok (f.0, behind place n))) inner ∙ ap (λ (p : Place). Ok (y, p)) (sym is.after_is);
  breaks = λ place fault bytes is_read.
      then_err (or_short short (part_at n place)) next fault is_read
      (λ none. inl (enough_err short n place (first_of place n, behind place n) fault none))
      (λ parts is_parts broken.
      let p = enough_ok short n place (first_of place n, behind place n) parts is_parts in
      then_err ((filled trailing content).read parts.0) _ fault broken
      (λ inside. inr (record { enough = p.0; broken = (filled_exact trailing content one).breaks (first_of place n) fault (IsBytes-take n place.left bytes) (subst (λ (i : Place × Place). (filled trailing content).read i.0 ≡ Err fault) (sym p.1) inside) }))
      (λ x is_x last. absurd (let l = last in cc)));
  faults = λ place fault bytes is. by_part place fault bytes is;
}
  where
    next : Place × Place → Result (X × Place) Fault
    next parts = and_then ((filled trailing content).read parts.0) (λ (f : X × Place). Ok (f.0, parts.1))

    spelled : (place : Place) (y : X × Place) → IsBytes place.left → (within short trailing n content).read place ≡ Ok y → IsWithin n (filled trailing content) place y.0 y.1 × IsBytes y.1.left
    spelled place y bytes is_read =
        then_ok (or_short short (part_at n place)) _ y is_read (λ parts is_parts more.
        then_ok ((filled trailing content).read parts.0) _ y more (λ x is_x last.
        let p = enough_ok short n place (first_of place n, behind place n) parts is_parts in
        let all = (filled_exact trailing content one).spells (first_of place n) x (IsBytes-take n place.left bytes) (subst (λ (i : Place × Place). (filled trailing content).read i.0 ≡ Ok x) (sym p.1) is_x) in
        let behind_is : parts.1 ≡ behind place n = ap (λ (i : Place × Place). i.1) (sym p.1) in
        subst (λ (z : X × Place). IsWithin n (filled trailing content) place z.0 z.1 × IsBytes z.1.left) (ap (λ (q : Place). (x.0, q)) (sym behind_is) ∙ ok_is (x.0, parts.1) y last)
        (record { enough = p.0; last = x.1; is = all; after_is = refl }, IsBytes-drop n place.left bytes)))

    by_part : (place : Place) (fault : Fault) → IsBytes place.left → IsShort short n place fault ⊎ BreaksWithin n (filled trailing content) place fault → and_then (or_short short (part_at n place)) next ≡ Err fault
    by_part place fault bytes (inl none) = ap (λ r. and_then r next) (is_short short n place (first_of place n, behind place n) fault none)
    by_part place fault bytes (inr inside) =
        ap (λ r. and_then r next) (is_enough short n place (first_of place n, behind place n) inside.enough)
        ∙ ap (λ r. and_then r (λ (f : X × Place). Ok (f.0, behind place n))) ((filled_exact trailing content one).faults (first_of place n) fault (IsBytes-take n place.left bytes) inside.broken)

-- one of two, by a test
pub either_exact : {Fault X : Type 0} (test : Bool) (first second : Format Fault X) → IsExact first → IsExact second → IsExact (either test first second)
either_exact true first second is_first is_second = is_first
either_exact false first second is_first is_second = is_second

-- THE LAW

-- the bytes spell something or have a first fault
pub spells_or_breaks : {Fault X : Type 0} (format : Format Fault X) → IsExact format → (place : Place) → IsBytes place.left → ((x : X) × (after : Place) × format.Spells place x after) ⊎ ((fault : Fault) × format.Breaks place fault)
spells_or_breaks {Fault = Fault} {X = X} format exact place bytes = by_read (format.read place) refl
  where
    by_read : (r : Result (X × Place) Fault) → format.read place ≡ r → ((x : X) × (after : Place) × format.Spells place x after) ⊎ ((fault : Fault) × format.Breaks place fault)
    by_read (Ok x) is = inl (x.0, x.1, exact.spells place x bytes is)
    by_read (Err fault) is = inr (fault, exact.breaks place fault bytes is)

-- not both
pub not_both : {Fault X : Type 0} (format : Format Fault X) → IsExact format → (place after : Place) (x : X) (fault : Fault) → IsBytes place.left → format.Spells place x after → format.Breaks place fault → ⊥
not_both format exact place after x fault bytes spelled broken = absurd (let e = sym (exact.reads place x after bytes spelled) ∙ exact.faults place fault bytes broken in cc)

-- one thing at most, up to one place
pub spells_one : {Fault X : Type 0} (format : Format Fault X) → IsExact format → (place after after' : Place) (x x' : X) → IsBytes place.left → format.Spells place x after → format.Spells place x' after' → (x ≡ x') × (after ≡ after')
spells_one {Fault = Fault} {X = X} format exact place after after' x x' bytes p q =
    let same = ok_is {Fault = Fault} (x, after) (x', after') (sym (exact.reads place x after bytes p) ∙ exact.reads place x' after' bytes q) in
    (ap (λ (y : X × Place). y.0) same, ap (λ (y : X × Place). y.1) same)

-- and one first fault at most
pub breaks_one : {Fault X : Type 0} (format : Format Fault X) → IsExact format → (place : Place) (fault fault' : Fault) → IsBytes place.left → format.Breaks place fault → format.Breaks place fault' → fault ≡ fault'
breaks_one {X = X} format exact place fault fault' bytes p q = err_is {A = X × Place} fault fault' (sym (exact.faults place fault bytes p) ∙ exact.faults place fault' bytes q)
