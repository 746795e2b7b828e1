-- What is read lies behind where it was read from, and what is left ends where it ended: lemmas for the crates that read
-- formats.
use Rattle.std.proofs.Common.{◌≡◌, ℕ, zero, suc, ◌+◌, ◌-◌, ◌≤◌, List, [], ◌∷◌, ◌++◌, length, take, Bool, true, false, Option, Some, None, Ok, refl, sym, ap, subst, ◌∙◌, arith}
use Rattle.std.proofs.lemmas.List.{drop-drop, length-drop}
use Rattle.byteorder.specs.Endian.{big_number}
use Rattle.ms_pool.specs.Places.{Place, behind, first_of, part_at}
use Rattle.ms_pool.specs.Numbers.{IsBytes, IsBytes-drop}
use Rattle.ms_pool.specs.Formats.{Format, number, run, done, here, found, check, end, either, filled, if_none_left, or_short, ◌>>=◌, added, repeated, within}
use Rattle.ms_pool.specs.Exact.{enough_ok, ok_is, then_ok}

-- the place goes on by so many of the bytes that are left
pub record GoesOn (place after : Place) : Type 0 where
  pub by : ℕ
  pub enough : by ≤ length place.left
  pub after_is : after ≡ behind place by

-- so what is left ends where it ended
pub whole_of : (place after : Place) → GoesOn place after → after.at + length after.left ≡ place.at + length place.left
whole_of place after goes = omega (arith, ap (λ (p : Place). p.at) goes.after_is, ap (λ (p : Place). length p.left) goes.after_is, length-drop goes.by place.left, goes.enough)

-- the place isn't before the other
pub on_of : (place after : Place) → GoesOn place after → place.at ≤ after.at
on_of place after goes = omega (arith, ap (λ (p : Place). p.at) goes.after_is)

-- and what is left is bytes where it was
pub bytes_of : (place after : Place) → GoesOn place after → IsBytes place.left → IsBytes after.left
bytes_of place after goes bytes = subst (λ (p : Place). IsBytes p.left) (sym goes.after_is) (IsBytes-drop goes.by place.left bytes)

-- a format that goes on where it is read
pub record IsForward {Fault X : Type 0} (format : Format Fault X) : Type 0 where
  pub goes : (place : Place) (x : X × Place) → format.read place ≡ Ok x → GoesOn place x.1

place_is : (p q : Place) → p.at ≡ q.at → p.left ≡ q.left → p ≡ q
place_is p q at left = ap (λ (a : ℕ). record { at = a; left = p.left }) at ∙ ap (λ (l : List ℕ). record { at = q.at; left = l }) left

pub stays : (place : Place) → GoesOn place place
stays place = record { by = 0; enough = omega arith; after_is = place_is place (behind place 0) (omega arith) refl }

pub goes_behind : (n : ℕ) (place : Place) → n ≤ length place.left → GoesOn place (behind place n)
goes_behind n place enough = record { by = n; enough = enough; after_is = refl }

pub on_and_on : (place between after : Place) → GoesOn place between → GoesOn between after → GoesOn place after
on_and_on place between after first rest =
    let more = subst (λ (p : Place). after ≡ behind p rest.by) first.after_is rest.after_is in
    let left : length between.left ≡ length place.left - first.by = ap (λ (p : Place). length p.left) first.after_is ∙ length-drop first.by place.left in
    record {
      by = first.by + rest.by;
      enough = omega (arith, first.enough, rest.enough, left);
      after_is = more ∙ place_is (behind (behind place first.by) rest.by) (behind place (first.by + rest.by)) (omega arith) (drop-drop rest.by first.by place.left);
    }

pub number_forward : {Fault : Type 0} (short : ℕ → Fault) (n : ℕ) → IsForward (number short n)
number_forward short n = record {
  goes = λ place x found.
      let p = enough_ok short n place (big_number n place.left, behind place n) x found in
      subst (λ (y : ℕ × Place). GoesOn place y.1) p.1 (goes_behind n place p.0);
}

pub run_forward : {Fault : Type 0} (short : ℕ → Fault) (n : ℕ) → IsForward (run short n)
run_forward short n = record {
  goes = λ place x found.
      let p = enough_ok short n place (take n place.left, behind place n) x found in
      subst (λ (y : List ℕ × Place). GoesOn place y.1) p.1 (goes_behind n place p.0);
}

pub done_forward : {Fault X : Type 0} (x : X) → IsForward {Fault = Fault} (done x)
done_forward {Fault = Fault} {X = X} x = record { goes = λ place y found. subst (λ (z : X × Place). GoesOn place z.1) (ok_is {Fault = Fault} (x, place) y found) (stays place) }

pub here_forward : {Fault : Type 0} → IsForward {Fault = Fault} here
here_forward {Fault = Fault} = record { goes = λ place y found. subst (λ (z : ℕ × Place). GoesOn place z.1) (ok_is {Fault = Fault} (place.at, place) y found) (stays place) }

pub found_forward : {Fault X : Type 0} (option : Option X) (fault : Fault) → IsForward (found option fault)
found_forward {Fault = Fault} {X = X} (Some x) fault = record { goes = λ place y is. subst (λ (z : X × Place). GoesOn place z.1) (ok_is {Fault = Fault} (x, place) y is) (stays place) }
found_forward None fault = record { goes = λ place y is. absurd (let e = is in cc) }

pub check_forward : {Fault : Type 0} (test : Bool) (fault : Fault) → IsForward (check test fault)
check_forward {Fault = Fault} true fault = record { goes = λ place y is. subst (λ (z : Unit {0} × Place). GoesOn place z.1) (ok_is {Fault = Fault} (tt, place) y is) (stays place) }
check_forward false fault = record { goes = λ place y is. absurd (let e = is in cc) }

pub end_forward : {Fault : Type 0} (trailing : ℕ → Fault) → IsForward (end trailing)
end_forward {Fault = Fault} trailing = record { goes = λ place y is. by_left place place.left y is }
  where
    by_left : (place : Place) (left : List ℕ) (y : Unit {0} × Place) → if_none_left trailing place.at left place ≡ Ok y → GoesOn place y.1
    by_left place [] y is = subst (λ (z : Unit {0} × Place). GoesOn place z.1) (ok_is {Fault = Fault} (tt, place) y is) (stays place)
    by_left place (byte ∷ left) y is = absurd (let e = is in cc)

pub both_forward : {Fault X Y : Type 0} (first : Format Fault X) (rest : X → Format Fault Y) → IsForward first → ((x : X) → IsForward (rest x)) → IsForward (first >>= rest)
both_forward first rest one more = record {
  goes = λ place y found. then_ok (first.read place) _ y found (λ x is_first is_rest. on_and_on place x.1 y.1 (one.goes place x is_first) ((more x.0).goes x.1 y is_rest));
}

pub either_forward : {Fault X : Type 0} (test : Bool) (first second : Format Fault X) → IsForward first → IsForward second → IsForward (either test first second)
either_forward true first second is_first is_second = is_first
either_forward false first second is_first is_second = is_second

pub repeated_forward : {Fault X : Type 0} (n : ℕ) (part : X → Format Fault X) (known : X) → ((x : X) → IsForward (part x)) → IsForward (repeated n part known)
repeated_forward zero part known each = done_forward known
repeated_forward (suc n) part known each = both_forward (part known) (repeated n part) (each known) (λ x. repeated_forward n part x each)

pub added_forward : {Fault X : Type 0} (part : List X → Format Fault X) (before : List X) → IsForward (part before) → IsForward (added part before)
added_forward part before one = both_forward (part before) (λ x. done (before ++ x ∷ [])) one (λ x. done_forward (before ++ x ∷ []))

-- what was read within the next n bytes
pub record WasWithin {Fault X : Type 0} (trailing : ℕ → Fault) (n : ℕ) (content : Format Fault X) (place : Place) (x : X × Place) : Type 0 where
  pub enough : n ≤ length place.left
  pub last : Place
  pub inner : content.read (first_of place n) ≡ Ok (x.0, last)
  pub after_is : x.1 ≡ behind place n

pub was_within : {Fault X : Type 0} (short trailing : ℕ → Fault) (n : ℕ) (content : Format Fault X) (place : Place) (x : X × Place) → (within short trailing n content).read place ≡ Ok x → WasWithin trailing n content place x
was_within {Fault = Fault} {X = X} short trailing n content place x found =
    then_ok (or_short short (part_at n place)) _ x found (λ parts is_parts more.
    let p = enough_ok short n place (first_of place n, behind place n) parts is_parts in
    then_ok ((filled trailing content).read parts.0) _ x more (λ y is_filled last.
    then_ok (content.read parts.0) _ y is_filled (λ z is_content ended.
    then_ok ((end trailing).read z.1) _ y ended (λ e is_end rest.
    let same : z.0 ≡ x.0 = ap (λ (w : X × Place). w.0) (ok_is {Fault = Fault} (z.0, e.1) y rest) ∙ ap (λ (w : X × Place). w.0) (ok_is {Fault = Fault} (y.0, parts.1) x last) in
    record {
      enough = p.0;
      last = z.1;
      inner = subst (λ (q : Place × Place). content.read q.0 ≡ Ok (x.0, z.1)) (sym p.1) (is_content ∙ ap (λ (w : X). Ok (w, z.1)) same);
      after_is = ap (λ (w : X × Place). w.1) (sym (ok_is {Fault = Fault} (y.0, parts.1) x last)) ∙ ap (λ (q : Place × Place). q.1) (sym p.1);
    }))))

pub within_forward : {Fault X : Type 0} (short trailing : ℕ → Fault) (n : ℕ) (content : Format Fault X) → IsForward (within short trailing n content)
within_forward short trailing n content = record {
  goes = λ place x found.
      let w = was_within short trailing n content place x found in
      subst (λ (p : Place). GoesOn place p) (sym w.after_is) (goes_behind n place w.enough);
}
