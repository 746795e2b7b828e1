-- A field that is read is the one that is spelled there, and what is spelled is read again.
use Rattle.std.proofs.Common.{◌≡◌, ℕ, zero, suc, true, eqb, ◌^◌, ◌<◌, List, [], ◌∷◌, ◌++◌, length, take, drop, Option, Some, Result, Ok, Err, refl, sym, ap, subst, ◌∙◌, append_assoc, arith}
use Rattle.std.specs.List.{flat_map, AllByRecursion}
use Rattle.std.specs.Result.{result_ok}
use Rattle.std.proofs.lemmas.List.{append-nil, nil_from_length, take-append-drop, length-take}
use Rattle.std.proofs.lemmas.Bool.{eqb-true, eq-eqb}
use Rattle.ms_pool.specs.Places.{Place, behind, number_bytes, number_at, run_at}
use Rattle.ms_pool.specs.Numbers.{IsBytes, IsBytes-drop, IsBytes-take, IsWidth, IsRead, number_is_read, run_is_read, number_again, run_again}
use Rattle.ms_classfile.specs.Reading.{repeated, bytes_at}
use Rattle.ms_classfile.proofs.Steps.{then_some, some_is}

-- from the start up to the rest the bytes are this text, and the rest is bytes
pub record Takes (start text rest : List ℕ) : Type 0 where
  pub parts : start ≡ text ++ rest
  pub fits : IsBytes rest

pub Takes-is : (start text text' rest : List ℕ) → text ≡ text' → Takes start text rest → Takes start text' rest
Takes-is start text text' rest e takes = subst (λ (t : List ℕ). Takes start t rest) e takes

-- nothing is left, by the test
pub at_end : (place : Place) → place.left ≡ [] → eqb (length place.left) 0 ≡ true
at_end place none = eq-eqb _ _ (ap length none)

-- where nothing is left, the text is all
pub ends_there : (start text : List ℕ) (place : Place) → Takes start text place.left → eqb (length place.left) 0 ≡ true → start ≡ text
ends_there start text place takes e =
    takes.parts ∙ ap (λ (rest : List ℕ). text ++ rest) (nil_from_length place.left (eqb-true _ _ e)) ∙ append-nil text

-- x is read, and this is left
pub record Reaches {X : Type 0} (read : Option (X × Place)) (x : X) (rest : List ℕ) : Type 0 where
  pub after : Place
  pub found : read ≡ Some (x, after)
  pub left : after.left ≡ rest

-- ---- numbers and runs

Takes-more : (n : ℕ) (start front text : List ℕ) (place after : Place) → Takes start front place.left → IsRead n text place after → Takes start (front ++ text) after.left
Takes-more n start front text place after takes read =
    let left : after.left ≡ drop n place.left = ap (λ (p : Place). p.left) read.moved in
    record {
      parts = takes.parts ∙ ap (λ (t : List ℕ). front ++ t) (sym (take-append-drop n place.left)) ∙ sym (append_assoc front (take n place.left) (drop n place.left)) ∙ rw (read.front, left) refl;
      fits = rw left (IsBytes-drop n place.left takes.fits);
    }

ok_some : {A E : Type 0} (read : Result A E) (x : A) → result_ok read ≡ Some x → read ≡ Ok x
ok_some (Ok y) x found = ap Ok (some_is y x found)
ok_some (Err e) x found = absurd cc

pub number_takes : (n : ℕ) → IsWidth n → (start front : List ℕ) (place : Place) (x : ℕ × Place) → Takes start front place.left → result_ok (number_at n place) ≡ Some x → Takes start (front ++ number_bytes n x.0) x.1.left × (x.0 < 256 ^ n)
number_takes n wide start front place x takes found =
    let read = number_is_read n wide place x takes.fits (ok_some (number_at n place) x found) in
    (Takes-more n start front (number_bytes n x.0) place x.1 takes read.0, read.1)

pub number_reaches : (n x : ℕ) (place : Place) (rest : List ℕ) → x < 256 ^ n → place.left ≡ number_bytes n x ++ rest → Reaches (result_ok (number_at n place)) x rest
number_reaches n x place rest below spelled =
    let again = number_again n x place rest below spelled in
    record { after = behind place n; found = ap result_ok again.0; left = again.1 }

pub run_takes : (n : ℕ) (start front : List ℕ) (place : Place) (x : List ℕ × Place) → Takes start front place.left → bytes_at n place ≡ Some x → Takes start (front ++ x.0) x.1.left × ((length x.0 ≡ n) × IsBytes x.0)
run_takes n start front place x takes found =
    let read = run_is_read n place x (ok_some (run_at n place) x found) in
    let long = read.enough in
    (Takes-more n start front x.0 place x.1 takes read, (omega (arith, ap length read.front, length-take n place.left), rw read.front (IsBytes-take n place.left takes.fits)))

pub run_reaches : (text : List ℕ) (place : Place) (rest : List ℕ) → place.left ≡ text ++ rest → Reaches (bytes_at (length text) place) text rest
run_reaches text place rest spelled =
    let again = run_again text place rest spelled in
    record { after = behind place (length text); found = ap result_ok again.0; left = again.1 }

-- ---- one after another

abbrev pub TakesEach : {X : Type 0} → (Place → Option (X × Place)) → (X → List ℕ) → (X → Type 0) → Type 0
TakesEach {X = X} read spelled Fits = (start front : List ℕ) (place : Place) (x : X × Place) → Takes start front place.left → read place ≡ Some x → Takes start (front ++ spelled x.0) x.1.left × Fits x.0

pub repeated_takes : {X : Type 0} (read : Place → Option (X × Place)) (spelled : X → List ℕ) (Fits : X → Type 0) → TakesEach read spelled Fits
    → (n : ℕ) (start front : List ℕ) (place : Place) (x : List X × Place) → Takes start front place.left → repeated read n place ≡ Some x → Takes start (front ++ flat_map spelled x.0) x.1.left × ((length x.0 ≡ n) × AllByRecursion Fits x.0)
unfolding repeated
repeated_takes {X = X} read spelled Fits each zero start front place x takes found =
    subst (λ (y : List X × Place). Takes start (front ++ flat_map spelled y.0) y.1.left × ((length y.0 ≡ 0) × AllByRecursion Fits y.0)) (some_is ([], place) x found)
    (Takes-is start front (front ++ []) place.left (sym (append-nil front)) takes, (refl, tt))
repeated_takes {X = X} read spelled Fits each (suc n) start front place x takes found =
    then_some (read place) _ x found (λ first at_first more.
    then_some (repeated read n first.1) _ x more (λ rest at_rest last.
    let one = each start front place first takes at_first in
    let others = repeated_takes read spelled Fits each n start (front ++ spelled first.0) first.1 rest one.0 at_rest in
    subst (λ (y : List X × Place). Takes start (front ++ flat_map spelled y.0) y.1.left × ((length y.0 ≡ suc n) × AllByRecursion Fits y.0)) (some_is (first.0 ∷ rest.0, rest.1) x last)
    (Takes-is start (front ++ spelled first.0 ++ flat_map spelled rest.0) (front ++ (spelled first.0 ++ flat_map spelled rest.0)) rest.1.left (append_assoc front (spelled first.0) (flat_map spelled rest.0)) others.0, (ap suc others.1.0, (one.1, others.1.1)))))

abbrev pub ReachesEach : {X : Type 0} → (Place → Option (X × Place)) → (X → List ℕ) → (X → Type 0) → Type 0
ReachesEach {X = X} read spelled Fits = (x : X) (place : Place) (rest : List ℕ) → Fits x → place.left ≡ spelled x ++ rest → Reaches (read place) x rest

pub repeated_reaches : {X : Type 0} (read : Place → Option (X × Place)) (spelled : X → List ℕ) (Fits : X → Type 0) → ReachesEach read spelled Fits
    → (xs : List X) (place : Place) (rest : List ℕ) → AllByRecursion Fits xs → place.left ≡ flat_map spelled xs ++ rest → Reaches (repeated read (length xs) place) xs rest
unfolding repeated
repeated_reaches read spelled Fits each [] place rest fits is_spelled = record { after = place; found = refl; left = is_spelled }
repeated_reaches read spelled Fits each (x ∷ xs) place rest fits is_spelled =
    let first = each x place (flat_map spelled xs ++ rest) fits.0 (is_spelled ∙ append_assoc (spelled x) (flat_map spelled xs) rest) in
    let others = repeated_reaches read spelled Fits each xs first.after rest fits.1 first.left in
    record { after = others.after; found = rw (first.found, others.found) refl; left = others.left }
