-- What spells a format at a place, whatever stands behind it.
use Rattle.std.proofs.Common.{◌≡◌, ℕ, suc, ◌+◌, ◌^◌, ◌<◌, Bool, true, List, [], ◌∷◌, ◌++◌, length, drop, Option, Some, refl, sym, ap, subst, ◌∙◌, append_assoc, length-append, arith}
use Rattle.std.specs.List.{flat_map}
use Rattle.std.proofs.lemmas.List.{append-nil, drop_at, take_at}
use Rattle.ms_pool.specs.Places.{Place, number_bytes}
use Rattle.ms_pool.specs.Formats.{Format, added, check, done, filled, found, here, number, repeated, run, within, ◌>>=◌}
use Rattle.ms_classfile.specs.declared.fault.ClassFault.{ClassFault}

-- a place
abbrev pub place : ℕ → List ℕ → Place
place at left = record { at = at; left = left }

-- at this place these bytes spell this, whatever stands behind them
pub record Spells {X : Type 0} (format : Format ClassFault X) (at : ℕ) (text : List ℕ) (x : X) : Type 0 where
  pub is : (rest : List ℕ) → format.Spells (place at (text ++ rest)) x (place (at + length text) rest)

-- no bytes spell this
pub record SpellsNothing {X : Type 0} (format : Format ClassFault X) (at : ℕ) (x : X) : Type 0 where
  pub is : (rest : List ℕ) → format.Spells (place at rest) x (place at rest)

-- NO BYTES

pub done_nothing : {X : Type 0} (x : X) (at : ℕ) → SpellsNothing (done x) at x
done_nothing x at = record { is = λ rest. (refl, refl) }

pub here_nothing : (at : ℕ) → SpellsNothing here at at
here_nothing at = record { is = λ rest. (refl, refl) }

pub found_nothing : {X : Type 0} (option : Option X) (fault : ClassFault) (at : ℕ) (x : X) → option ≡ Some x → SpellsNothing (found option fault) at x
found_nothing option fault at x is = record { is = λ rest. (is, refl) }

pub check_nothing : (test : Bool) (fault : ClassFault) (at : ℕ) → test ≡ true → SpellsNothing (check test fault) at tt
check_nothing test fault at is = record { is = λ rest. (is, refl) }

pub both_nothing : {X Y : Type 0} (first : Format ClassFault X) (rest : X → Format ClassFault Y) (at : ℕ) (x : X) (y : Y) → SpellsNothing first at x → SpellsNothing (rest x) at y → SpellsNothing (first >>= rest) at y
both_nothing first rest at x y p q = record { is = λ left. record { x = x; between = place at left; is_first = p.is left; is_rest = q.is left } }

-- BYTES

pub u2_spelled : (short : ℕ → ClassFault) (at x : ℕ) → x < 2 ^ 16 → Spells (number short 2) at (number_bytes 2 x) x
u2_spelled short at x fits = record { is = λ rest. record { fits = fits; bytes = refl; moved = refl } }

pub u4_spelled : (short : ℕ → ClassFault) (at x : ℕ) → x < 2 ^ 32 → Spells (number short 4) at (number_bytes 4 x) x
u4_spelled short at x fits = record { is = λ rest. record { fits = fits; bytes = refl; moved = refl } }

pub run_spelled : (short : ℕ → ClassFault) (at : ℕ) (text : List ℕ) → Spells (run short (length text)) at text text
run_spelled short at text = record { is = λ rest. record { many = refl; bytes_are = refl; moved = refl } }

-- two parts with bytes
pub both_spelled : {X Y : Type 0} (first : Format ClassFault X) (rest : X → Format ClassFault Y) (at : ℕ) (s t : List ℕ) (x : X) (y : Y) → Spells first at s x → Spells (rest x) (at + length s) t y → Spells (first >>= rest) at (s ++ t) y
both_spelled first rest at s t x y p q = record {
  is = λ left. record {
    x = x;
    between = place (at + length s) (t ++ left);
    is_first = subst (λ (l : List ℕ). first.Spells (place at l) x (place (at + length s) (t ++ left))) (sym (append_assoc s t left)) (p.is (t ++ left));
    is_rest = subst (λ (n : ℕ). (rest x).Spells (place (at + length s) (t ++ left)) y (place n left)) (omega (arith, length-append s t)) (q.is left);
  };
}

-- a part without bytes, and one with bytes
pub then_spelled : {X Y : Type 0} (first : Format ClassFault X) (rest : X → Format ClassFault Y) (at : ℕ) (t : List ℕ) (x : X) (y : Y) → SpellsNothing first at x → Spells (rest x) at t y → Spells (first >>= rest) at t y
then_spelled first rest at t x y p q = record { is = λ left. record { x = x; between = place at (t ++ left); is_first = p.is (t ++ left); is_rest = q.is left } }

-- a part with bytes, and one without
pub last_spelled : {X Y : Type 0} (first : Format ClassFault X) (rest : X → Format ClassFault Y) (at : ℕ) (s : List ℕ) (x : X) (y : Y) → Spells first at s x → SpellsNothing (rest x) (at + length s) y → Spells (first >>= rest) at s y
last_spelled first rest at s x y p q = record { is = λ left. record { x = x; between = place (at + length s) left; is_first = p.is left; is_rest = q.is left } }

pub nothing_spelled : {X : Type 0} (format : Format ClassFault X) (at : ℕ) (x : X) → SpellsNothing format at x → Spells format at [] x
nothing_spelled format at x p = record { is = λ left. subst (λ (n : ℕ). format.Spells (place at left) x (place n left)) (omega arith) (p.is left) }

-- other bytes, or another value, that are equal
pub spelled_as : {X : Type 0} (format : Format ClassFault X) (at : ℕ) (s t : List ℕ) (x y : X) → s ≡ t → x ≡ y → Spells format at s x → Spells format at t y
spelled_as {X = X} format at s t x y same is p = subst (λ (z : X). Spells format at t z) is (subst (λ (l : List ℕ). Spells format at l x) same p)

-- CONTENT THAT FILLS ITS BYTES

place_is : (at m n : ℕ) (s t : List ℕ) → m ≡ n → s ≡ t → place m s ≡ place n t
place_is at m n s t p q = ap (λ (k : ℕ). place k s) p ∙ ap (place n) q

pub within_spelled : {X : Type 0} (short trailing : ℕ → ClassFault) (content : Format ClassFault X) (at : ℕ) (text : List ℕ) (x : X) → Spells content at text x → Spells (within short trailing (length text) content) at text x
within_spelled short trailing content at text x p = record {
  is = λ rest.
      let n = length text in
      let last : Place = place (at + n) [] in
      let inner : content.Spells (place at text) x last = subst (λ (l : List ℕ). content.Spells (place at l) x last) (append-nil text) (p.is []) in
      record {
        enough = omega (arith, length-append text rest);
        last = last;
        is = subst (λ (q : Place). (filled trailing content).Spells q x last) (ap (place at) (sym (take_at text rest n refl)))
            (record { x = x; between = last; is_first = inner; is_rest = record { x = tt; between = last; is_first = (refl, refl); is_rest = (refl, refl) } });
        after_is = place_is at (at + n) (at + n) rest (drop n (text ++ rest)) refl (sym (drop_at text rest n refl));
      };
}

-- PARTS THAT ARE ADDED

module _ {A X : Type 0} (part : List X → Format ClassFault X) (text : A → List ℕ) (make : ℕ → A → X) where
  -- what is read of these, one behind the other, of which the first begins here
  abbrev pub made_at : ℕ → List A → List X
  made_at at [] = []
  made_at at (item ∷ items) = make at item ∷ made_at (at + length (text item)) items

  -- each is spelled behind those before it
  abbrev pub AreSpelled : List X → ℕ → List A → Type 0
  AreSpelled before at [] = Unit {0}
  AreSpelled before at (item ∷ items) = Spells (part before) at (text item) (make at item) × AreSpelled (before ++ make at item ∷ []) (at + length (text item)) items

  pub several_spelled : (before : List X) (at : ℕ) (items : List A) → AreSpelled before at items → Spells (repeated (length items) (added part) before) at (flat_map text items) (before ++ made_at at items)
  several_spelled before at [] are = spelled_as (done before) at [] [] before (before ++ []) refl (sym (append-nil before)) (nothing_spelled (done before) at before (done_nothing before at))
  several_spelled before at (item ∷ items) are =
      let x = make at item in
      let after = before ++ x ∷ [] in
      let next = at + length (text item) in
      let one : Spells (added part before) at (text item) after = last_spelled (part before) (λ y. done (before ++ y ∷ [])) at (text item) x after are.0 (done_nothing after next) in
      let rest = several_spelled after next items are.1 in
      spelled_as (repeated (suc (length items)) (added part) before) at (text item ++ flat_map text items) (text item ++ flat_map text items) (after ++ made_at next items) (before ++ x ∷ made_at next items) refl (append_assoc before (x ∷ []) (made_at next items))
      (both_spelled (added part before) (repeated (length items) (added part)) at (text item) (flat_map text items) after (after ++ made_at next items) one rest)
