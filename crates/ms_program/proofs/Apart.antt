-- The classes of a program have names of their own.
use Rattle.std.proofs.Common.{◌≡◌, ℕ, zero, suc, ◌+◌, ◌<◌, ◌≤◌, ◌==◌, List, [], ◌∷◌, ◌++◌, length, get_or, slice_get, slice_set, nat_lt, not, Bool, true, false, cond, Option, Some, None, refl, sym, ap, subst, ◌∙◌, arith}
use Rattle.std.specs.Prelude.{IfSome}
use Rattle.std.specs.List.{prefix_len}
use Rattle.std.specs.Str.{bytes_eq}
use Rattle.std.specs.Cmp.Lexicographic.{bytes_decides}
use Rattle.std.proofs.lemmas.Bool.{eqb-false, eqb-true, ltb-false, ltb-true}
use Rattle.std.proofs.lemmas.Option.{get_or_from_slice_get, slice_get-get_or}
use Rattle.std.proofs.lemmas.List.Quantifiers.{position-Some}
use Rattle.ms_program.specs.Programs.{AreApart, Class, Program, class_named}
use Rattle.ms_program.proofs.Entries.{get_other, get_set}

-- whether a class has this name
abbrev has_name : List ℕ → Class → Bool
has_name name class = bytes_eq class.name name

-- NAMES THAT ARE FOUND

-- where all pass from the front on, each does
each_passes : (q : Class → Bool) (classes : List Class) (i : ℕ) (class : Class) → length classes ≤ prefix_len q classes → slice_get classes i ≡ Some class → q class ≡ true
each_passes q [] i class all there = absurd (let e = there in cc)
each_passes q (first ∷ classes) zero class all there = by_first (q first) refl all
  where
    by_first : (b : Bool) → q first ≡ b → length (first ∷ classes) ≤ cond b (1 + prefix_len q classes) 0 → q class ≡ true
    by_first true is some = subst (λ (c : Class). q c ≡ true) (let e = there in cc) is
    by_first false is some = absurd (omega (arith, some))
each_passes q (first ∷ classes) (suc i) class all there = each_passes q classes i class (rest (q first) all) there
  where
    rest : (b : Bool) → length (first ∷ classes) ≤ cond b (1 + prefix_len q classes) 0 → length classes ≤ prefix_len q classes
    rest true some = omega (arith, some)
    rest false some = absurd (omega (arith, some))

-- where no class has a name, no class has it
unnamed : (P : Program) (name : List ℕ) (i : ℕ) (class : Class) → class_named P name ≡ None → slice_get P.classes i ≡ Some class → class.name ≡ name → ⊥
unnamed P name i class none there same = by_test (nat_lt (prefix_len passes P.classes) (length P.classes)) refl none
  where
    passes : Class → Bool
    passes c = not (has_name name c)

    by_test : (b : Bool) → nat_lt (prefix_len passes P.classes) (length P.classes) ≡ b → ◌≡◌ {A = Option ℕ} (cond b (Some (prefix_len passes P.classes)) None) None → ⊥
    by_test true is e = absurd (let f = e in cc)
    by_test false is e =
        let passed : not (has_name name class) ≡ true = each_passes passes P.classes i class (ltb-false _ _ is) there in
        let named : has_name name class ≡ true = (bytes_decides class.name name).1 same in
        absurd (let f = ap not named in let g = passed in cc)

-- the class that is found has the name
pub named_so : (P : Program) (name : List ℕ) (i : ℕ) (class : Class) → class_named P name ≡ Some i → slice_get P.classes i ≡ Some class → class.name ≡ name
named_so P name i class found there =
    let named : has_name name class ≡ true = subst (λ (c : Class). has_name name c ≡ true) (get_or_from_slice_get P.classes i class class there) (position-Some (has_name name) P.classes i class found).1 in
    (bytes_decides class.name name).0 named

pub has_that_name : (P : Program) (name : List ℕ) (i : ℕ) → class_named P name ≡ Some i → IfSome (slice_get P.classes i) (λ class. class.name ≡ name)
has_that_name P name i found = by_class (slice_get P.classes i) refl
  where
    by_class : (class : Option Class) → slice_get P.classes i ≡ class → IfSome class (λ c. c.name ≡ name)
    by_class None there = tt
    by_class (Some class) there = named_so P name i class found there

-- A CLASS MORE

before_last : (classes : List Class) (last class : Class) (i : ℕ) → slice_get (classes ++ last ∷ []) i ≡ Some class → i < length classes → slice_get classes i ≡ Some class
before_last [] last class i there within = absurd (omega (arith, within))
before_last (first ∷ classes) last class zero there within = there
before_last (first ∷ classes) last class (suc i) there within = before_last classes last class i there (omega (arith, within))

at_last : (classes : List Class) (last class : Class) (i : ℕ) → slice_get (classes ++ last ∷ []) i ≡ Some class → length classes ≤ i → (i ≡ length classes) × (last ≡ class)
at_last [] last class zero there past = (refl, (let e = there in cc))
at_last [] last class (suc i) there past = absurd (let e = there in cc)
at_last (first ∷ classes) last class zero there past = absurd (omega (arith, past))
at_last (first ∷ classes) last class (suc i) there past =
    let rest = at_last classes last class i there (omega (arith, past)) in
    (ap (λ (n : ℕ). suc n) rest.0, rest.1)

pub apart_appended : (P : Program) (last : Class) → AreApart P.classes → class_named P last.name ≡ None → AreApart (P.classes ++ last ∷ [])
apart_appended P last apart none i j a b is_a is_b same = by_tests (nat_lt i (length P.classes)) refl (nat_lt j (length P.classes)) refl
  where
    by_tests : (s : Bool) → nat_lt i (length P.classes) ≡ s → (t : Bool) → nat_lt j (length P.classes) ≡ t → i ≡ j
    by_tests true first true second = apart i j a b (before_last P.classes last a i is_a (ltb-true _ _ first)) (before_last P.classes last b j is_b (ltb-true _ _ second)) same
    by_tests true first false second =
        absurd (unnamed P last.name i a none (before_last P.classes last a i is_a (ltb-true _ _ first)) (same ∙ ap (λ (c : Class). c.name) (sym (at_last P.classes last b j is_b (ltb-false _ _ second)).1)))
    by_tests false first true second =
        absurd (unnamed P last.name j b none (before_last P.classes last b j is_b (ltb-true _ _ second)) (sym same ∙ ap (λ (c : Class). c.name) (sym (at_last P.classes last a i is_a (ltb-false _ _ first)).1)))
    by_tests false first false second = (at_last P.classes last a i is_a (ltb-false _ _ first)).0 ∙ sym (at_last P.classes last b j is_b (ltb-false _ _ second)).0

-- ANOTHER CLASS

pub apart_set : (P : Program) (number : ℕ) (class : Class) → AreApart P.classes → class_named P class.name ≡ Some number → number < length P.classes → AreApart (slice_set P.classes number class)
apart_set P number class apart found within i j a b is_a is_b same = by_tests (i == number) refl (j == number) refl
  where
    old : Class
    old = get_or P.classes number class

    was : slice_get P.classes number ≡ Some old
    was = slice_get-get_or P.classes number class within

    old_name : old.name ≡ class.name
    old_name = named_so P class.name number old found was

    here : (k : ℕ) (c : Class) → (k == number) ≡ true → slice_get (slice_set P.classes number class) k ≡ Some c → class ≡ c
    here k c is there = let e = sym (get_set P.classes class number within) ∙ ap (slice_get (slice_set P.classes number class)) (sym (eqb-true k number is)) ∙ there in cc

    elsewhere : (k : ℕ) (c : Class) → (k == number) ≡ false → slice_get (slice_set P.classes number class) k ≡ Some c → slice_get P.classes k ≡ Some c
    elsewhere k c is there = sym (get_other P.classes class number k (eqb-false k number is)) ∙ there

    by_tests : (s : Bool) → (i == number) ≡ s → (t : Bool) → (j == number) ≡ t → i ≡ j
    by_tests true first true second = eqb-true i number first ∙ sym (eqb-true j number second)
    by_tests true first false second =
        eqb-true i number first ∙ apart number j old b was (elsewhere j b second is_b) (old_name ∙ ap (λ (c : Class). c.name) (here i a first is_a) ∙ same)
    by_tests false first true second =
        apart i number a old (elsewhere i a first is_a) was (same ∙ sym (ap (λ (c : Class). c.name) (here j b second is_b)) ∙ sym old_name) ∙ sym (eqb-true j number second)
    by_tests false first false second = apart i j a b (elsewhere i a first is_a) (elsewhere j b second is_b) same
