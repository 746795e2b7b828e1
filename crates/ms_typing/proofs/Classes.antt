-- The tree of throwables, known by computing over all its classes.
use Rattle.std.proofs.Common.{◌≡◌, ◌⊎◌, ℕ, zero, suc, ◌<◌, ◌≤◌, Bool, true, cond, ◌&&◌, ◌||◌, List, [], ◌∷◌, length, nat_le, nat_lt, Some, slice_get, refl, sym, ap, ◌∙◌, subst, inl, inr}
use Rattle.std.specs.List.{list_all}
use Rattle.std.proofs.lemmas.Bool.{and_parts, eq-eqb, eqb-true, leb-true, ltb-true, or_cases}
use Rattle.ms_words.specs.declared.thrown.Thrown.{Thrown}
use Rattle.ms_words.specs.declared.thrown.Thrown.TheVariants as throwables
use Rattle.ms_words.specs.Throwables.{every_thrown, is_a, number_of}
use Rattle.ms_typing.specs.Kinds.{common, lineage, same_class}

-- COMPUTING OVER ALL

-- two things that are there are one
pub some_is : {A : Type 0} (a b : A) → Some a ≡ Some b → a ≡ b
some_is a b e = cc

-- each class stands at its number
at_number : (class : Thrown) → slice_get every_thrown (number_of class) ≡ Some class
at_number class = elim class as (λ class. slice_get every_thrown (number_of class) ≡ Some class) [ throwables.Throwable ↦ refl | _ ↦ refl ]

-- a test that all pass each one passes
passes_at : {A : Type 0} (test : A → Bool) (xs : List A) (n : ℕ) (x : A) → list_all test xs ≡ true → slice_get xs n ≡ Some x → test x ≡ true
passes_at test [] n x h e = cc
passes_at test (y ∷ xs) zero x h e = subst (λ z. test z ≡ true) (some_is y x e) (and_parts (test y) _ h).0
passes_at test (y ∷ xs) (suc n) x h e = passes_at test xs n x (and_parts (test y) _ h).1 e

-- a test that all classes pass each class passes, or each two, or three
pub each_class : (test : Thrown → Bool) → list_all test every_thrown ≡ true → (class : Thrown) → test class ≡ true
each_class test h class = passes_at test every_thrown (number_of class) class h (at_number class)

pub each_two : (test : Thrown → Thrown → Bool) → list_all (λ class. list_all (test class) every_thrown) every_thrown ≡ true → (class other : Thrown) → test class other ≡ true
each_two test h class other = each_class (test class) (each_class (λ class. list_all (test class) every_thrown) h class) other

each_three : (test : Thrown → Thrown → Thrown → Bool) → list_all (λ class. list_all (λ other. list_all (test class other) every_thrown) every_thrown) every_thrown ≡ true → (class other third : Thrown) → test class other third ≡ true
each_three test h class other third = each_class (test class other) (each_two (λ class other. list_all (test class other) every_thrown) h class other) third

-- where the test passes that the second holds if the first does
implied : (a b : Bool) → cond a b true ≡ true → a ≡ true → b ≡ true
implied a b h e = subst (λ x. cond x b true ≡ true) e h

-- WHAT IS KNOWN OF CLASSES

-- a class is equal to itself, and no other is
pub same_class_self : (class : Thrown) → same_class class class ≡ true
same_class_self class = eq-eqb (number_of class) (number_of class) refl

pub same_class_is : (class other : Thrown) → same_class class other ≡ true → class ≡ other
same_class_is class other h = some_is class other (sym (at_number class) ∙ (ap (slice_get every_thrown) (eqb-true (number_of class) (number_of other) h) ∙ at_number other))

-- each class is itself, and what its ancestors are
pub is_a_self : (class : Thrown) → is_a class class ≡ true
is_a_self = each_class (λ class. is_a class class) refl

pub is_a_above : (class other third : Thrown) → is_a class other ≡ true → is_a other third ≡ true → is_a class third ≡ true
is_a_above class other third h k =
    implied _ _ (implied _ _ (each_three (λ class other third. cond (is_a class other) (cond (is_a other third) (is_a class third) true) true) refl class other third) h) k

-- two classes are their common ancestor, and that is each class that both are
pub common_both : (class other : Thrown) → (is_a class (common class other) ≡ true) × (is_a other (common class other) ≡ true)
common_both class other = and_parts _ _ (each_two (λ class other. is_a class (common class other) && is_a other (common class other)) refl class other)

pub common_least : (class other third : Thrown) → is_a class third ≡ true → is_a other third ≡ true → is_a (common class other) third ≡ true
common_least class other third h k =
    implied _ _ (implied _ _ (each_three (λ class other third. cond (is_a class third) (cond (is_a other third) (is_a (common class other) third) true) true) refl class other third) h) k

-- the common ancestor is the first class, or stands higher
pub common_higher : (class other : Thrown) → (common class other ≡ class) ⊎ (length (lineage (common class other)) < length (lineage class))
common_higher class other = elim (or_cases (same_class (common class other) class) _
    (each_two (λ class other. same_class (common class other) class || nat_lt (length (lineage (common class other))) (length (lineage class))) refl class other)) [
      | inl h ↦ inl (same_class_is _ _ h)
      | inr h ↦ inr (ltb-true _ _ h)
    ]

-- a class and those above it are at most five
pub lineage_few : (class : Thrown) → length (lineage class) ≤ 5
lineage_few class = leb-true _ _ (each_class (λ class. nat_le (length (lineage class)) 5) refl class)
