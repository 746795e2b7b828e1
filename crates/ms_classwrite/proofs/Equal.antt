-- Lines are the same where they are equal.
use Rattle.std.proofs.Common.{◌≡◌, ℕ, true, refl, ap, ◌∙◌}
use Rattle.std.specs.Prelude.{◌==◌, ◌&&◌}
use Rattle.std.proofs.lemmas.Bool.{and_parts, eq-eqb, eqb-true}
use Rattle.std.proofs.lemmas.Bool.Decides.{Decides-int_eq}
use Rattle.std.proofs.lemmas.Slice.Eq.{bytes_eq-Decides}
use Rattle.ms_classwrite.specs.declared.plan.PoolLine.{PoolLine}
use Rattle.ms_classwrite.specs.declared.plan.PoolLine.TheVariants.{Utf8, Integer, Class, Text, NameAndType, Field, Method}
use Rattle.ms_classwrite.specs.Plans.{same_line}

pair_self : (i j : ℕ) → (i == i && j == j) ≡ true
pair_self i j = rw (eq-eqb i i refl, eq-eqb j j refl) refl

pub same_self : (line : PoolLine) → same_line line line ≡ true
same_self (Utf8 s) = (bytes_eq-Decides s s).1 refl
same_self (Integer m) = (Decides-int_eq m m).1 refl
same_self (Class i) = eq-eqb i i refl
same_self (Text i) = eq-eqb i i refl
same_self (NameAndType i j) = pair_self i j
same_self (Field i j) = pair_self i j
same_self (Method i j) = pair_self i j

two_are : (make : ℕ → ℕ → PoolLine) (i j k l : ℕ) → (i == k && j == l) ≡ true → make i j ≡ make k l
two_are make i j k l is =
    let p = and_parts (i == k) (j == l) is in
    ap (λ (n : ℕ). make n j) (eqb-true i k p.0) ∙ ap (make k) (eqb-true j l p.1)

pub same_is : (one other : PoolLine) → same_line one other ≡ true → one ≡ other
same_is (Utf8 i) (Utf8 k) is = ap Utf8 ((bytes_eq-Decides i k).0 is)
same_is (Utf8 i) (Integer k) is = absurd cc
same_is (Utf8 i) (Class k) is = absurd cc
same_is (Utf8 i) (Text k) is = absurd cc
same_is (Utf8 i) (NameAndType k l) is = absurd cc
same_is (Utf8 i) (Field k l) is = absurd cc
same_is (Utf8 i) (Method k l) is = absurd cc
same_is (Integer i) (Utf8 k) is = absurd cc
same_is (Integer i) (Integer k) is = ap Integer ((Decides-int_eq i k).0 is)
same_is (Integer i) (Class k) is = absurd cc
same_is (Integer i) (Text k) is = absurd cc
same_is (Integer i) (NameAndType k l) is = absurd cc
same_is (Integer i) (Field k l) is = absurd cc
same_is (Integer i) (Method k l) is = absurd cc
same_is (Class i) (Utf8 k) is = absurd cc
same_is (Class i) (Integer k) is = absurd cc
same_is (Class i) (Class k) is = ap Class (eqb-true i k is)
same_is (Class i) (Text k) is = absurd cc
same_is (Class i) (NameAndType k l) is = absurd cc
same_is (Class i) (Field k l) is = absurd cc
same_is (Class i) (Method k l) is = absurd cc
same_is (Text i) (Utf8 k) is = absurd cc
same_is (Text i) (Integer k) is = absurd cc
same_is (Text i) (Class k) is = absurd cc
same_is (Text i) (Text k) is = ap Text (eqb-true i k is)
same_is (Text i) (NameAndType k l) is = absurd cc
same_is (Text i) (Field k l) is = absurd cc
same_is (Text i) (Method k l) is = absurd cc
same_is (NameAndType i j) (Utf8 k) is = absurd cc
same_is (NameAndType i j) (Integer k) is = absurd cc
same_is (NameAndType i j) (Class k) is = absurd cc
same_is (NameAndType i j) (Text k) is = absurd cc
same_is (NameAndType i j) (NameAndType k l) is = two_are NameAndType i j k l is
same_is (NameAndType i j) (Field k l) is = absurd cc
same_is (NameAndType i j) (Method k l) is = absurd cc
same_is (Field i j) (Utf8 k) is = absurd cc
same_is (Field i j) (Integer k) is = absurd cc
same_is (Field i j) (Class k) is = absurd cc
same_is (Field i j) (Text k) is = absurd cc
same_is (Field i j) (NameAndType k l) is = absurd cc
same_is (Field i j) (Field k l) is = two_are Field i j k l is
same_is (Field i j) (Method k l) is = absurd cc
same_is (Method i j) (Utf8 k) is = absurd cc
same_is (Method i j) (Integer k) is = absurd cc
same_is (Method i j) (Class k) is = absurd cc
same_is (Method i j) (Text k) is = absurd cc
same_is (Method i j) (NameAndType k l) is = absurd cc
same_is (Method i j) (Field k l) is = absurd cc
same_is (Method i j) (Method k l) is = two_are Method i j k l is
