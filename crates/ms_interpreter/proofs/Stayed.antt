-- What is known stays known as an arithmetic grows.
use Rattle.std.proofs.Common.{◌≡◌, ℕ, ℤ, pos, Option, Some, None, IfSome, map, refl, sym, ap, ◌∙◌}
use Rattle.std.specs.Prelude.{option_map}
use Rattle.ms_code.specs.declared.instruction.Case.{Case}
use Rattle.ms_machine.specs.Ints.{Ints}
use Rattle.ms_machine.specs.Effects.{Test, Divides, Selects, Indexes}
use Rattle.ms_machine.specs.Tests.{arm_of, both_known, one_known}
use Rattle.ms_linking.specs.Told.{comparison_of}
use Rattle.ms_interpreter.specs.declared.asked.Asked.{Asked}
use Rattle.ms_interpreter.specs.declared.asked.Asked.TheVariants as asked
use Rattle.ms_interpreter.specs.Asking.{asked_of}
use Rattle.ms_interpreter.specs.Staying.{Stay}
use Rattle.ms_interpreter.specs.Turns.{known_arm}

module _ {I V : Type 0} (J : Ints V) (Has : V → Type 0) (has_known : (v : V) (word : ℤ) → J.known v ≡ Some word → Has v) (f g : I → V) (stay : Stay Has f g) where
  -- of what is known the word stays
  pub known_stays : (a : I) (word : ℤ) → J.known (f a) ≡ Some word → J.known (g a) ≡ Some word
  known_stays a word is = ap J.known (stay a (has_known (f a) word is)) ∙ is

  -- so does the arm of a test of one int
  one_stays : (test : ℤ → Test ℤ) (a : I) (arm : ℕ) → option_map arm_of (one_known test (J.known (f a))) ≡ Some arm → option_map arm_of (one_known test (J.known (g a))) ≡ Some arm
  one_stays test a arm is = by_one (J.known (f a)) (known_stays a) is
    where
      by_one : (v : Option ℤ) → ((word : ℤ) → v ≡ Some word → J.known (g a) ≡ Some word) → option_map arm_of (one_known test v) ≡ Some arm → option_map arm_of (one_known test (J.known (g a))) ≡ Some arm
      by_one None same is = absurd (let e = is in cc)
      by_one (Some v) same is = ap (λ o. option_map arm_of (one_known test o)) (same v refl) ∙ is

  -- the arm of a test whose ints are known stays
  pub arm_stays : (test : Asked I) (arm : ℕ) → known_arm J (asked_of J f test) ≡ Some arm → known_arm J (asked_of J g test) ≡ Some arm
  arm_stays (asked.Compares comparison a b) arm is = by_two (J.known (f a)) (J.known (f b)) (known_stays a) (known_stays b) is
    where
      by_two : (v w : Option ℤ) → ((word : ℤ) → v ≡ Some word → J.known (g a) ≡ Some word) → ((word : ℤ) → w ≡ Some word → J.known (g b) ≡ Some word)
          → option_map arm_of (both_known (comparison_of comparison) v w) ≡ Some arm → option_map arm_of (both_known (comparison_of comparison) (J.known (g a)) (J.known (g b))) ≡ Some arm
      by_two None w same_a same_b is = absurd (let e = is in cc)
      by_two (Some v) None same_a same_b is = absurd (let e = is in cc)
      by_two (Some v) (Some w) same_a same_b is = (λ j. option_map arm_of (both_known (comparison_of comparison) (same_a v refl j) (same_b w refl j))) ∙ is
  arm_stays (asked.ComparesZero comparison a) arm is = by_one (J.known (f a)) (known_stays a) is
    where
      by_one : (v : Option ℤ) → ((word : ℤ) → v ≡ Some word → J.known (g a) ≡ Some word)
          → option_map arm_of (both_known (comparison_of comparison) v (J.known (J.constant (pos 0)))) ≡ Some arm → option_map arm_of (both_known (comparison_of comparison) (J.known (g a)) (J.known (J.constant (pos 0)))) ≡ Some arm
      by_one None same is = absurd (let e = is in cc)
      by_one (Some v) same is = (λ j. option_map arm_of (both_known (comparison_of comparison) (same v refl j) (J.known (J.constant (pos 0))))) ∙ is
  arm_stays (asked.Divides b) arm is = one_stays Divides b arm is
  arm_stays (asked.Selects a switch) arm is = one_stays (λ word. Selects word (map (λ (case : Case). case.key) switch.now.cases)) a arm is
  arm_stays (asked.Indexes a len) arm is = one_stays (λ word. Indexes word len) a arm is

  -- the same of what `known_arm` found
  pub found_stays : (test : Asked I) (found : Option ℕ) → found ≡ known_arm J (asked_of J f test) → IfSome found (λ arm. known_arm J (asked_of J g test) ≡ Some arm)
  found_stays test None is = tt
  found_stays test (Some arm) is = arm_stays test arm (sym is)
