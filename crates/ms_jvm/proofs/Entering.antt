-- The run of a program that is never stuck has an end.
use Rattle.std.proofs.Common.{◌≡◌, ◌<◌, ℕ, zero, suc, ℤ, refl, sym, subst}
use Rattle.std.specs.Prelude.{IsSome}
use Rattle.ms_words.specs.Inputs.{Words}
use Rattle.ms_machine.specs.Ints.{Int, ints}
use Rattle.ms_machine.specs.Values.{Returned, ReturnedVoid, Threw, InitFailed, Missing, Runaway, Deep, SymLength, HeapFull, Stuck}
use Rattle.ms_machine.specs.Effects.{Test, Compares, Divides, Selects, Indexes}
use Rattle.ms_machine.specs.Control.{Done, Program, Views}
use Rattle.ms_machine.specs.Tests.{arm_of, arms_of, map_test}
use Rattle.ms_machine.specs.Segments.{After, Choice, Over, segment_from}
use Rattle.ms_machine.specs.Runs.{IsInputOf, arms_at, done_after, end_at, end_of, started, string, string_from, word_arm}
use Rattle.ms_machine.specs.Laws.{HasArm}
use Rattle.ms_typing.specs.Typed.{ArePossible, IsNeverStuck, IsSafeAfter, Typings}
use Rattle.ms_jvm.specs.Ends.{path_end_of}

-- words take an arm
abbrev pub TakeAnArm : Type 0
TakeAnArm = (test : Test ℤ) → arm_of test < arms_of test

same_arms : (test : Test Int) → arms_of (map_test (λ (a : Int). a.word) test) ≡ arms_of test
same_arms (Compares comparison a b) = refl
same_arms (Divides b) = refl
same_arms (Selects a keys) = refl
same_arms (Indexes a len) = refl

word_fits : TakeAnArm → (test : Test Int) → word_arm test < arms_of test
word_fits fits test = subst (λ n. word_arm test < n) (same_arms test) (fits (map_test (λ (a : Int). a.word) test))

-- so each arm of a run is one of its choice
run_possible : TakeAnArm → (P : Views) (depth : ℕ) (done : Done Int) → ArePossible ints P done (string_from ints P word_arm depth done)
run_possible fits P zero done = tt
run_possible fits P (suc depth) done = go (segment_from ints P done).after refl (run_possible fits P depth)
  where
    go : (after : After Int) → (segment_from ints P done).after ≡ after → ((later : Done Int) → ArePossible ints P later (string_from ints P word_arm depth later))
        → ArePossible ints P done (arms_at word_arm (string_from ints P word_arm depth) after)
    go (Choice test arms) e ih = (
      subst (λ (a : After Int). HasArm a (word_arm test)) (sym e) (word_fits fits test),
      subst (λ (a : After Int). ArePossible ints P (done_after a (word_arm test)) (string_from ints P word_arm depth (arms (word_arm test)))) (sym e) (ih (arms (word_arm test))),
    )
    go (Over end) e ih = tt

-- what comes after a safe segment has an end in the words of the code
safe_end : (P : Views) (T : Typings) (after : After Int) → IsSafeAfter P T after → IsSome (path_end_of (end_at after))
safe_end P T (Choice test arms) safe = refl
safe_end P T (Over (Returned a)) safe = refl
safe_end P T (Over ReturnedVoid) safe = refl
safe_end P T (Over (Threw class)) safe = refl
safe_end P T (Over (InitFailed class)) safe = refl
safe_end P T (Over (Missing name)) safe = refl
safe_end P T (Over Runaway) safe = refl
safe_end P T (Over Deep) safe = refl
safe_end P T (Over SymLength) safe = refl
safe_end P T (Over HeapFull) safe = refl
safe_end P T (Over Stuck) safe = absurd safe

pub has_end : TakeAnArm → (P : Program) (T : Typings) (x : Words) (depth : ℕ) → IsNeverStuck P T → IsInputOf P x → IsSome (path_end_of (end_of P x depth))
has_end fits P T x depth never input = safe_end P.view T _ (never.inputs x input (string P x depth) (run_possible fits P.view depth (started P x))).after
