-- Runs of a verified program stay safe: within a segment, after its arms, and from the start.
use Rattle.std.proofs.Common.{◌≡◌, ℕ, zero, suc, ◌<◌, ℤ, true, List, [], ◌∷◌, length, map, Option, Some, None, refl, sym, ap, ◌∙◌, subst, arith}
use Rattle.std.specs.Prelude.{option_map}
use Rattle.std.proofs.lemmas.List.{length-map}
use Rattle.ms_words.specs.declared.descriptor.FieldType.{FieldType}
use Rattle.ms_words.specs.declared.descriptor.FieldType.TheVariants as types
use Rattle.ms_words.specs.declared.item.Item.{Item}
use Rattle.ms_words.specs.declared.kind.Kind.{Kind}
use Rattle.ms_words.specs.Inputs.{Words, are_of, is_of}
use Rattle.ms_machine.specs.Ints.{Ints, ints, marks, shadows}
use Rattle.ms_machine.specs.Instructions.{Initialiser, Absent, Present, Foreign}
use Rattle.ms_machine.specs.Values as values
use Rattle.ms_machine.specs.Values.{Value, End, Returned, ReturnedVoid, Threw, InitFailed, Missing, Runaway, Deep, SymLength, HeapFull, Stuck}
use Rattle.ms_machine.specs.Effects.{Test, Compares, Divides, Selects, Indexes}
use Rattle.ms_machine.specs.Control.{Program, Views, Done, Goes, Ends, Step, Then, Chooses, entry_frame, memory_at_start, start, step}
use Rattle.ms_machine.specs.Tests.{arm_of, arms_of, both_known, known_test, one_known}
use Rattle.ms_machine.specs.Segments.{After, Choice, Over, advanced, done_within, followed, forked, most_instructions, past, segment_from, segment_within}
use Rattle.ms_machine.specs.Runs.{IsInputOf, after_arms, done_after, given, given_from, started}
use Rattle.ms_machine.specs.Laws.{HasArm, mark_of, marked_start, parameters_from, shadow_started}
use Rattle.ms_typing.specs.Rules.{kind_of}
use Rattle.ms_typing.specs.Verifier.{filled}
use Rattle.ms_typing.specs.Typed.{ArePossible, Begins, HaveLocals, IsNeverStuck, IsSafe, IsSafeAfter, IsSafeStep, IsVerified, ReturnsNoArray, Runs, StaysSafe, Typings}
use Rattle.ms_typing.proofs.Classes.{some_is}
use Rattle.ms_typing.proofs.Values.{filled_locals, int_kind, second, wider_all, wider_locals}
use Rattle.ms_typing.proofs.Safe.{enters_safe, step_safe}

module _ {V : Type 0} where
  -- a test whose words are known has as many arms with them
  known_arms : (I : Ints V) (test : Test V) (words : Test ℤ) → known_test I test ≡ Some words → arms_of words ≡ arms_of test
  known_arms I (Compares comparison a b) words is = by_both (I.known a) (I.known b) is
    where
      by_both : (v w : Option ℤ) → both_known comparison v w ≡ Some words → arms_of words ≡ 2
      by_both None w e = absurd (let f = e in cc)
      by_both (Some v) None e = absurd (let f = e in cc)
      by_both (Some v) (Some w) e = ap arms_of (sym (some_is (Compares comparison v w) words e))
  known_arms I (Divides b) words is = by_one (I.known b) is
    where
      by_one : (v : Option ℤ) → one_known Divides v ≡ Some words → arms_of words ≡ 2
      by_one None e = absurd (let f = e in cc)
      by_one (Some v) e = ap arms_of (sym (some_is (Divides v) words e))
  known_arms I (Selects a keys) words is = by_one (I.known a) is
    where
      by_one : (v : Option ℤ) → one_known (λ word. Selects word keys) v ≡ Some words → arms_of words ≡ suc (length keys)
      by_one None e = absurd (let f = e in cc)
      by_one (Some v) e = ap arms_of (sym (some_is (Selects v keys) words e))
  known_arms I (Indexes a len) words is = by_one (I.known a) is
    where
      by_one : (v : Option ℤ) → one_known (λ word. Indexes word len) v ≡ Some words → arms_of words ≡ suc len
      by_one None e = absurd (let f = e in cc)
      by_one (Some v) e = ap arms_of (sym (some_is (Indexes v len) words e))

  over_safe : (P : Views) (T : Typings) (end : End V) → IsSafe P T (Ends end) → IsSafeAfter P T (Over end)
  over_safe P T (Returned a) safe = tt
  over_safe P T ReturnedVoid safe = tt
  over_safe P T (Threw class) safe = tt
  over_safe P T (InitFailed class) safe = tt
  over_safe P T (Missing name) safe = tt
  over_safe P T Runaway safe = tt
  over_safe P T Deep safe = tt
  over_safe P T SymLength safe = tt
  over_safe P T HeapFull safe = tt
  over_safe P T Stuck safe = safe

  module _ (take : (test : Test ℤ) → arm_of test < arms_of test) (P : Program) (T : Typings) (verified : IsVerified P T) (I : Ints V) where
    -- SEGMENTS

    followed_safe : (n : ℕ) → ((done : Done V) → IsSafe P.view T done → IsSafeAfter P.view T (segment_within I P.view n done).after) → (taken : Step V) → IsSafeStep P.view T taken → IsSafeAfter P.view T (followed I (segment_within I P.view n) taken).after
    followed_safe n all (Then done) safe = all done safe
    followed_safe n all (Chooses test arms) safe = by_known (known_test I test) refl
      where
        by_known : (known : Option (Test ℤ)) → known_test I test ≡ known → IsSafeAfter P.view T (forked test arms (segment_within I P.view n) known).after
        by_known None is = safe
        by_known (Some words) is = all (arms (arm_of words)) (safe (arm_of words) (subst (λ count. arm_of words < count) (known_arms I test words is) (take words)))

    within_safe : (n : ℕ) (done : Done V) → IsSafe P.view T done → IsSafeAfter P.view T (segment_within I P.view n done).after
    within_safe zero (Ends end) safe = over_safe P.view T end safe
    within_safe zero (Goes state) safe = tt
    within_safe (suc n) (Ends end) safe = over_safe P.view T end safe
    within_safe (suc n) (Goes state) safe = followed_safe n (within_safe n) (step I P.view state) (step_safe P.view T verified.items I state safe)

    segment_safe : (done : Done V) → IsSafe P.view T done → IsSafeAfter P.view T (segment_from I P.view done).after
    segment_safe done safe = within_safe most_instructions done safe

    -- STEPS

    advanced_safe : (n : ℕ) → ((done : Done V) → IsSafe P.view T done → IsSafe P.view T (done_within I P.view n done)) → (here : Done V) → IsSafe P.view T here → (taken : Step V) → IsSafeStep P.view T taken
        → IsSafe P.view T (advanced I here (done_within I P.view n) taken)
    advanced_safe n all here here_safe (Then done) safe = all done safe
    advanced_safe n all here here_safe (Chooses test arms) safe = by_known (known_test I test) refl
      where
        by_known : (known : Option (Test ℤ)) → known_test I test ≡ known → IsSafe P.view T (past here arms (done_within I P.view n) known)
        by_known None is = here_safe
        by_known (Some words) is = all (arms (arm_of words)) (safe (arm_of words) (subst (λ count. arm_of words < count) (known_arms I test words is) (take words)))

    steps_safe : (n : ℕ) (done : Done V) → IsSafe P.view T done → IsSafe P.view T (done_within I P.view n done)
    steps_safe zero done safe = safe
    steps_safe (suc n) (Ends end) safe = safe
    steps_safe (suc n) (Goes state) safe = advanced_safe n (steps_safe n) (Goes state) safe (step I P.view state) (step_safe P.view T verified.items I state safe)

    -- ARMS

    arm_safe : (after : After V) (arm : ℕ) → IsSafeAfter P.view T after → HasArm after arm → IsSafe P.view T (done_after after arm)
    arm_safe (Choice test arms) arm safe has = safe arm has
    arm_safe (Over end) arm safe has = absurd has

    arms_safe : (arms : List ℕ) (done : Done V) → IsSafe P.view T done → ArePossible I P.view done arms → IsSafe P.view T (after_arms I P.view done arms)
    arms_safe [] done safe possible = safe
    arms_safe (arm ∷ arms) done safe possible =
        let after = (segment_from I P.view done).after in
        arms_safe arms (done_after after arm) (arm_safe after arm (segment_safe done safe) possible.0) possible.1

    stays_safe : (done : Done V) → IsSafe P.view T done → (arms : List ℕ) → ArePossible I P.view done arms → StaysSafe I P.view T done arms
    stays_safe done safe arms possible =
        let there = arms_safe arms done safe possible in
        record { done = there; within = λ n. steps_safe n (after_arms I P.view done arms) there; after = segment_safe (after_arms I P.view done arms) there }

    -- THE START

    filled_ints : (count : ℕ) (kinds : List Kind) (xs : List V) → length xs ≡ length kinds → HaveLocals {V = V} 0 (filled count (map kind_of (map (λ kind. types.Int kind) kinds))) (map (λ a. Some (values.Int a)) xs)
    filled_ints zero kinds xs as_many = tt
    filled_ints (suc count) [] [] as_many = (refl, filled_ints count [] [] refl)
    filled_ints (suc count) (kind ∷ kinds) (x ∷ xs) as_many = (int_kind 0 x, filled_ints count kinds xs (omega (arith, as_many)))
    filled_ints (suc count) [] (x ∷ xs) as_many = absurd (omega (arith, as_many))
    filled_ints (suc count) (kind ∷ kinds) [] as_many = absurd (omega (arith, as_many))

    no_array : (result : Option Kind) → ReturnsNoArray (option_map (λ kind. types.Int kind) result)
    no_array None = tt
    no_array (Some kind) = tt

    -- a frame with these locals, where a method begins
    abbrev begun : (item : Item) (parameters : List FieldType) (result : Option FieldType) (b : Begins T (Some item) parameters result) (locals : List (Option (Value V))) (initialises : Option ℕ) → HaveLocals 0 (filled b.count (map kind_of parameters)) locals
        → Runs T 0 (record { at = item; locals = locals; stack = []; initialises = initialises })
    begun item parameters result b locals initialises have = record {
      typing = record { shape = b.leads.wider; result = result };
      at = ap T (some_is item b.leads.item b.leads.is) ∙ b.leads.at;
      locals = wider_locals 0 (filled b.count (map kind_of parameters)) b.leads.wider.locals locals b.leads.within.0 have;
      stack = wider_all 0 [] b.leads.wider.stack [] b.leads.within.1 tt;
    }

    start_safe : (xs : List V) → length xs ≡ length P.entry.kinds → IsSafe P.view T (start P xs)
    start_safe xs as_many = by_state P.entry.initialiser refl
      where
        parameters : List FieldType
        parameters = map (λ kind. types.Int kind) P.entry.kinds

        result : Option FieldType
        result = option_map (λ kind. types.Int kind) P.entry.result

        locals : HaveLocals {V = V} 0 (filled verified.entry.count (map kind_of (map (λ kind. types.Int kind) P.entry.kinds))) (map (λ a. Some (values.Int a)) xs)
        locals = filled_ints verified.entry.count P.entry.kinds xs as_many

        by_state : (state : Initialiser) → P.entry.initialiser ≡ state → IsSafe P.view T (start (record { entry = record P.entry { initialiser = state }; view = P.view }) xs)
        by_state Absent is = record { top = begun P.entry.first (map (λ kind. types.Int kind) P.entry.kinds) (option_map (λ kind. types.Int kind) P.entry.result) verified.entry _ None (filled_ints verified.entry.count P.entry.kinds xs as_many); below = no_array P.entry.result; statics = tt }
        by_state Present is =
            let b = verified.initialiser is in
            enters_safe P.view T P.entry.initialiser_first [] None [] (Some P.entry.class) (entry_frame P.entry.first xs) [] (memory_at_start P.entry.class) b (filled_locals 0 b.count [] [] tt)
            (begun P.entry.first (map (λ kind. types.Int kind) P.entry.kinds) (option_map (λ kind. types.Int kind) P.entry.result) verified.entry _ None (filled_ints verified.entry.count P.entry.kinds xs as_many), no_array P.entry.result) tt
        by_state Foreign is = tt

-- AS MANY PARAMETERS AS KINDS

terms_many : (index : ℕ) (kinds : List Kind) → length (parameters_from index kinds) ≡ length kinds
terms_many index [] = refl
terms_many index (kind ∷ kinds) = ap suc (terms_many (suc index) kinds)

words_many : (kinds : List Kind) (words : List ℤ) → are_of kinds words ≡ true → (index : ℕ) → length (given_from index kinds words) ≡ length kinds
words_many [] words are index = refl
words_many (kind ∷ kinds) [] are index = absurd (let e = are in cc)
words_many (kind ∷ kinds) (word ∷ words) are index = ap suc (words_many kinds words (second (is_of kind word) (are_of kinds words) are) (suc index))

inputs_many : (P : Program) (x : Words) → IsInputOf P x → length (given x) ≡ length P.entry.kinds
inputs_many P x is = words_many x.kinds x.words is.words 0 ∙ ap length is.kinds

pub never_stuck : ((test : Test ℤ) → arm_of test < arms_of test) → (P : Program) (T : Typings) → IsVerified P T → IsNeverStuck P T
never_stuck take P T verified = record {
  terms = λ arms possible. stays_safe take P T verified shadows (shadow_started P P.entry.kinds) (start_safe take P T verified shadows (parameters_from 0 P.entry.kinds) (terms_many 0 P.entry.kinds)) arms possible;
  inputs = λ x is arms possible. stays_safe take P T verified ints (started P x) (start_safe take P T verified ints (given x) (inputs_many P x is)) arms possible;
  marked = λ x is arms possible. stays_safe take P T verified marks (marked_start P x) (start_safe take P T verified marks (map mark_of (given x)) (length-map (given x) mark_of ∙ inputs_many P x is)) arms possible;
  term_steps = λ state typed. step_safe P.view T verified.items shadows state typed;
  int_steps = λ state typed. step_safe P.view T verified.items ints state typed;
  mark_steps = λ state typed. step_safe P.view T verified.items marks state typed;
}
