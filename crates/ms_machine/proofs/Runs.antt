-- The laws over whole runs.
use Rattle.std.proofs.Common.{◌≡◌, ℕ, zero, suc, ℤ, List, ◌∷◌, map, refl, sym, ap, ◌∙◌}
use Rattle.ms_terms.specs.Terms.{Term}
use Rattle.ms_words.specs.Inputs.{Words}
use Rattle.ms_words.specs.Items.{firsts}
use Rattle.ms_machine.specs.Ints.{Ints, Int, Marked, ints, marks, shadows}
use Rattle.ms_machine.specs.Effects.{Test, Compares, Divides, Selects, Indexes}
use Rattle.ms_machine.specs.Control.{Program, Views, Done, start}
use Rattle.ms_machine.specs.Tests.{Literal, map_literal, map_test}
use Rattle.ms_machine.specs.Segments.{After, Choice, Over, Segment, done_within, segment_from}
use Rattle.ms_machine.specs.Runs.{after_arms, arms_at, end_at, footprint, given, segment_after, started, string, string_from, way, with_entry, word_arm}
use Rattle.ms_machine.specs.Maps.{Respects, map_after, map_done, map_run_end, map_segment}
use Rattle.ms_machine.specs.Laws.{IsWhole, MarksAreRight, NeedsNoInput, SharesShadows, WordsAreValues, condition, int_of, mark_arm, mark_of, marked_start, parameters_from, shadow_after, shadow_of, shadow_started}
use Rattle.ms_machine.proofs.ControlMap.{start_map}
use Rattle.ms_machine.proofs.RunMap.{after_arms_map, done_within_map, segment_from_map, way_map}
use Rattle.ms_machine.proofs.Back.{done_back, list_back, segment_back}
use Rattle.ms_machine.proofs.Values.{given_values, marks_respect, values_respect}

-- strings, where both decide alike
module _ {V W : Type 0} (I : Ints V) (J : Ints W) (f : V → W) (r : Respects I J f) (decide : Test V → ℕ) (decide' : Test W → ℕ) (alike : (test : Test V) → decide' (map_test f test) ≡ decide test) where
  arms_at_map : (after : After V) (go : Done V → List ℕ) (go' : Done W → List ℕ) → ((done : Done V) → go' (map_done f done) ≡ go done) → arms_at decide' go' (map_after f after) ≡ arms_at decide go after
  arms_at_map (Choice test arms) go go' same =
      ap (λ arm. arm ∷ go' (map_done f (arms arm))) (alike test) ∙ ap (λ string. decide test ∷ string) (same (arms (decide test)))
  arms_at_map (Over end) go go' same = refl

  pub string_map : (P : Views) (depth : ℕ) (done : Done V) → string_from J P decide' depth (map_done f done) ≡ string_from I P decide depth done
  string_map P zero done = refl
  string_map P (suc depth) done =
      ap (λ segment. arms_at decide' (string_from J P decide' depth) segment.after) (segment_from_map I J f r P done)
      ∙ arms_at_map (segment_from I P done).after (string_from I P decide depth) (string_from J P decide' depth) (string_map P depth)

-- THE WORDS

pub started_values : (P : Program) (x : Words) → IsWhole x → started P x ≡ map_done (int_of x.words) (shadow_started P x.kinds)
started_values P x whole = ap (start P) (given_values x whole) ∙ start_map (int_of x.words) P (parameters_from 0 x.kinds)

segment_values : (P : Program) (x : Words) → IsWhole x → (p : List ℕ) → segment_after P x p ≡ map_segment (int_of x.words) (shadow_after P x.kinds p)
segment_values P x whole p =
    ap (λ done. segment_from ints P.view (after_arms ints P.view done p)) (started_values P x whole)
    ∙ ap (segment_from ints P.view) (after_arms_map shadows ints (int_of x.words) (values_respect x.words) P.view p (shadow_started P x.kinds))
    ∙ segment_from_map shadows ints (int_of x.words) (values_respect x.words) P.view (after_arms shadows P.view (shadow_started P x.kinds) p)

pub words_are_values : (P : Program) (x : Words) → IsWhole x → WordsAreValues P x
words_are_values P x whole =
    let run : (p : List ℕ) → after_arms ints P.view (started P x) p ≡ map_done (int_of x.words) (after_arms shadows P.view (shadow_started P x.kinds) p) =
    λ p. ap (λ done. after_arms ints P.view done p) (started_values P x whole) ∙ after_arms_map shadows ints (int_of x.words) (values_respect x.words) P.view p (shadow_started P x.kinds) in
    record {
      run = run;
      steps = λ p n. ap (done_within ints P.view n) (run p) ∙ done_within_map shadows ints (int_of x.words) (values_respect x.words) P.view n (after_arms shadows P.view (shadow_started P x.kinds) p);
      segments = segment_values P x whole;
    }

-- THE MARKS

mark_alike : (test : Test Int) → mark_arm (map_test mark_of test) ≡ word_arm test
mark_alike (Compares comparison a b) = refl
mark_alike (Divides b) = refl
mark_alike (Selects a keys) = refl
mark_alike (Indexes a len) = refl

marked_is : (P : Program) (x : Words) → marked_start P x ≡ map_done mark_of (started P x)
marked_is P x = start_map mark_of P (given x)

end_at_map : {V W : Type 0} (f : V → W) (after : After V) → end_at (map_after f after) ≡ map_run_end f (end_at after)
end_at_map f (Choice test arms) = refl
end_at_map f (Over end) = refl

pub marks_are_right : (P : Program) (x : Words) → MarksAreRight P x
marks_are_right P x =
    let choices : (depth : ℕ) → string_from marks P.view mark_arm depth (marked_start P x) ≡ string P x depth =
    λ depth. ap (string_from marks P.view mark_arm depth) (marked_is P x) ∙ string_map ints marks mark_of marks_respect word_arm mark_arm mark_alike P.view depth (started P x) in
    let segments : (p : List ℕ) → segment_from marks P.view (after_arms marks P.view (marked_start P x) p) ≡ map_segment mark_of (segment_after P x p) =
    λ p. ap (λ done. segment_from marks P.view (after_arms marks P.view done p)) (marked_is P x)
    ∙ ap (segment_from marks P.view) (after_arms_map ints marks mark_of marks_respect P.view p (started P x))
    ∙ segment_from_map ints marks mark_of marks_respect P.view (after_arms ints P.view (started P x) p) in
    record {
      choices = choices;
      ends = λ depth. ap (λ p. end_at (segment_from marks P.view (after_arms marks P.view (marked_start P x) p)).after) (choices depth)
          ∙ ap (λ (segment : Segment Marked). end_at segment.after) (segments (string P x depth))
          ∙ end_at_map mark_of (segment_after P x (string P x depth)).after;
      segments = segments;
    }

-- WITH AND WITHOUT AN INPUT

literal_back : (words : List ℤ) (literal : Literal Term) → map_literal shadow_of (map_literal (int_of words) literal) ≡ literal
literal_back words literal = refl

pub shadows_need_no_input : (P : Program) (x : Words) → IsWhole x → NeedsNoInput P x
shadows_need_no_input P x whole =
    let values : WordsAreValues P x = words_are_values P x whole in
    record {
      steps = λ p n. ap (map_done shadow_of) (values.steps p n)
          ∙ done_back (int_of x.words) shadow_of (λ term. refl) (done_within shadows P.view n (after_arms shadows P.view (shadow_started P x.kinds) p));
      segments = λ p. ap (map_segment shadow_of) (segment_values P x whole p)
          ∙ segment_back (int_of x.words) shadow_of (λ term. refl) (shadow_after P x.kinds p);
      conditions = λ p. ap (λ done. map (map_literal shadow_of) (way ints P.view done p)) (started_values P x whole)
          ∙ ap (map (map_literal shadow_of)) (way_map shadows ints (int_of x.words) (values_respect x.words) P.view p (shadow_started P x.kinds))
          ∙ list_back (map_literal (int_of x.words)) (map_literal shadow_of) (literal_back x.words) (condition P x.kinds p);
    }

footprint_shadows : (P : Program) (x : Words) → IsWhole x → (p : List ℕ) → footprint P x p ≡ firsts (with_entry p (shadow_after P x.kinds p).trace)
footprint_shadows P x whole p = ap (λ (segment : Segment Int). firsts (with_entry p segment.trace)) (segment_values P x whole p)

pub inputs_share_shadows : (P : Program) (x y : Words) → IsWhole x → IsWhole y → x.kinds ≡ y.kinds → SharesShadows P x y
inputs_share_shadows P x y whole whole' kinds =
    let of_x : NeedsNoInput P x = shadows_need_no_input P x whole in
    let of_y : NeedsNoInput P y = shadows_need_no_input P y whole' in
    record {
      steps = λ p n. of_x.steps p n
          ∙ ap (λ ks. done_within shadows P.view n (after_arms shadows P.view (shadow_started P ks) p)) kinds
          ∙ sym (of_y.steps p n);
      segments = λ p. of_x.segments p ∙ ap (λ ks. shadow_after P ks p) kinds ∙ sym (of_y.segments p);
      footprints = λ p. footprint_shadows P x whole p
          ∙ ap (λ ks. firsts (with_entry p (shadow_after P ks p).trace)) kinds
          ∙ sym (footprint_shadows P y whole' p);
    }
