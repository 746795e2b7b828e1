-- An input takes a string exactly where it makes the literals on its way true.
use Rattle.std.proofs.Common.{◌≡◌, ℕ, ◌<◌, ◌↔◌, ℤ, IsTrue, List, [], ◌∷◌, ◌++◌, length, refl, sym, ap, ◌∙◌, subst}
use Rattle.std.specs.List.{AllByRecursion}
use Rattle.ms_words.specs.Inputs.{Words}
use Rattle.ms_terms.specs.Terms.{Term, Constant}
use Rattle.ms_machine.specs.Ints.{ints, shadows}
use Rattle.ms_machine.specs.Control.{Program, Views, State, Done, step}
use Rattle.ms_machine.specs.Tests.{arms_of, literals}
use Rattle.ms_machine.specs.Segments.{After, Choice, Over, segment_from}
use Rattle.ms_machine.specs.Runs.{IsMet, Takes, after_arms, arms_at, done_after, next_literals, string, string_from, way, word_arm}
use Rattle.ms_machine.specs.Laws.{AllKeys, HasArm, IsWhole, KeysDiffer, LawOfTheString, TakesWhereMet, condition, int_of, keys_differ, parameters_from, shadow_started}
use Rattle.ms_machine.proofs.ControlKeeps.{HasShort, start_short, step_short}
use Rattle.ms_machine.proofs.EffectKeeps.{IsOf}
use Rattle.ms_machine.proofs.Keeping.{GoodAfter, GoodDone, GoodStep, done_after_good, segment_good}
use Rattle.ms_machine.proofs.Literals.{arm_is_met, arm_on, arm_within}
use Rattle.ms_machine.proofs.Runs.{started_values, string_map}
use Rattle.ms_machine.proofs.Values.{values_respect}

-- PATHS: strings of arms, each an arm of the choice that comes

abbrev IsPath : Views → Done Term → List ℕ → Type 0
IsPath P done [] = Unit {0}
IsPath P done (arm ∷ arms) = HasArm (segment_from shadows P done).after arm × IsPath P (done_after (segment_from shadows P done).after arm) arms

path_then : (P : Views) (done : Done Term) (p : List ℕ) (arm : ℕ) → IsPath P done p → HasArm (segment_from shadows P (after_arms shadows P done p)).after arm → IsPath P done (p ++ arm ∷ [])
path_then P done [] arm path has = (has, tt)
path_then P done (first ∷ p) arm path has = (path.0, path_then P (done_after (segment_from shadows P done).after first) p arm path.1 has)

-- THE ARMS THAT AN INPUT TAKES

abbrev first_of : List ℕ → ℕ
first_of [] = 0
first_of (arm ∷ arms) = arm

abbrev others_of : List ℕ → List ℕ
others_of [] = []
others_of (arm ∷ arms) = arms

-- the arm of a choice and those after it
at_once : (x : Words) (after : After Term) (go : Done Term → List ℕ) (arm : ℕ) (arms : List ℕ) → arms_at (arm_on x) go after ≡ arm ∷ arms → HasArm after arm × (go (done_after after arm) ≡ arms)
at_once x (Choice test arms_then) go arm arms is =
    let same : arm_on x test ≡ arm = ap first_of is in
    (subst (λ n. n < arms_of test) same (arm_within x test), subst (λ n. go (arms_then n) ≡ arms) same (ap others_of is))
at_once x (Over end) go arm arms is = absurd (cc)

taken_is_path : (P : Views) → (x : Words) (p : List ℕ) (done : Done Term) → string_from shadows P (arm_on x) (length p) done ≡ p → IsPath P done p
taken_is_path P x [] done is = tt
taken_is_path P x (arm ∷ arms) done is =
    let once = at_once x (segment_from shadows P done).after (string_from shadows P (arm_on x) (length arms)) arm arms is in
    (once.0, taken_is_path P x arms (done_after (segment_from shadows P done).after arm) once.1)

-- WHERE THE KEYS OF EACH SWITCH DIFFER

-- whether keys differ
abbrev Apart : List ℤ → Type 0
Apart keys = IsTrue (keys_differ keys)

-- a run that has short arrays, and a choice whose arms are apart
abbrev IsGood : Done Term → Type 0
IsGood = GoodDone HasShort

abbrev IsApart : After Term → Type 0
IsApart = GoodAfter HasShort (IsOf Apart)

at_met : (x : Words) (after : After Term) (go : Done Term → List ℕ) (arm : ℕ) (arms : List ℕ) → IsApart after → HasArm after arm
    → (arms_at (arm_on x) go after ≡ arm ∷ arms) ↔ (AllByRecursion (IsMet x) (next_literals shadows after arm) × (go (done_after after arm) ≡ arms))
at_met x (Choice test arms_then) go arm arms apart has =
    let met : (◌≡◌ {A = ℕ} (arm_on x test) arm) ↔ AllByRecursion (IsMet x) (literals Constant test arm) = arm_is_met x test apart.0 arm has in (
      λ is. (met.0 (ap first_of is), subst (λ n. go (arms_then n) ≡ arms) (ap first_of is) (ap others_of is)),
      λ both. ap (λ n. n ∷ go (arms_then n)) (met.1 both.0) ∙ ap (λ rest. arm ∷ rest) both.1,
    )
at_met x (Over end) go arm arms apart has = absurd has

all_joined : {A : Type 0} (Q : A → Type 0) (xs ys : List A) → AllByRecursion Q (xs ++ ys) ↔ (AllByRecursion Q xs × AllByRecursion Q ys)
all_joined Q [] ys = (λ h. (tt, h), λ h. h.1)
all_joined Q (x ∷ xs) ys = (λ h. ((h.0, ((all_joined Q xs ys).0 h.1).0), ((all_joined Q xs ys).0 h.1).1), λ h. (h.0.0, (all_joined Q xs ys).1 (h.0.1, h.1)))

module _ (P : Views) (differ : AllKeys Apart P) where
  keeps : (state : State Term) → HasShort state → GoodStep HasShort (IsOf Apart) (step shadows P state)
  keeps = step_short Apart shadows P differ

  path_is_met : (x : Words) (p : List ℕ) (done : Done Term) → IsGood done → IsPath P done p → (string_from shadows P (arm_on x) (length p) done ≡ p) ↔ AllByRecursion (IsMet x) (way shadows P done p)
  path_is_met x [] done good path = (λ h. tt, λ h. refl)
  path_is_met x (arm ∷ arms) done good path =
      let after = (segment_from shadows P done).after in
      let apart : IsApart after = segment_good HasShort (IsOf Apart) shadows P keeps done good in
      let here = at_met x after (string_from shadows P (arm_on x) (length arms)) arm arms apart path.0 in
      let there = path_is_met x arms (done_after after arm) (done_after_good HasShort (IsOf Apart) shadows P keeps after arm apart) path.1 in
      let joined = all_joined (IsMet x) (next_literals shadows after arm) (way shadows P (done_after after arm) arms) in
      (λ is. joined.1 ((here.0 is).0, there.0 (here.0 is).1), λ all. here.1 ((joined.0 all).0, there.1 (joined.0 all).1))

-- RUNS

string_is : (P : Program) (x : Words) → IsWhole x → (depth : ℕ) → string P x depth ≡ string_from shadows P.view (arm_on x) depth (shadow_started P x.kinds)
string_is P x whole depth = ap (string_from ints P.view word_arm depth) (started_values P x whole)
    ∙ string_map shadows ints (int_of x.words) (values_respect x.words) (arm_on x) word_arm (λ test. refl) P.view depth (shadow_started P x.kinds)

-- the strings that words of these kinds take are paths
path_of : (P : Program) (x y : Words) → IsWhole y → x.kinds ≡ y.kinds → (p : List ℕ) → Takes P y p → IsPath P.view (shadow_started P x.kinds) p
path_of P x y whole kinds p takes = subst (λ ks. IsPath P.view (shadow_started P ks) p) (sym kinds)
    (taken_is_path P.view y p (shadow_started P y.kinds) (sym (string_is P y whole (length p)) ∙ takes))

-- along a path
met_on_path : (P : Program) → KeysDiffer P → (x : Words) → IsWhole x → (p : List ℕ) → IsPath P.view (shadow_started P x.kinds) p → Takes P x p ↔ AllByRecursion (IsMet x) (condition P x.kinds p)
met_on_path P differ x whole p path =
    let met = path_is_met P.view differ x p (shadow_started P x.kinds) (start_short P (parameters_from 0 x.kinds)) path in
    let same = string_is P x whole (length p) in
    (λ is. met.0 (sym same ∙ is), λ all. same ∙ met.1 all)

pub takes_where_met : (P : Program) → TakesWhereMet P
takes_where_met P differ x y whole whole' kinds p takes = met_on_path P differ x whole p (path_of P x y whole' kinds p takes)

pub law_of_the_string : (P : Program) → LawOfTheString P
law_of_the_string P differ x y whole whole' kinds p arm takes has =
    met_on_path P differ x whole (p ++ arm ∷ []) (path_then P.view (shadow_started P x.kinds) p arm (path_of P x y whole' kinds p takes) has)
