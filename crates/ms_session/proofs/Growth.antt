-- The tree that is grown from the runs of all inputs is the tree of strings.
use Rattle.std.proofs.Common.{◌≡◌, ℕ, zero, suc, ◌+◌, ◌-◌, ◌<◌, ◌≤◌, Bool, true, List, [], ◌∷◌, ◌++◌, length, take, map, Option, Some, None, slice_get, refl, sym, ap, ◌∙◌, arith}
use Rattle.std.specs.Prelude.{ℤ, ◌&&◌, ◌==◌}
use Rattle.std.specs.Option.{option_map}
use Rattle.std.specs.List.{AllByRecursion, flat_map}
use Rattle.std.specs.Str.{bytes_eq}
use Rattle.std.proofs.lemmas.List.{append-nil, length-append, map-append, take_at}
use Rattle.std.proofs.lemmas.Slice.Eq.{bytes_eq-Decides}
use Rattle.ms_machine.specs.Ints.{Int, ints}
use Rattle.ms_machine.specs.Control.{Program}
use Rattle.ms_machine.specs.Segments.{After, Choice, Over}
use Rattle.ms_machine.specs.Runs.{after_arms, arms_at, segment_after, started, string, string_from, word_arm}
use Rattle.ms_jvm.specs.Ends.{HasTwoArms}
use Rattle.ms_session.specs.declared.runs.Run.{Run}
use Rattle.ms_session.specs.Strings.{below, same}
use Rattle.ms_session.specs.Paths.{arms_in, arms_of_run, input_with, inputs_of, is_inherited, is_path, least_of, parent, takers, takes_it, tree_from}
use Rattle.ms_session.specs.Growing.{any_ends, choice_at, grown_below, grown_from, is_arm, node_of, node_with, run_of, takes_at, taking}
use Rattle.ms_session.proofs.Depths.{string_behind, string_take}
use Rattle.ms_session.proofs.Lists.{any_filtered, any_mapped, any_same, filter_both, filter_mapped, filter_same, first_mapped, first_passes, same_more, same_whole}

-- the string of an input's run to the depth
abbrev run_string : Program → ℕ → List ℤ → List ℕ
run_string P depth words = string P (input_with P words) depth

abbrev takes : Program → List ℕ → List ℤ → Bool
takes P p words = same (string P (input_with P words) (length p)) p

-- what is counted on: there is a word for each parameter, and each choice has two arms
pub record IsPlain (P : Program) : Type 0 where
  pub words : AllByRecursion (λ (words : List ℤ). length words ≡ length P.entry.kinds) (inputs_of P.entry.kinds)
  pub arms : (words : List ℤ) (p : List ℕ) → length words ≡ length P.entry.kinds → HasTwoArms (segment_after P (input_with P words) p).after

-- ---- WHICH RUNS TAKE A STRING

takes_is : (P : Program) (depth : ℕ) (p : List ℕ) (words : List ℤ) → length p ≤ depth → takes P p words ≡ bytes_eq (take (length p) (run_string P depth words)) p
takes_is P depth p words within =
    ap (λ (s : List ℕ). bytes_eq s p) (string_take ints P.view word_arm (length p) depth (started P (input_with P words)) within)

takes_more : (P : Program) (depth : ℕ) (p : List ℕ) (arm : ℕ) (words : List ℤ) → length p < depth
    → takes P (p ++ arm ∷ []) words ≡ (takes P p words && is_arm arm (slice_get (run_string P depth words) (length p)))
takes_more P depth p arm words within =
    let longer : length (p ++ arm ∷ []) ≡ length p + 1 = length-append p (arm ∷ []) in
    takes_is P depth (p ++ arm ∷ []) words (omega (arith, longer, within))
    ∙ same_more (run_string P depth words) p arm
    ∙ ap (λ b. b && is_arm arm (slice_get (run_string P depth words) (length p))) (sym (takes_is P depth p words (omega (arith, within))))

runs_taking : (P : Program) (depth : ℕ) (p : List ℕ) (arm : ℕ) → length p < depth → taking (length p) arm (map (run_of P depth) (takers P p)) ≡ map (run_of P depth) (takers P (p ++ arm ∷ []))
runs_taking P depth p arm within =
    filter_mapped (takes_at (length p) arm) (run_of P depth) (takers P p)
    ∙ ap (map (run_of P depth)) (sym (filter_same (takes P (p ++ arm ∷ [])) (λ words. takes P p words && is_arm arm (slice_get (run_string P depth words) (length p))) (inputs_of P.entry.kinds) (λ words. takes_more P depth p arm words within)
    ∙ filter_both (takes P p) (λ words. is_arm arm (slice_get (run_string P depth words) (length p))) (inputs_of P.entry.kinds)))

path_is : (P : Program) (depth : ℕ) (p : List ℕ) → length p ≤ depth → any_ends (length p) (map (run_of P depth) (takers P p)) ≡ is_path P depth p
path_is P depth p within =
    any_mapped (λ (run : Run). length run.path.choices == length p) (run_of P depth) (takers P p)
    ∙ any_filtered (takes P p) (λ words. length (run_string P depth words) == length p) (inputs_of P.entry.kinds)
    ∙ any_same (λ words. takes P p words && (length (run_string P depth words) == length p)) (λ words. same (run_string P depth words) p) (inputs_of P.entry.kinds)
    (λ words. ap (λ b. b && (length (run_string P depth words) == length p)) (takes_is P depth p words within) ∙ same_whole (run_string P depth words) p)

-- ---- THE CHOICE THAT COMES AFTER A STRING

-- the arms below a choice, or none
abbrev arms_listed : Option ℕ → List ℕ
arms_listed None = []
arms_listed (Some arm) = 0 ∷ 1 ∷ []

get_behind : (p s : List ℕ) → slice_get (p ++ s) (length p) ≡ slice_get s 0
get_behind [] s = refl
get_behind (x ∷ p) s = get_behind p s

choice_arms : (P : Program) (depth : ℕ) (p : List ℕ) (words : List ℤ) → IsPlain P → length words ≡ length P.entry.kinds → length p < depth → takes P p words ≡ true
    → below (arms_in (segment_after P (input_with P words) p).after) ≡ arms_listed (slice_get (run_string P depth words) (length p))
choice_arms P depth p words plain many within taken =
    let left = depth - length p - 1 in
    let x = input_with P words in
    let is : string P x (length p) ≡ p = (bytes_eq-Decides (string P x (length p)) p).0 taken in
    let behind : run_string P depth words ≡ p ++ string_from ints P.view word_arm (suc left) (after_arms ints P.view (started P x) p) =
    string_behind ints P.view word_arm p (suc left) depth (started P x) (omega (arith, within)) is in
    by_after (segment_after P x p).after (plain.arms words p many) (string_from ints P.view word_arm left)
    ∙ ap arms_listed (sym (get_behind p (string_from ints P.view word_arm (suc left) (after_arms ints P.view (started P x) p))) ∙ ap (λ (s : List ℕ). slice_get s (length p)) (sym behind))
  where
    by_after : (after : After Int) → HasTwoArms after → (go : _) → below (arms_in after) ≡ arms_listed (slice_get (arms_at word_arm go after) 0)
    by_after (Choice test arms) two go = ap below two
    by_after (Over end) two go = refl

-- whether the choice of the least input is this arm
inherited_is : (P : Program) (depth : ℕ) (p : List ℕ) (arm taken : ℕ) (words : List ℤ) → length p < depth → least_of P p ≡ Some words → takes P p words ≡ true → slice_get (run_string P depth words) (length p) ≡ Some taken
    → (taken == arm) ≡ is_inherited P (p ++ arm ∷ [])
inherited_is P depth p arm taken words within least is_taken at_place =
    let longer : length (p ++ arm ∷ []) - 1 ≡ length p = omega (arith, length-append p (arm ∷ [])) in
    let up : parent (p ++ arm ∷ []) ≡ p = ap (λ (n : ℕ). take n (p ++ arm ∷ [])) longer ∙ take_at p (arm ∷ []) (length p) refl in
    sym (ap (λ (q : List ℕ). takes_it P (p ++ arm ∷ []) (least_of P q)) up
    ∙ ap (takes_it P (p ++ arm ∷ [])) least
    ∙ takes_more P depth p arm words within
    ∙ ap (λ b. b && is_arm arm (slice_get (run_string P depth words) (length p))) is_taken
    ∙ ap (is_arm arm) at_place)

-- ---- THE TREE

node_is : (P : Program) (depth : ℕ) (p : List ℕ) (inherited : Bool) → length p ≤ depth → inherited ≡ is_inherited P p → node_with p inherited (map (run_of P depth) (takers P p)) ≡ node_of P depth p
node_is P depth p inherited within same =
    let least = first_mapped (run_of P depth) (takers P p) in
    let path = path_is P depth p within in
    λ i. record { string = p; least = least i; inherited = same i; path = path i }

-- the trees of the arms of a choice
arms_are : (P : Program) (depth left : ℕ) (p : List ℕ) (words : List ℤ) → length p + suc left ≡ depth → least_of P p ≡ Some words → takes P p words ≡ true
    → ((q : List ℕ) (inherited : Bool) → length q + left ≡ depth → inherited ≡ is_inherited P q → grown_from left q inherited (map (run_of P depth) (takers P q)) ≡ map (node_of P depth) (tree_from P left q))
    → (choice : Option ℕ) → slice_get (run_string P depth words) (length p) ≡ choice
    → grown_below (λ inherited arm. grown_from left (p ++ arm ∷ []) inherited (taking (length p) arm (map (run_of P depth) (takers P p)))) choice
    ≡ map (node_of P depth) (flat_map (λ arm. tree_from P left (p ++ arm ∷ [])) (arms_listed choice))
arms_are P depth left p words room least is_taken each None at_place = refl
arms_are P depth left p words room least is_taken each (Some taken) at_place =
    let tree = λ (arm : ℕ). tree_from P left (p ++ arm ∷ []) in
    let within : length p < depth = omega (arith, room) in
    let child : (arm : ℕ) → grown_from left (p ++ arm ∷ []) (taken == arm) (taking (length p) arm (map (run_of P depth) (takers P p))) ≡ map (node_of P depth) (tree arm) = λ arm.
    ap (grown_from left (p ++ arm ∷ []) (taken == arm)) (runs_taking P depth p arm within)
    ∙ each (p ++ arm ∷ []) (taken == arm) (omega (arith, room, length-append p (arm ∷ []))) (inherited_is P depth p arm taken words within least is_taken at_place) in
    ap (λ l. l ++ grown_from left (p ++ 1 ∷ []) (taken == 1) (taking (length p) 1 (map (run_of P depth) (takers P p)))) (child 0)
    ∙ ap (λ l. map (node_of P depth) (tree 0) ++ l) (child 1)
    ∙ sym (map-append (node_of P depth) (tree 0) (tree 1))
    ∙ ap (λ (l : List (List ℕ)). map (node_of P depth) (tree 0 ++ l)) (sym (append-nil (tree 1)))

below_are : (P : Program) (depth left : ℕ) (p : List ℕ) → IsPlain P → length p + suc left ≡ depth
    → ((q : List ℕ) (inherited : Bool) → length q + left ≡ depth → inherited ≡ is_inherited P q → grown_from left q inherited (map (run_of P depth) (takers P q)) ≡ map (node_of P depth) (tree_from P left q))
    → (least : Option (List ℤ)) → least_of P p ≡ least
    → grown_below (λ inherited arm. grown_from left (p ++ arm ∷ []) inherited (taking (length p) arm (map (run_of P depth) (takers P p)))) (choice_at (length p) (option_map (run_of P depth) least))
    ≡ map (node_of P depth) (flat_map (λ arm. tree_from P left (p ++ arm ∷ [])) (below (arms_of_run P p least)))
below_are P depth left p plain room each None is = refl
below_are P depth left p plain room each (Some words) is =
    let first = first_passes (takes P p) (λ (w : List ℤ). length w ≡ length P.entry.kinds) (inputs_of P.entry.kinds) words plain.words is in
    arms_are P depth left p words room is first.0 each (slice_get (run_string P depth words) (length p)) refl
    ∙ ap (λ (arms : List ℕ). map (node_of P depth) (flat_map (λ arm. tree_from P left (p ++ arm ∷ [])) arms)) (sym (choice_arms P depth p words plain first.1 (omega (arith, room)) first.0))

pub grown_is : (P : Program) (depth : ℕ) → IsPlain P → (left : ℕ) (p : List ℕ) (inherited : Bool) → length p + left ≡ depth → inherited ≡ is_inherited P p
    → grown_from left p inherited (map (run_of P depth) (takers P p)) ≡ map (node_of P depth) (tree_from P left p)
unfolding grown_from tree_from
grown_is P depth plain zero p inherited room same = ap (λ n. n ∷ []) (node_is P depth p inherited (omega (arith, room)) same)
grown_is P depth plain (suc left) p inherited room same =
    let node = node_is P depth p inherited (omega (arith, room)) same in
    let rest =
    ap (λ o. grown_below (λ child_inherited arm. grown_from left (p ++ arm ∷ []) child_inherited (taking (length p) arm (map (run_of P depth) (takers P p)))) (choice_at (length p) o)) (first_mapped (run_of P depth) (takers P p))
    ∙ below_are P depth left p plain room (λ q b. grown_is P depth plain left q b) (least_of P p) refl in
    λ i. node i ∷ rest i
