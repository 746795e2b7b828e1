-- Settling node by node of the tree settles the first string that needs it, again and again.
use Rattle.std.proofs.Common.{◌≡◌, ℕ, zero, suc, Bool, true, false, cond, List, [], ◌∷◌, ◌++◌, length, map, filter, Option, Some, None, refl, sym, ap, ◌∙◌, append_assoc}
use Rattle.std.specs.Prelude.{ℤ, not, ◌&&◌, ◌||◌, find, is_some, IsSome}
use Rattle.std.specs.Option.{option_map, option_or}
use Rattle.std.specs.List.{AllByRecursion, filter_map, flat_map, list_all}
use Rattle.std.proofs.lemmas.List.{map-append}
use Rattle.std.proofs.lemmas.List.Folds.{find-append, list_all-append}
use Rattle.ms_words.specs.declared.end.PathEnd.{PathEnd}
use Rattle.ms_machine.specs.Control.{Program}
use Rattle.ms_machine.specs.Runs.{end_of}
use Rattle.ms_jvm.specs.Ends.{path_end_of}
use Rattle.ms_session.specs.Strings.{below, holds, proper_prefixes, with_string}
use Rattle.ms_session.specs.Paths.{arms_after, arms_of_run, input_with, inputs_of, is_path, is_sat, least_of, report, row_of, row_of_least, row_with, tree, tree_from}
use Rattle.ms_session.specs.Known.{Known, asks_for, explore, explore_from, first_needing, is_empty, is_unsettled, lacks_verdict, needs_settling, one_more, settled}
use Rattle.ms_session.specs.Growing.{Node, node_of, run_of}
use Rattle.ms_session.specs.Walking.{any_open, closed, is_open, row_at, row_of_run, rows_of, walk}
use Rattle.ms_session.proofs.Lists.{filter_mapped, first_passes}
use Rattle.ms_session.proofs.Growth.{IsPlain}
use Rattle.ms_session.proofs.Sets.{holds_added, holds_more}

-- ---- THE FIRST STRING THAT NEEDS SETTLING

prefixes_more : (p : List ℕ) (arm : ℕ) → proper_prefixes (p ++ arm ∷ []) ≡ proper_prefixes p ++ p ∷ []
prefixes_more [] arm = refl
prefixes_more (x ∷ p) arm =
    ap (λ (l : List (List ℕ)). [] ∷ map (λ q. x ∷ q) l) (prefixes_more p arm) ∙ ap (λ (l : List (List ℕ)). [] ∷ l) (map-append (λ q. x ∷ q) (proper_prefixes p) (p ∷ []))

find_flat : (f g : List ℕ → Bool) (trees : ℕ → List (List ℕ)) (arms : List ℕ) → ((arm : ℕ) → find f (trees arm) ≡ find g (trees arm)) → find f (flat_map trees arms) ≡ find g (flat_map trees arms)
find_flat f g trees [] same = refl
find_flat f g trees (arm ∷ arms) same =
    find-append f (trees arm) (flat_map trees arms) ∙ ap (λ o. option_or o (find f (flat_map trees arms))) (same arm)
    ∙ ap (option_or (find g (trees arm))) (find_flat f g trees arms same) ∙ sym (find-append g (trees arm) (flat_map trees arms))

-- a string that is settled and that some input takes has its segment
segment_known : (lacks sat has : Bool) → (lacks || (sat && not has)) ≡ false → sat ≡ true → has ≡ true
segment_known true sat has none is = absurd cc
segment_known false true true none is = refl
segment_known false true false none is = absurd cc
segment_known false false has none is = absurd cc

find_tree : (P : Program) (known : Known) (left : ℕ) (p : List ℕ) → list_all (holds known.segments) (proper_prefixes p) ≡ true
    → find (needs_settling P known) (tree_from P left p) ≡ find (is_unsettled P known) (tree_from P left p)
unfolding tree_from
find_tree P known zero p whole = ap (λ b. cond (b && is_unsettled P known p) (Some p) None) whole
find_tree P known (suc left) p whole =
    ap (λ b. cond (b && is_unsettled P known p) (Some p) (find (needs_settling P known) rest)) whole
    ∙ by_test (is_unsettled P known p) refl (least_of P p) refl (λ q w. find_tree P known left q w)
  where
    rest : List (List ℕ)
    rest = flat_map (λ arm. tree_from P left (p ++ arm ∷ [])) (below (arms_after P p))

    by_test : (unsettled : Bool) → is_unsettled P known p ≡ unsettled → (least : Option (List ℤ)) → least_of P p ≡ least
        → ((q : List ℕ) → list_all (holds known.segments) (proper_prefixes q) ≡ true → find (needs_settling P known) (tree_from P left q) ≡ find (is_unsettled P known) (tree_from P left q))
        → cond unsettled (Some p) (find (needs_settling P known) rest) ≡ cond unsettled (Some p) (find (is_unsettled P known) rest)
    by_test true e least is each = refl
    by_test false e None is each =
        let none : rest ≡ [] = ap (λ (o : Option (List ℤ)). flat_map (λ arm. tree_from P left (p ++ arm ∷ [])) (below (arms_of_run P p o))) is in
        rw none refl
    by_test false e (Some words) is each =
        let has : holds known.segments p ≡ true = segment_known (lacks_verdict known p) (is_sat P p) (holds known.segments p) e (ap is_some is) in
        find_flat (needs_settling P known) (is_unsettled P known) (λ arm. tree_from P left (p ++ arm ∷ [])) (below (arms_after P p)) (λ arm. each (p ++ arm ∷ [])
        (ap (list_all (holds known.segments)) (prefixes_more p arm) ∙ list_all-append (holds known.segments) (proper_prefixes p) (p ∷ []) ∙ rw (whole, has) refl))

pub first_is : (P : Program) (depth : ℕ) (known : Known) → first_needing P depth known ≡ find (is_unsettled P known) (tree P depth)
first_is P depth known = find_tree P known depth [] refl

-- ---- A STRING THAT IS SETTLED STAYS SO

still : (e v v' s g g' : Bool) → (v ≡ true → v' ≡ true) → (g ≡ true → g' ≡ true) → ((not e && not v) || (s && not g)) ≡ false → ((not e && not v') || (s && not g')) ≡ false
still true v v' false g g' vs gs none = refl
still true v v' true true g' vs gs none = rw (gs refl) refl
still true v v' true false g' vs gs none = absurd cc
still false true v' false g g' vs gs none = rw (vs refl) refl
still false true v' true true g' vs gs none = rw (vs refl, gs refl) refl
still false true v' true false g' vs gs none = absurd cc
still false false v' s g g' vs gs none = absurd cc

verdicts_more : (empty : Bool) (strings : List (List ℕ)) (p q : List ℕ) → holds strings q ≡ true → holds (cond empty strings (with_string strings p)) q ≡ true
verdicts_more true strings p q there = there
verdicts_more false strings p q there = holds_more strings p q there

segments_more : (sat : Bool) (strings : List (List ℕ)) (p q : List ℕ) → holds strings q ≡ true → holds (cond sat (with_string strings p) strings) q ≡ true
segments_more true strings p q there = holds_more strings p q there
segments_more false strings p q there = there

stays_settled : (P : Program) (known : Known) (p q : List ℕ) → is_unsettled P known q ≡ false → is_unsettled P (settled P known p) q ≡ false
stays_settled P known p q none =
    still (is_empty q) (holds known.verdicts q) (holds (settled P known p).verdicts q) (is_sat P q) (holds known.segments q) (holds (settled P known p).segments q)
    (verdicts_more (is_empty p) known.verdicts p q) (segments_more (is_sat P p) known.segments p q) none

itself_settled : (e s : Bool) (V G : List (List ℕ)) (p : List ℕ) → ((not e && not (holds (cond e V (with_string V p)) p)) || (s && not (holds (cond s (with_string G p) G) p))) ≡ false
itself_settled true true V G p = rw (holds_added G p) refl
itself_settled true false V G p = refl
itself_settled false true V G p = rw (holds_added V p, holds_added G p) refl
itself_settled false false V G p = rw (holds_added V p) refl

is_settled : (P : Program) (known : Known) (p : List ℕ) → is_unsettled P (settled P known p) p ≡ false
is_settled P known p = itself_settled (is_empty p) (is_sat P p) known.verdicts known.segments p

-- ---- NODE BY NODE

abbrev AreSettled : Program → Known → List (List ℕ) → Type 0
AreSettled P known strings = AllByRecursion (λ (q : List ℕ). is_unsettled P known q ≡ false) strings

none_found : (P : Program) (known : Known) (front rest : List (List ℕ)) → AreSettled P known front → find (is_unsettled P known) (front ++ rest) ≡ find (is_unsettled P known) rest
none_found P known [] rest all = refl
none_found P known (q ∷ front) rest all = rw all.0 (none_found P known front rest all.1)

all_stay : (P : Program) (known : Known) (p : List ℕ) (front : List (List ℕ)) → AreSettled P known front → AreSettled P (settled P known p) front
all_stay P known p [] all = tt
all_stay P known p (q ∷ front) all = (stays_settled P known p q all.0, all_stay P known p front all.1)

all_more : (P : Program) (known : Known) (p : List ℕ) (front : List (List ℕ)) → AreSettled P known front → is_unsettled P known p ≡ false → AreSettled P known (front ++ p ∷ [])
all_more P known p [] all none = (none, tt)
all_more P known p (q ∷ front) all none = (all.0, all_more P known p front all.1 none)

same_some : {A B : Type 0} (f : A → B) (o : Option A) → is_some (option_map f o) ≡ is_some o
same_some f None = refl
same_some f (Some a) = refl

open_is : (P : Program) (depth : ℕ) (known : Known) (p : List ℕ) → is_open known (node_of P depth p) ≡ is_unsettled P known p
open_is P depth known p = ap (λ b. lacks_verdict known p || (b && not (holds known.segments p))) (same_some (run_of P depth) (least_of P p))

closed_is : (P : Program) (depth : ℕ) (known : Known) (p : List ℕ) → closed known (node_of P depth p) ≡ settled P known p
closed_is P depth known p =
    ap (λ b. record { verdicts = cond (is_empty p) known.verdicts (with_string known.verdicts p); segments = cond b (with_string known.segments p) known.segments }) (same_some (run_of P depth) (least_of P p))

pub walk_is : (P : Program) (depth n : ℕ) (known : Known) (front rest : List (List ℕ)) → tree P depth ≡ front ++ rest → AreSettled P known front → walk n known (map (node_of P depth) rest) ≡ explore P depth n known
unfolding walk explore
walk_is P depth zero known front [] is all = refl
walk_is P depth (suc n) known front [] is all =
    let none : first_needing P depth known ≡ None = first_is P depth known ∙ ap (find (is_unsettled P known)) is ∙ none_found P known front [] all in
    rw none refl
walk_is P depth zero known front (p ∷ rest) is all = refl
walk_is P depth (suc n) known front (p ∷ rest) is all =
    ap (λ b. cond b (one_more (asks_for P known p) (walk n (closed known (node_of P depth p)) (map (node_of P depth) rest))) (walk (suc n) known (map (node_of P depth) rest))) (open_is P depth known p)
    ∙ by_test (is_unsettled P known p) refl
    (λ k a. walk_is P depth n k (front ++ p ∷ []) rest (is ∙ sym (append_assoc front (p ∷ []) rest)) a)
    (λ k a. walk_is P depth (suc n) k (front ++ p ∷ []) rest (is ∙ sym (append_assoc front (p ∷ []) rest)) a)
  where
    by_test : (unsettled : Bool) → is_unsettled P known p ≡ unsettled
        → ((k : Known) → AreSettled P k (front ++ p ∷ []) → walk n k (map (node_of P depth) rest) ≡ explore P depth n k)
        → ((k : Known) → AreSettled P k (front ++ p ∷ []) → walk (suc n) k (map (node_of P depth) rest) ≡ explore P depth (suc n) k)
        → cond unsettled (one_more (asks_for P known p) (walk n (closed known (node_of P depth p)) (map (node_of P depth) rest))) (walk (suc n) known (map (node_of P depth) rest)) ≡ explore P depth (suc n) known
    by_test true e less again =
        let found : first_needing P depth known ≡ Some p =
        first_is P depth known ∙ ap (find (is_unsettled P known)) is ∙ none_found P known front (p ∷ rest) all ∙ ap (λ b. cond b (Some p) (find (is_unsettled P known) rest)) e in
        let next : walk n (closed known (node_of P depth p)) (map (node_of P depth) rest) ≡ explore P depth n (settled P known p) =
        ap (λ k. walk n k (map (node_of P depth) rest)) (closed_is P depth known p)
        ∙ less (settled P known p) (all_more P (settled P known p) p front (all_stay P known p front all) (is_settled P known p)) in
        ap (one_more (asks_for P known p)) next ∙ sym (ap (explore_from P (explore P depth n) known) found)
    by_test false e less again = again known (all_more P known p front all e)

-- all of it
pub explored_is : (P : Program) (depth n : ℕ) (known : Known) → walk n known (map (node_of P depth) (tree P depth)) ≡ explore P depth n known
explored_is P depth n known = walk_is P depth n known [] (tree P depth) refl tt

find_mapped : {X Y : Type 0} (f : Y → Bool) (g : X → Bool) (m : X → Y) (xs : List X) → ((x : X) → f (m x) ≡ g x) → find f (map m xs) ≡ option_map m (find g xs)
find_mapped f g m [] same = refl
find_mapped f g m (x ∷ xs) same = ap (λ b. cond b (Some (m x)) (find f (map m xs))) (same x) ∙ by_test (g x) (find_mapped f g m xs same)
  where
    by_test : (b : Bool) → find f (map m xs) ≡ option_map m (find g xs) → cond b (Some (m x)) (find f (map m xs)) ≡ option_map m (cond b (Some x) (find g xs))
    by_test true later = refl
    by_test false later = later

-- whether one needs settling
pub unfinished_is : (P : Program) (depth : ℕ) (known : Known) → any_open known (map (node_of P depth) (tree P depth)) ≡ is_some (first_needing P depth known)
unfinished_is P depth known =
    ap is_some (find_mapped (is_open known) (is_unsettled P known) (node_of P depth) (tree P depth) (open_is P depth known))
    ∙ same_some (node_of P depth) (find (is_unsettled P known) (tree P depth)) ∙ ap is_some (sym (first_is P depth known))

-- ---- ROWS

-- each run of an input ends so that a row can say it
abbrev pub HasEnds : Program → ℕ → Type 0
HasEnds P depth = (words : List ℤ) → length words ≡ length P.entry.kinds → IsSome (path_end_of (end_of P (input_with P words) depth))

filter_map_same : {X Y Z : Type 0} (f : Y → Option Z) (g : X → Option Z) (m : X → Y) (xs : List X) → ((x : X) → f (m x) ≡ g x) → filter_map f (map m xs) ≡ filter_map g xs
filter_map_same f g m [] same = refl
filter_map_same f g m (x ∷ xs) same = rw (same x, filter_map_same f g m xs same) refl

row_is : (P : Program) (depth : ℕ) (p : List ℕ) → IsPlain P → HasEnds P depth → row_at (node_of P depth p) ≡ row_of P depth p
row_is P depth p plain ends = by_least (least_of P p) refl
  where
    by_end : (words : List ℤ) (end : Option PathEnd) → path_end_of (end_of P (input_with P words) depth) ≡ end → IsSome (path_end_of (end_of P (input_with P words) depth)) → row_of_run p (Some (run_of P depth words)) ≡ row_with P p words (path_end_of (end_of P (input_with P words) depth))
    by_end words None is some = absurd (let none = rw is at some in cc)
    by_end words (Some end) is some = rw is refl

    by_least : (least : Option (List ℤ)) → least_of P p ≡ least → row_of_run p (option_map (run_of P depth) least) ≡ row_of_least P depth p least
    by_least None is = refl
    by_least (Some words) is =
        let first = first_passes _ (λ (w : List ℤ). length w ≡ length P.entry.kinds) (inputs_of P.entry.kinds) words plain.words is in
        by_end words (path_end_of (end_of P (input_with P words) depth)) refl (ends words first.1)

pub rows_are : (P : Program) (depth : ℕ) → IsPlain P → HasEnds P depth → rows_of (map (node_of P depth) (tree P depth)) ≡ report P depth
rows_are P depth plain ends =
    ap (filter_map row_at) (filter_mapped (λ (node : Node). node.path) (node_of P depth) (tree P depth))
    ∙ filter_map_same row_at (row_of P depth) (node_of P depth) (filter (is_path P depth) (tree P depth)) (λ p. row_is P depth p plain ends)
