-- The tree of an entry, from the runs of all its inputs.
use Rattle.std.proofs.Common.{◌≡◌, ℕ, suc, true, List, [], ◌∷◌, ◌++◌, length, map, filter, refl, sym, ap, ◌∙◌, arith}
use Rattle.std.specs.Prelude.{ℤ, is_some, IsSome}
use Rattle.std.specs.List.{AllByRecursion, flat_map}
use Rattle.ms_words.specs.declared.kind.Kind.{Kind}
use Rattle.ms_words.specs.Inputs.{Words}
use Rattle.ms_classfile.specs.ThinFile.{IsThinMethod, Method}
use Rattle.ms_machine.specs.Control.{Program}
use Rattle.ms_machine.specs.Runs.{end_of, segment_after}
use Rattle.ms_machine.specs.Laws.{IsWhole}
use Rattle.ms_jvm.specs.Ends.{HasTwoArms, path_end_of}
use Rattle.ms_jvm.specs.Programs.{program_of}
use Rattle.ms_session.specs.declared.runs.Run.{Run}
use Rattle.ms_session.specs.Paths.{first_of, inputs_of, is_inherited, takers, takes_it, tree, words_of}
use Rattle.ms_session.specs.Growing.{Node, grown_from, node_of, run_of}
use Rattle.ms_session.proofs.Growth.{IsPlain, grown_is}
use Rattle.ms_session.proofs.Settling.{HasEnds}

-- ---- ALL INPUTS HAVE A WORD FOR EACH PARAMETER

all_both : {X : Type 0} (P : X → Type 0) (xs ys : List X) → AllByRecursion P xs → AllByRecursion P ys → AllByRecursion P (xs ++ ys)
all_both P [] ys p q = q
all_both P (x ∷ xs) ys p q = (p.0, all_both P xs ys p.1 q)

longer : (kinds : List Kind) (kind : Kind) (word : ℤ) (inputs : List (List ℤ)) → AllByRecursion (λ (words : List ℤ). length words ≡ length kinds) inputs
    → AllByRecursion (λ (words : List ℤ). length words ≡ length (kind ∷ kinds)) (map (λ words. word ∷ words) inputs)
longer kinds kind word [] all = tt
longer kinds kind word (words ∷ inputs) all = (ap suc all.0, longer kinds kind word inputs all.1)

each_word : (kinds : List Kind) (kind : Kind) (words inputs : List ℤ) (more : List (List ℤ)) → AllByRecursion (λ (w : List ℤ). length w ≡ length kinds) more
    → AllByRecursion (λ (w : List ℤ). length w ≡ length (kind ∷ kinds)) (flat_map (λ word. map (λ w. word ∷ w) more) words)
each_word kinds kind [] inputs more all = tt
each_word kinds kind (word ∷ words) inputs more all = all_both _ (map (λ w. word ∷ w) more) (flat_map (λ v. map (λ w. v ∷ w) more) words) (longer kinds kind word more all) (each_word kinds kind words inputs more all)

pub whole_inputs : (kinds : List Kind) → AllByRecursion (λ (words : List ℤ). length words ≡ length kinds) (inputs_of kinds)
whole_inputs [] = (refl, tt)
whole_inputs (kind ∷ kinds) = each_word kinds kind (words_of kind) [] (inputs_of kinds) (whole_inputs kinds)

-- ---- THE TREE

kept_all : (P : Program) (inputs : List (List ℤ)) → filter (λ (words : List ℤ). true) inputs ≡ inputs
kept_all P [] = refl
kept_all P (words ∷ inputs) = ap (λ l. words ∷ l) (kept_all P inputs)

some_first : (P : Program) (depth : ℕ) (inputs : List (List ℤ)) → is_some (first_of (map (run_of P depth) inputs)) ≡ takes_it P [] (first_of inputs)
some_first P depth [] = refl
some_first P depth (words ∷ inputs) = refl

pub tree_is : (P : Program) (depth : ℕ) → IsPlain P → grown_from depth [] (is_some (first_of (map (run_of P depth) (inputs_of P.entry.kinds)))) (map (run_of P depth) (inputs_of P.entry.kinds)) ≡ map (node_of P depth) (tree P depth)
tree_is P depth plain =
    let all : takers P [] ≡ inputs_of P.entry.kinds = kept_all P (inputs_of P.entry.kinds) in
    let inherited : is_some (first_of (map (run_of P depth) (inputs_of P.entry.kinds))) ≡ is_inherited P [] = some_first P depth (inputs_of P.entry.kinds) ∙ ap (λ l. takes_it P [] (first_of l)) (sym all) in
    ap (λ l. grown_from depth [] (is_some (first_of (map (run_of P depth) (inputs_of P.entry.kinds)))) (map (run_of P depth) l)) (sym all)
    ∙ grown_is P depth plain depth [] (is_some (first_of (map (run_of P depth) (inputs_of P.entry.kinds)))) (omega arith) inherited

-- ---- WHAT THE LAW OF THIN METHODS GIVES

pub method_plain : (method : Method) → ((m : Method) (x : Words) (p : List ℕ) → IsThinMethod m → x.kinds ≡ m.kinds → IsWhole x → HasTwoArms (segment_after (program_of m) x p).after) → IsThinMethod method → IsPlain (program_of method)
method_plain method arms thin = record {
  words = whole_inputs method.kinds;
  arms = λ words p many. arms method (record { kinds = method.kinds; words = words }) p thin refl many;
}

pub method_ends : (method : Method) (depth : ℕ) → ((m : Method) (x : Words) (d : ℕ) → IsThinMethod m → x.kinds ≡ m.kinds → IsWhole x → IsSome (path_end_of (end_of (program_of m) x d))) → IsThinMethod method → HasEnds (program_of method) depth
method_ends method depth ends thin = λ words many. ends method (record { kinds = method.kinds; words = words }) depth thin refl many

-- the nodes that are grown from the runs of a thin method
pub nodes_are : (method : Method) (depth : ℕ) (runs : List Run) (nodes : List Node)
    → ((m : Method) (x : Words) (p : List ℕ) → IsThinMethod m → x.kinds ≡ m.kinds → IsWhole x → HasTwoArms (segment_after (program_of m) x p).after) → IsThinMethod method
    → nodes ≡ grown_from depth [] (is_some (first_of runs)) runs → runs ≡ map (run_of (program_of method) depth) (inputs_of method.kinds)
    → nodes ≡ map (node_of (program_of method) depth) (tree (program_of method) depth)
nodes_are method depth runs nodes arms thin grown all =
    grown ∙ ap (λ (l : List Run). grown_from depth [] (is_some (first_of l)) l) all ∙ tree_is (program_of method) depth (method_plain method arms thin)
