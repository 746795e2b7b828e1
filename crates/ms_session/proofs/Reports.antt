-- The report lists each path that some input takes, once and in choice order, with its least input and its end.
use Rattle.std.proofs.Common.{◌≡◌, ℕ, zero, suc, ◌+◌, ◌-◌, ◌<◌, ◌≤◌, true, cond, List, [], ◌∷◌, ◌++◌, length, filter, Option, Some, None, inl, inr, Less, refl, sym, ap, ◌∙◌, subst, append_assoc, arith}
use Rattle.std.specs.Prelude.{ℤ, pos, negsuc, IsSome, is_some}
use Rattle.std.specs.Ordering.{nat_cmp}
use Rattle.std.specs.List.{Contains, cons_option, filter_map, flat_map}
use Rattle.std.proofs.lemmas.Bool.Decides.{nat_tests}
use Rattle.std.proofs.lemmas.Cmp.{nat_cmp_total, tied_itself}
use Rattle.std.proofs.lemmas.List.{append-nil, length-append, take_all}
use Rattle.std.proofs.lemmas.Slice.Eq.{bytes_eq-Decides}
use Rattle.ms_words.specs.declared.end.PathEnd.{PathEnd}
use Rattle.ms_words.specs.Inputs.{Words}
use Rattle.ms_trie.specs.declared.row.Outcome.TheVariants.{Path}
use Rattle.ms_trie.specs.declared.row.PathRow.{PathRow}
use Rattle.ms_machine.specs.Ints.{Int, ints}
use Rattle.ms_machine.specs.Effects.{Test, Compares, Divides, Selects, Indexes}
use Rattle.ms_machine.specs.Control.{Done, Program}
use Rattle.ms_machine.specs.Tests.{arm_of, arms_of, case_of, index_arm, map_test}
use Rattle.ms_machine.specs.Segments.{After, Choice, Over}
use Rattle.ms_machine.specs.Maps.{map_after}
use Rattle.ms_machine.specs.Runs.{IsInputOf, IsLeast, Takes, after_arms, arms_at, end_of, segment_after, started, string, string_from, word_arm}
use Rattle.ms_machine.specs.Laws.{IsWhole, SharesShadows, shadow_of}
use Rattle.ms_classfile.specs.ThinFile.{IsThinMethod, Method}
use Rattle.ms_jvm.specs.Ends.{path_end_of}
use Rattle.ms_jvm.specs.Programs.{program_of}
use Rattle.ms_session.specs.Strings.{below, same}
use Rattle.ms_session.specs.Paths.{arms_after, arms_in, arms_of_run, input_with, inputs_of, is_path, least_of, report, row_of, row_of_least, row_with, tree, tree_from}
use Rattle.ms_session.specs.Laws.{IsPathRow, ListsPaths, Precedes, strings_of}
use Rattle.ms_session.proofs.Depths.{string_behind, string_length, string_take}
use Rattle.ms_session.proofs.Members.{All-from_in, AllPairs-from_ordered, Contains-from_in, IsIn, IsOrdered, Origin, all_in, from_any, from_filter, from_filter_map, from_flat, in_any, in_below, in_filter, in_flat, ordered_below, ordered_filter, ordered_flat}
use Rattle.ms_session.proofs.Listing.{are_whole, inputs_are}
use Rattle.ms_session.proofs.Least.{input_is, least_comes_first, listed}

-- what is counted on: inputs share the shadows of what comes after a string, and each run ends so that a
-- row can say it
pub record IsReportable (P : Program) (depth : ℕ) : Type 0 where
  pub shares : (x y : Words) → IsInputOf P x → IsInputOf P y → SharesShadows P x y
  pub ends : (x : Words) → IsInputOf P x → IsSome (path_end_of (end_of P x depth))

-- ---- WHAT COMES AFTER A STRING

-- no choice comes, or one whose arm is taken
data Next (after : After Int) : Type 0 where
  Last : arms_in after ≡ 0 → ((go : Done Int → List ℕ) → arms_at word_arm go after ≡ []) → Next after
  More : (arm : ℕ) (done : Done Int) → arm < arms_in after → ((go : Done Int → List ℕ) → arms_at word_arm go after ≡ arm ∷ go done) → Next after

-- the arm that a test takes is one of its arms
case_within : (word : ℤ) (keys : List ℤ) → case_of word keys < suc (length keys)
case_within word [] = omega arith
case_within word (key ∷ keys) = let later = case_within word keys in grind arith

index_within : (index : ℤ) (len : ℕ) → index_arm index len < suc len
index_within (pos n) len = grind (arith, nat_tests)
index_within (negsuc n) len = omega arith

arm_within : (test : Test ℤ) → arm_of test < arms_of test
arm_within (Compares comparison a b) = grind arith
arm_within (Divides b) = grind arith
arm_within (Selects a keys) = case_within a keys
arm_within (Indexes a len) = index_within a len

same_arms : {V W : Type 0} (f : V → W) (test : Test V) → arms_of (map_test f test) ≡ arms_of test
same_arms f (Compares comparison a b) = refl
same_arms f (Divides b) = refl
same_arms f (Selects a keys) = refl
same_arms f (Indexes a len) = refl

some_arm : {V : Type 0} (test : Test V) → 0 < arms_of test
some_arm (Compares comparison a b) = omega arith
some_arm (Divides b) = omega arith
some_arm (Selects a keys) = omega arith
some_arm (Indexes a len) = omega arith

next_of : (after : After Int) → Next after
next_of (Choice test arms) =
    More (word_arm test) (arms (word_arm test)) (subst (λ n. word_arm test < n) (same_arms (λ (a : Int). a.word) test) (arm_within (map_test (λ (a : Int). a.word) test))) (λ go. refl)
next_of (Over end) = Last refl (λ go. refl)

mapped_arms : {V W : Type 0} (f : V → W) (after : After V) → arms_in (map_after f after) ≡ arms_in after
mapped_arms f (Choice test arms) = same_arms f test
mapped_arms f (Over end) = refl

-- two inputs have choices of so many arms after the same arms
arms_shared : (P : Program) (x y : Words) (p : List ℕ) → SharesShadows P x y → arms_in (segment_after P x p).after ≡ arms_in (segment_after P y p).after
arms_shared P x y p shares =
    sym (mapped_arms shadow_of (segment_after P x p).after) ∙ ap (λ segment. arms_in segment.after) (shares.segments p) ∙ mapped_arms shadow_of (segment_after P y p).after

-- ---- STRINGS OF INPUTS

-- the string of a run, behind one that it takes
behind : (P : Program) (x : Words) (p : List ℕ) (more depth : ℕ) → depth ≡ length p + more → Takes P x p
    → string P x depth ≡ p ++ string_from ints P.view word_arm more (after_arms ints P.view (started P x) p)
behind P x p more depth is takes = string_behind ints P.view word_arm p more depth (started P x) is takes

-- a run takes its string
takes_own : (P : Program) (x : Words) (depth : ℕ) → Takes P x (string P x depth)
takes_own P x depth =
    string_take ints P.view word_arm (length (string P x depth)) depth (started P x) (string_length ints P.view word_arm depth (started P x))
    ∙ take_all (length (string P x depth)) (string P x depth) (omega arith)

nothing_behind : (p s : List ℕ) → p ++ s ≡ p → s ≡ []
nothing_behind p [] is = refl
nothing_behind p (arm ∷ s) is = absurd (omega (arith, length-append p (arm ∷ s), ap length is))

-- behind a string that two inputs take, the run of one ends where that of the other does
ends_alike : (P : Program) (x y : Words) (p : List ℕ) (more : ℕ) → SharesShadows P x y
    → string_from ints P.view word_arm more (after_arms ints P.view (started P x) p) ≡ [] → string_from ints P.view word_arm more (after_arms ints P.view (started P y) p) ≡ []
ends_alike P x y p zero shares none = refl
ends_alike P x y p (suc more) shares none = by_next (next_of (segment_after P x p).after) (next_of (segment_after P y p).after)
  where
    by_next : Next (segment_after P x p).after → Next (segment_after P y p).after → string_from ints P.view word_arm (suc more) (after_arms ints P.view (started P y) p) ≡ []
    by_next (More arm done lower is) other = absurd (let some = sym (is (string_from ints P.view word_arm more)) ∙ none in cc)
    by_next (Last no_arm is) (Last no_arm' is') = is' (string_from ints P.view word_arm more)
    by_next (Last no_arm is) (More arm done lower is') = absurd (omega (arith, arms_shared P x y p shares))

-- where the whole string of one run is p, it is that of each run that takes p
whole_alike : (P : Program) (x y : Words) (p : List ℕ) (depth : ℕ) → SharesShadows P x y → string P x depth ≡ p → Takes P y p → string P y depth ≡ p
whole_alike P x y p depth shares whole takes =
    let within : length p ≤ depth = omega (arith, string_length ints P.view word_arm depth (started P x), ap length whole) in
    let more = depth - length p in
    let is : depth ≡ length p + more = omega arith in
    let takes_x : Takes P x p = subst (λ q. Takes P x q) whole (takes_own P x depth) in
    let none = nothing_behind p (string_from ints P.view word_arm more (after_arms ints P.view (started P x) p)) (sym (behind P x p more depth is takes_x) ∙ whole) in
    behind P y p more depth is takes ∙ ap (λ s. p ++ s) (ends_alike P x y p more shares none) ∙ append-nil p

-- ---- THE STRINGS OF RUNS ARE IN THE TREE

-- the tree goes on with the arms of the choice that comes after a string that an input takes
arms_found : (P : Program) (x : Words) (p : List ℕ) → ((y : Words) → IsInputOf P y → SharesShadows P x y) → IsInputOf P x → Takes P x p → (least : Option (List ℤ)) → least_of P p ≡ least
    → arms_in (segment_after P x p).after ≡ arms_of_run P p least
arms_found P x p shares input takes None is = absurd ((least_comes_first P p).absent is x input takes)
arms_found P x p shares input takes (Some words) is =
    let least : IsLeast P p (input_with P words) = (least_comes_first P p).found words is in
    arms_shared P x (input_with P words) p (shares (input_with P words) least.input)

-- behind a string that an input takes, the tree has the string of its run
in_tree : (P : Program) (x : Words) → ((y : Words) → IsInputOf P y → SharesShadows P x y) → IsInputOf P x → (left : ℕ) (p : List ℕ) → Takes P x p
    → (depth : ℕ) → depth ≡ length p + left → IsIn (string P x depth) (tree_from P left p)
unfolding tree_from
in_tree P x shares input zero p takes depth is = inl (sym (behind P x p zero depth is takes ∙ append-nil p))
in_tree P x shares input (suc left) p takes depth is =
    by_next (next_of (segment_after P x p).after) (λ arm t. in_tree P x shares input left (p ++ arm ∷ []) t depth (omega (arith, is, length-append p (arm ∷ []))))
  where
    by_next : Next (segment_after P x p).after → ((arm : ℕ) → Takes P x (p ++ arm ∷ []) → IsIn (string P x depth) (tree_from P left (p ++ arm ∷ [])))
        → IsIn (string P x depth) (p ∷ flat_map (λ arm. tree_from P left (p ++ arm ∷ [])) (below (arms_after P p)))
    by_next (Last no_arm none) go_on = inl (sym (behind P x p (suc left) depth is takes ∙ ap (λ s. p ++ s) (none (string_from ints P.view word_arm left)) ∙ append-nil p))
    by_next (More arm done lower first) go_on =
        let one_more : Takes P x (p ++ arm ∷ []) =
        behind P x p 1 (length (p ++ arm ∷ [])) (length-append p (arm ∷ [])) takes ∙ ap (λ s. p ++ s) (first (string_from ints P.view word_arm 0)) in
        let among : arm < arms_after P p = subst (λ n. arm < n) (arms_found P x p shares input takes (least_of P p) refl) lower in
        inr (in_flat (λ a. tree_from P left (p ++ a ∷ [])) arm (string P x depth) (below (arms_after P p)) (in_below arm (arms_after P p) among) (go_on arm one_more))

-- ---- THE TREE IS IN CHOICE ORDER

-- q begins with p
record Begins (p q : List ℕ) : Type 0 where
  rest : List ℕ
  is : p ++ rest ≡ q

begins_less : (p q : List ℕ) (arm : ℕ) → Begins (p ++ arm ∷ []) q → Begins p q
begins_less p q arm begins = record { rest = arm ∷ begins.rest; is = sym (append_assoc p (arm ∷ []) begins.rest) ∙ begins.is }

-- the strings from p on begin with p
tree_begins : (P : Program) (left : ℕ) (p q : List ℕ) → IsIn q (tree_from P left p) → Begins p q
unfolding tree_from
tree_begins P zero p q (inl here) = record { rest = []; is = append-nil p ∙ here }
tree_begins P zero p q (inr later) = absurd later
tree_begins P (suc left) p q (inl here) = record { rest = []; is = append-nil p ∙ here }
tree_begins P (suc left) p q (inr later) =
    let origin = from_flat (λ arm. tree_from P left (p ++ arm ∷ [])) q (below (arms_after P p)) later in
    begins_less p q origin.x (tree_begins P left (p ++ origin.x ∷ []) q origin.makes)

prefix_precedes : (p : List ℕ) (arm : ℕ) (s : List ℕ) → Precedes p (p ++ arm ∷ s)
prefix_precedes [] arm s = refl
prefix_precedes (x ∷ p) arm s = rw (tied_itself nat_cmp_total x) (prefix_precedes p arm s)

lower_precedes : (p : List ℕ) (arm arm' : ℕ) (s s' : List ℕ) → arm < arm' → Precedes (p ++ arm ∷ s) (p ++ arm' ∷ s')
lower_precedes [] arm arm' s s' lower = let less : nat_cmp arm arm' ≡ Less = grind (arith, nat_tests) in rw less refl
lower_precedes (x ∷ p) arm arm' s s' lower = rw (tied_itself nat_cmp_total x) (lower_precedes p arm arm' s s' lower)

arms_precede : (p q q' : List ℕ) (arm arm' : ℕ) → arm < arm' → Begins (p ++ arm ∷ []) q → Begins (p ++ arm' ∷ []) q' → Precedes q q'
arms_precede p q q' arm arm' lower first second =
    let is : p ++ arm ∷ first.rest ≡ q = sym (append_assoc p (arm ∷ []) first.rest) ∙ first.is in
    let is' : p ++ arm' ∷ second.rest ≡ q' = sym (append_assoc p (arm' ∷ []) second.rest) ∙ second.is in
    subst (λ l. Precedes l q') is (subst (λ l. Precedes (p ++ arm ∷ first.rest) l) is' (lower_precedes p arm arm' first.rest second.rest lower))

root_precedes : (p q : List ℕ) (arm : ℕ) → Begins (p ++ arm ∷ []) q → Precedes p q
root_precedes p q arm begins = subst (λ l. Precedes p l) (sym (append_assoc p (arm ∷ []) begins.rest) ∙ begins.is) (prefix_precedes p arm begins.rest)

pub tree_ordered : (P : Program) (left : ℕ) (p : List ℕ) → IsOrdered Precedes (tree_from P left p)
unfolding tree_from
tree_ordered P zero p = (tt, tt)
tree_ordered P (suc left) p =
    let child : ℕ → List (List ℕ) = λ arm. tree_from P left (p ++ arm ∷ []) in (
      all_in (Precedes p) (flat_map child (below (arms_after P p))) (λ q is.
          let origin = from_flat child q (below (arms_after P p)) is in
          root_precedes p q origin.x (tree_begins P left (p ++ origin.x ∷ []) q origin.makes)),
      ordered_flat (λ n m. n < m) Precedes child (below (arms_after P p)) (ordered_below (arms_after P p)) (λ arm. tree_ordered P left (p ++ arm ∷ []))
          (λ arm arm' q q' lower is is'. arms_precede p q q' arm arm' lower (tree_begins P left (p ++ arm ∷ []) q is) (tree_begins P left (p ++ arm' ∷ []) q' is')),
    )

-- ---- ROWS

-- what the row of a string is made of
record IsRowOf (P : Program) (depth : ℕ) (p : List ℕ) (row : PathRow) : Type 0 where
  words : List ℤ
  end : PathEnd
  least : least_of P p ≡ Some words
  ends : path_end_of (end_of P (input_with P words) depth) ≡ Some end
  is : record { choices = p; outcome = Path (input_with P words) end } ≡ row

row_made : (P : Program) (depth : ℕ) (p : List ℕ) (row : PathRow) → row_of P depth p ≡ Some row → IsRowOf P depth p row
row_made P depth p row made = by_least (least_of P p) refl made
  where
    by_end : (words : List ℤ) → least_of P p ≡ Some words → (end : Option PathEnd) → path_end_of (end_of P (input_with P words) depth) ≡ end → row_with P p words end ≡ Some row → IsRowOf P depth p row
    by_end words least None ends none = absurd cc
    by_end words least (Some end) ends some = record { words = words; end = end; least = least; ends = ends; is = cc }

    by_least : (least : Option (List ℤ)) → least_of P p ≡ least → row_of_least P depth p least ≡ Some row → IsRowOf P depth p row
    by_least None least none = absurd cc
    by_least (Some words) least some = by_end words least (path_end_of (end_of P (input_with P words) depth)) refl some

-- the strings of the rows are those that have a row
strings_are : (P : Program) (depth : ℕ) (strings : List (List ℕ)) → strings_of (filter_map (row_of P depth) strings) ≡ filter (λ p. is_some (row_of P depth p)) strings
strings_are P depth [] = refl
strings_are P depth (p ∷ strings) = by_row (row_of P depth p) (λ row made. ap (λ (r : PathRow). r.choices) (sym (row_made P depth p row made).is)) (strings_are P depth strings)
  where
    by_row : (made : Option PathRow) → ((row : PathRow) → made ≡ Some row → row.choices ≡ p) → strings_of (filter_map (row_of P depth) strings) ≡ filter (λ q. is_some (row_of P depth q)) strings
        → strings_of (cons_option made (filter_map (row_of P depth) strings)) ≡ cond (is_some made) (p ∷ filter (λ q. is_some (row_of P depth q)) strings) (filter (λ q. is_some (row_of P depth q)) strings)
    by_row None same later = later
    by_row (Some row) same later = let first = same row refl in λ i. first i ∷ later i

-- some input's run to the depth has the string
path_taken : (P : Program) (depth : ℕ) (p : List ℕ) → is_path P depth p ≡ true → Origin (inputs_of P.entry.kinds) (λ words. string P (input_with P words) depth ≡ p)
path_taken P depth p is =
    let origin = from_any (λ (words : List ℤ). same (string P (input_with P words) depth) p) (inputs_of P.entry.kinds) is in
    record { x = origin.x; is = origin.is; makes = (bytes_eq-Decides (string P (input_with P origin.x) depth) p).0 origin.makes }

-- each row is that of a path
path_row : (P : Program) (depth : ℕ) → IsReportable P depth → (row : PathRow) → IsIn row (report P depth) → IsPathRow P depth row
path_row P depth able row is =
    let origin = from_filter_map (row_of P depth) row (filter (is_path P depth) (tree P depth)) is in
    let p = origin.x in
    let made : IsRowOf P depth p row = row_made P depth p row origin.makes in
    let taken = path_taken P depth p (from_filter (is_path P depth) p (tree P depth) origin.is).1 in
    let x : Words = input_with P taken.x in
    let input : IsInputOf P x = record { kinds = refl; words = inputs_are P.entry.kinds taken.x taken.is } in
    let least : IsLeast P p (input_with P made.words) = (least_comes_first P p).found made.words made.least in
    let Is : PathRow → Type 0 = IsPathRow P depth in
    subst Is made.is (record {
      input = input_with P made.words;
      end = made.end;
      least = least;
      choices = whole_alike P x (input_with P made.words) p depth (able.shares x (input_with P made.words) input least.input) taken.makes least.takes;
      ends = made.ends;
      outcome = refl;
    })

-- a string that some input takes has a row
row_some : (P : Program) (depth : ℕ) → IsReportable P depth → (p : List ℕ) (x : Words) → IsInputOf P x → Takes P x p → (least : Option (List ℤ)) → least_of P p ≡ least → is_some (row_of_least P depth p least) ≡ true
row_some P depth able p x input takes None is = absurd ((least_comes_first P p).absent is x input takes)
row_some P depth able p x input takes (Some words) is = by_end (path_end_of (end_of P (input_with P words) depth)) (able.ends (input_with P words) ((least_comes_first P p).found words is).input)
  where
    by_end : (end : Option PathEnd) → IsSome end → is_some (row_with P p words end) ≡ true
    by_end None some = some
    by_end (Some end) some = refl

-- the string of each run has a row
path_listed : (P : Program) (depth : ℕ) → IsReportable P depth → (x : Words) → IsInputOf P x → Contains (strings_of (report P depth)) (string P x depth)
path_listed P depth able x input =
    let p = string P x depth in
    let among : IsIn p (tree P depth) = in_tree P x (λ y other. able.shares x y input other) input depth [] refl depth (omega arith) in
    let path : is_path P depth p ≡ true =
    in_any (λ (words : List ℤ). same (string P (input_with P words) depth) p) x.words (inputs_of P.entry.kinds) (listed P x input)
    ((bytes_eq-Decides (string P (input_with P x.words) depth) p).1 (ap (λ (y : Words). string P y depth) (sym (input_is P x input)))) in
    let some : is_some (row_of P depth p) ≡ true = row_some P depth able p x input (takes_own P x depth) (least_of P p) refl in
    Contains-from_in p (strings_of (report P depth)) (subst (IsIn p) (sym (strings_are P depth (filter (is_path P depth) (tree P depth))))
    (in_filter (λ q. is_some (row_of P depth q)) p (filter (is_path P depth) (tree P depth)) (in_filter (is_path P depth) p (tree P depth) among path) some))

rows_ordered : (P : Program) (depth : ℕ) → IsOrdered Precedes (strings_of (report P depth))
rows_ordered P depth =
    let paths = filter (is_path P depth) (tree P depth) in
    subst (IsOrdered Precedes) (sym (strings_are P depth paths))
    (ordered_filter Precedes (λ q. is_some (row_of P depth q)) paths (ordered_filter Precedes (is_path P depth) (tree P depth) (tree_ordered P depth [])))

pub lists_each_path : (P : Program) (depth : ℕ) → IsReportable P depth → ListsPaths P depth (report P depth)
lists_each_path P depth able = record {
  sound = All-from_in (IsPathRow P depth) (report P depth) (path_row P depth able);
  complete = path_listed P depth able;
  ordered = AllPairs-from_ordered Precedes (strings_of (report P depth)) (rows_ordered P depth);
}

-- ---- THIN METHODS

-- what the laws of the machine and of thin methods give
pub thin_reportable : (method : Method) (depth : ℕ) → ((P : Program) (x y : Words) → IsWhole x → IsWhole y → x.kinds ≡ y.kinds → SharesShadows P x y)
    → ((m : Method) (x : Words) (d : ℕ) → IsThinMethod m → x.kinds ≡ m.kinds → IsWhole x → IsSome (path_end_of (end_of (program_of m) x d)))
    → IsThinMethod method → IsReportable (program_of method) depth
thin_reportable method depth shares ends thin = record {
  shares = λ x y input other. shares (program_of method) x y (whole x input) (whole y other) (input.kinds ∙ sym other.kinds);
  ends = λ x input. ends method x depth thin input.kinds (whole x input);
}
  where
    whole : (x : Words) → IsInputOf (program_of method) x → IsWhole x
    whole x input = are_whole x.kinds x.words input.words
