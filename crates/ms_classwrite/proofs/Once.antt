-- A plan's lines keep their numbers in its pool, where each line stands once.
use Rattle.std.proofs.Common.{◌≡◌, ◌≢◌, ℕ, zero, suc, Bool, true, false, cond, List, [], ◌∷◌, ◌++◌, fold, map, slice_get, Option, Some, None, option_map, ℤ, refl, ap, ◌∙◌}
use Rattle.std.specs.Prelude.{codes}
use Rattle.std.specs.List.{list_any}
use Rattle.std.proofs.lemmas.Bool.{both_ways}
use Rattle.std.proofs.lemmas.List.Folds.{list_any_at}
use Rattle.std.proofs.lemmas.List.Quantifiers.{all_pairs_push}
use Rattle.ms_pool.specs.Pools.{numbered}
use Rattle.ms_pool.specs.ByNumber as by_number
use Rattle.ms_classwrite.specs.declared.plan.PlanField.{PlanField}
use Rattle.ms_classwrite.specs.declared.plan.PlanMethod.{PlanMethod}
use Rattle.ms_classwrite.specs.declared.plan.PoolLine.{PoolLine}
use Rattle.ms_classwrite.specs.declared.plan.PoolLine.TheVariants.{Utf8, Integer, Class}
use Rattle.ms_classwrite.specs.Plans.{AreDifferent, Plan, entry_of, line_at, number_in, same_line}
use Rattle.ms_classwrite.specs.Layout.{pool_of, with_class, with_classes, with_constant, with_field, with_line, with_method, with_text}
use Rattle.ms_classwrite.proofs.Equal.{same_self}
use Rattle.ms_classwrite.proofs.More.{IsMore, more_both, more_classes, more_field, more_fold, more_method}
use Rattle.ms_classwrite.proofs.Slots.{numbered_line}

-- NUMBERS

get_kept : (front behind : List PoolLine) (i : ℕ) (line : PoolLine) → slice_get front i ≡ Some line → slice_get (front ++ behind) i ≡ Some line
get_kept [] behind i line is = absurd cc
get_kept (one ∷ front) behind zero line is = is
get_kept (one ∷ front) behind (suc i) line is = get_kept front behind i line is

line_kept : (old new : List PoolLine) (i : ℕ) (line : PoolLine) → IsMore old new → line_at old i ≡ Some line → line_at new i ≡ Some line
line_kept old new zero line more is = absurd cc
line_kept old new (suc i) line more is = ap (λ (l : List PoolLine). slice_get l i) more.is ∙ get_kept old more.behind i line is

more_pool : (plan : Plan) → IsMore plan.lines (pool_of plan)
unfolding pool_of
more_pool plan =
    let classes = with_classes plan.lines plan.name in
    let fields = fold with_field classes plan.fields in
    let all = fold with_method fields plan.methods in
    more_both plan.lines classes all (more_classes plan.lines plan.name) (more_both classes fields all (more_fold with_field more_field classes plan.fields) (more_fold with_method more_method fields plan.methods))

pub own_numbers : (plan : Plan) (i : ℕ) (line : PoolLine) → line_at plan.lines i ≡ Some line → by_number.entry_of (numbered 8 (map entry_of (pool_of plan))) i ≡ Some (entry_of line)
own_numbers plan i line is = numbered_line 8 (pool_of plan) i ∙ ap (option_map entry_of) (line_kept plan.lines (pool_of plan) i line (more_pool plan) is)

-- ONCE

once_line : (lines : List PoolLine) (line : PoolLine) → AreDifferent lines → AreDifferent (with_line lines line)
once_line lines line different = by_test (list_any (same_line line) lines) refl
  where
    by_test : (b : Bool) → list_any (same_line line) lines ≡ b → AreDifferent (cond b lines (lines ++ line ∷ []))
    by_test true is = different
    by_test false is = all_pairs_push (λ (one other : PoolLine). one ≢ other) lines line different (λ k d below equal.
        both_ways (list_any (same_line line) lines) is (list_any_at (same_line line) lines k d below (ap (same_line line) equal ∙ same_self line)))

once_text : (lines : List PoolLine) (text : List ℕ) → AreDifferent lines → AreDifferent (with_text lines text)
once_text lines text different = once_line lines (Utf8 text) different

once_class : (lines : List PoolLine) (name : List ℕ) → AreDifferent lines → AreDifferent (with_class lines name)
unfolding with_class
once_class lines name different = once_line (with_text lines name) (Class (number_in (with_text lines name) (Utf8 name))) (once_text lines name different)

once_constant : (lines : List PoolLine) (constant : Option ℤ) → AreDifferent lines → AreDifferent (with_constant lines constant)
unfolding with_constant
once_constant lines None different = different
once_constant lines (Some int) different = once_line (with_text lines (codes "ConstantValue")) (Integer int) (once_text lines (codes "ConstantValue") different)

once_field : (lines : List PoolLine) (field : PlanField) → AreDifferent lines → AreDifferent (with_field lines field)
unfolding with_field
once_field lines field different = once_constant (with_text (with_text lines field.name) field.desc) field.constant (once_text (with_text lines field.name) field.desc (once_text lines field.name different))

once_method : (lines : List PoolLine) (method : PlanMethod) → AreDifferent lines → AreDifferent (with_method lines method)
unfolding with_method
once_method lines method different = once_text (with_text (with_text lines method.name) method.desc) (codes "Code") (once_text (with_text lines method.name) method.desc (once_text lines method.name different))

once_fold : {A : Type 0} (with_one : List PoolLine → A → List PoolLine) → ((lines : List PoolLine) (a : A) → AreDifferent lines → AreDifferent (with_one lines a)) → (lines : List PoolLine) (items : List A) → AreDifferent lines → AreDifferent (fold with_one lines items)
once_fold with_one each lines [] different = different
once_fold with_one each lines (a ∷ items) different = once_fold with_one each (with_one lines a) items (each lines a different)

pub pool_once : (plan : Plan) → AreDifferent plan.lines → AreDifferent (pool_of plan)
unfolding pool_of with_classes
pool_once plan different =
    let one = with_class plan.lines plan.name in
    let classes = with_class one (codes "java/lang/Object") in
    once_fold with_method once_method (fold with_field classes plan.fields) plan.methods
    (once_fold with_field once_field classes plan.fields (once_class one (codes "java/lang/Object") (once_class plan.lines plan.name different)))
