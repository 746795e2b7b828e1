-- A pool grows at its end alone.
use Rattle.std.proofs.Common.{◌≡◌, ℕ, ◌+◌, ◌≤◌, ◌<◌, Bool, true, false, cond, List, [], ◌∷◌, ◌++◌, length, fold, Option, Some, None, ℤ, refl, sym, ap, ◌∙◌, arith, append_assoc, length-append}
use Rattle.std.specs.Prelude.{codes}
use Rattle.std.specs.List.{list_any}
use Rattle.std.proofs.lemmas.Bool.{lt-ltb}
use Rattle.std.proofs.lemmas.List.{append-nil}
use Rattle.ms_classwrite.specs.declared.plan.PlanField.{PlanField}
use Rattle.ms_classwrite.specs.declared.plan.PlanMethod.{PlanMethod}
use Rattle.ms_classwrite.specs.declared.plan.PoolLine.{PoolLine}
use Rattle.ms_classwrite.specs.declared.plan.PoolLine.TheVariants.{Utf8, Integer, Class}
use Rattle.ms_classwrite.specs.Plans.{Plan, number_in, same_line}
use Rattle.ms_classwrite.specs.Layout.{has_too_many, is_too_large, pool_of, with_class, with_classes, with_constant, with_field, with_line, with_method, with_text}
use Rattle.ms_classwrite.proofs.Numbers.{numbered}

-- the new lines are the old ones and some behind them
pub record IsMore (old new : List PoolLine) : Type 0 where
  pub behind : List PoolLine
  pub is : new ≡ old ++ behind

pub more_same : (lines : List PoolLine) → IsMore lines lines
more_same lines = record { behind = []; is = sym (append-nil lines) }

pub more_both : (a b c : List PoolLine) → IsMore a b → IsMore b c → IsMore a c
more_both a b c p q = record { behind = p.behind ++ q.behind; is = q.is ∙ ap (λ (l : List PoolLine). l ++ q.behind) p.is ∙ append_assoc a p.behind q.behind }

pub more_long : (old new : List PoolLine) → IsMore old new → length old ≤ length new
more_long old new more = omega (arith, ap length more.is, length-append old more.behind)

pub more_line : (lines : List PoolLine) (line : PoolLine) → IsMore lines (with_line lines line)
more_line lines line = by_test (list_any (same_line line) lines)
  where
    by_test : (b : Bool) → IsMore lines (cond b lines (lines ++ line ∷ []))
    by_test true = more_same lines
    by_test false = record { behind = line ∷ []; is = refl }

pub more_class : (lines : List PoolLine) (name : List ℕ) → IsMore lines (with_class lines name)
unfolding with_class
more_class lines name =
    let named = with_text lines name in
    more_both lines named (with_class lines name) (more_line lines (Utf8 name)) (more_line named (Class (number_in named (Utf8 name))))

pub more_classes : (lines : List PoolLine) (name : List ℕ) → IsMore lines (with_classes lines name)
unfolding with_classes
more_classes lines name = more_both lines (with_class lines name) (with_classes lines name) (more_class lines name) (more_class (with_class lines name) (codes "java/lang/Object"))

pub more_constant : (lines : List PoolLine) (constant : Option ℤ) → IsMore lines (with_constant lines constant)
unfolding with_constant
more_constant lines None = more_same lines
more_constant lines (Some int) =
    let named = with_text lines (codes "ConstantValue") in
    more_both lines named (with_line named (Integer int)) (more_line lines (Utf8 (codes "ConstantValue"))) (more_line named (Integer int))

pub more_texts : (lines : List PoolLine) (name desc : List ℕ) → IsMore lines (with_text (with_text lines name) desc)
more_texts lines name desc =
    let named = with_text lines name in
    more_both lines named (with_text named desc) (more_line lines (Utf8 name)) (more_line named (Utf8 desc))

pub more_field : (lines : List PoolLine) (field : PlanField) → IsMore lines (with_field lines field)
unfolding with_field
more_field lines field =
    let both = with_text (with_text lines field.name) field.desc in
    more_both lines both (with_constant both field.constant) (more_texts lines field.name field.desc) (more_constant both field.constant)

pub more_method : (lines : List PoolLine) (method : PlanMethod) → IsMore lines (with_method lines method)
unfolding with_method
more_method lines method =
    let both = with_text (with_text lines method.name) method.desc in
    more_both lines both (with_text both (codes "Code")) (more_texts lines method.name method.desc) (more_line both (Utf8 (codes "Code")))

pub more_fold : {A : Type 0} (with_one : List PoolLine → A → List PoolLine) → ((lines : List PoolLine) (a : A) → IsMore lines (with_one lines a)) → (lines : List PoolLine) (items : List A) → IsMore lines (fold with_one lines items)
more_fold with_one each lines [] = more_same lines
more_fold with_one each lines (a ∷ items) = more_both lines (with_one lines a) (fold with_one (with_one lines a) items) (each lines a) (more_fold with_one each (with_one lines a) items)

-- TOO MANY ENTRIES

-- a class whose name would have a number above the greatest
pub class_above : (lines : List PoolLine) (name : List ℕ) (place : ℕ) → place + 1 ≡ number_in lines (Utf8 name) → 65534 ≤ place → 65534 < length (with_class lines name)
unfolding with_class
class_above lines name place is above =
    let named = with_text lines name in
    omega (arith, is, above, (numbered lines (Utf8 name)).within, more_long named (with_class lines name) (more_line named (Class (number_in named (Utf8 name)))))

-- the class gets the number of its name
pub class_is : (lines named after : List PoolLine) (name : List ℕ) (place : ℕ) → place + 1 ≡ number_in lines (Utf8 name) → named ≡ with_line lines (Utf8 name) → after ≡ with_line named (Class (place + 1)) → after ≡ with_class lines name
unfolding with_class
class_is lines named after name place is named_is after_is =
    let number : place + 1 ≡ number_in (with_line lines (Utf8 name)) (Utf8 name) = is ∙ sym (numbered lines (Utf8 name)).kept in
    after_is ∙ ap (λ (l : List PoolLine). with_line l (Class (place + 1))) named_is ∙ ap (λ (n : ℕ). with_line (with_line lines (Utf8 name)) (Class n)) number

pub classes_above : (lines : List PoolLine) (name : List ℕ) → 65534 < length (with_class lines name) → 65534 < length (with_classes lines name)
unfolding with_classes
classes_above lines name above = omega (arith, above, more_long (with_class lines name) (with_classes lines name) (more_class (with_class lines name) (codes "java/lang/Object")))

pub pool_above : (plan : Plan) → 65534 < length (with_classes plan.lines plan.name) → 65534 < length (pool_of plan)
unfolding pool_of
pool_above plan above =
    let classes = with_classes plan.lines plan.name in
    let fields = fold with_field classes plan.fields in
    omega (arith, above, more_long classes fields (more_fold with_field more_field classes plan.fields), more_long fields (pool_of plan) (more_fold with_method more_method fields plan.methods))

pub too_many_entries : (plan : Plan) → 65534 < length (pool_of plan) → is_too_large plan ≡ true
unfolding has_too_many
too_many_entries plan above = rw (lt-ltb 65534 (length (pool_of plan)) above) refl
