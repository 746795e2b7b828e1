-- Which lines stand in a pool, and what they name.
use Rattle.std.proofs.Common.{◌≡◌, ℕ, zero, suc, ◌+◌, ◌≤◌, Bool, true, false, cond, not, List, [], ◌∷◌, ◌++◌, length, Option, Some, None, slice_get, refl, sym, ap, subst, ◌∙◌, add-one, arith, fold, ℤ}
use Rattle.std.specs.Prelude.{◌||◌, codes}
use Rattle.std.proofs.lemmas.Bool.{and_parts}
use Rattle.std.specs.List.{AllByRecursion, list_all, list_any, position_or_len}
use Rattle.std.proofs.lemmas.List.Folds.{list_all-append, list_any-append}
use Rattle.ms_pool.specs.Pools.{wanted}
use Rattle.ms_classwrite.specs.declared.plan.PlanField.{PlanField}
use Rattle.ms_classwrite.specs.declared.plan.PlanMethod.{PlanMethod}
use Rattle.ms_classwrite.specs.declared.plan.PoolLine.{PoolLine}
use Rattle.ms_classwrite.specs.declared.plan.PoolLine.TheVariants.{Utf8, Integer, Class}
use Rattle.ms_classwrite.specs.Plans.{Plan, entry_of, is_linked, is_tagged, line_at, number_in, same_line}
use Rattle.ms_classwrite.specs.Layout.{pool_of, text_number, with_class, with_classes, with_constant, with_field, with_line, with_method, with_text}
use Rattle.ms_classwrite.proofs.Equal.{same_is}
use Rattle.ms_classwrite.proofs.Numbers.{numbered, place_kept, place_there}
use Rattle.ms_classwrite.proofs.More.{IsMore, more_both, more_class, more_constant, more_field, more_fold, more_line, more_method}

-- THE LINE OF A NUMBER

-- the line is one of the pool's
pub record Has (pool : List PoolLine) (line : PoolLine) : Type 0 where
  pub is : list_any (same_line line) pool ≡ true

pub has_added : (pool : List PoolLine) (line : PoolLine) → Has (with_line pool line) line
has_added pool line = record { is = (numbered pool line).there }

pub has_more : (old new : List PoolLine) (line : PoolLine) → IsMore old new → Has old line → Has new line
has_more old new line more has = record { is = ap (list_any (same_line line)) more.is ∙ list_any-append (same_line line) old more.behind ∙ ap (λ (b : Bool). b || list_any (same_line line) more.behind) has.is }

pub number_more : (old new : List PoolLine) (line : PoolLine) → IsMore old new → Has old line → number_in new line ≡ number_in old line
number_more old new line more has = ap (λ (l : List PoolLine). number_in l line) more.is ∙ ap (λ (n : ℕ). n + 1) (place_kept (same_line line) old more.behind has.is)

first_there : (pool : List PoolLine) (line : PoolLine) → list_any (same_line line) pool ≡ true → slice_get pool (position_or_len (same_line line) pool) ≡ Some line
first_there [] line is = absurd cc
first_there (one ∷ pool) line is = by_test (same_line line one) refl is (λ rest. first_there pool line rest)
  where
    by_test : (b : Bool) → same_line line one ≡ b → (b || list_any (same_line line) pool) ≡ true → (list_any (same_line line) pool ≡ true → slice_get pool (position_or_len (same_line line) pool) ≡ Some line)
        → slice_get (one ∷ pool) (cond (not b) (1 + position_or_len (same_line line) pool) 0) ≡ Some line
    by_test true same is more = ap (λ (l : PoolLine). Some l) (sym (same_is line one same))
    by_test false same is more =
        let n = position_or_len (same_line line) pool in
        let next : 1 + n ≡ suc n = omega arith in
        ap (slice_get (one ∷ pool)) next ∙ more is

pub line_there : (pool : List PoolLine) (line : PoolLine) → Has pool line → line_at pool (number_in pool line) ≡ Some line
line_there pool line has = ap (line_at pool) (add-one (position_or_len (same_line line) pool)) ∙ first_there pool line has.is

pub number_within : (pool : List PoolLine) (line : PoolLine) → Has pool line → number_in pool line ≤ length pool
number_within pool line has = omega (arith, place_there (same_line line) pool has.is)

-- LINKS

get_more : (front behind : List PoolLine) (i : ℕ) (tag : ℕ) → is_tagged tag (slice_get front i) ≡ true → is_tagged tag (slice_get (front ++ behind) i) ≡ true
get_more [] behind i tag is = absurd cc
get_more (line ∷ front) behind zero tag is = is
get_more (line ∷ front) behind (suc i) tag is = get_more front behind i tag is

tagged_more : (front behind : List PoolLine) (i : ℕ) (tag : ℕ) → is_tagged tag (line_at front i) ≡ true → is_tagged tag (line_at (front ++ behind) i) ≡ true
tagged_more front behind zero tag is = is
tagged_more front behind (suc i) tag is = get_more front behind i tag is

pub all_more : {X : Type 0} (p q : X → Bool) → ((x : X) → p x ≡ true → q x ≡ true) → (xs : List X) → list_all p xs ≡ true → list_all q xs ≡ true
all_more p q each [] is = refl
all_more p q each (x ∷ xs) is =
    let h = and_parts (p x) (list_all p xs) is in
    rw (each x h.0, all_more p q each xs h.1) refl

linked_more : (front behind : List PoolLine) (line : PoolLine) → is_linked front line ≡ true → is_linked (front ++ behind) line ≡ true
linked_more front behind line is = all_more (λ (r : ℕ × ℕ). is_tagged r.1 (line_at front r.0)) (λ (r : ℕ × ℕ). is_tagged r.1 (line_at (front ++ behind) r.0)) (λ r tagged. tagged_more front behind r.0 r.1 tagged) (wanted (entry_of line)) is

-- each line of a pool names what it should
pub record IsSound (pool : List PoolLine) : Type 0 where
  pub is : list_all (is_linked pool) pool ≡ true

pub sound_line : (pool : List PoolLine) (line : PoolLine) → IsSound pool → is_linked pool line ≡ true → IsSound (with_line pool line)
sound_line pool line sound linked = by_test (list_any (same_line line) pool)
  where
    by_test : (b : Bool) → IsSound (cond b pool (pool ++ line ∷ []))
    by_test true = sound
    by_test false =
        let old : list_all (is_linked (pool ++ line ∷ [])) pool ≡ true = all_more (is_linked pool) (is_linked (pool ++ line ∷ [])) (λ one is. linked_more pool (line ∷ []) one is) pool sound.is in
        let new : is_linked (pool ++ line ∷ []) line ≡ true = linked_more pool (line ∷ []) line linked in
        record { is = list_all-append (is_linked (pool ++ line ∷ [])) pool (line ∷ []) ∙ rw (old, new) refl }

pub sound_text : (pool : List PoolLine) (text : List ℕ) → IsSound pool → IsSound (with_text pool text)
sound_text pool text sound = sound_line pool (Utf8 text) sound refl

pub sound_class : (pool : List PoolLine) (name : List ℕ) → IsSound pool → IsSound (with_class pool name)
unfolding with_class
sound_class pool name sound =
    let named = with_text pool name in
    let there : line_at named (number_in named (Utf8 name)) ≡ Some (Utf8 name) = line_there named (Utf8 name) (has_added pool (Utf8 name)) in
    sound_line named (Class (number_in named (Utf8 name))) (sound_text pool name sound) (rw there refl)

pub sound_constant : (pool : List PoolLine) (constant : Option ℤ) → IsSound pool → IsSound (with_constant pool constant)
unfolding with_constant
sound_constant pool None sound = sound
sound_constant pool (Some int) sound = sound_line (with_text pool (codes "ConstantValue")) (Integer int) (sound_text pool (codes "ConstantValue") sound) refl

pub sound_field : (pool : List PoolLine) (field : PlanField) → IsSound pool → IsSound (with_field pool field)
unfolding with_field
sound_field pool field sound = sound_constant (with_text (with_text pool field.name) field.desc) field.constant (sound_text (with_text pool field.name) field.desc (sound_text pool field.name sound))

pub sound_method : (pool : List PoolLine) (method : PlanMethod) → IsSound pool → IsSound (with_method pool method)
unfolding with_method
sound_method pool method sound = sound_text (with_text (with_text pool method.name) method.desc) (codes "Code") (sound_text (with_text pool method.name) method.desc (sound_text pool method.name sound))

pub sound_fold : {A : Type 0} (with_one : List PoolLine → A → List PoolLine) → ((pool : List PoolLine) (a : A) → IsSound pool → IsSound (with_one pool a)) → (pool : List PoolLine) (items : List A) → IsSound pool → IsSound (fold with_one pool items)
sound_fold with_one each pool [] sound = sound
sound_fold with_one each pool (a ∷ items) sound = sound_fold with_one each (with_one pool a) items (each pool a sound)

pub sound_pool : (plan : Plan) → list_all (is_linked plan.lines) plan.lines ≡ true → IsSound (pool_of plan)
unfolding pool_of with_classes
sound_pool plan linked =
    let classes = with_classes plan.lines plan.name in
    let sound : IsSound classes = sound_class (with_class plan.lines plan.name) (codes "java/lang/Object") (sound_class plan.lines plan.name (record { is = linked })) in
    sound_fold with_method sound_method (fold with_field classes plan.fields) plan.methods (sound_fold with_field sound_field classes plan.fields sound)

-- WHAT A PLAN NEEDS

-- the pool has a class of this name
pub record HasClass (pool : List PoolLine) (name : List ℕ) : Type 0 where
  pub text : Has pool (Utf8 name)
  pub class : Has pool (Class (text_number pool name))

pub record HasField (pool : List PoolLine) (field : PlanField) : Type 0 where
  pub name : Has pool (Utf8 field.name)
  pub desc : Has pool (Utf8 field.desc)
  pub constant : (int : ℤ) → field.constant ≡ Some int → Has pool (Utf8 (codes "ConstantValue")) × Has pool (Integer int)

pub record HasMethod (pool : List PoolLine) (method : PlanMethod) : Type 0 where
  pub name : Has pool (Utf8 method.name)
  pub desc : Has pool (Utf8 method.desc)
  pub code : Has pool (Utf8 (codes "Code"))

pub class_more : (old new : List PoolLine) (name : List ℕ) → IsMore old new → HasClass old name → HasClass new name
class_more old new name more has = record {
  text = has_more old new (Utf8 name) more has.text;
  class = subst (λ (n : ℕ). Has new (Class n)) (sym (number_more old new (Utf8 name) more has.text)) (has_more old new (Class (text_number old name)) more has.class);
}

pub field_more : (old new : List PoolLine) (field : PlanField) → IsMore old new → HasField old field → HasField new field
field_more old new field more has = record {
  name = has_more old new (Utf8 field.name) more has.name;
  desc = has_more old new (Utf8 field.desc) more has.desc;
  constant = λ int is. (has_more old new (Utf8 (codes "ConstantValue")) more (has.constant int is).0, has_more old new (Integer int) more (has.constant int is).1);
}

pub method_more : (old new : List PoolLine) (method : PlanMethod) → IsMore old new → HasMethod old method → HasMethod new method
method_more old new method more has = record {
  name = has_more old new (Utf8 method.name) more has.name;
  desc = has_more old new (Utf8 method.desc) more has.desc;
  code = has_more old new (Utf8 (codes "Code")) more has.code;
}

pub class_added : (pool : List PoolLine) (name : List ℕ) → HasClass (with_class pool name) name
unfolding with_class
class_added pool name =
    let named = with_text pool name in
    let class = Class (number_in named (Utf8 name)) in
    let more = more_line named class in
    let has = has_added pool (Utf8 name) in
    record {
      text = has_more named (with_line named class) (Utf8 name) more has;
      class = subst (λ (n : ℕ). Has (with_line named class) (Class n)) (sym (number_more named (with_line named class) (Utf8 name) more has)) (has_added named class);
    }

some_is : (m n : ℤ) → ◌≡◌ {A = Option ℤ} (Some m) (Some n) → m ≡ n
some_is m n e = cc

pub field_added : (pool : List PoolLine) (field : PlanField) → HasField (with_field pool field) field
unfolding with_field with_constant
field_added pool field =
    let named = with_text pool field.name in
    let both = with_text named field.desc in
    let all = with_constant both field.constant in
    let more = more_constant both field.constant in
    record {
      name = has_more named all (Utf8 field.name) (more_both named both all (more_line named (Utf8 field.desc)) more) (has_added pool (Utf8 field.name));
      desc = has_more both all (Utf8 field.desc) more (has_added named (Utf8 field.desc));
      constant = λ int is. by_constant both field.constant int is;
    }
  where
    by_constant : (pool : List PoolLine) (constant : Option ℤ) (int : ℤ) → constant ≡ Some int → Has (with_constant pool constant) (Utf8 (codes "ConstantValue")) × Has (with_constant pool constant) (Integer int)
    by_constant pool None int is = absurd cc
    by_constant pool (Some other) int is =
        let named = with_text pool (codes "ConstantValue") in (
          has_more named (with_line named (Integer other)) (Utf8 (codes "ConstantValue")) (more_line named (Integer other)) (has_added pool (Utf8 (codes "ConstantValue"))),
          subst (λ (i : ℤ). Has (with_line named (Integer other)) (Integer i)) (some_is other int is) (has_added named (Integer other)),
        )

pub method_added : (pool : List PoolLine) (method : PlanMethod) → HasMethod (with_method pool method) method
unfolding with_method
method_added pool method =
    let named = with_text pool method.name in
    let both = with_text named method.desc in
    let all = with_text both (codes "Code") in
    let more = more_line both (Utf8 (codes "Code")) in
    record {
      name = has_more named all (Utf8 method.name) (more_both named both all (more_line named (Utf8 method.desc)) more) (has_added pool (Utf8 method.name));
      desc = has_more both all (Utf8 method.desc) more (has_added named (Utf8 method.desc));
      code = has_added both (Utf8 (codes "Code"));
    }

-- what is so of each is so in every larger pool
all_kept : {A : Type 0} (P : List PoolLine → A → Type 0) → ((old new : List PoolLine) (a : A) → IsMore old new → P old a → P new a) → (old new : List PoolLine) (items : List A) → IsMore old new → AllByRecursion (P old) items → AllByRecursion (P new) items
all_kept P keeps old new [] more all = tt
all_kept P keeps old new (a ∷ items) more all = (keeps old new a more all.0, all_kept P keeps old new items more all.1)

all_folded : {A : Type 0} (with_one : List PoolLine → A → List PoolLine) (P : List PoolLine → A → Type 0) → ((pool : List PoolLine) (a : A) → IsMore pool (with_one pool a)) → ((old new : List PoolLine) (a : A) → IsMore old new → P old a → P new a) → ((pool : List PoolLine) (a : A) → P (with_one pool a) a)
    → (pool : List PoolLine) (items : List A) → AllByRecursion (P (fold with_one pool items)) items
all_folded with_one P more keeps adds pool [] = tt
all_folded with_one P more keeps adds pool (a ∷ items) = (keeps (with_one pool a) (fold with_one (with_one pool a) items) a (more_fold with_one more (with_one pool a) items) (adds pool a), all_folded with_one P more keeps adds (with_one pool a) items)

-- the pool of a plan has all that is needed
pub record HasAll (pool : List PoolLine) (plan : Plan) : Type 0 where
  pub class : HasClass pool plan.name
  pub object : HasClass pool (codes "java/lang/Object")
  pub fields : AllByRecursion (HasField pool) plan.fields
  pub methods : AllByRecursion (HasMethod pool) plan.methods

pub pool_has : (plan : Plan) → HasAll (pool_of plan) plan
unfolding pool_of with_classes
pool_has plan =
    let one = with_class plan.lines plan.name in
    let classes = with_class one (codes "java/lang/Object") in
    let fields = fold with_field classes plan.fields in
    let all = fold with_method fields plan.methods in
    let more_fields = more_fold with_field more_field classes plan.fields in
    let more_methods = more_fold with_method more_method fields plan.methods in
    let more = more_both classes fields all more_fields more_methods in
    record {
      class = class_more one all plan.name (more_both one classes all (more_class one (codes "java/lang/Object")) more) (class_added plan.lines plan.name);
      object = class_more classes all (codes "java/lang/Object") more (class_added one (codes "java/lang/Object"));
      fields = all_kept HasField field_more fields all plan.fields more_methods (all_folded with_field HasField more_field field_more field_added classes plan.fields);
      methods = all_folded with_method HasMethod more_method method_more method_added fields plan.methods;
    }
