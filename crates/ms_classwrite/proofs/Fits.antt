-- The ints of a pool fit, and names with descriptors are new behind those before them.
use Rattle.std.proofs.Common.{◌≡◌, ◌≢◌, ℕ, suc, Bool, true, false, cond, List, [], ◌∷◌, ◌++◌, length, get_or, fold, Option, Some, None, IfSome, ℤ, All, refl, sym, ap, subst, ◌∙◌, arith, append_assoc, length-append, FitsSigned, w32}
use Rattle.std.specs.Prelude.{◌&&◌, codes, AllPairs}
use Rattle.std.proofs.lemmas.Bool.{false_from_ne_true, and_parts}
use Rattle.std.specs.List.{AllByRecursion, list_any}
use Rattle.std.specs.Str.{bytes_eq}
use Rattle.std.proofs.lemmas.List.Folds.{list_any_none}
use Rattle.std.proofs.lemmas.Slice.Eq.{bytes_eq-Decides}
use Rattle.std.proofs.Math.ListN.{get_or-append}
use Rattle.ms_classfile.specs.ClassFile.{is_there}
use Rattle.ms_classwrite.specs.declared.plan.PlanField.{PlanField}
use Rattle.ms_classwrite.specs.declared.plan.PlanMethod.{PlanMethod}
use Rattle.ms_classwrite.specs.declared.plan.PoolLine.{PoolLine}
use Rattle.ms_classwrite.specs.declared.plan.PoolLine.TheVariants.{Utf8, Integer, Class}
use Rattle.ms_classwrite.specs.Plans.{Plan, number_in, same_line}
use Rattle.ms_classwrite.specs.Layout.{pool_of, with_class, with_classes, with_constant, with_field, with_line, with_method, with_text}
use Rattle.ms_classwrite.specs.ReadBack.{FieldFits, HasTypes, LineFits}

pub each : {X : Type 0} (P : X → Type 0) (xs : List X) → All P xs → AllByRecursion P xs
each P [] all = tt
each P (x ∷ xs) all = (all 0 x (omega arith), each P xs (λ k d below. all (suc k) d (omega arith)))

-- INTS

fits_push : (lines : List PoolLine) (line : PoolLine) → AllByRecursion LineFits lines → LineFits line → AllByRecursion LineFits (lines ++ line ∷ [])
fits_push [] line all one = (one, tt)
fits_push (first ∷ lines) line all one = (all.0, fits_push lines line all.1 one)

fits_line : (lines : List PoolLine) (line : PoolLine) → AllByRecursion LineFits lines → LineFits line → AllByRecursion LineFits (with_line lines line)
fits_line lines line all one = by_test (list_any (same_line line) lines)
  where
    by_test : (b : Bool) → AllByRecursion LineFits (cond b lines (lines ++ line ∷ []))
    by_test true = all
    by_test false = fits_push lines line all one

fits_text : (lines : List PoolLine) (text : List ℕ) → AllByRecursion LineFits lines → AllByRecursion LineFits (with_text lines text)
fits_text lines text all = fits_line lines (Utf8 text) all tt

fits_class : (lines : List PoolLine) (name : List ℕ) → AllByRecursion LineFits lines → AllByRecursion LineFits (with_class lines name)
unfolding with_class
fits_class lines name all = fits_line (with_text lines name) (Class (number_in (with_text lines name) (Utf8 name))) (fits_text lines name all) tt

fits_constant : (lines : List PoolLine) (constant : Option ℤ) → IfSome constant (FitsSigned w32) → AllByRecursion LineFits lines → AllByRecursion LineFits (with_constant lines constant)
unfolding with_constant
fits_constant lines None fits all = all
fits_constant lines (Some int) fits all = fits_line (with_text lines (codes "ConstantValue")) (Integer int) (fits_text lines (codes "ConstantValue") all) fits

fits_fields : (lines : List PoolLine) (fields : List PlanField) → AllByRecursion FieldFits fields → AllByRecursion LineFits lines → AllByRecursion LineFits (fold with_field lines fields)
unfolding with_field
fits_fields lines [] fits all = all
fits_fields lines (field ∷ fields) fits all =
    fits_fields (with_field lines field) fields fits.1
    (fits_constant (with_text (with_text lines field.name) field.desc) field.constant fits.0.constant (fits_text (with_text lines field.name) field.desc (fits_text lines field.name all)))

fits_methods : (lines : List PoolLine) (methods : List PlanMethod) → AllByRecursion LineFits lines → AllByRecursion LineFits (fold with_method lines methods)
unfolding with_method
fits_methods lines [] all = all
fits_methods lines (method ∷ methods) all =
    fits_methods (with_method lines method) methods
    (fits_text (with_text (with_text lines method.name) method.desc) (codes "Code") (fits_text (with_text lines method.name) method.desc (fits_text lines method.name all)))

-- each int of the pool fits
pub pool_fits : (plan : Plan) → HasTypes plan → AllByRecursion LineFits (pool_of plan)
unfolding pool_of with_classes
pool_fits plan types =
    let classes = with_classes plan.lines plan.name in
    fits_methods (fold with_field classes plan.fields) plan.methods
    (fits_fields classes plan.fields (each FieldFits plan.fields types.fields)
    (fits_class (with_class plan.lines plan.name) (codes "java/lang/Object") (fits_class plan.lines plan.name (each LineFits plan.lines types.lines))))

-- NAMES WITH DESCRIPTORS

-- a name with a descriptor
abbrev pub Key : Type 0
Key = List ℕ × List ℕ

-- each of these stands not among those before it
abbrev pub AreNew : List Key → List Key → Type 0
AreNew before [] = Unit {0}
AreNew before (key ∷ keys) = (is_there key.0 key.1 before ≡ false) × AreNew (before ++ key ∷ []) keys

key_is : (one other : Key) → (bytes_eq one.0 other.0 && bytes_eq one.1 other.1) ≡ true → other ≡ one
key_is one other is =
    let h = and_parts (bytes_eq one.0 other.0) (bytes_eq one.1 other.1) is in
    ap (λ (s : List ℕ). (s, other.1)) (sym ((bytes_eq-Decides one.0 other.0).0 h.0)) ∙ ap (λ (s : List ℕ). (one.0, s)) (sym ((bytes_eq-Decides one.1 other.1).0 h.1))

key_new : (before keys : List Key) (key : Key) → AllPairs (λ (one other : Key). one ≢ other) (before ++ key ∷ keys) → is_there key.0 key.1 before ≡ false
key_new before keys key differ = list_any_none (λ (other : Key). bytes_eq key.0 other.0 && bytes_eq key.1 other.1) before (λ k d below. false_from_ne_true _ (λ same.
    let all = before ++ key ∷ keys in
    let n = length before in
    let first : get_or all k d ≡ get_or before k d = get_or-append before (key ∷ keys) d k below in
    let last : get_or all n d ≡ key = at_end before d in
    differ k n d below (omega (arith, length-append before (key ∷ keys))) (first ∙ key_is key (get_or before k d) same ∙ sym last)))
  where
    at_end : (front : List Key) (d : Key) → get_or (front ++ key ∷ keys) (length front) d ≡ key
    at_end [] d = refl
    at_end (one ∷ front) d = at_end front d

pub keys_new : (before keys : List Key) → AllPairs (λ (one other : Key). one ≢ other) (before ++ keys) → AreNew before keys
keys_new before [] differ = tt
keys_new before (key ∷ keys) differ =
    (key_new before keys key differ, keys_new (before ++ key ∷ []) keys (subst (AllPairs (λ (one other : Key). one ≢ other)) (sym (append_assoc before (key ∷ []) keys)) differ))
