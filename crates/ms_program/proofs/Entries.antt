-- An entry stays one where a class comes.
use Rattle.std.proofs.Common.{◌≡◌, ◌≢◌, ℕ, zero, suc, ◌<◌, ◌==◌, List, [], ◌∷◌, ◌++◌, length, All, get_or, slice_get, slice_set, Bool, true, false, cond, Option, Some, None, refl, sym, ap, subst, ◌∙◌, arith}
use Rattle.std.specs.Prelude.{IfSome, IsSome, is_some, option_map, option_and_then}
use Rattle.std.proofs.lemmas.Bool.{eqb-false, eqb-true}
use Rattle.std.proofs.lemmas.List.{get_or-set_other, get_or-set_same, length-append, length-set}
use Rattle.std.proofs.lemmas.List.Elements.{All-append}
use Rattle.ms_program.specs.declared.body.Body.{Body}
use Rattle.ms_program.specs.declared.method.MethodId.{MethodId}
use Rattle.ms_program.specs.Names.{Key, place_named}
use Rattle.ms_program.proofs.Members.{named_there}
use Rattle.ms_program.specs.Programs.{AreApart, CanEnter, Class, IsClass, IsProgram, Program, body_in, if_known, can_be_entry, kept_entry, key_of, method_id, method_in, same_in, with_class, with_other}

-- A CLASS MORE

-- there is none in no class
absent : (method : ℕ) → CanEnter None method → ⊥
absent method enters = absurd (let e = enters.0 in cc)

enters_before : (classes : List Class) (class : Class) (i method : ℕ) → CanEnter (slice_get classes i) method → CanEnter (slice_get (classes ++ class ∷ []) i) method
enters_before [] class i method enters = absurd (absent method enters)
enters_before (first ∷ classes) class zero method enters = enters
enters_before (first ∷ classes) class (suc i) method enters = enters_before classes class i method enters

only : (class : Class) → IsClass class → All IsClass (class ∷ [])
only class is zero d within = is
only class is (suc k) d within = absurd (omega (arith, within))

pub appended : (P : Program) (class : Class) → IsProgram P → IsClass class → length P.classes < 64 → AreApart (P.classes ++ class ∷ []) → IsProgram (with_class P class)
appended P class is one few apart = record {
  apart = apart;
  few = omega (arith, few, length-append P.classes (class ∷ []));
  each = All-append IsClass P.classes (class ∷ []) is.each (only class one);
  enters = by_entry P.entry is.enters;
}
  where
    by_entry : (entry : Option MethodId) → IfSome entry (λ id. CanEnter (slice_get P.classes id.class) id.method) → IfSome entry (λ id. CanEnter (slice_get (P.classes ++ class ∷ []) id.class) id.method)
    by_entry None enters = tt
    by_entry (Some id) enters = enters_before P.classes class id.class id.method enters

-- ANOTHER CLASS

each_set : (classes : List Class) (class : Class) (i : ℕ) → All IsClass classes → IsClass class → All IsClass (slice_set classes i class)
each_set classes class i all is k d within = by_test (k == i) refl
  where
    short : k < length classes
    short = omega (arith, within, length-set classes i class)

    by_test : (same : Bool) → (k == i) ≡ same → IsClass (get_or (slice_set classes i class) k d)
    by_test true same = subst IsClass (sym (ap (λ (n : ℕ). get_or (slice_set classes i class) n d) (eqb-true k i same) ∙ get_or-set_same classes i class d (omega (arith, short, eqb-true k i same)))) is
    by_test false other = subst IsClass (sym (get_or-set_other classes i k class d (eqb-false k i other))) (all k d short)

pub get_set : (classes : List Class) (class : Class) (i : ℕ) → i < length classes → slice_get (slice_set classes i class) i ≡ Some class
get_set [] class i within = absurd (omega (arith, within))
get_set (first ∷ classes) class zero within = refl
get_set (first ∷ classes) class (suc i) within = get_set classes class i (omega (arith, within))

pub get_other : (classes : List Class) (class : Class) (i j : ℕ) → j ≢ i → slice_get (slice_set classes i class) j ≡ slice_get classes j
get_other [] class i j other = refl
get_other (first ∷ classes) class zero zero other = absurd (other refl)
get_other (first ∷ classes) class zero (suc j) other = refl
get_other (first ∷ classes) class (suc i) zero other = refl
get_other (first ∷ classes) class (suc i) (suc j) other = get_other classes class i j (λ same. other (ap (λ (n : ℕ). suc n) same))

-- the method that is found can be an entry, where its name and descriptor say so
pub found_enters : (class : Class) (key : Key) (method : ℕ) → can_be_entry key ≡ true → method_in class key.0 key.1 ≡ Some method → CanEnter (Some class) method
found_enters class key method fits found = by_place (place_named key.0 key.1 class.methods) refl found
  where
    by_body : (i : ℕ) (body : Option Body) → body_in class i ≡ body → place_named key.0 key.1 class.methods ≡ Some i → option_map (λ (b : Body). i) body ≡ Some method → CanEnter (Some class) method
    by_body i None is there e = absurd (let f = e in cc)
    by_body i (Some body) is there e =
        let same : i ≡ method = let f = e in cc in
        let known : IsSome (body_in class method) = subst (λ (n : ℕ). IsSome (body_in class n)) same (ap is_some is) in
        let placed : place_named key.0 key.1 class.methods ≡ Some method = there ∙ ap (λ (n : ℕ). Some n) same in
        (known, ap (option_map can_be_entry) (named_there key.0 key.1 class.methods method placed) ∙ ap (λ (b : Bool). Some b) fits)

    by_place : (place : Option ℕ) → place_named key.0 key.1 class.methods ≡ place → option_and_then (if_known class) place ≡ Some method → CanEnter (Some class) method
    by_place None is e = absurd (let f = e in cc)
    by_place (Some i) is e = by_body i (body_in class i) refl is e

pub replaced : (P : Program) (number : ℕ) (class : Class) → IsProgram P → IsClass class → number < length P.classes → AreApart (slice_set P.classes number class) → IsProgram (with_other P number class)
replaced P number class is one within apart = record {
  apart = apart;
  few = omega (arith, is.few, length-set P.classes number class);
  each = each_set P.classes class number is.each one;
  enters = by_entry P.entry is.enters;
}
  where
    after : Option MethodId → Type 0
    after entry = IfSome entry (λ id. CanEnter (slice_get (slice_set P.classes number class) id.class) id.method)

    by_method : (key : Key) (method : Option ℕ) → method_in class key.0 key.1 ≡ method → can_be_entry key ≡ true → after (option_map (method_id number) method)
    by_method key None is_method fits = tt
    by_method key (Some method) is_method fits = subst (λ (c : Option Class). CanEnter c method) (sym (get_set P.classes class number within)) (found_enters class key method fits is_method)

    by_key : (key : Option Key) → option_map can_be_entry key ≡ Some true → after (option_and_then (same_in number class) key)
    by_key None fits = tt
    by_key (Some key) fits = by_method key (method_in class key.0 key.1) refl (let e = fits in cc)

    by_test : (id : MethodId) (same : Bool) → (id.class == number) ≡ same → CanEnter (slice_get P.classes id.class) id.method → after (cond same (option_and_then (same_in number class) (key_of P id)) (Some id))
    by_test id true is_same enters = by_key (key_of P id) enters.1
    by_test id false is_same enters = subst (λ (c : Option Class). CanEnter c id.method) (sym (get_other P.classes class number id.class (eqb-false id.class number is_same))) enters

    by_entry : (entry : Option MethodId) → IfSome entry (λ id. CanEnter (slice_get P.classes id.class) id.method) → after (option_and_then (kept_entry P number class) entry)
    by_entry None enters = tt
    by_entry (Some id) enters = by_test id (id.class == number) refl enters
