-- The members of a class have names and descriptors of their own.
use Rattle.std.proofs.Common.{◌≡◌, ℕ, zero, suc, List, [], ◌∷◌, ◌++◌, Bool, true, false, Option, None, Ok, refl, sym, subst, append_assoc, append-nil}
use Rattle.std.specs.Prelude.{map, not, ◌&&◌}
use Rattle.std.proofs.lemmas.List.{map-append}
use Rattle.ms_pool.specs.declared.code.ClassKind.TheVariants as kinds
use Rattle.ms_pool.specs.Places.{Place, beginning}
use Rattle.ms_pool.specs.Numbers.{IsBytes}
use Rattle.ms_pool.specs.Pools.{Placed}
use Rattle.ms_pool.specs.Formats.{Format, check, end, added, repeated}
use Rattle.ms_pool.specs.Exact.{ok_is, then_ok}
use Rattle.ms_classfile.specs.declared.fault.ClassFault.{ClassFault}
use Rattle.ms_classfile.specs.declared.fault.ClassFault.TheVariants.{At}
use Rattle.ms_classfile.specs.ClassFile.{Class, Field, IsClassFile, Method, attribute, class_and_super, class_file, counted, field, field_attribute, field_key, head, header, interface, is_int_kind, is_static, is_there, method, method_attribute, method_key, pool, short, u2}
use Rattle.ms_classfile.specs.ClassLaws.{AreDistinct, AreNew}
use Rattle.ms_classfile.proofs.Exact.{class_file_exact}
use Rattle.ms_classfile.proofs.Lying.{check_stays}

abbrev Key : Type 0
Key = List ℕ × List ℕ

-- one more that is none of them
one_more : (earlier keys : List Key) (key : Key) → AreNew earlier keys → is_there key.0 key.1 (earlier ++ keys) ≡ false → AreNew earlier (keys ++ key ∷ [])
one_more earlier [] key new is = (subst (λ (l : List Key). is_there key.0 key.1 l ≡ false) (append-nil earlier) is, tt)
one_more earlier (first ∷ keys) key new is = (new.0, one_more (earlier ++ first ∷ []) keys key new.1 (subst (λ (l : List Key). is_there key.0 key.1 l ≡ false) (sym (append_assoc earlier (first ∷ []) keys)) is))

module _ {X : Type 0} (key : X → Key) (part : List X → Format ClassFault X) (new : (before : List X) (place : Place) (x : X × Place) → (part before).read place ≡ Ok x → is_there (key x.0).0 (key x.0).1 (map key before) ≡ false) where
  -- parts that are read one behind the other, each of which has a key that none before it has
  several : (n : ℕ) (before : List X) (place : Place) (x : List X × Place) → AreDistinct (map key before) → (repeated n (added part) before).read place ≡ Ok x → AreDistinct (map key x.0)
  several zero before place x distinct found = subst (λ (y : List X × Place). AreDistinct (map key y.0)) (ok_is {Fault = ClassFault} (before, place) x found) distinct
  several (suc n) before place x distinct found =
      then_ok ((added part before).read place) _ x found (λ more is_more rest.
      then_ok ((part before).read place) _ more is_more (λ one is_one last.
      let longer : AreDistinct (map key (before ++ one.0 ∷ [])) = subst AreDistinct (sym (map-append key before (one.0 ∷ []))) (one_more [] (map key before) (key one.0) distinct (new before place one is_one)) in
      several n more.0 more.1 x (subst (λ (y : List X × Place). AreDistinct (map key y.0)) (ok_is {Fault = ClassFault} (before ++ one.0 ∷ [], one.1) more last) longer) rest))

  -- so are those behind their count
  counted_distinct : (place : Place) (x : List X × Place) → (counted short (added part) []).read place ≡ Ok x → AreDistinct (map key x.0)
  counted_distinct place x found = then_ok ((u2 short).read place) _ x found (λ count is_count rest. several count.0 [] count.1 x tt rest)

-- what isn't true is false
untrue : (b : Bool) → not b ≡ true → b ≡ false
untrue true is = absurd (let e = is in cc)
untrue false is = refl

field_new : (slots : List (Option Placed)) (before : List Field) (place : Place) (x : Field × Place) → (field slots before).read place ≡ Ok x → is_there x.0.name x.0.desc (map field_key before) ≡ false
unfolding field
field_new slots before place x found =
    then_ok ((head slots).read place) _ x found (λ head is_head rest.
    let fresh = not (is_there head.0.name head.0.desc (map field_key before)) in
    then_ok ((check fresh (At kinds.Duplicate head.0.at)).read head.1) _ x rest (λ new is_new rest.
    then_ok ((counted short (field_attribute slots (is_static head.0.access && is_int_kind head.0.desc)) None).read new.1) _ x rest (λ initial is_initial last.
    subst (λ (y : Field × Place). is_there y.0.name y.0.desc (map field_key before) ≡ false) (ok_is {Fault = ClassFault} _ x last) (untrue (is_there head.0.name head.0.desc (map field_key before)) (check_stays fresh (At kinds.Duplicate head.0.at) head.1 new is_new).0))))

method_new : (slots : List (Option Placed)) (before : List Method) (place : Place) (x : Method × Place) → (method slots before).read place ≡ Ok x → is_there x.0.name x.0.desc (map method_key before) ≡ false
unfolding method
method_new slots before place x found =
    then_ok ((head slots).read place) _ x found (λ head is_head rest.
    let fresh = not (is_there head.0.name head.0.desc (map method_key before)) in
    then_ok ((check fresh (At kinds.Duplicate head.0.at)).read head.1) _ x rest (λ new is_new rest.
    then_ok ((counted short (method_attribute slots) None).read new.1) _ x rest (λ code is_code last.
    subst (λ (y : Method × Place). is_there y.0.name y.0.desc (map method_key before) ≡ false) (ok_is {Fault = ClassFault} _ x last) (untrue (is_there head.0.name head.0.desc (map method_key before)) (check_stays fresh (At kinds.Duplicate head.0.at) head.1 new is_new).0))))

both_distinct : (file : List ℕ) (class : Class) → IsBytes file → IsClassFile file class → AreDistinct (map field_key class.fields) × AreDistinct (map method_key class.methods)
unfolding class_file
both_distinct file class bytes is =
    let found = class_file_exact.reads (beginning file) class is.after bytes is.is in
    then_ok (header.read (beginning file)) _ (class, is.after) found (λ major is_major rest.
    then_ok (pool.read major.1) _ (class, is.after) rest (λ slots is_slots rest.
    then_ok ((class_and_super slots.0).read slots.1) _ (class, is.after) rest (λ this is_this rest.
    then_ok ((counted short interface tt).read this.1) _ (class, is.after) rest (λ interfaces are_interfaces rest.
    then_ok ((counted short (added (field slots.0)) []).read interfaces.1) _ (class, is.after) rest (λ fields are_fields rest.
    then_ok ((counted short (added (method slots.0)) []).read fields.1) _ (class, is.after) rest (λ methods are_methods rest.
    then_ok ((counted short (attribute short slots.0) tt).read methods.1) _ (class, is.after) rest (λ attributes are_attributes rest.
    then_ok ((end (λ at. At kinds.Trailing at)).read attributes.1) _ (class, is.after) rest (λ ended is_ended last.
    subst (λ (y : Class × Place). AreDistinct (map field_key y.0.fields) × AreDistinct (map method_key y.0.methods)) (ok_is {Fault = ClassFault} (record { major = major.0; pool = slots.0; name = this.0.1; this_index = this.0.0; fields = fields.0; methods = methods.0 }, ended.1) (class, is.after) last)
    (counted_distinct field_key (field slots.0) (field_new slots.0) interfaces.1 fields are_fields, counted_distinct method_key (method slots.0) (method_new slots.0) fields.1 methods are_methods)))))))))

pub fields_distinct : (file : List ℕ) (class : Class) → IsBytes file → IsClassFile file class → AreDistinct (map field_key class.fields)
fields_distinct file class bytes is = (both_distinct file class bytes is).0

pub methods_distinct : (file : List ℕ) (class : Class) → IsBytes file → IsClassFile file class → AreDistinct (map method_key class.methods)
methods_distinct file class bytes is = (both_distinct file class bytes is).1
