-- The method that is read is spelled there, and one that is spelled is read.
use Rattle.std.proofs.Common.{◌≡◌, ℕ, Bool, List, [], ◌∷◌, ◌++◌, length, map, filter, Some, refl, ap, subst, ◌∙◌, codes}
use Rattle.std.specs.List.{AllByRecursion}
use Rattle.std.proofs.lemmas.Bool.{cond_both}
use Rattle.ms_pool.specs.Places.{Place}
use Rattle.ms_pool.specs.Numbers.{width2}
use Rattle.ms_classfile.specs.ThinFile.{Entry, Attribute, Code, ThinFile, Method, HasThinMethod, u2, utf8, class_name, is_named, is_plain_static, spelled_attributes, spelled_code}
use Rattle.ms_classfile.specs.Reading.{provided, only, signature_of, u2_at, attributes_at, code_of, method_at}
use Rattle.ms_classfile.proofs.Steps.{then_some, provided_some, some_is}
use Rattle.ms_classfile.proofs.Only.{only_is}
use Rattle.ms_classfile.proofs.Signatures.{signature_is, signature_reaches}
use Rattle.ms_classfile.proofs.Spelling.{Takes, Reaches, number_takes, number_reaches}
use Rattle.ms_classfile.proofs.Attributes.{IsFound, attributes_takes, attributes_reaches}
use Rattle.ms_classfile.proofs.CodeParts.{code_takes, code_reaches}

-- ---- the one attribute that is named Code

each_kept : {X : Type 0} (test : X → Bool) (P : X → Type 0) (xs : List X) → AllByRecursion P xs → AllByRecursion P (filter test xs)
each_kept test P [] each = tt
each_kept test P (x ∷ xs) each = cond_both (test x) (x ∷ filter test xs) (filter test xs) (AllByRecursion P) (λ _. (each.0, each_kept test P xs each.1)) (λ _. each_kept test P xs each.1)

-- the one attribute with this content
record IsOnly (attributes : List Attribute) (content : List ℕ) : Type 0 where
  pub attribute : Attribute
  pub found : only attributes ≡ Some attribute
  pub holds : attribute.content ≡ content

only_reaches : (attributes : List Attribute) (content : List ℕ) → map (λ attribute. attribute.content) attributes ≡ content ∷ [] → IsOnly attributes content
only_reaches [] content e = absurd cc
only_reaches (x ∷ []) content e = record { attribute = x; found = refl; holds = cc }
only_reaches (x ∷ y ∷ more) content e = absurd cc

-- ---- the method

-- the method's part of a file, whatever the other parts are
pub record TakesMethod (pool : List Entry) (class start front : List ℕ) (found : Method × Place) : Type 0 where
  pub access : ℕ
  pub name : ℕ
  pub descriptor : ℕ
  pub attributes : List Attribute
  pub code : Code
  pub takes : Takes start (front ++ u2 access ++ u2 name ++ u2 descriptor ++ spelled_attributes attributes) found.1.left
  pub has : (minor major class_access this_class super_class : ℕ) (class_attributes : List Attribute) → class_name pool this_class ≡ Some class → HasThinMethod (record { minor = minor; major = major; pool = pool; access = class_access; this_class = this_class; super_class = super_class; method_access = access; method_name = name; method_descriptor = descriptor; method_attributes = attributes; code = code; attributes = class_attributes }) found.0

pub method_takes : (pool : List Entry) (class start front : List ℕ) (place : Place) (x : Method × Place) → Takes start front place.left → method_at pool class place ≡ Some x → TakesMethod pool class start front x
unfolding method_at
method_takes pool class start front place x takes found =
    then_some (u2_at place) _ x found (λ access at_access more.
    then_some (u2_at access.1) _ x more (λ number at_number more.
    then_some (u2_at number.1) _ x more (λ descriptor at_descriptor more.
    then_some (provided (is_plain_static access.0) (attributes_at pool descriptor.1)) _ x more (λ attributes at_attributes more.
    then_some (utf8 pool number.0) _ x more (λ name at_name more.
    then_some (utf8 pool descriptor.0) _ x more (λ text at_text more.
    then_some (signature_of text) _ x more (λ signature at_signature more.
    then_some (only (filter (is_named pool (codes "Code")) attributes.0)) _ x more (λ attribute at_attribute more.
    then_some (code_of pool (length signature.0) attribute.content) _ x more (λ code at_code last.
    let static = provided_some (is_plain_static access.0) (attributes_at pool descriptor.1) attributes at_attributes in
    let one = number_takes 2 width2 start front place access takes at_access in
    let two = number_takes 2 width2 start (front ++ u2 access.0) access.1 number one.0 at_number in
    let three = number_takes 2 width2 start (front ++ u2 access.0 ++ u2 number.0) number.1 descriptor two.0 at_descriptor in
    let four = attributes_takes pool start (front ++ u2 access.0 ++ u2 number.0 ++ u2 descriptor.0) descriptor.1 attributes three.0 static.1 in
    let of_kinds = signature_is text signature at_signature in
    let named = only_is (filter (is_named pool (codes "Code")) attributes.0) attribute at_attribute in
    let kept : AllByRecursion (IsFound pool) (attribute ∷ []) = subst (λ (xs : List Attribute). AllByRecursion (IsFound pool) xs) named (each_kept (is_named pool (codes "Code")) (IsFound pool) attributes.0 four.1.1) in
    let holds = code_takes pool (length signature.0) attribute.content code kept.0.bytes at_code in
    let made : Method × Place = (record { class = class; name = name; descriptor = text; kinds = signature.0; result = signature.1; max_stack = code.0; instructions = code.1 }, attributes.1) in
    let one_code : map (λ (attribute : Attribute). attribute.content) (filter (is_named pool (codes "Code")) attributes.0) ≡ spelled_code holds.code ∷ [] = ap (λ (xs : List Attribute). map (λ attribute. attribute.content) xs) named ∙ ap (λ (c : List ℕ). c ∷ []) holds.spelled in
    subst (λ (y : Method × Place). TakesMethod pool class start front y) (some_is made x last) (record {
      access = access.0;
      name = number.0;
      descriptor = descriptor.0;
      attributes = attributes.0;
      code = holds.code;
      takes = four.0;
      has = λ minor major class_access this_class super_class class_attributes class_is. record {
        access = one.1;
        name_number = two.1;
        descriptor_number = three.1;
        static = static.0;
        class = class_is;
        name = at_name;
        descriptor = at_text;
        signature = of_kinds.spelled;
        parameters = of_kinds.few;
        kinds = of_kinds.thin;
        result = of_kinds.result;
        attributes = four.1.0.fit;
        named = four.1.0.named;
        code = one_code;
        thin = holds.thin;
        stack = holds.stack;
        instructions = holds.instructions;
      };
    }))))))))))

pub method_reaches : (file : ThinFile) (method : Method) (place : Place) (rest : List ℕ) → HasThinMethod file method
    → place.left ≡ u2 file.method_access ++ (u2 file.method_name ++ (u2 file.method_descriptor ++ (spelled_attributes file.method_attributes ++ rest))) → Reaches (method_at file.pool method.class place) method rest
unfolding method_at
method_reaches file method place rest has spelled =
    let access = number_reaches 2 file.method_access place (u2 file.method_name ++ (u2 file.method_descriptor ++ (spelled_attributes file.method_attributes ++ rest))) has.access spelled in
    let number = number_reaches 2 file.method_name access.after (u2 file.method_descriptor ++ (spelled_attributes file.method_attributes ++ rest)) has.name_number access.left in
    let descriptor = number_reaches 2 file.method_descriptor number.after (spelled_attributes file.method_attributes ++ rest) has.descriptor_number number.left in
    let attributes = attributes_reaches file.pool file.method_attributes descriptor.after rest (record { fit = has.attributes; named = has.named }) descriptor.left in
    let one = only_reaches (filter (is_named file.pool (codes "Code")) file.method_attributes) (spelled_code file.code) has.code in
    let signature : signature_of method.descriptor ≡ Some (method.kinds, method.result) = ap signature_of has.signature ∙ signature_reaches method.kinds method.result has.parameters has.kinds has.result in
    let code : code_of file.pool (length method.kinds) one.attribute.content ≡ Some (method.max_stack, method.instructions) =
    ap (code_of file.pool (length method.kinds)) one.holds ∙ code_reaches file.pool (length method.kinds) file.code has.thin ∙ rw (has.stack, has.instructions) refl in
    record {
      after = attributes.after;
      found = rw (access.found, number.found, descriptor.found, has.static, attributes.found, has.name, has.descriptor, signature, one.found, code) refl;
      left = attributes.left;
    }
