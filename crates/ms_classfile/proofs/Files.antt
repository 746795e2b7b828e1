-- The thin file that is read is spelled by the bytes, and one that is spelled is read.
use Rattle.std.proofs.Common.{◌≡◌, ℕ, ◌^◌, ◌<◌, ◌≤◌, true, eqb, List, [], ◌++◌, length, Option, Some, None, refl, sym, ap, subst, ◌∙◌, append_assoc, arith, codes}
use Rattle.std.specs.Prelude.{IsSomeAnd, is_none, nat_le, ◌&&◌, ◌==◌}
use Rattle.std.specs.Str.{bytes_eq}
use Rattle.std.proofs.lemmas.Bool.{and_parts, leb-true, le-leb, eqb-true}
use Rattle.std.proofs.lemmas.List.{append-nil}
use Rattle.std.proofs.lemmas.Slice.Eq.{bytes_eq-Decides}
use Rattle.ms_words.specs.Throwables.{thrown_named}
use Rattle.ms_pool.specs.Places.{Place, beginning}
use Rattle.ms_pool.specs.Numbers.{IsBytes, width2, width4}
use Rattle.ms_classfile.specs.ThinFile.{Entry, ThinFile, Method, IsThinClass, HasThinMethod, IsThinFile, IsThinMethod, u2, u4, magic, class_name, spelled_pool, spelled_attributes, spelled_file}
use Rattle.ms_classfile.specs.Reading.{provided, u2_at, u4_at, is_ordinary, header_at, pool_at, class_part_at, counts_at, method_at, attributes_at, thin_method}
use Rattle.ms_classfile.proofs.Steps.{then_some, provided_some, some_is}
use Rattle.ms_classfile.proofs.Spelling.{Takes, Takes-is, at_end, ends_there, number_takes, number_reaches}
use Rattle.ms_classfile.proofs.Pool.{pool_takes, pool_reaches}
use Rattle.ms_classfile.proofs.Attributes.{attributes_takes, attributes_reaches}
use Rattle.ms_classfile.proofs.Instructions.{length_spelled}
use Rattle.ms_classfile.proofs.MethodParts.{method_takes, method_reaches}

-- ---- magic and version

record TakesHeader (start front : List ℕ) (after : Place) : Type 0 where
  pub minor : ℕ
  pub major : ℕ
  pub takes : Takes start (front ++ u4 magic ++ u2 minor ++ u2 major) after.left
  pub fits : minor < 2 ^ 16
  pub oldest : 45 ≤ major
  pub newest : major ≤ 52

header_takes : (start front : List ℕ) (place after : Place) → Takes start front place.left → header_at place ≡ Some after → TakesHeader start front after
unfolding header_at
header_takes start front place after takes found =
    then_some (u4_at place) _ after found (λ first at_first more.
    then_some (provided (first.0 == magic) (u2_at first.1)) _ after more (λ minor at_minor more.
    then_some (u2_at minor.1) _ after more (λ major at_major last.
    let known = provided_some (first.0 == magic) (u2_at first.1) minor at_minor in
    let right = provided_some (nat_le 45 major.0 && nat_le major.0 52) (Some major.1) after last in
    let both = and_parts (nat_le 45 major.0) (nat_le major.0 52) right.0 in
    let one = number_takes 4 width4 start front place first takes at_first in
    let begun = Takes-is start _ (front ++ u4 magic) first.1.left (ap (λ (n : ℕ). front ++ u4 n) (eqb-true _ _ known.0)) one.0 in
    let two = number_takes 2 width2 start (front ++ u4 magic) first.1 minor begun known.1 in
    let three = number_takes 2 width2 start (front ++ u4 magic ++ u2 minor.0) minor.1 major two.0 at_major in
    subst (λ (y : Place). TakesHeader start front y) (some_is major.1 after right.1)
    (record { minor = minor.0; major = major.0; takes = three.0; fits = two.1; oldest = leb-true _ _ both.0; newest = leb-true _ _ both.1 }))))

header_reaches : (minor major : ℕ) (place : Place) (rest : List ℕ) → minor < 2 ^ 16 → 45 ≤ major → major ≤ 52 → place.left ≡ u4 magic ++ (u2 minor ++ (u2 major ++ rest)) → (after : Place) × (header_at place ≡ Some after) × (after.left ≡ rest)
unfolding header_at
header_reaches minor major place rest fits oldest newest spelled =
    let first = number_reaches 4 magic place (u2 minor ++ (u2 major ++ rest)) (omega arith) spelled in
    let second = number_reaches 2 minor first.after (u2 major ++ rest) fits first.left in
    let third = number_reaches 2 major second.after rest (omega arith) second.left in
    (third.after, rw (first.found, second.found, third.found, le-leb _ _ oldest, le-leb _ _ newest) refl, third.left)

-- ---- the class

none_is : {X : Type 0} (found : Option X) → is_none found ≡ true → found ≡ None
none_is None e = refl
none_is (Some x) e = absurd cc

record TakesClass (pool : List Entry) (start front : List ℕ) (found : List ℕ × Place) : Type 0 where
  pub access : ℕ
  pub this_class : ℕ
  pub super_class : ℕ
  pub takes : Takes start (front ++ u2 access ++ u2 this_class ++ u2 super_class) found.1.left
  pub access_fits : access < 2 ^ 16
  pub this_fits : this_class < 2 ^ 16
  pub super_fits : super_class < 2 ^ 16
  pub name : class_name pool this_class ≡ Some found.0
  pub this : IsSomeAnd (class_name pool this_class) (λ name. thrown_named name ≡ None)
  pub super : class_name pool super_class ≡ Some (codes "java/lang/Object")

class_takes : (pool : List Entry) (start front : List ℕ) (place : Place) (x : List ℕ × Place) → Takes start front place.left → class_part_at pool place ≡ Some x → TakesClass pool start front x
unfolding class_part_at
class_takes pool start front place x takes found =
    then_some (u2_at place) _ x found (λ access at_access more.
    then_some (u2_at access.1) _ x more (λ this at_this more.
    then_some (u2_at this.1) _ x more (λ super at_super more.
    then_some (class_name pool this.0) _ x more (λ name at_name more.
    then_some (class_name pool super.0) _ x more (λ parent at_parent last.
    let made : List ℕ × Place = (name, super.1) in
    let right = provided_some (is_ordinary name && bytes_eq parent (codes "java/lang/Object")) (Some made) x last in
    let both = and_parts (is_ordinary name) (bytes_eq parent (codes "java/lang/Object")) right.0 in
    let one = number_takes 2 width2 start front place access takes at_access in
    let two = number_takes 2 width2 start (front ++ u2 access.0) access.1 this one.0 at_this in
    let three = number_takes 2 width2 start (front ++ u2 access.0 ++ u2 this.0) this.1 super two.0 at_super in
    let object = (bytes_eq-Decides parent (codes "java/lang/Object")).0 both.1 in
    subst (λ (y : List ℕ × Place). TakesClass pool start front y) (some_is made x right.1) (record {
      access = access.0;
      this_class = this.0;
      super_class = super.0;
      takes = three.0;
      access_fits = one.1;
      this_fits = two.1;
      super_fits = three.1;
      name = at_name;
      this = subst (λ (o : Option (List ℕ)). IsSomeAnd o (λ name. thrown_named name ≡ None)) (sym at_name) (none_is (thrown_named name) both.0);
      super = at_parent ∙ ap (λ (t : List ℕ). Some t) object;
    }))))))

class_reaches : (file : ThinFile) (name : List ℕ) (place : Place) (rest : List ℕ) → IsThinClass file → class_name file.pool file.this_class ≡ Some name → place.left ≡ u2 file.access ++ (u2 file.this_class ++ (u2 file.super_class ++ rest)) → (after : Place) × (class_part_at file.pool place ≡ Some (name, after)) × (after.left ≡ rest)
unfolding class_part_at
class_reaches file name place rest class named spelled =
    let access = number_reaches 2 file.access place (u2 file.this_class ++ (u2 file.super_class ++ rest)) class.access spelled in
    let this = number_reaches 2 file.this_class access.after (u2 file.super_class ++ rest) class.this_number access.left in
    let super = number_reaches 2 file.super_class this.after rest class.super_number this.left in
    let unthrown : thrown_named name ≡ None = subst (λ (o : Option (List ℕ)). IsSomeAnd o (λ name. thrown_named name ≡ None)) named class.this in
    let ordinary : is_ordinary name ≡ true = ap is_none unthrown in
    (super.after, rw (access.found, this.found, super.found, named, class.super, ordinary) refl, super.left)

-- ---- no interfaces, no fields, one method

counts_takes : (start front : List ℕ) (place after : Place) → Takes start front place.left → counts_at place ≡ Some after → Takes start (front ++ u2 0 ++ u2 0 ++ u2 1) after.left
unfolding counts_at
counts_takes start front place after takes found =
    then_some (u2_at place) _ after found (λ interfaces at_interfaces more.
    then_some (u2_at interfaces.1) _ after more (λ fields at_fields more.
    then_some (u2_at fields.1) _ after more (λ methods at_methods last.
    let right = provided_some (interfaces.0 == 0 && (fields.0 == 0) && (methods.0 == 1)) (Some methods.1) after last in
    let both = and_parts (interfaces.0 == 0 && (fields.0 == 0)) (methods.0 == 1) right.0 in
    let none = and_parts (interfaces.0 == 0) (fields.0 == 0) both.0 in
    let one = number_takes 2 width2 start front place interfaces takes at_interfaces in
    let two = number_takes 2 width2 start (front ++ u2 interfaces.0) interfaces.1 fields one.0 at_fields in
    let three = number_takes 2 width2 start (front ++ u2 interfaces.0 ++ u2 fields.0) fields.1 methods two.0 at_methods in
    let counts : front ++ u2 interfaces.0 ++ u2 fields.0 ++ u2 methods.0 ≡ front ++ u2 0 ++ u2 0 ++ u2 1 =
    ap (λ (n : ℕ). front ++ u2 n ++ u2 fields.0 ++ u2 methods.0) (eqb-true _ _ none.0)
    ∙ ap (λ (n : ℕ). front ++ u2 0 ++ u2 n ++ u2 methods.0) (eqb-true _ _ none.1)
    ∙ ap (λ (n : ℕ). front ++ u2 0 ++ u2 0 ++ u2 n) (eqb-true _ _ both.1) in
    subst (λ (y : Place). Takes start (front ++ u2 0 ++ u2 0 ++ u2 1) y.left) (some_is methods.1 after right.1) (Takes-is start _ _ _ counts three.0))))

counts_reach : (place : Place) (rest : List ℕ) → place.left ≡ u2 0 ++ (u2 0 ++ (u2 1 ++ rest)) → (after : Place) × (counts_at place ≡ Some after) × (after.left ≡ rest)
unfolding counts_at
counts_reach place rest spelled =
    let interfaces = number_reaches 2 0 place (u2 0 ++ (u2 1 ++ rest)) (omega arith) spelled in
    let fields = number_reaches 2 0 interfaces.after (u2 1 ++ rest) (omega arith) interfaces.left in
    let methods = number_reaches 2 1 fields.after rest (omega arith) fields.left in
    (methods.after, rw (interfaces.found, fields.found, methods.found) refl, methods.left)

-- ---- the file

pub file_takes : (bytes : List ℕ) (method : Method) → IsBytes bytes → thin_method bytes ≡ Some method → IsThinFile bytes method
unfolding thin_method
file_takes bytes method fits found =
    then_some (header_at (beginning bytes)) _ method found (λ start at_start more.
    then_some (pool_at start) _ method more (λ pool at_pool more.
    then_some (class_part_at pool.0 pool.1) _ method more (λ class at_class more.
    then_some (counts_at class.1) _ method more (λ counts at_counts more.
    then_some (method_at pool.0 class.0 counts) _ method more (λ read at_method more.
    then_some (attributes_at pool.0 read.1) _ method more (λ attributes at_attributes last.
    let ended = provided_some (length attributes.1.left == 0) (Some read.0) method last in
    let one = header_takes bytes [] (beginning bytes) start (record { parts = refl; fits = fits }) at_start in
    let header : List ℕ = u4 magic ++ u2 one.minor ++ u2 one.major in
    let two = pool_takes bytes header start pool one.takes at_pool in
    let three = class_takes pool.0 bytes (header ++ spelled_pool pool.0) pool.1 class two.0 at_class in
    let class_text : List ℕ = header ++ spelled_pool pool.0 ++ u2 three.access ++ u2 three.this_class ++ u2 three.super_class in
    let four = counts_takes bytes class_text class.1 counts three.takes at_counts in
    let five = method_takes pool.0 class.0 bytes (class_text ++ u2 0 ++ u2 0 ++ u2 1) counts read four at_method in
    let method_text : List ℕ = class_text ++ u2 0 ++ u2 0 ++ u2 1 ++ u2 five.access ++ u2 five.name ++ u2 five.descriptor ++ spelled_attributes five.attributes in
    let six = attributes_takes pool.0 bytes method_text read.1 attributes five.takes at_attributes in
    let file : ThinFile = record { minor = one.minor; major = one.major; pool = pool.0; access = three.access; this_class = three.this_class; super_class = three.super_class; method_access = five.access; method_name = five.name; method_descriptor = five.descriptor; method_attributes = five.attributes; code = five.code; attributes = attributes.0 } in
    record {
      file = file;
      spelled = ends_there bytes (spelled_file file) attributes.1 six.0 ended.0;
      has_class = record {
        minor = one.fits;
        oldest = one.oldest;
        newest = one.newest;
        entries = two.1.entries;
        each = two.1.each;
        links = two.1.links;
        access = three.access_fits;
        this_number = three.this_fits;
        super_number = three.super_fits;
        this = three.this;
        super = three.super;
        attributes = six.1.0.fit;
        named = six.1.0.named;
      };
      has_method = subst (λ (m : Method). HasThinMethod file m) (some_is read.0 method ended.1) (five.has one.minor one.major three.access three.this_class three.super_class attributes.0 three.name);
    }))))))

regrouped : (first minor major pool access this super interfaces fields count kind name descriptor inner outer : List ℕ)
    → first ++ minor ++ major ++ pool ++ access ++ this ++ super ++ interfaces ++ fields ++ count ++ kind ++ name ++ descriptor ++ inner ++ outer
    ≡ first ++ (minor ++ (major ++ (pool ++ (access ++ (this ++ (super ++ (interfaces ++ (fields ++ (count ++ (kind ++ (name ++ (descriptor ++ (inner ++ (outer ++ []))))))))))))))
regrouped first minor major pool access this super interfaces fields count kind name descriptor inner outer = simp (append_assoc, append-nil)

pub file_reaches : (bytes : List ℕ) (method : Method) → IsThinFile bytes method → thin_method bytes ≡ Some method
unfolding thin_method
file_reaches bytes method thin =
    let file = thin.file in
    let class = thin.has_class in
    let last : List ℕ = spelled_attributes file.attributes ++ [] in
    let methods : List ℕ = u2 file.method_access ++ (u2 file.method_name ++ (u2 file.method_descriptor ++ (spelled_attributes file.method_attributes ++ last))) in
    let counted : List ℕ = u2 0 ++ (u2 0 ++ (u2 1 ++ methods)) in
    let named : List ℕ = u2 file.access ++ (u2 file.this_class ++ (u2 file.super_class ++ counted)) in
    let text : spelled_file file ≡ u4 magic ++ (u2 file.minor ++ (u2 file.major ++ (spelled_pool file.pool ++ named))) =
    regrouped (u4 magic) (u2 file.minor) (u2 file.major) (spelled_pool file.pool) (u2 file.access) (u2 file.this_class) (u2 file.super_class) (u2 0) (u2 0) (u2 1)
    (u2 file.method_access) (u2 file.method_name) (u2 file.method_descriptor) (spelled_attributes file.method_attributes) (spelled_attributes file.attributes) in
    let start = header_reaches file.minor file.major (beginning bytes) (spelled_pool file.pool ++ named) class.minor class.oldest class.newest (thin.spelled ∙ text) in
    let pool = pool_reaches file.pool start.0 named (record { entries = class.entries; each = class.each; links = class.links }) start.2 in
    let parent = class_reaches file method.class pool.after counted class thin.has_method.class pool.left in
    let counts = counts_reach parent.0 methods parent.2 in
    let read = method_reaches file method counts.0 last thin.has_method counts.2 in
    let attributes = attributes_reaches file.pool file.attributes read.after [] (record { fit = class.attributes; named = class.named }) read.left in
    let ended : eqb (length attributes.after.left) 0 ≡ true = at_end attributes.after attributes.left in
    rw (start.1, pool.found, parent.1, counts.1, read.found, attributes.found, ended) refl

-- two methods of one thin file are one
pub one_method : (bytes : List ℕ) (first second : Method) → IsThinFile bytes first → IsThinFile bytes second → first ≡ second
one_method bytes first second is_first is_second = some_is first second (sym (file_reaches bytes first is_first) ∙ file_reaches bytes second is_second)

-- where none is read, the bytes are no thin file
pub none_thin : (bytes : List ℕ) → thin_method bytes ≡ None → (method : Method) → ¬ IsThinFile bytes method
none_thin bytes none method thin = let read = file_reaches bytes method thin in cc

-- what holds of the method of a thin file
thin_method_is : (file : ThinFile) (method : Method) → HasThinMethod file method → IsThinMethod method
thin_method_is file method has = record {
  walked = rw (← has.stack, ← has.instructions) has.thin.walked;
  returns = rw (← has.instructions) has.thin.returns;
  short = rw (← has.instructions) (omega (arith, has.thin.length, length_spelled file.code.instructions));
  stack = rw (← has.stack) has.thin.stack;
  parameters = has.parameters;
  kinds = has.kinds;
  result = has.result;
}

pub method_is_thin : (bytes : List ℕ) (method : Method) → IsBytes bytes → thin_method bytes ≡ Some method → IsThinMethod method
method_is_thin bytes method fits found =
    let thin = file_takes bytes method fits found in
    thin_method_is thin.file method thin.has_method
