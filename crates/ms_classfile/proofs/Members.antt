-- How a field and a method are read behind their heads.
use Rattle.std.proofs.Common.{◌≡◌, true, false, List, [], ◌∷◌, ◌++◌, map, Option, None, Result, Ok, Err, refl, ℤ}
use Rattle.std.specs.Prelude.{◌&&◌}
use Rattle.ms_pool.specs.declared.code.ClassKind.TheVariants as kinds
use Rattle.ms_pool.specs.Places.{Place}
use Rattle.ms_pool.specs.Pools.{Placed}
use Rattle.ms_pool.specs.Formats.{added}
use Rattle.ms_classfile.specs.declared.fault.ClassFault.{ClassFault}
use Rattle.ms_classfile.specs.declared.fault.ClassFault.TheVariants.{At, NoMemory}
use Rattle.ms_classfile.specs.ClassFile.{Code, Field, Head, Method, counted, field, field_attribute, field_key, head, is_int_kind, is_static, is_there, method, method_attribute, method_key, short}
use Rattle.ms_classfile.specs.ClassFinds.{Fails}
use Rattle.ms_classfile.specs.Seen.{field_of, method_of}

-- FIELDS

abbrev initial_of : List (Option Placed) → Head → Place → Result (Option ℤ × Place) ClassFault
initial_of slots h place = (counted short (field_attribute slots (is_static h.access && is_int_kind h.desc)) None).read place

pub field_twice : (slots : List (Option Placed)) (before : List Field) (place after : Place) (h : Head) → (head slots).read place ≡ Ok (h, after) → is_there h.name h.desc (map field_key before) ≡ true → Fails (At kinds.Duplicate h.at) ((added (field slots) before).read place)
unfolding field
field_twice slots before place after h found there = rw (found, there) refl

pub field_breaks : (slots : List (Option Placed)) (before : List Field) (place after : Place) (h : Head) (fault : ClassFault) → (head slots).read place ≡ Ok (h, after) → is_there h.name h.desc (map field_key before) ≡ false → initial_of slots h after ≡ Err fault → (added (field slots) before).read place ≡ Err fault
unfolding field
field_breaks slots before place after h fault found new broken = rw (found, new, broken) refl

pub field_is : (slots : List (Option Placed)) (before : List Field) (place after last : Place) (h : Head) (initial : Option ℤ) → (head slots).read place ≡ Ok (h, after) → is_there h.name h.desc (map field_key before) ≡ false → initial_of slots h after ≡ Ok (initial, last)
    → (added (field slots) before).read place ≡ Ok (before ++ field_of h initial ∷ [], last)
unfolding field
field_is slots before place after last h initial found new is = rw (found, new, is) refl

-- METHODS

abbrev code_of : List (Option Placed) → Place → Result (Option Code × Place) ClassFault
code_of slots place = (counted short (method_attribute slots) None).read place

pub method_twice : (slots : List (Option Placed)) (before : List Method) (place after : Place) (h : Head) → (head slots).read place ≡ Ok (h, after) → is_there h.name h.desc (map method_key before) ≡ true → Fails (At kinds.Duplicate h.at) ((added (method slots) before).read place)
unfolding method
method_twice slots before place after h found there = rw (found, there) refl

pub method_breaks : (slots : List (Option Placed)) (before : List Method) (place after : Place) (h : Head) (fault : ClassFault) → (head slots).read place ≡ Ok (h, after) → is_there h.name h.desc (map method_key before) ≡ false → Fails fault (code_of slots after) → Fails fault ((added (method slots) before).read place)
unfolding method
method_breaks slots before place after h (At kind at) found new broken = rw (found, new, broken) refl
method_breaks slots before place after h NoMemory found new broken = tt

pub method_is : (slots : List (Option Placed)) (before : List Method) (place after last : Place) (h : Head) (code : Option Code) → (head slots).read place ≡ Ok (h, after) → is_there h.name h.desc (map method_key before) ≡ false → code_of slots after ≡ Ok (code, last)
    → (added (method slots) before).read place ≡ Ok (before ++ method_of h code ∷ [], last)
unfolding method
method_is slots before place after last h code found new is = rw (found, new, is) refl
