-- The fields and the methods of a plan are spelled in its file.
use Rattle.std.proofs.Common.{◌≡◌, ℕ, ◌+◌, ◌^◌, ◌<◌, ◌≤◌, Bool, true, false, not, ltb, List, [], ◌∷◌, ◌++◌, length, map, Option, Some, None, IfSome, refl, sym, ap, subst, ◌∙◌, append_assoc, length-append, arith, ℤ, FitsSigned, w32}
use Rattle.std.specs.Prelude.{◌&&◌, ◌==◌, codes}
use Rattle.std.specs.List.{AllByRecursion, list_any}
use Rattle.std.proofs.lemmas.Bool.{or_parts, lt-ltb, ltb-false}
use Rattle.std.proofs.lemmas.List.{map_push}
use Rattle.ms_pool.specs.declared.code.ClassKind.TheVariants as kinds
use Rattle.ms_pool.specs.Formats.{added, check, found, here, repeated, run, within}
use Rattle.ms_pool.specs.Pools.{Placed, numbered, u2 as u2s, u4 as u4s}
use Rattle.ms_pool.specs.ByNumber.{integer, utf8}
use Rattle.ms_classfile.specs.declared.fault.ClassFault.{ClassFault}
use Rattle.ms_classfile.specs.declared.fault.ClassFault.TheVariants.{At}
use Rattle.ms_classfile.specs.ClassFile.{Code, Field, Head, Method, attribute, code, code_attribute, constant_value, counted, field, field_attribute, field_key, handler, head, indexed, is_int_kind, is_static, is_there, method, method_attribute, method_key, shape, short, u2, u4}
use Rattle.ms_classwrite.specs.declared.plan.PlanField.{PlanField}
use Rattle.ms_classwrite.specs.declared.plan.PlanMethod.{PlanMethod}
use Rattle.ms_classwrite.specs.declared.plan.PoolLine.{PoolLine}
use Rattle.ms_classwrite.specs.declared.plan.PoolLine.TheVariants.{Utf8, Integer}
use Rattle.ms_classwrite.specs.Plans.{entry_of, number_in}
use Rattle.ms_classwrite.specs.Layout.{is_long, spelled_code, spelled_constant, spelled_field, spelled_method, text_number}
use Rattle.ms_classwrite.specs.ReadBack.{FieldFits, MethodFits, code_of, field_of, method_of, methods_of}
use Rattle.ms_classwrite.proofs.Fits.{AreNew, Key}
use Rattle.ms_classwrite.proofs.Slots.{int_at, text_at}
use Rattle.ms_classwrite.proofs.Spelling.{AreSpelled, Spells, both_nothing, both_spelled, check_nothing, done_nothing, found_nothing, here_nothing, last_spelled, made_at, run_spelled, spelled_as, then_spelled, u2_spelled, u4_spelled, within_spelled}
use Rattle.ms_classwrite.proofs.There.{Has, HasField, HasMethod, line_there, number_within}

-- NUMBERS OF THE POOL

-- the entries of the lines by number, in a file
abbrev pub slots_of : List PoolLine → List (Option Placed)
slots_of pool = numbered 8 (map entry_of pool)

pub indexed_spelled : {X : Type 0} (too_short : ℕ → ClassFault) (get : ℕ → Option X) (at index : ℕ) (x : X) → index < 2 ^ 16 → get index ≡ Some x → Spells (indexed too_short get) at (u2s index) (index, x)
unfolding indexed
indexed_spelled too_short get at index x fits is =
    then_spelled here _ at (u2s index) at (index, x) (here_nothing at)
    (last_spelled (u2 too_short) _ at (u2s index) index (index, x) (u2_spelled too_short at index fits)
    (both_nothing (found (get index) (At kinds.Index at)) _ (at + 2) x (index, x) (found_nothing (get index) (At kinds.Index at) (at + 2) x is) (done_nothing (index, x) (at + 2))))

-- a line's number fits, and is that of the line
pub number_fits : (pool : List PoolLine) (line : PoolLine) → length pool ≤ 65534 → Has pool line → number_in pool line < 2 ^ 16
number_fits pool line few has = omega (arith, few, number_within pool line has)

pub text_spelled : (too_short : ℕ → ClassFault) (pool : List PoolLine) (at : ℕ) (text : List ℕ) → length pool ≤ 65534 → Has pool (Utf8 text) → Spells (indexed too_short (utf8 (slots_of pool))) at (u2s (text_number pool text)) (text_number pool text, text)
text_spelled too_short pool at text few has =
    indexed_spelled too_short (utf8 (slots_of pool)) at (text_number pool text) text (number_fits pool (Utf8 text) few has) (text_at 8 pool (text_number pool text) text (line_there pool (Utf8 text) has))

-- HEADS

pub head_spelled : (pool : List PoolLine) (at access : ℕ) (name desc : List ℕ) → length pool ≤ 65534 → access < 2 ^ 16 → Has pool (Utf8 name) → Has pool (Utf8 desc)
    → Spells (head (slots_of pool)) at (u2s access ++ (u2s (text_number pool name) ++ u2s (text_number pool desc))) (record { at = at; access = access; name = name; name_index = text_number pool name; desc = desc; desc_index = text_number pool desc })
unfolding head
head_spelled pool at access name desc few fits has_name has_desc =
    let i = text_number pool name in
    let j = text_number pool desc in
    let x : Head = record { at = at; access = access; name = name; name_index = i; desc = desc; desc_index = j } in
    then_spelled here _ at (u2s access ++ (u2s i ++ u2s j)) at x (here_nothing at)
    (both_spelled (u2 short) _ at (u2s access) (u2s i ++ u2s j) access x (u2_spelled short at access fits)
    (both_spelled (indexed short (utf8 (slots_of pool))) _ (at + 2) (u2s i) (u2s j) (i, name) x (text_spelled short pool (at + 2) name few has_name)
    (last_spelled (indexed short (utf8 (slots_of pool))) _ (at + 2 + 2) (u2s j) (j, desc) x (text_spelled short pool (at + 2 + 2) desc few has_desc) (done_nothing x (at + 2 + 2 + 2)))))

-- FIELDS

constant_spelled : (pool : List PoolLine) (attribute_at at : ℕ) (int : ℤ) → length pool ≤ 65534 → FitsSigned w32 int → Has pool (Integer int) → Spells (constant_value (slots_of pool) attribute_at) at (u4s 2 ++ u2s (number_in pool (Integer int))) int
unfolding constant_value
constant_spelled pool attribute_at at int few fits has =
    let i = number_in pool (Integer int) in
    both_spelled (u4 short) _ at (u4s 2) (u2s i) 2 int (u4_spelled short at 2 (omega arith))
    (then_spelled (check (2 == 2) (At kinds.Shape attribute_at)) _ (at + 4) (u2s i) tt int (check_nothing (2 == 2) (At kinds.Shape attribute_at) (at + 4) refl)
    (last_spelled (indexed short (integer (slots_of pool))) _ (at + 4) (u2s i) (i, int) int
    (indexed_spelled short (integer (slots_of pool)) (at + 4) i int (number_fits pool (Integer int) few has) (int_at 8 pool i int fits (line_there pool (Integer int) has)))
    (done_nothing int (at + 4 + 2))))

one_constant : (pool : List PoolLine) (at : ℕ) (int : ℤ) → length pool ≤ 65534 → FitsSigned w32 int → Has pool (Utf8 (codes "ConstantValue")) → Has pool (Integer int)
    → Spells (field_attribute (slots_of pool) true None) at (u2s (text_number pool (codes "ConstantValue")) ++ (u4s 2 ++ u2s (number_in pool (Integer int)))) (Some int)
unfolding field_attribute
one_constant pool at int few fits has_name has =
    let i = text_number pool (codes "ConstantValue") in
    let rest = u4s 2 ++ u2s (number_in pool (Integer int)) in
    then_spelled here _ at (u2s i ++ rest) at (Some int) (here_nothing at)
    (both_spelled (indexed short (utf8 (slots_of pool))) _ at (u2s i) rest (i, codes "ConstantValue") (Some int) (text_spelled short pool at (codes "ConstantValue") few has_name)
    (last_spelled (constant_value (slots_of pool) at) _ (at + 2) rest int (Some int) (constant_spelled pool at (at + 2) int few fits has) (done_nothing (Some int) (at + 2 + 6))))

-- the attributes of a field, which has this constant
constants_spelled : (pool : List PoolLine) (at : ℕ) (gives : Bool) (constant : Option ℤ) → length pool ≤ 65534 → IfSome constant (FitsSigned w32) → IfSome constant (λ int. gives ≡ true) → ((int : ℤ) → constant ≡ Some int → Has pool (Utf8 (codes "ConstantValue")) × Has pool (Integer int))
    → Spells (counted short (field_attribute (slots_of pool) gives) None) at (spelled_constant pool constant) constant
unfolding spelled_constant
constants_spelled pool at gives None few fits kind has = last_spelled (u2 short) _ at (u2s 0) 0 None (u2_spelled short at 0 (omega arith)) (done_nothing None (at + 2))
constants_spelled pool at gives (Some int) few fits kind has =
    let text = u2s (text_number pool (codes "ConstantValue")) ++ (u4s 2 ++ u2s (number_in pool (Integer int))) in
    let one = one_constant pool (at + 2) int few fits (has int refl).0 (has int refl).1 in
    subst (λ (b : Bool). Spells (counted short (field_attribute (slots_of pool) b) None) at (u2s 1 ++ text) (Some int)) (sym kind)
    (both_spelled (u2 short) _ at (u2s 1) text 1 (Some int) (u2_spelled short at 1 (omega arith))
    (last_spelled (field_attribute (slots_of pool) true None) (repeated 0 (field_attribute (slots_of pool) true)) (at + 2) text (Some int) (Some int) one (done_nothing (Some int) (at + 2 + 8))))

pub field_spelled : (pool : List PoolLine) (before : List Field) (at : ℕ) (one : PlanField) → length pool ≤ 65534 → FieldFits one → IfSome one.constant (λ int. (is_static one.access && is_int_kind one.desc) ≡ true) → HasField pool one
    → is_there one.name one.desc (map field_key before) ≡ false → Spells (field (slots_of pool) before) at (spelled_field pool one) (field_of pool one)
unfolding field spelled_field
field_spelled pool before at one few fits kind has new =
    let front = u2s one.access ++ (u2s (text_number pool one.name) ++ u2s (text_number pool one.desc)) in
    let gives = is_static one.access && is_int_kind one.desc in
    let rest = spelled_constant pool one.constant in
    both_spelled (head (slots_of pool)) _ at front rest _ (field_of pool one) (head_spelled pool at one.access one.name one.desc few fits.access has.name has.desc)
    (then_spelled (check (not (is_there one.name one.desc (map field_key before))) (At kinds.Duplicate at)) _ (at + 6) rest tt (field_of pool one) (check_nothing (not (is_there one.name one.desc (map field_key before))) (At kinds.Duplicate at) (at + 6) (ap not new))
    (last_spelled (counted short (field_attribute (slots_of pool) gives) None) _ (at + 6) rest one.constant (field_of pool one) (constants_spelled pool (at + 6) gives one.constant few fits.constant kind has.constant) (done_nothing (field_of pool one) _)))

-- CODE

-- the code is of a size that counts
abbrev IsCode : List ℕ → Type 0
IsCode bytes = (0 < length bytes) × (length bytes < 2 ^ 16)

-- what a Code attribute holds
abbrev content_of : PlanMethod → List ℕ
content_of one = u2s one.max_stack ++ (u2s one.max_locals ++ (u4s (length one.code) ++ (one.code ++ (u2s 0 ++ u2s 0))))

is_sized : (n : ℕ) → 0 < n → n < 2 ^ 16 → (ltb 0 n && ltb n (2 ^ 16)) ≡ true
is_sized n some few = rw (lt-ltb 0 n some, lt-ltb n (2 ^ 16) few) refl

content_spelled : (slots : List (Option Placed)) (attribute_at at : ℕ) (one : PlanMethod) → MethodFits one → IsCode one.code
    → Spells (code slots attribute_at) at (content_of one) (record { max_stack = one.max_stack; max_locals = one.max_locals; code = one.code; code_at = at + 2 + 2 + 4; table = []; table_at = at + 2 + 2 + 4 + length one.code + 2 })
unfolding code
content_spelled slots attribute_at at one fits coded =
    let n = length one.code in
    let here_at = at + 2 + 2 + 4 in
    let table_at = here_at + n + 2 in
    let x : Code = record { max_stack = one.max_stack; max_locals = one.max_locals; code = one.code; code_at = here_at; table = []; table_at = table_at } in
    let last = u2s 0 ++ u2s 0 in
    let bytes = one.code ++ last in
    both_spelled (u2 (shape attribute_at)) _ at (u2s one.max_stack) (u2s one.max_locals ++ (u4s n ++ bytes)) one.max_stack x (u2_spelled (shape attribute_at) at one.max_stack fits.max_stack)
    (both_spelled (u2 (shape attribute_at)) _ (at + 2) (u2s one.max_locals) (u4s n ++ bytes) one.max_locals x (u2_spelled (shape attribute_at) (at + 2) one.max_locals fits.max_locals)
    (both_spelled (u4 (shape attribute_at)) _ (at + 2 + 2) (u4s n) bytes n x (u4_spelled (shape attribute_at) (at + 2 + 2) n (omega (arith, coded.1)))
    (then_spelled (check (ltb 0 n && ltb n (2 ^ 16)) (At kinds.Shape attribute_at)) _ here_at bytes tt x (check_nothing (ltb 0 n && ltb n (2 ^ 16)) (At kinds.Shape attribute_at) here_at (is_sized n coded.0 coded.1))
    (then_spelled here _ here_at bytes here_at x (here_nothing here_at)
    (both_spelled (run (shape attribute_at) n) _ here_at one.code last one.code x (run_spelled (shape attribute_at) here_at one.code)
    (both_spelled (u2 (shape attribute_at)) _ (here_at + n) (u2s 0) (u2s 0) 0 x (u2_spelled (shape attribute_at) (here_at + n) 0 (omega arith))
    (then_spelled here _ table_at (u2s 0) table_at x (here_nothing table_at)
    (then_spelled (repeated 0 (added (λ before. handler (shape attribute_at) slots)) []) _ table_at (u2s 0) [] x (done_nothing [] table_at)
    (last_spelled (counted (shape attribute_at) (attribute (shape attribute_at) slots) tt) _ table_at (u2s 0) tt x
    (last_spelled (u2 (shape attribute_at)) _ table_at (u2s 0) 0 tt (u2_spelled (shape attribute_at) table_at 0 (omega arith)) (done_nothing tt (table_at + 2)))
    (done_nothing x (table_at + 2)))))))))))

content_length : (one : PlanMethod) → length (content_of one) ≡ length one.code + 12
content_length one = omega (arith, length-append one.code (u2s 0 ++ u2s 0))

code_is : (one : PlanMethod) (at a b : ℕ) → a ≡ at + 22 → b ≡ at + 22 + length one.code + 2 → ◌≡◌ {A = Code} (record { max_stack = one.max_stack; max_locals = one.max_locals; code = one.code; code_at = a; table = []; table_at = b }) (code_of at one)
code_is one at a b p q =
    ap (λ (n : ℕ). record { max_stack = one.max_stack; max_locals = one.max_locals; code = one.code; code_at = n; table = []; table_at = b }) p
    ∙ ap (λ (n : ℕ). record { max_stack = one.max_stack; max_locals = one.max_locals; code = one.code; code_at = at + 22; table = []; table_at = n }) q

-- the attribute of a method that begins here: eight bytes stand before it
attribute_spelled : (pool : List PoolLine) (at : ℕ) (one : PlanMethod) → length pool ≤ 65534 → MethodFits one → IsCode one.code → Has pool (Utf8 (codes "Code"))
    → Spells (method_attribute (slots_of pool) None) (at + 8) (u2s (text_number pool (codes "Code")) ++ (u4s (length one.code + 12) ++ content_of one)) (Some (code_of at one))
unfolding method_attribute code_attribute
attribute_spelled pool at one few fits coded has =
    let slots = slots_of pool in
    let i = text_number pool (codes "Code") in
    let n = length one.code + 12 in
    let inner_at = at + 8 + 2 + 4 in
    let read : Code = record { max_stack = one.max_stack; max_locals = one.max_locals; code = one.code; code_at = inner_at + 2 + 2 + 4; table = []; table_at = inner_at + 2 + 2 + 4 + length one.code + 2 } in
    let x = code_of at one in
    let content = content_of one in
    let inner : Spells (within short (shape (at + 8)) n (code slots (at + 8))) inner_at content x =
    subst (λ (m : ℕ). Spells (within short (shape (at + 8)) m (code slots (at + 8))) inner_at content x) (content_length one)
    (within_spelled short (shape (at + 8)) (code slots (at + 8)) inner_at content x
    (spelled_as (code slots (at + 8)) inner_at content content read x refl (code_is one at (inner_at + 2 + 2 + 4) (inner_at + 2 + 2 + 4 + length one.code + 2) (omega arith) (omega arith)) (content_spelled slots (at + 8) inner_at one fits coded))) in
    let held : Spells (code_attribute slots (at + 8)) (at + 8 + 2) (u4s n ++ content) x = both_spelled (u4 short) _ (at + 8 + 2) (u4s n) content n x (u4_spelled short (at + 8 + 2) n (omega (arith, coded.1))) inner in
    then_spelled here _ (at + 8) (u2s i ++ (u4s n ++ content)) (at + 8) (Some x) (here_nothing (at + 8))
    (both_spelled (indexed short (utf8 slots)) _ (at + 8) (u2s i) (u4s n ++ content) (i, codes "Code") (Some x) (text_spelled short pool (at + 8) (codes "Code") few has)
    (then_spelled (check true (At kinds.Shape (at + 8))) _ (at + 8 + 2) (u4s n ++ content) tt (Some x) (check_nothing true (At kinds.Shape (at + 8)) (at + 8 + 2) refl)
    (last_spelled (code_attribute slots (at + 8)) _ (at + 8 + 2) (u4s n ++ content) x (Some x) held (done_nothing (Some x) _))))

pub method_spelled : (pool : List PoolLine) (before : List Method) (at : ℕ) (one : PlanMethod) → length pool ≤ 65534 → MethodFits one → IsCode one.code → HasMethod pool one
    → is_there one.name one.desc (map method_key before) ≡ false → Spells (method (slots_of pool) before) at (spelled_method pool one) (method_of pool at one)
unfolding method spelled_method spelled_code
method_spelled pool before at one few fits coded has new =
    let slots = slots_of pool in
    let front = u2s one.access ++ (u2s (text_number pool one.name) ++ u2s (text_number pool one.desc)) in
    let attributes = u2s (text_number pool (codes "Code")) ++ (u4s (length one.code + 12) ++ content_of one) in
    let x = method_of pool at one in
    let code = Some (code_of at one) in
    let prefix : List ℕ → List ℕ = λ tail. front ++ (u2s 1 ++ (u2s (text_number pool (codes "Code")) ++ (u4s (length one.code + 12) ++ (u2s one.max_stack ++ (u2s one.max_locals ++ (u4s (length one.code) ++ tail)))))) in
    spelled_as (method slots before) at (front ++ (u2s 1 ++ attributes)) (spelled_method pool one) x x (ap prefix (sym (append_assoc one.code (u2s 0) (u2s 0)))) refl
    (both_spelled (head slots) _ at front (u2s 1 ++ attributes) _ x (head_spelled pool at one.access one.name one.desc few fits.access has.name has.desc)
    (then_spelled (check (not (is_there one.name one.desc (map method_key before))) (At kinds.Duplicate at)) _ (at + 6) (u2s 1 ++ attributes) tt x (check_nothing (not (is_there one.name one.desc (map method_key before))) (At kinds.Duplicate at) (at + 6) (ap not new))
    (last_spelled (counted short (method_attribute slots) None) _ (at + 6) (u2s 1 ++ attributes) code x
    (both_spelled (u2 short) _ (at + 6) (u2s 1) attributes 1 code (u2_spelled short (at + 6) 1 (omega arith))
    (last_spelled (method_attribute slots None) (repeated 0 (method_attribute slots)) (at + 6 + 2) attributes code code
    (subst (λ (n : ℕ). Spells (method_attribute slots None) n attributes code) (omega arith) (attribute_spelled pool at one few fits coded has.code)) (done_nothing code _)))
    (done_nothing x _))))

-- ALL FIELDS AND METHODS

pub fields_spelled : (pool : List PoolLine) (before : List Field) (keys : List Key) (at : ℕ) (fields : List PlanField) → length pool ≤ 65534 → map field_key before ≡ keys
    → AllByRecursion FieldFits fields → AllByRecursion (λ (one : PlanField). IfSome one.constant (λ int. (is_static one.access && is_int_kind one.desc) ≡ true)) fields → AllByRecursion (HasField pool) fields
    → AreNew keys (map (λ (one : PlanField). (one.name, one.desc)) fields) → AreSpelled (field (slots_of pool)) (spelled_field pool) (λ place one. field_of pool one) before at fields
fields_spelled pool before keys at [] few are fits kind has new = tt
fields_spelled pool before keys at (one ∷ fields) few are fits kind has new = (
  field_spelled pool before at one few fits.0 kind.0 has.0 (ap (is_there one.name one.desc) are ∙ new.0),
  fields_spelled pool (before ++ field_of pool one ∷ []) (keys ++ (one.name, one.desc) ∷ []) (at + length (spelled_field pool one)) fields few (map_push field_key before (field_of pool one) ∙ ap (λ (k : List Key). k ++ (one.name, one.desc) ∷ []) are) fits.1 kind.1 has.1 new.1,
)

pub fields_made : (pool : List PoolLine) (at : ℕ) (fields : List PlanField) → made_at (field (slots_of pool)) (spelled_field pool) (λ place one. field_of pool one) at fields ≡ map (field_of pool) fields
fields_made pool at [] = refl
fields_made pool at (one ∷ fields) = ap (λ (rest : List Field). field_of pool one ∷ rest) (fields_made pool (at + length (spelled_field pool one)) fields)

pub methods_spelled : (pool : List PoolLine) (before : List Method) (keys : List Key) (at : ℕ) (methods : List PlanMethod) → length pool ≤ 65534 → map method_key before ≡ keys
    → AllByRecursion MethodFits methods → AllByRecursion (λ (one : PlanMethod). 0 < length one.code) methods → list_any (λ (one : PlanMethod). is_long one.code) methods ≡ false → AllByRecursion (HasMethod pool) methods
    → AreNew keys (map (λ (one : PlanMethod). (one.name, one.desc)) methods) → AreSpelled (method (slots_of pool)) (spelled_method pool) (method_of pool) before at methods
methods_spelled pool before keys at [] few are fits some short has new = tt
methods_spelled pool before keys at (one ∷ methods) few are fits some short has new =
    let s = or_parts (is_long one.code) (list_any (λ (other : PlanMethod). is_long other.code) methods) short in (
      method_spelled pool before at one few fits.0 (some.0, omega (arith, ltb-false 65535 (length one.code) s.0)) has.0 (ap (is_there one.name one.desc) are ∙ new.0),
      methods_spelled pool (before ++ method_of pool at one ∷ []) (keys ++ (one.name, one.desc) ∷ []) (at + length (spelled_method pool one)) methods few (map_push method_key before (method_of pool at one) ∙ ap (λ (k : List Key). k ++ (one.name, one.desc) ∷ []) are) fits.1 some.1 s.1 has.1 new.1,
    )

pub methods_made : (pool : List PoolLine) (at : ℕ) (methods : List PlanMethod) → made_at (method (slots_of pool)) (spelled_method pool) (method_of pool) at methods ≡ methods_of pool at methods
methods_made pool at [] = refl
methods_made pool at (one ∷ methods) = ap (λ (rest : List Method). method_of pool at one ∷ rest) (methods_made pool (at + length (spelled_method pool one)) methods)
