-- The codes of a class file lie within the file.
use Rattle.std.proofs.Common.{◌≡◌, ℕ, zero, suc, ◌+◌, ◌*◌, ◌^◌, ◌<◌, ◌≤◌, List, [], ◌∷◌, ◌++◌, length, take, get_or, Bool, true, false, Option, Some, None, Result, Ok, Err, ℤ, refl, sym, ap, subst, ◌∙◌, arith, All}
use Rattle.std.specs.Prelude.{map, not, ◌&&◌, ◌||◌, ◌==◌, nat_lt, is_none, IfOk, IfSome}
use Rattle.std.proofs.lemmas.Bool.{ltb-true}
use Rattle.std.proofs.lemmas.List.{length-append, length-take}
use Rattle.std.proofs.lemmas.List.Elements.{All-append}
use Rattle.ms_pool.specs.declared.code.ClassKind.TheVariants as kinds
use Rattle.ms_pool.specs.declared.code.RawHandler.{RawHandler}
use Rattle.ms_pool.specs.Places.{Place, beginning, behind, first_of}
use Rattle.ms_pool.specs.Numbers.{IsBytes, IsBytes-take, all_from_bytes, width2}
use Rattle.ms_pool.specs.Pools.{Placed, has_tag, spelled_pool}
use Rattle.ms_pool.specs.ByNumber.{class_name, integer, utf8}
use Rattle.ms_pool.specs.Formats.{Format, number, run, here, found, check, end, either, added, repeated, within}
use Rattle.ms_pool.specs.Exact.{enough_ok, number_exact, ok_is, then_ok}
use Rattle.ms_pool.specs.Forward.{GoesOn, IsForward, added_forward, both_forward, bytes_of, check_forward, done_forward, either_forward, found_forward, here_forward, number_forward, repeated_forward, run_forward, was_within, whole_of, within_forward}
use Rattle.ms_classfile.specs.declared.fault.ClassFault.{ClassFault}
use Rattle.ms_classfile.specs.declared.fault.ClassFault.TheVariants.{At}
use Rattle.ms_classfile.specs.ClassFile.{Class, Code, Field, Head, IsClassFile, Method, attribute, class_and_super, class_file, code, code_attribute, constant_value, counted, field, field_attribute, handler, head, header, indexed, interface, is_code, is_constant_value, is_there, method, method_key, method_attribute, passed, pool, shape, short, u2, u4}
use Rattle.ms_classfile.specs.ClassFinds.{Gives}
use Rattle.ms_classfile.specs.ClassLaws.{HasCodeWithin, LiesWithin}
use Rattle.ms_classfile.proofs.Exact.{class_file_exact, class_found, pool_exact}

-- EACH PART GOES ON

indexed_forward : {X : Type 0} (short : ℕ → ClassFault) (get : ℕ → Option X) → IsForward (indexed short get)
unfolding indexed
indexed_forward short get = both_forward here _ here_forward (λ at. both_forward (u2 short) _ (number_forward short 2) (λ index. both_forward (found (get index) _) _ (found_forward (get index) _) (λ x. done_forward (index, x))))

passed_forward : (short : ℕ → ClassFault) → IsForward (passed short)
unfolding passed
passed_forward short = both_forward (u4 short) _ (number_forward short 4) (λ size. both_forward (run short size) _ (run_forward short size) (λ content. done_forward tt))

counted_forward : {X : Type 0} (short : ℕ → ClassFault) (part : X → Format ClassFault X) (known : X) → ((x : X) → IsForward (part x)) → IsForward (counted short part known)
counted_forward short part known each = both_forward (u2 short) _ (number_forward short 2) (λ count. repeated_forward count part known each)

attribute_forward : (short : ℕ → ClassFault) (slots : List (Option Placed)) (before : Unit {0}) → IsForward (attribute short slots before)
unfolding attribute
attribute_forward short slots before = both_forward (indexed short (utf8 slots)) _ (indexed_forward short (utf8 slots)) (λ name. passed_forward short)

constant_forward : (slots : List (Option Placed)) (at : ℕ) → IsForward (constant_value slots at)
unfolding constant_value
constant_forward slots at =
    both_forward (u4 short) _ (number_forward short 4) (λ size.
    both_forward (check (size == 2) (At kinds.Shape at)) _ (check_forward (size == 2) (At kinds.Shape at)) (λ two.
    both_forward (indexed short (integer slots)) _ (indexed_forward short (integer slots)) (λ value. done_forward value.1)))

field_attribute_forward : (slots : List (Option Placed)) (gives : Bool) (known : Option ℤ) → IsForward (field_attribute slots gives known)
unfolding field_attribute
field_attribute_forward slots gives known =
    both_forward here _ here_forward (λ at.
    both_forward (indexed short (utf8 slots)) _ (indexed_forward short (utf8 slots)) (λ name.
    either_forward (gives && (is_constant_value name.1 && is_none known)) _ _
    (both_forward (constant_value slots at) _ (constant_forward slots at) (λ value. done_forward (Some value)))
    (both_forward (passed short) _ (passed_forward short) (λ content. done_forward known))))

head_forward : (slots : List (Option Placed)) → IsForward (head slots)
unfolding head
head_forward slots =
    both_forward here _ here_forward (λ at.
    both_forward (u2 short) _ (number_forward short 2) (λ access.
    both_forward (indexed short (utf8 slots)) _ (indexed_forward short (utf8 slots)) (λ name.
    both_forward (indexed short (utf8 slots)) _ (indexed_forward short (utf8 slots)) (λ desc. done_forward _))))

field_forward : (slots : List (Option Placed)) (before : List Field) → IsForward (field slots before)
unfolding field
field_forward slots before =
    both_forward (head slots) _ (head_forward slots) (λ head.
    both_forward (check _ (At kinds.Duplicate head.at)) _ (check_forward _ (At kinds.Duplicate head.at)) (λ new.
    both_forward (counted short (field_attribute slots _) None) _ (counted_forward short (field_attribute slots _) None (λ others. field_attribute_forward slots _ others)) (λ values. done_forward _)))

code_attribute_forward : (slots : List (Option Placed)) (at : ℕ) → IsForward (code_attribute slots at)
unfolding code_attribute
code_attribute_forward slots at = both_forward (u4 short) _ (number_forward short 4) (λ size. within_forward short (shape at) size (code slots at))

method_attribute_forward : (slots : List (Option Placed)) (known : Option Code) → IsForward (method_attribute slots known)
unfolding method_attribute
method_attribute_forward slots known =
    both_forward here _ here_forward (λ at.
    both_forward (indexed short (utf8 slots)) _ (indexed_forward short (utf8 slots)) (λ name.
    either_forward (is_code name.1) _ _
    (both_forward (check _ (At kinds.Shape at)) _ (check_forward _ (At kinds.Shape at)) (λ first.
    both_forward (code_attribute slots at) _ (code_attribute_forward slots at) (λ code. done_forward (Some code))))
    (both_forward (passed short) _ (passed_forward short) (λ content. done_forward known))))

method_forward : (slots : List (Option Placed)) (before : List Method) → IsForward (method slots before)
unfolding method
method_forward slots before =
    both_forward (head slots) _ (head_forward slots) (λ head.
    both_forward (check _ (At kinds.Duplicate head.at)) _ (check_forward _ (At kinds.Duplicate head.at)) (λ new.
    both_forward (counted short (method_attribute slots) None) _ (counted_forward short (method_attribute slots) None (method_attribute_forward slots)) (λ code. done_forward _)))

handler_forward : (short : ℕ → ClassFault) (slots : List (Option Placed)) → IsForward (handler short slots)
unfolding handler
handler_forward short slots =
    both_forward (u2 short) _ (number_forward short 2) (λ start.
    both_forward (u2 short) _ (number_forward short 2) (λ last.
    both_forward (u2 short) _ (number_forward short 2) (λ handler.
    both_forward here _ here_forward (λ at.
    both_forward (u2 short) _ (number_forward short 2) (λ catch_type.
    both_forward (check _ (At kinds.Index at)) _ (check_forward _ (At kinds.Index at)) (λ class. done_forward _))))))

class_and_super_forward : (slots : List (Option Placed)) → IsForward (class_and_super slots)
unfolding class_and_super
class_and_super_forward slots =
    both_forward (u2 short) _ (number_forward short 2) (λ access.
    both_forward (indexed short (class_name slots)) _ (indexed_forward short (class_name slots)) (λ this.
    both_forward here _ here_forward (λ super_at.
    both_forward (check _ (At kinds.Super super_at)) _ (check_forward _ (At kinds.Super super_at)) (λ other.
    both_forward (u2 short) _ (number_forward short 2) (λ super_class.
    both_forward (check _ (At kinds.Super super_at)) _ (check_forward _ (At kinds.Super super_at)) (λ object. done_forward this))))))

interface_forward : (before : Unit {0}) → IsForward (interface before)
unfolding interface
interface_forward before = both_forward (u2 short) _ (number_forward short 2) (λ index. done_forward tt)

header_forward : IsForward header
unfolding header
header_forward =
    both_forward here _ here_forward (λ magic_at.
    both_forward (u4 short) _ (number_forward short 4) (λ magic.
    both_forward (check _ (At kinds.Magic magic_at)) _ (check_forward _ (At kinds.Magic magic_at)) (λ right.
    both_forward (u2 short) _ (number_forward short 2) (λ minor.
    both_forward here _ here_forward (λ major_at.
    both_forward (u2 short) _ (number_forward short 2) (λ major.
    both_forward (check _ (At kinds.Version major_at)) _ (check_forward _ (At kinds.Version major_at)) (λ known. done_forward major)))))))

-- PLACES OF A FILE

-- a place of a file of so many bytes
record InFile (size : ℕ) (place : Place) : Type 0 where
  pub bytes : IsBytes place.left
  pub ends : place.at + length place.left ≤ size

later : (size : ℕ) (place after : Place) → GoesOn place after → InFile size place → InFile size after
later size place after goes in_file = record { bytes = bytes_of place after goes in_file.bytes; ends = omega (arith, whole_of place after goes, in_file.ends) }

inside : (size n : ℕ) (place : Place) → n ≤ length place.left → InFile size place → InFile size (first_of place n)
inside size n place enough in_file = record { bytes = IsBytes-take n place.left in_file.bytes; ends = omega (arith, length-take n place.left, in_file.ends) }

-- THE TABLE

-- a number is so many bytes long
number_moves : (short : ℕ → ClassFault) (n : ℕ) (place : Place) (x : ℕ × Place) → (number short n).read place ≡ Ok x → x.1.at ≡ place.at + n
number_moves short n place x found =
    let p = enough_ok short n place _ x found in
    ap (λ (y : ℕ × Place). y.1.at) (sym p.1)

pub check_stays : (test : Bool) (fault : ClassFault) (place : Place) (x : Unit {0} × Place) → (check test fault).read place ≡ Ok x → (test ≡ true) × (x.1 ≡ place)
check_stays true fault place x found = (refl, ap (λ (y : Unit {0} × Place). y.1) (sym (ok_is {Fault = ClassFault} (tt, place) x found)))
check_stays false fault place x found = absurd (let e = found in cc)

handler_moves : (short : ℕ → ClassFault) (slots : List (Option Placed)) (place : Place) (x : RawHandler × Place) → (handler short slots).read place ≡ Ok x → x.1.at ≡ place.at + 8
unfolding handler
handler_moves short slots place x found =
    then_ok ((u2 short).read place) _ x found (λ start is_start rest.
    then_ok ((u2 short).read start.1) _ x rest (λ last is_last rest.
    then_ok ((u2 short).read last.1) _ x rest (λ handler is_handler rest.
    then_ok ((u2 short).read handler.1) _ x rest (λ catch_type is_type rest.
    then_ok ((check (catch_type.0 == 0 || has_tag slots catch_type.0 7) (At kinds.Index handler.1.at)).read catch_type.1) _ x rest (λ class is_class last_of.
    let same : x.1 ≡ class.1 = ap (λ (y : RawHandler × Place). y.1) (sym (ok_is {Fault = ClassFault} (record { start = start.0; «end» = last.0; handler = handler.0; catch_type = catch_type.0 }, class.1) x last_of)) in
    let stays = check_stays (catch_type.0 == 0 || has_tag slots catch_type.0 7) (At kinds.Index handler.1.at) catch_type.1 class is_class in
    omega (arith, number_moves short 2 place start is_start, number_moves short 2 start.1 last is_last, number_moves short 2 last.1 handler is_handler, number_moves short 2 handler.1 catch_type is_type, ap (λ (p : Place). p.at) same, ap (λ (p : Place). p.at) stays.1))))))

table_moves : (n : ℕ) (short : ℕ → ClassFault) (slots : List (Option Placed)) (before : List RawHandler) (place : Place) (x : List RawHandler × Place) → (repeated n (added (λ others. handler short slots)) before).read place ≡ Ok x → place.at + 8 * length x.0 ≡ x.1.at + 8 * length before
table_moves zero short slots before place x found = ap (λ (y : List RawHandler × Place). place.at + 8 * length y.0) (sym (ok_is {Fault = ClassFault} (before, place) x found)) ∙ ap (λ (y : List RawHandler × Place). y.1.at + 8 * length before) (ok_is {Fault = ClassFault} (before, place) x found)
table_moves (suc n) short slots before place x found =
    then_ok ((added (λ others. handler short slots) before).read place) _ x found (λ more is_more rest.
    then_ok ((handler short slots).read place) _ more is_more (λ row is_row last.
    let same = ok_is {Fault = ClassFault} (before ++ row.0 ∷ [], row.1) more last in
    omega (arith, table_moves n short slots more.0 more.1 x rest, handler_moves short slots place row is_row, ap (λ (y : List RawHandler × Place). y.1.at) same, ap (λ (y : List RawHandler × Place). length y.0) same, length-append before (row.0 ∷ []))))

-- THE CODE

both_true : (a b : Bool) → (a && b) ≡ true → (a ≡ true) × (b ≡ true)
both_true true b is = (refl, is)
both_true false b is = absurd (let e = is in cc)

code_lies : (slots : List (Option Placed)) (at size : ℕ) (place : Place) (x : Code × Place) → InFile size place → (code slots at).read place ≡ Ok x → LiesWithin size x.0
unfolding code
code_lies slots at size place x in_file found =
    let too_short = shape at in
    then_ok ((u2 too_short).read place) _ x found (λ stack is_stack rest.
    then_ok ((u2 too_short).read stack.1) _ x rest (λ locals is_locals rest.
    then_ok ((u4 too_short).read locals.1) _ x rest (λ many is_many rest.
    then_ok ((check (nat_lt 0 many.0 && nat_lt many.0 (2 ^ 16)) (At kinds.Shape at)).read many.1) _ x rest (λ sized is_sized rest.
    then_ok ((run too_short many.0).read sized.1) _ x rest (λ bytes is_bytes rest.
    then_ok ((u2 too_short).read bytes.1) _ x rest (λ count is_count rest.
    then_ok ((repeated count.0 (added (λ others. handler too_short slots)) []).read count.1) _ x rest (λ table is_table rest.
    then_ok ((counted too_short (attribute too_short slots) tt).read table.1) _ x rest (λ attributes is_attributes last.
    let limits = check_stays (nat_lt 0 many.0 && nat_lt many.0 (2 ^ 16)) (At kinds.Shape at) many.1 sized is_sized in
    let bounds = both_true (nat_lt 0 many.0) (nat_lt many.0 (2 ^ 16)) limits.0 in
    let before_code = later size many.1 sized.1 ((check_forward (nat_lt 0 many.0 && nat_lt many.0 (2 ^ 16)) (At kinds.Shape at)).goes many.1 sized is_sized) (later size locals.1 many.1 ((number_forward too_short 4).goes locals.1 many is_many) (later size stack.1 locals.1 ((number_forward too_short 2).goes stack.1 locals is_locals) (later size place stack.1 ((number_forward too_short 2).goes place stack is_stack) in_file))) in
    let behind_count = later size bytes.1 count.1 ((number_forward too_short 2).goes bytes.1 count is_count) (later size sized.1 bytes.1 ((run_forward too_short many.0).goes sized.1 bytes is_bytes) before_code) in
    let behind_table = later size count.1 table.1 ((repeated_forward count.0 (added (λ others. handler too_short slots)) [] (λ known. added_forward (λ others. handler too_short slots) known (handler_forward too_short slots))).goes count.1 table is_table) behind_count in
    let taken = enough_ok too_short many.0 sized.1 (take many.0 sized.1.left, behind sized.1 many.0) bytes is_bytes in
    let same : take many.0 sized.1.left ≡ bytes.0 = ap (λ (y : List ℕ × Place). y.0) taken.1 in
    let length_is : length bytes.0 ≡ many.0 = omega (arith, ap (λ (l : List ℕ). length l) same, length-take many.0 sized.1.left, taken.0) in
    subst (λ (y : Code × Place). LiesWithin size y.0) (ok_is {Fault = ClassFault} (record { max_stack = stack.0; max_locals = locals.0; code = bytes.0; code_at = sized.1.at; table = table.0; table_at = count.1.at }, attributes.1) x last)
    (record {
      some = omega (arith, length_is, ltb-true _ _ bounds.0);
      short = omega (arith, length_is, ltb-true _ _ bounds.1);
      bytes = all_from_bytes bytes.0 (subst IsBytes same (IsBytes-take many.0 sized.1.left before_code.bytes));
      code_ends = omega (arith, length_is, taken.0, before_code.ends);
      table_ends = omega (arith, table_moves count.0 too_short slots [] count.1 table is_table, behind_table.ends);
    })))))))))

-- METHODS

attribute_lies : (slots : List (Option Placed)) (at size : ℕ) (place : Place) (x : Code × Place) → InFile size place → (code_attribute slots at).read place ≡ Ok x → LiesWithin size x.0
unfolding code_attribute
attribute_lies slots at size place x in_file found =
    then_ok ((u4 short).read place) _ x found (λ many is_many rest.
    let w = was_within short (shape at) many.0 (code slots at) many.1 x rest in
    code_lies slots at size (first_of many.1 many.0) (x.0, w.last) (inside size many.0 many.1 w.enough (later size place many.1 ((number_forward short 4).goes place many is_many) in_file)) w.inner)

-- what the attributes of a method give
abbrev Lie : ℕ → Option Code → Type 0
Lie size known = IfSome known (LiesWithin size)

either_of : {X P : Type 0} (test : Bool) (first second : Format ClassFault X) (place : Place) (x : X × Place) → (either test first second).read place ≡ Ok x → (first.read place ≡ Ok x → P) → (second.read place ≡ Ok x → P) → P
either_of true first second place x found one other = one found
either_of false first second place x found one other = other found

method_attribute_lies : (slots : List (Option Placed)) (known : Option Code) (size : ℕ) (place : Place) (x : Option Code × Place) → InFile size place → Lie size known → (method_attribute slots known).read place ≡ Ok x → Lie size x.0
unfolding method_attribute
method_attribute_lies slots known size place x in_file so_far found =
    then_ok ((indexed short (utf8 slots)).read place) _ x found (λ name is_name rest.
    let behind_name = later size place name.1 ((indexed_forward short (utf8 slots)).goes place name is_name) in_file in
    either_of (is_code name.0.1) _ _ name.1 x rest
    (λ coded.
    then_ok ((check (is_none known) (At kinds.Shape place.at)).read name.1) _ x coded (λ first is_first rest.
    then_ok ((code_attribute slots place.at).read first.1) _ x rest (λ code is_code last.
    let before_code = later size name.1 first.1 ((check_forward (is_none known) (At kinds.Shape place.at)).goes name.1 first is_first) behind_name in
    subst (λ (y : Option Code × Place). Lie size y.0) (ok_is {Fault = ClassFault} (Some code.0, code.1) x last) (attribute_lies slots place.at size first.1 code before_code is_code))))
    (λ other.
    then_ok ((passed short).read name.1) _ x other (λ content is_content last.
    subst (λ (y : Option Code × Place). Lie size y.0) (ok_is {Fault = ClassFault} (known, content.1) x last) so_far)))

attributes_lie : (n : ℕ) (slots : List (Option Placed)) (known : Option Code) (size : ℕ) (place : Place) (x : Option Code × Place) → InFile size place → Lie size known → (repeated n (method_attribute slots) known).read place ≡ Ok x → Lie size x.0
attributes_lie zero slots known size place x in_file so_far found = subst (λ (y : Option Code × Place). Lie size y.0) (ok_is {Fault = ClassFault} (known, place) x found) so_far
attributes_lie (suc n) slots known size place x in_file so_far found =
    then_ok ((method_attribute slots known).read place) _ x found (λ more is_more rest.
    attributes_lie n slots more.0 size more.1 x (later size place more.1 ((method_attribute_forward slots known).goes place more is_more) in_file) (method_attribute_lies slots known size place more in_file so_far is_more) rest)

counted_lie : (slots : List (Option Placed)) (size : ℕ) (place : Place) (x : Option Code × Place) → InFile size place → (counted short (method_attribute slots) None).read place ≡ Ok x → Lie size x.0
counted_lie slots size place x in_file found =
    then_ok ((u2 short).read place) _ x found (λ count is_count rest.
    attributes_lie count.0 slots None size count.1 x (later size place count.1 ((number_forward short 2).goes place count is_count) in_file) tt rest)

-- whether no method before has the name and the descriptor
abbrev is_new : List Method → Head → Bool
is_new before head = not (is_there head.name head.desc (map method_key before))

method_lies : (slots : List (Option Placed)) (before : List Method) (size : ℕ) (place : Place) (x : Method × Place) → InFile size place → (method slots before).read place ≡ Ok x → HasCodeWithin size x.0
unfolding method
method_lies slots before size place x in_file found =
    then_ok ((head slots).read place) _ x found (λ head is_head rest.
    then_ok ((check (is_new before head.0) (At kinds.Duplicate head.0.at)).read head.1) _ x rest (λ new is_new_there rest.
    then_ok ((counted short (method_attribute slots) None).read new.1) _ x rest (λ code is_code last.
    let there = later size head.1 new.1 ((check_forward (is_new before head.0) (At kinds.Duplicate head.0.at)).goes head.1 new is_new_there) (later size place head.1 ((head_forward slots).goes place head is_head) in_file) in
    subst (λ (y : Method × Place). HasCodeWithin size y.0) (ok_is {Fault = ClassFault} (record { access = head.0.access; name = head.0.name; name_index = head.0.name_index; desc = head.0.desc; desc_index = head.0.desc_index; code = code.0; at = head.0.at }, code.1) x last) (counted_lie slots size new.1 code there is_code))))

-- ALL METHODS

all_more : (size : ℕ) (before : List Method) (method : Method) → All (HasCodeWithin size) before → HasCodeWithin size method → All (HasCodeWithin size) (before ++ method ∷ [])
all_more size before method all one = All-append (HasCodeWithin size) before (method ∷ []) all alone
  where
    alone : (k : ℕ) (d : Method) → k < length (method ∷ []) → HasCodeWithin size (get_or (method ∷ []) k d)
    alone zero d within = one
    alone (suc k) d within = absurd (omega arith)

none_yet : (size : ℕ) → All (HasCodeWithin size) []
none_yet size k d within = absurd (omega arith)

methods_lie : (n : ℕ) (slots : List (Option Placed)) (before : List Method) (size : ℕ) (place : Place) (x : List Method × Place) → InFile size place → All (HasCodeWithin size) before → (repeated n (added (method slots)) before).read place ≡ Ok x → All (HasCodeWithin size) x.0
methods_lie zero slots before size place x in_file so_far found = subst (λ (y : List Method × Place). All (HasCodeWithin size) y.0) (ok_is {Fault = ClassFault} (before, place) x found) so_far
methods_lie (suc n) slots before size place x in_file so_far found =
    then_ok ((added (method slots) before).read place) _ x found (λ more is_more rest.
    then_ok ((method slots before).read place) _ more is_more (λ one is_one last.
    let there = later size place more.1 ((added_forward (method slots) before (method_forward slots before)).goes place more is_more) in_file in
    let all = subst (λ (y : List Method × Place). All (HasCodeWithin size) y.0) (ok_is {Fault = ClassFault} (before ++ one.0 ∷ [], one.1) more last) (all_more size before one.0 so_far (method_lies slots before size place one in_file is_one)) in
    methods_lie n slots more.0 size more.1 x there all rest))

-- THE FILE

pool_goes : (size : ℕ) (place : Place) (x : List (Option Placed) × Place) → InFile size place → pool.read place ≡ Ok x → InFile size x.1
unfolding pool
pool_goes size place x in_file found =
    let is = pool_exact.spells place x in_file.bytes found in
    record {
      bytes = pool_exact.fits place x in_file.bytes found;
      ends = omega (arith, is.is.moved, ap (λ (l : List ℕ). length l) is.is.spelled.bytes, length-append (spelled_pool is.entries) x.1.left, in_file.ends);
    }

methods_many : (n : ℕ) (slots : List (Option Placed)) (before : List Method) (place : Place) (x : List Method × Place) → (repeated n (added (method slots)) before).read place ≡ Ok x → length x.0 ≡ length before + n
methods_many zero slots before place x found = ap (λ (y : List Method × Place). length y.0) (sym (ok_is {Fault = ClassFault} (before, place) x found)) ∙ omega arith
methods_many (suc n) slots before place x found =
    then_ok ((added (method slots) before).read place) _ x found (λ more is_more rest.
    then_ok ((method slots before).read place) _ more is_more (λ one is_one last.
    let same = ok_is {Fault = ClassFault} (before ++ one.0 ∷ [], one.1) more last in
    omega (arith, methods_many n slots more.0 more.1 x rest, ap (λ (y : List Method × Place). length y.0) same, length-append before (one.0 ∷ []))))

-- each code lies within the file, and there are fewer methods than a number of two bytes can count
methods_are : (file : List ℕ) (class : Class) → IsBytes file → IsClassFile file class → All (HasCodeWithin (length file)) class.methods × (length class.methods < 2 ^ 16)
unfolding class_file
methods_are file class bytes is =
    let found = class_file_exact.reads (beginning file) class is.after bytes is.is in
    let size = length file in
    let start : InFile size (beginning file) = record { bytes = bytes; ends = omega arith } in
    then_ok (header.read (beginning file)) _ (class, is.after) found (λ major is_major rest.
    let p1 = later size (beginning file) major.1 (header_forward.goes (beginning file) major is_major) start in
    then_ok (pool.read major.1) _ (class, is.after) rest (λ slots is_slots rest.
    let p2 = pool_goes size major.1 slots p1 is_slots in
    then_ok ((class_and_super slots.0).read slots.1) _ (class, is.after) rest (λ this is_this rest.
    let p3 = later size slots.1 this.1 ((class_and_super_forward slots.0).goes slots.1 this is_this) p2 in
    then_ok ((counted short interface tt).read this.1) _ (class, is.after) rest (λ interfaces are_interfaces rest.
    let p4 = later size this.1 interfaces.1 ((counted_forward short interface tt interface_forward).goes this.1 interfaces are_interfaces) p3 in
    then_ok ((counted short (added (field slots.0)) []).read interfaces.1) _ (class, is.after) rest (λ fields are_fields rest.
    let p5 = later size interfaces.1 fields.1 ((counted_forward short (added (field slots.0)) [] (λ before. added_forward (field slots.0) before (field_forward slots.0 before))).goes interfaces.1 fields are_fields) p4 in
    then_ok ((counted short (added (method slots.0)) []).read fields.1) _ (class, is.after) rest (λ methods are_methods rest.
    then_ok ((u2 short).read fields.1) _ methods are_methods (λ count is_count repeats.
    let p6 = later size fields.1 count.1 ((number_forward short 2).goes fields.1 count is_count) p5 in
    let all = methods_lie count.0 slots.0 [] size count.1 methods p6 (none_yet size) repeats in
    let few : length methods.0 < 2 ^ 16 = omega (arith, methods_many count.0 slots.0 [] count.1 methods repeats, ((number_exact short 2 width2).spells fields.1 count p5.bytes is_count).fits) in
    then_ok ((counted short (attribute short slots.0) tt).read methods.1) _ (class, is.after) rest (λ attributes are_attributes rest.
    then_ok ((end (λ at. At kinds.Trailing at)).read attributes.1) _ (class, is.after) rest (λ ended is_ended last.
    subst (λ (y : Class × Place). All (HasCodeWithin size) y.0.methods × (length y.0.methods < 2 ^ 16)) (ok_is {Fault = ClassFault} (record { major = major.0; pool = slots.0; name = this.0.1; this_index = this.0.0; fields = fields.0; methods = methods.0 }, ended.1) (class, is.after) last) (all, few))))))))))

pub codes_lie : (file : List ℕ) (class : Class) → IsBytes file → IsClassFile file class → All (HasCodeWithin (length file)) class.methods
codes_lie file class bytes is = (methods_are file class bytes is).0

pub few_methods : (file : List ℕ) (class : Class) → IsBytes file → IsClassFile file class → length class.methods < 2 ^ 16
few_methods file class bytes is = (methods_are file class bytes is).1

-- so it is of what a reader returned
pub codes_of : {X : Type 0} (seen : X → Class) (file : List ℕ) (result : Result X ClassFault) → IsBytes file → Gives seen result (class_file.read (beginning file)) → IfOk result (λ x. All (HasCodeWithin (length file)) (seen x).methods)
codes_of seen file (Ok x) bytes gives = codes_lie file (seen x) bytes (class_found file (seen x) gives.0 bytes gives.1)
codes_of seen file (Err fault) bytes gives = tt
