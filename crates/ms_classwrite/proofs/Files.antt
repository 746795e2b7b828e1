-- The file of a plan spells the plan's class.
use Rattle.std.proofs.Common.{◌≡◌, ℕ, ◌+◌, ◌≤◌, Bool, true, false, not, ltb, List, [], ◌++◌, length, map, Option, Some, None, is_some, refl, sym, ap, subst, ◌∙◌, append_assoc, length-append, arith}
use Rattle.std.specs.Prelude.{◌&&◌, ◌==◌, codes, nat_le}
use Rattle.std.specs.List.{AllByRecursion, flat_map, list_all, list_any}
use Rattle.std.proofs.lemmas.Bool.{or_parts, ltb-false}
use Rattle.ms_words.specs.Throwables.{thrown_named}
use Rattle.ms_words.specs.declared.thrown.Thrown.{Thrown}
use Rattle.ms_pool.specs.declared.code.ClassKind.TheVariants as kinds
use Rattle.ms_pool.specs.Formats.{Format, added, check, done, end, here, repeated, ◌>>=◌}
use Rattle.ms_pool.specs.Pools.{IsEntry, spelled_pool, u2 as u2s, u4 as u4s}
use Rattle.ms_pool.specs.ByNumber.{class_name}
use Rattle.ms_classfile.specs.declared.fault.ClassFault.{ClassFault}
use Rattle.ms_classfile.specs.declared.fault.ClassFault.TheVariants.{At}
use Rattle.ms_classfile.specs.ClassFile.{Class, Field, IsClassFile, attribute, class_and_super, class_file, counted, field, header, indexed, interface, is_object, method, pool, short, u2, u4}
use Rattle.ms_classwrite.specs.declared.plan.PlanField.{PlanField}
use Rattle.ms_classwrite.specs.declared.plan.PlanMethod.{PlanMethod}
use Rattle.ms_classwrite.specs.declared.plan.PoolLine.{PoolLine}
use Rattle.ms_classwrite.specs.declared.plan.PoolLine.TheVariants.{Utf8, Class as ClassLine}
use Rattle.ms_classwrite.specs.Plans.{Plan, entry_of, is_linked}
use Rattle.ms_classwrite.specs.Layout.{class_number, has_too_many, is_long, is_long_line, is_too_large, layout, layout_with, pool_of, spelled_class, spelled_field, spelled_fields, spelled_method, spelled_methods, spelled_start, text_number}
use Rattle.ms_classwrite.specs.ReadBack.{FieldFits, HasTypes, IsReadable, LineFits, MethodFits, class_of, class_with, field_of, method_of, methods_of}
use Rattle.ms_classwrite.proofs.Fits.{each, keys_new, pool_fits}
use Rattle.ms_classwrite.proofs.Members.{fields_made, fields_spelled, indexed_spelled, methods_made, methods_spelled, number_fits, slots_of}
use Rattle.ms_classwrite.proofs.Slots.{class_at, entries_fit, pool_linked}
use Rattle.ms_classwrite.proofs.Spelling.{Spells, SpellsNothing, both_nothing, both_spelled, check_nothing, done_nothing, here_nothing, last_spelled, made_at, place, several_spelled, spelled_as, then_spelled, u2_spelled, u4_spelled}
use Rattle.ms_classwrite.proofs.There.{HasAll, HasClass, line_there, pool_has, sound_pool}
use Rattle.ms_classwrite.proofs.Written.{width_is}

-- TO THE END OF THE FILE

-- these bytes spell this, and nothing stands behind them
record SpellsAll {X : Type 0} (format : Format ClassFault X) (at : ℕ) (text : List ℕ) (x : X) : Type 0 where
  pub is : format.Spells (place at text) x (place (at + length text) [])

both_all : {X Y : Type 0} (first : Format ClassFault X) (rest : X → Format ClassFault Y) (at : ℕ) (s t : List ℕ) (x : X) (y : Y) → Spells first at s x → SpellsAll (rest x) (at + length s) t y → SpellsAll (first >>= rest) at (s ++ t) y
both_all first rest at s t x y p q = record {
  is = record {
    x = x;
    between = place (at + length s) t;
    is_first = p.is t;
    is_rest = subst (λ (n : ℕ). (rest x).Spells (place (at + length s) t) y (place n [])) (omega (arith, length-append s t)) q.is;
  };
}

-- the end, and the value
end_all : {X : Type 0} (trailing : ℕ → ClassFault) (at : ℕ) (x : X) → SpellsAll (end trailing >>= λ ended. done x) at [] x
end_all {X = X} trailing at x = record { is = subst (λ (n : ℕ). (end trailing >>= λ ended. done x).Spells (place at []) x (place n [])) (omega arith) here_all }
  where
    here_all : (end trailing >>= λ ended. done x).Spells (place at []) x (place at [])
    here_all = record { x = tt; between = place at []; is_first = (refl, refl); is_rest = (refl, refl) }

all_as : {X : Type 0} (format : Format ClassFault X) (at : ℕ) (s t : List ℕ) (x y : X) → s ≡ t → x ≡ y → SpellsAll format at s x → SpellsAll format at t y
all_as {X = X} format at s t x y same is p = subst (λ (z : X). SpellsAll format at t z) is (subst (λ (l : List ℕ). SpellsAll format at l x) same p)

-- THE HEADER AND THE POOL

header_spelled : Spells header 0 (u4s 0xCAFEBABE ++ (u2s 0 ++ u2s 52)) 52
unfolding header
header_spelled =
    then_spelled here _ 0 (u4s 0xCAFEBABE ++ (u2s 0 ++ u2s 52)) 0 52 (here_nothing 0)
    (both_spelled (u4 short) _ 0 (u4s 0xCAFEBABE) (u2s 0 ++ u2s 52) 0xCAFEBABE 52 (u4_spelled short 0 0xCAFEBABE (omega arith))
    (then_spelled (check (0xCAFEBABE == 0xCAFEBABE) (At kinds.Magic 0)) _ 4 (u2s 0 ++ u2s 52) tt 52 (check_nothing (0xCAFEBABE == 0xCAFEBABE) (At kinds.Magic 0) 4 refl)
    (both_spelled (u2 short) _ 4 (u2s 0) (u2s 52) 0 52 (u2_spelled short 4 0 (omega arith))
    (then_spelled here _ 6 (u2s 52) 6 52 (here_nothing 6)
    (last_spelled (u2 short) _ 6 (u2s 52) 52 52 (u2_spelled short 6 52 (omega arith))
    (check_done (nat_le 45 52 && nat_le 52 52) refl))))))
  where
    check_done : (test : Bool) → test ≡ true → SpellsNothing {X = ℕ} (check test (At kinds.Version 6) >>= λ known. done 52) 8 52
    check_done test is = both_nothing (check test (At kinds.Version 6)) (λ known. done {X = ℕ} 52) 8 tt 52 (check_nothing test (At kinds.Version 6) 8 is) (done_nothing {X = ℕ} 52 8)

pool_spelled : (lines : List PoolLine) → length lines ≤ 65534 → AllByRecursion IsEntry (map entry_of lines) → list_all (is_linked lines) lines ≡ true → Spells pool 8 (spelled_pool (map entry_of lines)) (slots_of lines)
unfolding pool
pool_spelled lines few fit linked = record {
  is = λ rest. record {
    entries = map entry_of lines;
    is = record {
      count = omega (arith, few, width_is lines);
      spelled = record { fit = fit; bytes = refl };
      moved = refl;
      linked = pool_linked 8 lines linked;
    };
    slots_are = refl;
  };
}

-- THE CLASS

class_there : (lines : List PoolLine) (name : List ℕ) → HasClass lines name → class_name (slots_of lines) (class_number lines name) ≡ Some name
class_there lines name has = class_at 8 lines (class_number lines name) (text_number lines name) name (line_there lines (ClassLine (text_number lines name)) has.class) (line_there lines (Utf8 name) has.text)

class_spelled : (lines : List PoolLine) (at : ℕ) (name : List ℕ) → length lines ≤ 65534 → thrown_named name ≡ None → HasClass lines name → HasClass lines (codes "java/lang/Object")
    → Spells (class_and_super (slots_of lines)) at (u2s 0x0021 ++ (u2s (class_number lines name) ++ u2s (class_number lines (codes "java/lang/Object")))) (class_number lines name, name)
unfolding class_and_super
class_spelled lines at name few other has object =
    let slots = slots_of lines in
    let i = class_number lines name in
    let j = class_number lines (codes "java/lang/Object") in
    both_spelled (u2 short) _ at (u2s 0x0021) (u2s i ++ u2s j) 0x0021 (i, name) (u2_spelled short at 0x0021 (omega arith))
    (both_spelled (indexed short (class_name slots)) _ (at + 2) (u2s i) (u2s j) (i, name) (i, name) (indexed_spelled short (class_name slots) (at + 2) i name (number_fits lines (ClassLine (text_number lines name)) few has.class) (class_there lines name has))
    (then_spelled here _ (at + 2 + 2) (u2s j) (at + 2 + 2) (i, name) (here_nothing (at + 2 + 2))
    (then_spelled (check (not (is_some (thrown_named name))) (At kinds.Super (at + 2 + 2))) _ (at + 2 + 2) (u2s j) tt (i, name) (check_nothing (not (is_some (thrown_named name))) (At kinds.Super (at + 2 + 2)) (at + 2 + 2) (ap (λ (t : Option Thrown). not (is_some t)) other))
    (last_spelled (u2 short) _ (at + 2 + 2) (u2s j) j (i, name) (u2_spelled short (at + 2 + 2) j (number_fits lines (ClassLine (text_number lines (codes "java/lang/Object"))) few object.class))
    (both_nothing (check (is_object (class_name slots j)) (At kinds.Super (at + 2 + 2))) (λ found. done (i, name)) (at + 2 + 2 + 2) tt (i, name) (check_nothing (is_object (class_name slots j)) (At kinds.Super (at + 2 + 2)) (at + 2 + 2 + 2) (ap is_object (class_there lines (codes "java/lang/Object") object))) (done_nothing (i, name) (at + 2 + 2 + 2)))))))

-- none of a kind
none_spelled : (part : Unit {0} → Format ClassFault (Unit {0})) (at : ℕ) → Spells (counted short part tt) at (u2s 0) tt
none_spelled part at = last_spelled (u2 short) _ at (u2s 0) 0 tt (u2_spelled short at 0 (omega arith)) (done_nothing tt (at + 2))

-- THE FILE

-- the parts of a plan that its class file is made of
record IsWritten (lines : List PoolLine) (plan : Plan) : Type 0 where
  pub few : length lines ≤ 65534
  pub few_fields : length plan.fields ≤ 65535
  pub few_methods : length plan.methods ≤ 65535
  pub short : list_any is_long_line lines ≡ false
  pub short_codes : list_any (λ (one : PlanMethod). is_long one.code) plan.methods ≡ false

written_of : (lines : List PoolLine) (plan : Plan) → has_too_many lines plan ≡ false → IsWritten lines plan
unfolding has_too_many
written_of lines plan is =
    let one = or_parts (ltb 65534 (length lines)) _ is in
    let two = or_parts (ltb 65535 (length plan.fields)) _ one.1 in
    let three = or_parts (ltb 65535 (length plan.methods)) _ two.1 in
    let four = or_parts (list_any is_long_line lines) _ three.1 in
    record { few = ltb-false _ _ one.0; few_fields = ltb-false _ _ two.0; few_methods = ltb-false _ _ three.0; short = four.0; short_codes = four.1 }

fields_there : (lines : List PoolLine) (at : ℕ) (plan : Plan) → IsWritten lines plan → HasTypes plan → IsReadable plan → HasAll lines plan → Spells (counted short (added (field (slots_of lines))) []) at (spelled_fields lines plan.fields) (map (field_of lines) plan.fields)
unfolding spelled_fields
fields_there lines at plan written types readable has =
    let part = field (slots_of lines) in
    let make : ℕ → PlanField → Field = λ place one. field_of lines one in
    let text = flat_map (spelled_field lines) plan.fields in
    let n = length plan.fields in
    let are = fields_spelled lines [] [] (at + 2) plan.fields written.few refl (each FieldFits plan.fields types.fields) (each _ plan.fields readable.constants) has.fields (keys_new [] _ readable.fields_differ) in
    both_spelled (u2 short) _ at (u2s n) text n (map (field_of lines) plan.fields) (u2_spelled short at n (omega (arith, written.few_fields)))
    (spelled_as (repeated n (added part) []) (at + 2) text text (made_at part (spelled_field lines) make (at + 2) plan.fields) (map (field_of lines) plan.fields) refl (fields_made lines (at + 2) plan.fields)
    (several_spelled part (spelled_field lines) make [] (at + 2) plan.fields are))

methods_there : (lines : List PoolLine) (at : ℕ) (plan : Plan) → IsWritten lines plan → HasTypes plan → IsReadable plan → HasAll lines plan → Spells (counted short (added (method (slots_of lines))) []) at (spelled_methods lines plan.methods) (methods_of lines (at + 2) plan.methods)
unfolding spelled_methods
methods_there lines at plan written types readable has =
    let part = method (slots_of lines) in
    let text = flat_map (spelled_method lines) plan.methods in
    let n = length plan.methods in
    let made = methods_of lines (at + 2) plan.methods in
    let are = methods_spelled lines [] [] (at + 2) plan.methods written.few refl (each MethodFits plan.methods types.methods) (each _ plan.methods readable.coded) written.short_codes has.methods (keys_new [] _ readable.methods_differ) in
    both_spelled (u2 short) _ at (u2s n) text n made (u2_spelled short at n (omega (arith, written.few_methods)))
    (spelled_as (repeated n (added part) []) (at + 2) text text (made_at part (spelled_method lines) (method_of lines) (at + 2) plan.methods) made refl (methods_made lines (at + 2) plan.methods)
    (several_spelled part (spelled_method lines) (method_of lines) [] (at + 2) plan.methods are))

pub file_spelled : (lines : List PoolLine) (plan : Plan) → has_too_many lines plan ≡ false → list_all (is_linked lines) lines ≡ true → AllByRecursion LineFits lines → HasTypes plan → IsReadable plan → HasAll lines plan → IsClassFile (layout_with lines plan) (class_with lines plan)
unfolding class_file layout_with spelled_start spelled_class
file_spelled lines plan sized linked fits types readable has =
    let written = written_of lines plan sized in
    let slots = slots_of lines in
    let head_text = u4s 0xCAFEBABE ++ (u2s 0 ++ u2s 52) in
    let pool_text = spelled_pool (map entry_of lines) in
    let i = class_number lines plan.name in
    let class_text = u2s 0x0021 ++ (u2s i ++ u2s (class_number lines (codes "java/lang/Object"))) in
    let fields_text = spelled_fields lines plan.fields in
    let methods_text = spelled_methods lines plan.methods in
    let fields = map (field_of lines) plan.fields in
    let pool_end = 8 + length pool_text in
    let class_end = pool_end + 6 in
    let fields_at = class_end + 2 in
    let at = fields_at + length fields_text in
    let methods = methods_of lines (at + 2) plan.methods in
    let methods_end = at + length methods_text in
    let x : Class = record { major = 52; pool = slots; name = plan.name; this_index = i; fields = fields; methods = methods } in
    let fit = entries_fit lines lines fits written.few linked written.short in
    let last : SpellsAll (counted short (attribute short slots) tt >>= λ attributes. end (λ n. At kinds.Trailing n) >>= λ ended. done x) methods_end (u2s 0 ++ []) x =
    both_all (counted short (attribute short slots) tt) _ methods_end (u2s 0) [] tt x (none_spelled (attribute short slots) methods_end) (end_all (λ n. At kinds.Trailing n) (methods_end + 2) x) in
    let all : SpellsAll class_file 0 (head_text ++ (pool_text ++ (class_text ++ (u2s 0 ++ (fields_text ++ (methods_text ++ (u2s 0 ++ []))))))) x =
    both_all header _ 0 head_text _ 52 x header_spelled
    (both_all pool _ 8 pool_text _ slots x (pool_spelled lines written.few fit linked)
    (both_all (class_and_super slots) _ pool_end class_text _ (i, plan.name) x (class_spelled lines pool_end plan.name written.few readable.other has.class has.object)
    (both_all (counted short interface tt) _ class_end (u2s 0) _ tt x (none_spelled interface class_end)
    (both_all (counted short (added (field slots)) []) _ fields_at fields_text _ fields x (fields_there lines fields_at plan written types readable has)
    (both_all (counted short (added (method slots)) []) _ at methods_text _ methods x (methods_there lines at plan written types readable has) last))))) in
    let front = head_text ++ pool_text in
    let class_all = class_text ++ u2s 0 in
    let long : at ≡ length (front ++ class_all ++ fields_text) = omega (arith, length-append (front ++ class_all) fields_text, length-append front class_all, length-append head_text pool_text) in
    let text : head_text ++ (pool_text ++ (class_text ++ (u2s 0 ++ (fields_text ++ (methods_text ++ (u2s 0 ++ [])))))) ≡ layout_with lines plan = grouped head_text pool_text class_all fields_text methods_text (u2s 0) in
    let value : x ≡ class_with lines plan = ap (λ (n : ℕ). record { major = 52; pool = slots; name = plan.name; this_index = i; fields = fields; methods = methods_of lines (n + 2) plan.methods }) long in
    let whole = all_as class_file 0 (head_text ++ (pool_text ++ (class_text ++ (u2s 0 ++ (fields_text ++ (methods_text ++ (u2s 0 ++ []))))))) (layout_with lines plan) x (class_with lines plan) text value all in
    record { after = place (0 + length (layout_with lines plan)) []; is = whole.is }
  where
    grouped : (h p c f m t : List ℕ) → h ++ (p ++ (c ++ (f ++ (m ++ t)))) ≡ h ++ p ++ c ++ f ++ m ++ t
    grouped h p c f m t = simp append_assoc

-- THE LAW

sized : (plan : Plan) → is_too_large plan ≡ false → has_too_many (pool_of plan) plan ≡ false
sized plan is = (or_parts (has_too_many (pool_of plan) plan) (ltb 1048576 (length (layout plan))) is).0

-- what is written is the class file of the plan's class
pub read_back : (plan : Plan) → list_all (is_linked plan.lines) plan.lines ≡ true → is_too_large plan ≡ false → HasTypes plan → IsReadable plan → IsClassFile (layout plan) (class_of plan)
read_back plan linked fits types readable = file_spelled (pool_of plan) plan (sized plan fits) (sound_pool plan linked).is (pool_fits plan types) types readable (pool_has plan)

-- what was written of these entries, which aren't too many
pub written_back : (plan : Plan) (lines : List PoolLine) (bytes : List ℕ) → has_too_many lines plan ≡ false → lines ≡ pool_of plan → bytes ≡ layout_with lines plan → list_all (is_linked plan.lines) plan.lines ≡ true → HasTypes plan → IsReadable plan → IsClassFile bytes (class_of plan)
written_back plan lines bytes few is written linked types readable =
    let fits : has_too_many (pool_of plan) plan ≡ false = subst (λ (l : List PoolLine). has_too_many l plan ≡ false) is few in
    let whole : bytes ≡ layout_with (pool_of plan) plan = written ∙ ap (λ (l : List PoolLine). layout_with l plan) is in
    subst (λ (l : List ℕ). IsClassFile l (class_of plan)) (sym whole) (file_spelled (pool_of plan) plan fits (sound_pool plan linked).is (pool_fits plan types) types readable (pool_has plan))
