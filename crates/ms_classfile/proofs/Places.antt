-- A fault of a class file has a place: reading never wants memory.
use Rattle.std.specs.Prelude.{◌==◌, ◌&&◌, is_none, ℤ}
use Rattle.std.proofs.Common.{◌≡◌, ℕ, zero, suc, List, [], ◌∷◌, ◌++◌, Bool, true, false, Option, None, sym, subst, inl, inr}
use Rattle.ms_pool.specs.declared.pool.PoolFault.{PoolFault}
use Rattle.ms_pool.specs.declared.pool.PoolFault.TheVariants as pool_faults
use Rattle.ms_pool.specs.declared.code.ClassKind.TheVariants as kinds
use Rattle.ms_pool.specs.Places.{Place, beginning, first_of}
use Rattle.ms_pool.specs.Pools as pools
use Rattle.ms_pool.proofs.Placed as pool_proofs
use Rattle.ms_pool.proofs.Placed.{fault_placed}
use Rattle.ms_pool.specs.ByNumber.{class_name, integer, utf8}
use Rattle.ms_pool.specs.Formats.{Format, number, run, done, here, found, check, end, added, either, repeated, within, ◌>>=◌}
use Rattle.ms_classfile.specs.declared.fault.ClassFault.{ClassFault}
use Rattle.ms_classfile.specs.declared.fault.ClassFault.TheVariants.{At}
use Rattle.ms_classfile.specs.ClassFile.{Code, Field, IsFirstFaultOf, Method, attribute, class_file, code, code_attribute, constant_value, counted, field, field_attribute, handler, head, header, indexed, interface, method, method_attribute, passed, is_code, is_constant_value, pool, pool_fault, shape, short, class_and_super, u2, u4}
use Rattle.ms_classfile.specs.ClassLaws.{IsPlaced}

abbrev Slot : Type 0
Slot = pools.Placed

-- so are faults with each place
abbrev ArePlaced : (ℕ → ClassFault) → Type 0
ArePlaced short = (at : ℕ) → IsPlaced (short at)

-- and each fault of a format
abbrev Placed : {X : Type 0} → Format ClassFault X → Type 0
Placed format = (place : Place) (fault : ClassFault) → format.Breaks place fault → IsPlaced fault

-- PARTS

is_placed : (known fault : ClassFault) → fault ≡ known → IsPlaced known → IsPlaced fault
is_placed known fault is p = subst IsPlaced (sym is) p

number_placed : (short : ℕ → ClassFault) (n : ℕ) → ArePlaced short → Placed (number short n)
number_placed short n p place fault broken = is_placed (short place.at) fault broken.1 (p place.at)

run_placed : (short : ℕ → ClassFault) (n : ℕ) → ArePlaced short → Placed (run short n)
run_placed short n p place fault broken = is_placed (short place.at) fault broken.1 (p place.at)

-- what takes no bytes has no fault
done_placed : (place : Place) (fault : ClassFault) → ⊥ → IsPlaced fault
done_placed place fault broken = absurd broken

here_placed : Placed here
here_placed place fault broken = absurd broken

found_placed : {X : Type 0} (option : Option X) (known : ClassFault) → IsPlaced known → Placed (found option known)
found_placed option known p place fault broken = is_placed known fault broken.1 p

check_placed : (test : Bool) (known : ClassFault) → IsPlaced known → Placed (check test known)
check_placed test known p place fault broken = is_placed known fault broken.1 p

end_placed : (trailing : ℕ → ClassFault) → ArePlaced trailing → Placed (end trailing)
end_placed trailing p place fault broken = is_placed (trailing place.at) fault broken.1 (p place.at)

both_placed : {X Y : Type 0} (first : Format ClassFault X) (rest : X → Format ClassFault Y) → Placed first → ((x : X) → Placed (rest x)) → Placed (first >>= rest)
both_placed first rest p q place fault (inl broken) = p place fault broken
both_placed first rest p q place fault (inr later) = q later.x later.between fault later.broken

either_placed : {X : Type 0} (test : Bool) (first second : Format ClassFault X) → Placed first → Placed second → Placed (either test first second)
either_placed true first second p q = p
either_placed false first second p q = q

repeated_placed : {X : Type 0} (n : ℕ) (part : X → Format ClassFault X) (known : X) → ((x : X) → Placed (part x)) → Placed (repeated n part known)
repeated_placed zero part known each = done_placed
repeated_placed (suc n) part known each = both_placed (part known) (repeated n part) (each known) (λ x. repeated_placed n part x each)

added_placed : {X : Type 0} (part : List X → Format ClassFault X) (before : List X) → Placed (part before) → Placed (added part before)
added_placed part before one = both_placed (part before) (λ x. done (before ++ x ∷ [])) one (λ x. done_placed)

within_placed : {X : Type 0} (short trailing : ℕ → ClassFault) (n : ℕ) (content : Format ClassFault X) → ArePlaced short → ArePlaced trailing → Placed content → Placed (within short trailing n content)
within_placed short trailing n content p q one place fault (inl broken) = is_placed (short place.at) fault broken.1 (p place.at)
within_placed short trailing n content p q one place fault (inr later) =
    both_placed content _ one (λ x. both_placed (end trailing) _ (end_placed trailing q) (λ ended. done_placed)) (first_of place n) fault later.broken

-- THE PARTS OF A FILE

indexed_placed : {X : Type 0} (short : ℕ → ClassFault) (get : ℕ → Option X) → ArePlaced short → Placed (indexed short get)
unfolding indexed
indexed_placed short get p = both_placed here _ here_placed (λ at. both_placed (u2 short) _ (number_placed short 2 p) (λ index. both_placed (found (get index) _) _ (found_placed (get index) _ tt) (λ x. done_placed)))

passed_placed : (short : ℕ → ClassFault) → ArePlaced short → Placed (passed short)
unfolding passed
passed_placed short p = both_placed (u4 short) _ (number_placed short 4 p) (λ size. both_placed (run short size) _ (run_placed short size p) (λ content. done_placed))

counted_placed : {X : Type 0} (short : ℕ → ClassFault) (part : X → Format ClassFault X) (known : X) → ArePlaced short → ((x : X) → Placed (part x)) → Placed (counted short part known)
counted_placed short part known p each = both_placed (u2 short) _ (number_placed short 2 p) (λ count. repeated_placed count part known each)

attribute_placed : (short : ℕ → ClassFault) (slots : List (Option Slot)) (before : Unit {0}) → ArePlaced short → Placed (attribute short slots before)
unfolding attribute
attribute_placed short slots before p = both_placed (indexed short (utf8 slots)) _ (indexed_placed short (utf8 slots) p) (λ name. passed_placed short p)

constant_placed : (slots : List (Option Slot)) (at : ℕ) → Placed (constant_value slots at)
unfolding constant_value
constant_placed slots at =
    both_placed (u4 short) _ (number_placed short 4 (λ at. tt)) (λ size.
    both_placed (check (size == 2) (At kinds.Shape at)) _ (check_placed (size == 2) (At kinds.Shape at) tt) (λ two.
    both_placed (indexed short (integer slots)) _ (indexed_placed short (integer slots) (λ at. tt)) (λ value. done_placed)))

field_attribute_placed : (slots : List (Option Slot)) (gives : Bool) (known : Option ℤ) → Placed (field_attribute slots gives known)
unfolding field_attribute
field_attribute_placed slots gives known =
    both_placed here _ here_placed (λ at.
    both_placed (indexed short (utf8 slots)) _ (indexed_placed short (utf8 slots) (λ at. tt)) (λ name.
    either_placed (gives && (is_constant_value name.1 && is_none known)) _ _
    (both_placed (constant_value slots at) _ (constant_placed slots at) (λ value. done_placed))
    (both_placed (passed short) _ (passed_placed short (λ at. tt)) (λ content. done_placed))))

head_placed : (slots : List (Option Slot)) → Placed (head slots)
unfolding head
head_placed slots =
    both_placed here _ here_placed (λ at.
    both_placed (u2 short) _ (number_placed short 2 (λ at. tt)) (λ access.
    both_placed (indexed short (utf8 slots)) _ (indexed_placed short (utf8 slots) (λ at. tt)) (λ name.
    both_placed (indexed short (utf8 slots)) _ (indexed_placed short (utf8 slots) (λ at. tt)) (λ desc. done_placed))))

field_placed : (slots : List (Option Slot)) (before : List Field) → Placed (field slots before)
unfolding field
field_placed slots before =
    both_placed (head slots) _ (head_placed slots) (λ head.
    both_placed (check _ (At kinds.Duplicate head.at)) _ (check_placed _ (At kinds.Duplicate head.at) tt) (λ new.
    both_placed (counted short (field_attribute slots _) None) _ (counted_placed short (field_attribute slots _) None (λ at. tt) (λ others. field_attribute_placed slots _ others)) (λ values. done_placed)))

handler_placed : (short : ℕ → ClassFault) (slots : List (Option Slot)) → ArePlaced short → Placed (handler short slots)
unfolding handler
handler_placed short slots p =
    both_placed (u2 short) _ (number_placed short 2 p) (λ start.
    both_placed (u2 short) _ (number_placed short 2 p) (λ last.
    both_placed (u2 short) _ (number_placed short 2 p) (λ handler.
    both_placed here _ here_placed (λ at.
    both_placed (u2 short) _ (number_placed short 2 p) (λ catch_type.
    both_placed (check _ (At kinds.Index at)) _ (check_placed _ (At kinds.Index at) tt) (λ class. done_placed))))))

code_placed : (slots : List (Option Slot)) (attribute_at : ℕ) → Placed (code slots attribute_at)
unfolding code
code_placed slots attribute_at =
    both_placed (u2 (shape attribute_at)) _ (number_placed (shape attribute_at) 2 (λ at. tt)) (λ max_stack.
    both_placed (u2 (shape attribute_at)) _ (number_placed (shape attribute_at) 2 (λ at. tt)) (λ max_locals.
    both_placed (u4 (shape attribute_at)) _ (number_placed (shape attribute_at) 4 (λ at. tt)) (λ size.
    both_placed (check _ (At kinds.Shape attribute_at)) _ (check_placed _ (At kinds.Shape attribute_at) tt) (λ sized.
    both_placed here _ here_placed (λ code_at.
    both_placed (run (shape attribute_at) size) _ (run_placed (shape attribute_at) size (λ at. tt)) (λ code.
    both_placed (u2 (shape attribute_at)) _ (number_placed (shape attribute_at) 2 (λ at. tt)) (λ count.
    both_placed here _ here_placed (λ table_at.
    both_placed (repeated count (added (λ before. handler (shape attribute_at) slots)) []) _ (repeated_placed count (added (λ before. handler (shape attribute_at) slots)) [] (λ before. added_placed (λ others. handler (shape attribute_at) slots) before (handler_placed (shape attribute_at) slots (λ at. tt)))) (λ table.
    both_placed (counted (shape attribute_at) (attribute (shape attribute_at) slots) tt) _ (counted_placed (shape attribute_at) (attribute (shape attribute_at) slots) tt (λ at. tt) (λ before. attribute_placed (shape attribute_at) slots before (λ at. tt))) (λ attributes. done_placed))))))))))

code_attribute_placed : (slots : List (Option Slot)) (at : ℕ) → Placed (code_attribute slots at)
unfolding code_attribute
code_attribute_placed slots at =
    both_placed (u4 short) _ (number_placed short 4 (λ at. tt)) (λ size. within_placed short (shape at) size (code slots at) (λ a. tt) (λ a. tt) (code_placed slots at))

method_attribute_placed : (slots : List (Option Slot)) (known : Option Code) → Placed (method_attribute slots known)
unfolding method_attribute
method_attribute_placed slots known =
    both_placed here _ here_placed (λ at.
    both_placed (indexed short (utf8 slots)) _ (indexed_placed short (utf8 slots) (λ at. tt)) (λ name.
    either_placed (is_code name.1) _ _
    (both_placed (check _ (At kinds.Shape at)) _ (check_placed _ (At kinds.Shape at) tt) (λ first.
    both_placed (code_attribute slots at) _ (code_attribute_placed slots at) (λ code. done_placed)))
    (both_placed (passed short) _ (passed_placed short (λ at. tt)) (λ content. done_placed))))

method_placed : (slots : List (Option Slot)) (before : List Method) → Placed (method slots before)
unfolding method
method_placed slots before =
    both_placed (head slots) _ (head_placed slots) (λ head.
    both_placed (check _ (At kinds.Duplicate head.at)) _ (check_placed _ (At kinds.Duplicate head.at) tt) (λ new.
    both_placed (counted short (method_attribute slots) None) _ (counted_placed short (method_attribute slots) None (λ at. tt) (method_attribute_placed slots)) (λ code. done_placed)))

header_placed : Placed header
unfolding header
header_placed =
    both_placed here _ here_placed (λ magic_at.
    both_placed (u4 short) _ (number_placed short 4 (λ at. tt)) (λ magic.
    both_placed (check _ (At kinds.Magic magic_at)) _ (check_placed _ (At kinds.Magic magic_at) tt) (λ right.
    both_placed (u2 short) _ (number_placed short 2 (λ at. tt)) (λ minor.
    both_placed here _ here_placed (λ major_at.
    both_placed (u2 short) _ (number_placed short 2 (λ at. tt)) (λ major.
    both_placed (check _ (At kinds.Version major_at)) _ (check_placed _ (At kinds.Version major_at) tt) (λ known. done_placed)))))))

class_and_super_placed : (slots : List (Option Slot)) → Placed (class_and_super slots)
unfolding class_and_super
class_and_super_placed slots =
    both_placed (u2 short) _ (number_placed short 2 (λ at. tt)) (λ access.
    both_placed (indexed short (class_name slots)) _ (indexed_placed short (class_name slots) (λ at. tt)) (λ this.
    both_placed here _ here_placed (λ super_at.
    both_placed (check _ (At kinds.Super super_at)) _ (check_placed _ (At kinds.Super super_at) tt) (λ other.
    both_placed (u2 short) _ (number_placed short 2 (λ at. tt)) (λ super_class.
    both_placed (check _ (At kinds.Super super_at)) _ (check_placed _ (At kinds.Super super_at) tt) (λ object. done_placed))))))

interface_placed : (before : Unit {0}) → Placed (interface before)
unfolding interface
interface_placed before = both_placed (u2 short) _ (number_placed short 2 (λ at. tt)) (λ index. done_placed)

of_pool : (fault : PoolFault) → pool_proofs.IsPlaced fault → IsPlaced (pool_fault fault)
of_pool (pool_faults.Short at) p = tt
of_pool (pool_faults.Pool at) p = tt
of_pool (pool_faults.Index at) p = tt
of_pool pool_faults.NoMemory p = absurd p

pool_placed : Placed pool
unfolding pool
pool_placed place fault broken = is_placed (pool_fault broken.0) fault broken.1.1 (of_pool broken.0 (fault_placed place broken.0 broken.1.0))

class_file_placed : Placed class_file
unfolding class_file
class_file_placed =
    both_placed header _ header_placed (λ major.
    both_placed pool _ pool_placed (λ slots.
    both_placed (class_and_super slots) _ (class_and_super_placed slots) (λ this.
    both_placed (counted short interface tt) _ (counted_placed short interface tt (λ at. tt) interface_placed) (λ interfaces.
    both_placed (counted short (added (field slots)) []) _ (counted_placed short (added (field slots)) [] (λ at. tt) (λ before. added_placed (field slots) before (field_placed slots before))) (λ fields.
    both_placed (counted short (added (method slots)) []) _ (counted_placed short (added (method slots)) [] (λ at. tt) (λ before. added_placed (method slots) before (method_placed slots before))) (λ methods.
    both_placed (counted short (attribute short slots) tt) _ (counted_placed short (attribute short slots) tt (λ at. tt) (λ before. attribute_placed short slots before (λ at. tt))) (λ attributes.
    both_placed (end (λ at. At kinds.Trailing at)) _ (end_placed (λ at. At kinds.Trailing at) (λ at. tt)) (λ ended. done_placed))))))))

pub first_placed : (bytes : List ℕ) (fault : ClassFault) → IsFirstFaultOf bytes fault → IsPlaced fault
first_placed bytes fault broken = class_file_placed (beginning bytes) fault broken
