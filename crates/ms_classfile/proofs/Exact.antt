-- Each part of a class file is exact: what is read is spelled, and else the fault that is read is the first one.
use Rattle.std.specs.Prelude.{◌==◌, ◌&&◌, is_none, ℤ, IfErr, IfOk}
use Rattle.std.specs.List.{flat_map}
use Rattle.std.proofs.lemmas.List.{drop_at}
use Rattle.std.proofs.Common.{◌≡◌, ◌⊎◌, ℕ, ◌+◌, List, [], ◌++◌, drop, length, Bool, Option, Some, None, Result, Ok, Err, refl, sym, ap, subst, ◌∙◌, inl, inr}
use Rattle.ms_pool.specs.declared.pool.PoolFault.{PoolFault}
use Rattle.ms_pool.specs.Places.{Place, beginning}
use Rattle.ms_pool.specs.Numbers.{IsBytes, IsBytes-drop, width2, width4}
use Rattle.ms_pool.specs.Pools.{Entry, IsFirstFault, IsPoolOf, Placed, numbered, spelled_entry, u2 as u2s, width}
use Rattle.ms_pool.specs.PoolReading.{Read, pool_at}
use Rattle.ms_pool.specs.Formats.{Format, run, here, found, check, end, added, repeated}
use Rattle.ms_pool.specs.Exact.{IsExact, added_exact, both_exact, check_exact, done_exact, either_exact, err_is, ok_is, end_exact, found_exact, here_exact, number_exact, run_exact, repeated_exact, within_exact, breaks_one, not_both, spells_one, spells_or_breaks}
use Rattle.ms_classfile.specs.declared.fault.ClassFault.{ClassFault}
use Rattle.ms_classfile.specs.declared.fault.ClassFault.TheVariants.{At, NoMemory}
use Rattle.ms_classfile.specs.ClassFinds.{Fails, Gives}
use Rattle.ms_pool.specs.declared.pool.PoolFault.TheVariants as pool_faults
use Rattle.ms_pool.specs.declared.code.ClassKind.TheVariants as kinds
use Rattle.ms_pool.specs.ByNumber.{class_name, integer, utf8}
use Rattle.ms_pool.proofs.Pools.{pool_breaks, pool_breaks_again, pool_found, pool_reaches}
use Rattle.ms_classfile.specs.ClassFile.{Class, Code, Field, IsClassFile, IsFirstFaultOf, Method, attribute, class_file, code, code_attribute, constant_value, counted, field, field_attribute, handler, head, header, indexed, interface, method, method_attribute, passed, is_code, is_constant_value, pool, pool_fault, pool_read, shape, short, class_and_super, u2, u4}

indexed_exact : {X : Type 0} (short : ℕ → ClassFault) (get : ℕ → Option X) → IsExact (indexed short get)
unfolding indexed
indexed_exact short get = both_exact here _ here_exact (λ at. both_exact (u2 short) _ (number_exact short 2 width2) (λ index. both_exact (found (get index) _) _ (found_exact (get index) _) (λ x. done_exact (index, x))))

passed_exact : (short : ℕ → ClassFault) → IsExact (passed short)
unfolding passed
passed_exact short = both_exact (u4 short) _ (number_exact short 4 width4) (λ size. both_exact (run short size) _ (run_exact short size) (λ content. done_exact tt))

counted_exact : {X : Type 0} (short : ℕ → ClassFault) (part : X → Format ClassFault X) (known : X) → ((x : X) → IsExact (part x)) → IsExact (counted short part known)
counted_exact short part known each = both_exact (u2 short) _ (number_exact short 2 width2) (λ count. repeated_exact count part known each)

attribute_exact : (short : ℕ → ClassFault) (slots : List (Option Placed)) (before : Unit {0}) → IsExact (attribute short slots before)
unfolding attribute
attribute_exact short slots before = both_exact (indexed short (utf8 slots)) _ (indexed_exact short (utf8 slots)) (λ name. passed_exact short)

constant_exact : (slots : List (Option Placed)) (at : ℕ) → IsExact (constant_value slots at)
unfolding constant_value
constant_exact slots at =
    both_exact (u4 short) _ (number_exact short 4 width4) (λ size.
    both_exact (check (size == 2) (At kinds.Shape at)) _ (check_exact (size == 2) (At kinds.Shape at)) (λ two.
    both_exact (indexed short (integer slots)) _ (indexed_exact short (integer slots)) (λ value. done_exact value.1)))

field_attribute_exact : (slots : List (Option Placed)) (gives : Bool) (known : Option ℤ) → IsExact (field_attribute slots gives known)
unfolding field_attribute
field_attribute_exact slots gives known =
    both_exact here _ here_exact (λ at.
    both_exact (indexed short (utf8 slots)) _ (indexed_exact short (utf8 slots)) (λ name.
    either_exact (gives && (is_constant_value name.1 && is_none known)) _ _
    (both_exact (constant_value slots at) _ (constant_exact slots at) (λ value. done_exact (Some value)))
    (both_exact (passed short) _ (passed_exact short) (λ content. done_exact known))))

head_exact : (slots : List (Option Placed)) → IsExact (head slots)
unfolding head
head_exact slots =
    both_exact here _ here_exact (λ at.
    both_exact (u2 short) _ (number_exact short 2 width2) (λ access.
    both_exact (indexed short (utf8 slots)) _ (indexed_exact short (utf8 slots)) (λ name.
    both_exact (indexed short (utf8 slots)) _ (indexed_exact short (utf8 slots)) (λ desc. done_exact _))))

field_exact : (slots : List (Option Placed)) (before : List Field) → IsExact (field slots before)
unfolding field
field_exact slots before =
    both_exact (head slots) _ (head_exact slots) (λ head.
    both_exact (check _ (At kinds.Duplicate head.at)) _ (check_exact _ (At kinds.Duplicate head.at)) (λ new.
    both_exact (counted short (field_attribute slots _) None) _ (counted_exact short (field_attribute slots _) None (λ others. field_attribute_exact slots _ others)) (λ values. done_exact _)))

handler_exact : (short : ℕ → ClassFault) (slots : List (Option Placed)) → IsExact (handler short slots)
unfolding handler
handler_exact short slots =
    both_exact (u2 short) _ (number_exact short 2 width2) (λ start.
    both_exact (u2 short) _ (number_exact short 2 width2) (λ last.
    both_exact (u2 short) _ (number_exact short 2 width2) (λ handler.
    both_exact here _ here_exact (λ at.
    both_exact (u2 short) _ (number_exact short 2 width2) (λ catch_type.
    both_exact (check _ (At kinds.Index at)) _ (check_exact _ (At kinds.Index at)) (λ class. done_exact _))))))

code_exact : (slots : List (Option Placed)) (attribute_at : ℕ) → IsExact (code slots attribute_at)
unfolding code
code_exact slots attribute_at =
    both_exact (u2 (shape attribute_at)) _ (number_exact (shape attribute_at) 2 width2) (λ max_stack.
    both_exact (u2 (shape attribute_at)) _ (number_exact (shape attribute_at) 2 width2) (λ max_locals.
    both_exact (u4 (shape attribute_at)) _ (number_exact (shape attribute_at) 4 width4) (λ size.
    both_exact (check _ (At kinds.Shape attribute_at)) _ (check_exact _ (At kinds.Shape attribute_at)) (λ sized.
    both_exact here _ here_exact (λ code_at.
    both_exact (run (shape attribute_at) size) _ (run_exact (shape attribute_at) size) (λ code.
    both_exact (u2 (shape attribute_at)) _ (number_exact (shape attribute_at) 2 width2) (λ count.
    both_exact here _ here_exact (λ table_at.
    both_exact (repeated count (added (λ before. handler (shape attribute_at) slots)) []) _ (repeated_exact count (added (λ before. handler (shape attribute_at) slots)) [] (λ before. added_exact (λ others. handler (shape attribute_at) slots) before (handler_exact (shape attribute_at) slots))) (λ table.
    both_exact (counted (shape attribute_at) (attribute (shape attribute_at) slots) tt) _ (counted_exact (shape attribute_at) (attribute (shape attribute_at) slots) tt (attribute_exact (shape attribute_at) slots)) (λ attributes. done_exact _))))))))))

code_attribute_exact : (slots : List (Option Placed)) (at : ℕ) → IsExact (code_attribute slots at)
unfolding code_attribute
code_attribute_exact slots at =
    both_exact (u4 short) _ (number_exact short 4 width4) (λ size. within_exact short (shape at) size (code slots at) (code_exact slots at))

method_attribute_exact : (slots : List (Option Placed)) (known : Option Code) → IsExact (method_attribute slots known)
unfolding method_attribute
method_attribute_exact slots known =
    both_exact here _ here_exact (λ at.
    both_exact (indexed short (utf8 slots)) _ (indexed_exact short (utf8 slots)) (λ name.
    either_exact (is_code name.1) _ _
    (both_exact (check _ (At kinds.Shape at)) _ (check_exact _ (At kinds.Shape at)) (λ first.
    both_exact (code_attribute slots at) _ (code_attribute_exact slots at) (λ code. done_exact (Some code))))
    (both_exact (passed short) _ (passed_exact short) (λ content. done_exact known))))

method_exact : (slots : List (Option Placed)) (before : List Method) → IsExact (method slots before)
unfolding method
method_exact slots before =
    both_exact (head slots) _ (head_exact slots) (λ head.
    both_exact (check _ (At kinds.Duplicate head.at)) _ (check_exact _ (At kinds.Duplicate head.at)) (λ new.
    both_exact (counted short (method_attribute slots) None) _ (counted_exact short (method_attribute slots) None (method_attribute_exact slots)) (λ code. done_exact _)))

pub header_exact : IsExact header
unfolding header
header_exact =
    both_exact here _ here_exact (λ magic_at.
    both_exact (u4 short) _ (number_exact short 4 width4) (λ magic.
    both_exact (check _ (At kinds.Magic magic_at)) _ (check_exact _ (At kinds.Magic magic_at)) (λ right.
    both_exact (u2 short) _ (number_exact short 2 width2) (λ minor.
    both_exact here _ here_exact (λ major_at.
    both_exact (u2 short) _ (number_exact short 2 width2) (λ major.
    both_exact (check _ (At kinds.Version major_at)) _ (check_exact _ (At kinds.Version major_at)) (λ known. done_exact major)))))))

class_and_super_exact : (slots : List (Option Placed)) → IsExact (class_and_super slots)
unfolding class_and_super
class_and_super_exact slots =
    both_exact (u2 short) _ (number_exact short 2 width2) (λ access.
    both_exact (indexed short (class_name slots)) _ (indexed_exact short (class_name slots)) (λ this.
    both_exact here _ here_exact (λ super_at.
    both_exact (check _ (At kinds.Super super_at)) _ (check_exact _ (At kinds.Super super_at)) (λ other.
    both_exact (u2 short) _ (number_exact short 2 width2) (λ super_class.
    both_exact (check _ (At kinds.Super super_at)) _ (check_exact _ (At kinds.Super super_at)) (λ object. done_exact this))))))

interface_exact : (before : Unit {0}) → IsExact (interface before)
unfolding interface
interface_exact before = both_exact (u2 short) _ (number_exact short 2 width2) (λ index. done_exact tt)

-- THE POOL

pool_is_read : (at : ℕ) (read : Read (List Entry)) (x : List (Option Placed) × Place) → pool_read at read ≡ Ok x → (entries : List Entry) × ((read ≡ Ok (entries, x.1)) × (x.0 ≡ numbered at entries))
pool_is_read at (Ok y) x found = (y.0, (ap (λ (p : Place). Ok (y.0, p)) (ap (λ (z : List (Option Placed) × Place). z.1) (ok_is (numbered at y.0, y.1) x found)), sym (ap (λ (z : List (Option Placed) × Place). z.0) (ok_is (numbered at y.0, y.1) x found))))
pool_is_read at (Err fault) x found = absurd cc

pool_is_broken : (at : ℕ) (read : Read (List Entry)) (fault : ClassFault) → pool_read at read ≡ Err fault → (broken : PoolFault) × ((read ≡ Err broken) × (fault ≡ pool_fault broken))
pool_is_broken at (Ok x) fault found = absurd cc
pool_is_broken at (Err broken) fault found = (broken, (refl, sym (err_is {A = List (Option Placed) × Place} (pool_fault broken) fault found)))

pub pool_exact : IsExact pool
unfolding pool
pool_exact = record {
  fits = λ place x bytes found. let p = pool_is_read place.at (pool_at place) x found in (pool_fits place (p.0, x.1) bytes p.1.0);
  spells = λ place x bytes found. let p = pool_is_read place.at (pool_at place) x found in record { entries = p.0; is = pool_found place (p.0, x.1) bytes p.1.0; slots_are = p.1.1 };
  reads = λ place slots after bytes is. ap (pool_read place.at) (pool_reaches place after is.entries bytes is.is) ∙ ap (λ (s : List (Option Placed)). Ok (s, after)) (sym is.slots_are);
  breaks = λ place fault bytes found. let p = pool_is_broken place.at (pool_at place) fault found in (p.0, (pool_breaks place p.0 bytes p.1.0, p.1.1));
  faults = λ place fault bytes is. ap (pool_read place.at) (pool_breaks_again place is.0 bytes is.1.0) ∙ ap (λ f. Err f) (sym is.1.1);
}
  where
    pool_fits : (place : Place) (x : List Entry × Place) → IsBytes place.left → pool_at place ≡ Ok x → IsBytes x.1.left
    pool_fits place x bytes found =
        let is = pool_found place x bytes found in
        let front = u2s (width x.0 + 1) ++ flat_map spelled_entry x.0 in
        let n = length front in
        subst IsBytes (drop_at front x.1.left n refl) (subst (λ (l : List ℕ). IsBytes (drop n l)) is.spelled.bytes (IsBytes-drop n place.left bytes))

-- THE FILE

pub class_file_exact : IsExact class_file
unfolding class_file
class_file_exact =
    both_exact header _ header_exact (λ major.
    both_exact pool _ pool_exact (λ slots.
    both_exact (class_and_super slots) _ (class_and_super_exact slots) (λ this.
    both_exact (counted short interface tt) _ (counted_exact short interface tt interface_exact) (λ interfaces.
    both_exact (counted short (added (field slots)) []) _ (counted_exact short (added (field slots)) [] (λ before. added_exact (field slots) before (field_exact slots before))) (λ fields.
    both_exact (counted short (added (method slots)) []) _ (counted_exact short (added (method slots)) [] (λ before. added_exact (method slots) before (method_exact slots before))) (λ methods.
    both_exact (counted short (attribute short slots) tt) _ (counted_exact short (attribute short slots) tt (attribute_exact short slots)) (λ attributes.
    both_exact (end (λ at. At kinds.Trailing at)) _ (end_exact (λ at. At kinds.Trailing at)) (λ ended. done_exact _))))))))

-- THE LAW

pub one_class : (bytes : List ℕ) (first second : Class) → IsBytes bytes → IsClassFile bytes first → IsClassFile bytes second → first ≡ second
one_class bytes first second fits p q = (spells_one class_file class_file_exact (beginning bytes) p.after q.after first second fits p.is q.is).0

pub one_fault : (bytes : List ℕ) (first second : ClassFault) → IsBytes bytes → IsFirstFaultOf bytes first → IsFirstFaultOf bytes second → first ≡ second
one_fault bytes first second fits p q = breaks_one class_file class_file_exact (beginning bytes) first second fits p q

pub no_fault : (bytes : List ℕ) (class : Class) (fault : ClassFault) → IsBytes bytes → IsClassFile bytes class → IsFirstFaultOf bytes fault → ⊥
no_fault bytes class fault fits p q = not_both class_file class_file_exact (beginning bytes) p.after class fault fits p.is q

pub class_or_fault : (bytes : List ℕ) → IsBytes bytes → ((class : Class) × IsClassFile bytes class) ⊎ ((fault : ClassFault) × IsFirstFaultOf bytes fault)
class_or_fault bytes fits = elim (spells_or_breaks class_file class_file_exact (beginning bytes) fits) [
  | inl whole ↦ inl (whole.0, record { after = whole.1; is = whole.2 })
  | inr broken ↦ inr broken
]

-- what is read is the class file's class, or its first fault
pub class_found : (bytes : List ℕ) (class : Class) (after : Place) → IsBytes bytes → class_file.read (beginning bytes) ≡ Ok (class, after) → IsClassFile bytes class
class_found bytes class after fits found = record { after = after; is = class_file_exact.spells (beginning bytes) (class, after) fits found }

pub class_breaks : (bytes : List ℕ) (fault : ClassFault) → IsBytes bytes → class_file.read (beginning bytes) ≡ Err fault → IsFirstFaultOf bytes fault
class_breaks bytes fault fits found = class_file_exact.breaks (beginning bytes) fault fits found

-- WHAT READERS RETURN

pub pool_read_whole : (place after : Place) (slots : List (Option Placed)) → IsBytes place.left → IsPoolOf place slots after → pool.read place ≡ Ok (slots, after)
unfolding pool
pool_read_whole place after slots fits is = pool_exact.reads place slots after fits is

pub pool_fails : (place : Place) (broken : PoolFault) → IsBytes place.left → (broken ≡ pool_faults.NoMemory) ⊎ IsFirstFault place broken → Fails (pool_fault broken) (pool.read place)
unfolding pool
pool_fails place (pool_faults.Short at) fits (inl memory) = absurd (let m = memory in cc)
pool_fails place (pool_faults.Pool at) fits (inl memory) = absurd (let m = memory in cc)
pool_fails place (pool_faults.Index at) fits (inl memory) = absurd (let m = memory in cc)
pool_fails place pool_faults.NoMemory fits is = tt
pool_fails place (pool_faults.Short at) fits (inr is) = pool_exact.faults place (At kinds.Short at) fits (pool_faults.Short at, (is, refl))
pool_fails place (pool_faults.Pool at) fits (inr is) = pool_exact.faults place (At kinds.Pool at) fits (pool_faults.Pool at, (is, refl))
pool_fails place (pool_faults.Index at) fits (inr is) = pool_exact.faults place (At kinds.Index at) fits (pool_faults.Index at, (is, refl))

pub header_fits : (bytes : List ℕ) (major : ℕ) (after : Place) → IsBytes bytes → header.read (beginning bytes) ≡ Ok (major, after) → IsBytes after.left
header_fits bytes major after fits found = header_exact.fits (beginning bytes) (major, after) fits found

pub class_fails : (bytes : List ℕ) (fault : ClassFault) → IsBytes bytes → Fails fault (class_file.read (beginning bytes)) → (fault ≡ NoMemory) ⊎ IsFirstFaultOf bytes fault
class_fails bytes (At kind at) fits fails = inr (class_breaks bytes (At kind at) fits fails)
class_fails bytes NoMemory fits fails = inl refl

-- the parts of a file, one behind the other
pub class_is : (bytes : List ℕ) (p₁ p₂ p₃ p₄ p₅ p₆ p₇ p₈ : Place) (major : ℕ) (slots : List (Option Placed)) (this : ℕ × List ℕ) (fields : List Field) (methods : List Method) → header.read (beginning bytes) ≡ Ok (major, p₁) → pool.read p₁ ≡ Ok (slots, p₂) → (class_and_super slots).read p₂ ≡ Ok (this, p₃)
    → (counted short interface tt).read p₃ ≡ Ok (tt, p₄) → (counted short (added (field slots)) []).read p₄ ≡ Ok (fields, p₅) → (counted short (added (method slots)) []).read p₅ ≡ Ok (methods, p₆) → (counted short (attribute short slots) tt).read p₆ ≡ Ok (tt, p₇) → (end (λ at. At kinds.Trailing at)).read p₇ ≡ Ok (tt, p₈)
    → class_file.read (beginning bytes) ≡ Ok (record { major = major; pool = slots; name = this.1; this_index = this.0; fields = fields; methods = methods }, p₈)
unfolding class_file
class_is bytes p₁ p₂ p₃ p₄ p₅ p₆ p₇ p₈ major slots this fields methods one two three four five six seven eight = rw (one, two, three, four, five, six, seven, eight) refl

pub gives_class : {X : Type 0} (seen : X → Class) (bytes : List ℕ) (result : Result X ClassFault) → IsBytes bytes → Gives seen result (class_file.read (beginning bytes)) → IfOk result (λ class. IsClassFile bytes (seen class))
gives_class seen bytes (Ok x) fits gives = class_found bytes (seen x) gives.0 fits gives.1
gives_class seen bytes (Err fault) fits gives = tt

pub gives_fault : {X : Type 0} (seen : X → Class) (bytes : List ℕ) (result : Result X ClassFault) → IsBytes bytes → Gives seen result (class_file.read (beginning bytes)) → IfErr result (λ fault. (fault ≡ NoMemory) ⊎ IsFirstFaultOf bytes fault)
gives_fault seen bytes (Ok x) fits gives = tt
gives_fault seen bytes (Err fault) fits gives = class_fails bytes fault fits gives
