-- The class file format (JVMS SE 8, chapter 4), by its parts from left to right, and the first fault of bytes that
-- aren't read as one. It is narrower than the standard's: the class's direct superclass is java/lang/Object, and the
-- class has the name of none of the known throwables. A fault counts as soon as it is known, so the first in reading
-- order counts; what entries of the constant pool name is looked at once the pool is whole.
--
-- Not checked are the minor version, all flags (static alone is looked at), what texts, names and descriptors spell,
-- the interfaces, the instructions, the offsets in exception tables, and what a MethodHandle, a MethodType and an
-- InvokeDynamic name. Attributes that don't count need a name in the pool and the bytes of their length.
use Rattle.std.specs.Prelude.{◌≡◌, ℕ, ◌^◌, List, [], map, Bool, false, not, ◌&&◌, ◌||◌, ◌==◌, nat_lt, nat_le, Option, Some, None, is_none, is_some, unwrap_or, ℤ, pos, codes, bit_and, Result, Ok, Err}
use Rattle.std.specs.List.{list_any}
use Rattle.std.specs.Str.{bytes_eq}
use Rattle.ms_words.specs.Throwables.{thrown_named}
use Rattle.ms_pool.specs.declared.code.ClassKind.TheVariants as kinds
use Rattle.ms_pool.specs.declared.code.RawHandler.{RawHandler}
use Rattle.ms_pool.specs.declared.pool.PoolFault.{PoolFault}
use Rattle.ms_pool.specs.declared.pool.PoolFault.TheVariants as pool_faults
use Rattle.ms_pool.specs.Places.{Place, beginning}
use Rattle.ms_pool.specs.Pools.{Entry, Placed, IsFirstFault, IsPoolOf, has_tag, numbered}
use Rattle.ms_pool.specs.PoolReading.{pool_at}
use Rattle.ms_pool.specs.ByNumber.{class_name, integer, utf8}
use Rattle.ms_pool.specs.Formats.{Format, number, run, done, here, found, check, end, ◌>>=◌, added, either, repeated, within}
use Rattle.ms_classfile.specs.declared.fault.ClassFault.{ClassFault}
use Rattle.ms_classfile.specs.declared.fault.ClassFault.TheVariants.{At, NoMemory}

-- WHAT A CLASS FILE SAYS

-- the Code attribute of a method (section 4.7.3), with the places of its code and of the first entry of its exception
-- table, or where that would be
pub record Code : Type 0 where
  pub max_stack : ℕ
  pub max_locals : ℕ
  pub code : List ℕ
  pub code_at : ℕ
  pub table : List RawHandler
  pub table_at : ℕ

-- a field (section 4.5): its flags, its name and descriptor with their constant pool indexes, and the int that it has
-- at first, which is 0 but for a static field of kind Z, B, C, S or I with a ConstantValue, and isn't narrowed to the kind
pub record Field : Type 0 where
  pub access : ℕ
  pub name : List ℕ
  pub name_index : ℕ
  pub desc : List ℕ
  pub desc_index : ℕ
  pub initial : ℤ

-- a method (section 4.6), with the place of its flags, where it begins
pub record Method : Type 0 where
  pub access : ℕ
  pub name : List ℕ
  pub name_index : ℕ
  pub desc : List ℕ
  pub desc_index : ℕ
  pub code : Option Code
  pub at : ℕ

-- a class (section 4.1): its major version, its constant pool by number, its name with its constant pool index, its
-- fields and its methods in file order
pub record Class : Type 0 where
  pub major : ℕ
  pub pool : List (Option Placed)
  pub name : List ℕ
  pub this_index : ℕ
  pub fields : List Field
  pub methods : List Method

-- NUMBERS

-- where a part doesn't fit in the file
abbrev pub short : ℕ → ClassFault
short at = At kinds.Short at

-- where a part doesn't fit in a Code attribute whose name has this place
abbrev pub shape : ℕ → ℕ → ClassFault
shape attribute_at at = At kinds.Shape attribute_at

-- a number of two bytes
abbrev pub u2 : (ℕ → ClassFault) → Format ClassFault ℕ
u2 too_short = number too_short 2

-- a number of four bytes
abbrev pub u4 : (ℕ → ClassFault) → Format ClassFault ℕ
u4 too_short = number too_short 4

-- a constant pool index, and what `get` finds in the pool there; where it finds nothing, the fault Index at the index
unfoldable pub indexed : {X : Type 0} → (ℕ → ClassFault) → (ℕ → Option X) → Format ClassFault (ℕ × X)
indexed too_short get = do
  at ← here
  index ← u2 too_short
  x ← found (get index) (At kinds.Index at)
  done (index, x)

-- how many parts there are, and then the parts
abbrev pub counted : {X : Type 0} → (ℕ → ClassFault) → (X → Format ClassFault X) → X → Format ClassFault X
counted too_short part known = u2 too_short >>= λ count. repeated count part known

-- ATTRIBUTES

-- what an attribute that doesn't count holds, passed over by its length (section 4.7)
unfoldable pub passed : (ℕ → ClassFault) → Format ClassFault (Unit {0})
passed too_short = do
  size ← u4 too_short
  content ← run too_short size
  done tt

-- an attribute that doesn't count
unfoldable pub attribute : (ℕ → ClassFault) → List (Option Placed) → Unit {0} → Format ClassFault (Unit {0})
attribute too_short pool before = do
  name ← indexed too_short (utf8 pool)
  passed too_short

-- ACC_STATIC (tables 4.5-A and 4.6-A)
abbrev pub is_static : ℕ → Bool
is_static access = bit_and access 0x0008 == 0x0008

-- whether the descriptor is that of an int, a short, a char, a byte or a boolean (table 4.3-A)
abbrev pub is_int_kind : List ℕ → Bool
is_int_kind desc = bytes_eq desc (codes "Z") || (bytes_eq desc (codes "B") || (bytes_eq desc (codes "C") || (bytes_eq desc (codes "S") || bytes_eq desc (codes "I"))))

-- THE HEADS OF FIELDS AND METHODS

-- what a field or a method begins with: its place, its flags, its name and its descriptor with their constant pool indexes
pub record Head : Type 0 where
  pub at : ℕ
  pub access : ℕ
  pub name : List ℕ
  pub name_index : ℕ
  pub desc : List ℕ
  pub desc_index : ℕ

-- how that is written: flags, and the indexes of the name and of the descriptor
unfoldable pub head : List (Option Placed) → Format ClassFault Head
head pool = do
  at ← here
  access ← u2 short
  name ← indexed short (utf8 pool)
  desc ← indexed short (utf8 pool)
  done (record { at = at; access = access; name = name.1; name_index = name.0; desc = desc.1; desc_index = desc.0 })

-- whether a name and a descriptor are one of these pairs
abbrev pub is_there : (name desc : List ℕ) → List (List ℕ × List ℕ) → Bool
is_there name desc keys = list_any (λ (key : List ℕ × List ℕ). bytes_eq name key.0 && bytes_eq desc key.1) keys

-- the name and descriptor of a field
abbrev pub field_key : Field → List ℕ × List ℕ
field_key field = (field.name, field.desc)

-- the name and descriptor of a method
abbrev pub method_key : Method → List ℕ × List ℕ
method_key method = (method.name, method.desc)

-- FIELDS

-- The first ConstantValue of a static field of kind Z, B, C, S or I (section 4.7.2), behind its name, which has the place
-- `at`. Its length is 2, and it is the index of an Integer.
unfoldable pub constant_value : List (Option Placed) → ℕ → Format ClassFault ℤ
constant_value pool at = do
  size ← u4 short
  two ← check (size == 2) (At kinds.Shape at)
  value ← indexed short (integer pool)
  done value.1

-- whether an attribute of this name is a ConstantValue
abbrev pub is_constant_value : List ℕ → Bool
is_constant_value name = bytes_eq name (codes "ConstantValue")

-- An attribute of a field, behind those that gave it this int or none, and what it has then; `gives` says whether a
-- ConstantValue of the field counts.
unfoldable pub field_attribute : List (Option Placed) → Bool → Option ℤ → Format ClassFault (Option ℤ)
field_attribute pool gives known = do
  at ← here
  name ← indexed short (utf8 pool)
  either (gives && (is_constant_value name.1 && is_none known))
      (constant_value pool at >>= λ value. done (Some value))
      (passed short >>= λ content. done known)

-- a field, behind these (section 4.5), of which none has its name and descriptor
unfoldable pub field : List (Option Placed) → List Field → Format ClassFault Field
field pool before = do
  head ← head pool
  new ← check (not (is_there head.name head.desc (map field_key before))) (At kinds.Duplicate head.at)
  initial ← counted short (field_attribute pool (is_static head.access && is_int_kind head.desc)) None
  done (record { access = head.access; name = head.name; name_index = head.name_index; desc = head.desc; desc_index = head.desc_index; initial = unwrap_or initial (pos 0) })

-- CODE

-- an entry of an exception table (section 4.7.3)
unfoldable pub handler : (ℕ → ClassFault) → List (Option Placed) → Format ClassFault RawHandler
handler too_short pool = do
  start ← u2 too_short
  last ← u2 too_short
  handler ← u2 too_short
  at ← here
  catch_type ← u2 too_short
  class ← check (catch_type == 0 || has_tag pool catch_type 7) (At kinds.Index at)
  done (record { start = start; «end» = last; handler = handler; catch_type = catch_type })

-- What a Code attribute holds; `attribute_at` is the place of its name. A code of no bytes or of more than 65,535, and
-- whatever doesn't fit in the attribute, is a fault of the attribute's shape.
unfoldable pub code : List (Option Placed) → ℕ → Format ClassFault Code
code pool attribute_at = do
  max_stack ← u2 (shape attribute_at)
  max_locals ← u2 (shape attribute_at)
  size ← u4 (shape attribute_at)
  sized ← check (nat_lt 0 size && nat_lt size (2 ^ 16)) (At kinds.Shape attribute_at)
  code_at ← here
  code ← run (shape attribute_at) size
  count ← u2 (shape attribute_at)
  table_at ← here
  table ← repeated count (added (λ before. handler (shape attribute_at) pool)) []
  attributes ← counted (shape attribute_at) (attribute (shape attribute_at) pool) tt
  done (record { max_stack = max_stack; max_locals = max_locals; code = code; code_at = code_at; table = table; table_at = table_at })

-- METHODS

-- whether an attribute of this name is a Code
abbrev pub is_code : List ℕ → Bool
is_code name = bytes_eq name (codes "Code")

-- the first Code attribute of a method, behind its name, which has the place `at`: its content fills its length
unfoldable pub code_attribute : List (Option Placed) → ℕ → Format ClassFault Code
code_attribute pool at = do
  size ← u4 short
  within short (shape at) size (code pool at)

-- an attribute of a method, behind those that gave it this code or none, and what it has then; a second Code is a fault
unfoldable pub method_attribute : List (Option Placed) → Option Code → Format ClassFault (Option Code)
method_attribute pool known = do
  at ← here
  name ← indexed short (utf8 pool)
  either (is_code name.1)
      (check (is_none known) (At kinds.Shape at) >>= λ first. code_attribute pool at >>= λ code. done (Some code))
      (passed short >>= λ content. done known)

-- a method, behind these (section 4.6), of which none has its name and descriptor
unfoldable pub method : List (Option Placed) → List Method → Format ClassFault Method
method pool before = do
  head ← head pool
  new ← check (not (is_there head.name head.desc (map method_key before))) (At kinds.Duplicate head.at)
  code ← counted short (method_attribute pool) None
  done (record { access = head.access; name = head.name; name_index = head.name_index; desc = head.desc; desc_index = head.desc_index; code = code; at = head.at })

-- THE FILE

-- a fault of the pool
abbrev pub pool_fault : PoolFault → ClassFault
pool_fault (pool_faults.Short at) = At kinds.Short at
pool_fault (pool_faults.Pool at) = At kinds.Pool at
pool_fault (pool_faults.Index at) = At kinds.Index at
pool_fault pool_faults.NoMemory = NoMemory

-- the entries of a pool whose count has this place, by their numbers, or the fault of the file
abbrev pub pool_read : ℕ → Result (List Entry × Place) PoolFault → Result (List (Option Placed) × Place) ClassFault
pool_read at (Ok x) = Ok (numbered at x.0, x.1)
pool_read at (Err fault) = Err (pool_fault fault)

-- the constant pool (section 4.4), its entries by their numbers
unfoldable pub pool : Format ClassFault (List (Option Placed))
pool = record {
  Spells = IsPoolOf;
  Breaks = λ place fault. (broken : PoolFault) × (IsFirstFault place broken × (fault ≡ pool_fault broken));
  read = λ place. pool_read place.at (pool_at place);
}

-- the magic number, the minor version and the major one, which is from 45 to 52 (section 4.1)
unfoldable pub header : Format ClassFault ℕ
header = do
  magic_at ← here
  magic ← u4 short
  right ← check (magic == 0xCAFEBABE) (At kinds.Magic magic_at)
  minor ← u2 short
  major_at ← here
  major ← u2 short
  known ← check (nat_le 45 major && nat_le major 52) (At kinds.Version major_at)
  done major

-- whether the class of this number is java/lang/Object
abbrev pub is_object : Option (List ℕ) → Bool
is_object None = false
is_object (Some name) = bytes_eq name (codes "java/lang/Object")

-- The flags, this class and its direct superclass, which is java/lang/Object. The class has the name of none of the
-- known throwables; that is known before the superclass is read. What is given is the class's index and name.
unfoldable pub class_and_super : List (Option Placed) → Format ClassFault (ℕ × List ℕ)
class_and_super pool = do
  access ← u2 short
  this ← indexed short (class_name pool)
  super_at ← here
  other ← check (not (is_some (thrown_named this.1))) (At kinds.Super super_at)
  super_class ← u2 short
  object ← check (is_object (class_name pool super_class)) (At kinds.Super super_at)
  done this

-- an interface's constant pool index, which is not looked at
unfoldable pub interface : Unit {0} → Format ClassFault (Unit {0})
interface before = do
  index ← u2 short
  done tt

-- the file (section 4.1): its header, its pool, the class and its superclass, interfaces, fields, methods, attributes, and
-- nothing behind them
unfoldable pub class_file : Format ClassFault Class
class_file = do
  major ← header
  pool ← pool
  this ← class_and_super pool
  interfaces ← counted short interface tt
  fields ← counted short (added (field pool)) []
  methods ← counted short (added (method pool)) []
  attributes ← counted short (attribute short pool) tt
  ended ← end (λ at. At kinds.Trailing at)
  done (record { major = major; pool = pool; name = this.1; this_index = this.0; fields = fields; methods = methods })

-- these bytes are the class file of this class
pub record IsClassFile (bytes : List ℕ) (class : Class) : Type 0 where
  pub after : Place
  pub is : class_file.Spells (beginning bytes) class after

-- these bytes are none, and this is their first fault
abbrev pub IsFirstFaultOf : List ℕ → ClassFault → Type 0
IsFirstFaultOf bytes fault = class_file.Breaks (beginning bytes) fault
