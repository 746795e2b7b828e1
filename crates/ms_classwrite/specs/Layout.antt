-- The class file that a plan becomes (JVMS SE 8, chapter 4), byte by byte.
use Rattle.std.specs.Prelude.{ℕ, ◌+◌, List, [], ◌∷◌, ◌++◌, length, map, fold, Bool, false, ◌||◌, nat_lt, if◌then◌else◌, Option, Some, None, ℤ, codes}
use Rattle.std.specs.List.{flat_map, list_any}
use Rattle.ms_pool.specs.Pools.{spelled_pool, u2, u4}
use Rattle.ms_classwrite.specs.declared.plan.PlanField.{PlanField}
use Rattle.ms_classwrite.specs.declared.plan.PlanMethod.{PlanMethod}
use Rattle.ms_classwrite.specs.declared.plan.PoolLine.{PoolLine}
use Rattle.ms_classwrite.specs.declared.plan.PoolLine.TheVariants.{Utf8, Integer, Class}
use Rattle.ms_classwrite.specs.Plans.{Plan, entry_of, number_in, same_line}

-- THE POOL

-- a pool with this line, which it gets at the end where it isn't there yet
abbrev pub with_line : List PoolLine → PoolLine → List PoolLine
with_line pool line = if list_any (same_line line) pool then pool else pool ++ line ∷ []

-- a pool with this text
abbrev pub with_text : List PoolLine → List ℕ → List PoolLine
with_text pool text = with_line pool (Utf8 text)

-- a pool with the name of a class, and with the class
unfoldable pub with_class : List PoolLine → List ℕ → List PoolLine
with_class pool name = let named = with_text pool name in with_line named (Class (number_in named (Utf8 name)))

-- a pool with this class, and with java/lang/Object
unfoldable pub with_classes : List PoolLine → List ℕ → List PoolLine
with_classes pool name = with_class (with_class pool name) (codes "java/lang/Object")

-- a pool with what a constant needs
unfoldable pub with_constant : List PoolLine → Option ℤ → List PoolLine
with_constant pool None = pool
with_constant pool (Some int) = with_line (with_text pool (codes "ConstantValue")) (Integer int)

-- a pool with what a field needs
unfoldable pub with_field : List PoolLine → PlanField → List PoolLine
with_field pool field = with_constant (with_text (with_text pool field.name) field.desc) field.constant

-- a pool with what a method needs
unfoldable pub with_method : List PoolLine → PlanMethod → List PoolLine
with_method pool method = with_text (with_text (with_text pool method.name) method.desc) (codes "Code")

-- the pool of a plan: its lines, and behind them what they lack of what the class, its superclass, the fields and the
-- methods need
unfoldable pub pool_of : Plan → List PoolLine
pool_of plan = fold with_method (fold with_field (with_classes plan.lines plan.name) plan.fields) plan.methods

-- the number of a text in a pool
abbrev pub text_number : List PoolLine → List ℕ → ℕ
text_number pool text = number_in pool (Utf8 text)

-- the number of the class of this name
abbrev pub class_number : List PoolLine → List ℕ → ℕ
class_number pool name = number_in pool (Class (text_number pool name))

-- FIELDS AND METHODS

-- a field's attributes: none, or a ConstantValue (section 4.7.2)
unfoldable pub spelled_constant : List PoolLine → Option ℤ → List ℕ
spelled_constant pool None = u2 0
spelled_constant pool (Some int) = u2 1 ++ u2 (text_number pool (codes "ConstantValue")) ++ u4 2 ++ u2 (number_in pool (Integer int))

-- a field: flags, name, descriptor, attributes (section 4.5)
unfoldable pub spelled_field : List PoolLine → PlanField → List ℕ
spelled_field pool field = u2 field.access ++ u2 (text_number pool field.name) ++ u2 (text_number pool field.desc) ++ spelled_constant pool field.constant

-- a method's Code attribute, with no exception table and no attributes (section 4.7.3); twelve bytes of it aren't code
unfoldable pub spelled_code : List PoolLine → PlanMethod → List ℕ
spelled_code pool method =
    (u2 (text_number pool (codes "Code")) ++ u4 (length method.code + 12) ++ u2 method.max_stack ++ u2 method.max_locals)
    ++ (u4 (length method.code) ++ method.code ++ u2 0 ++ u2 0)

-- a method: flags, name, descriptor, one attribute (section 4.6)
unfoldable pub spelled_method : List PoolLine → PlanMethod → List ℕ
spelled_method pool method = u2 method.access ++ u2 (text_number pool method.name) ++ u2 (text_number pool method.desc) ++ u2 1 ++ spelled_code pool method

-- THE FILE

-- magic number, minor and major version, and the pool
unfoldable pub spelled_start : List PoolLine → List ℕ
spelled_start pool = u4 0xCAFEBABE ++ u2 0 ++ u2 52 ++ spelled_pool (map entry_of pool)

-- flags (public and super), the class, its superclass, and no interfaces
unfoldable pub spelled_class : List PoolLine → List ℕ → List ℕ
spelled_class pool name = u2 0x0021 ++ u2 (class_number pool name) ++ u2 (class_number pool (codes "java/lang/Object")) ++ u2 0

-- how many fields there are, and the fields
unfoldable pub spelled_fields : List PoolLine → List PlanField → List ℕ
spelled_fields pool fields = u2 (length fields) ++ flat_map (spelled_field pool) fields

-- how many methods there are, and the methods
unfoldable pub spelled_methods : List PoolLine → List PlanMethod → List ℕ
spelled_methods pool methods = u2 (length methods) ++ flat_map (spelled_method pool) methods

-- the file (section 4.1), with this pool; the class has no attributes
unfoldable pub layout_with : List PoolLine → Plan → List ℕ
layout_with pool plan = spelled_start pool ++ spelled_class pool plan.name ++ spelled_fields pool plan.fields ++ spelled_methods pool plan.methods ++ u2 0

-- the file of a plan
abbrev pub layout : Plan → List ℕ
layout plan = layout_with (pool_of plan) plan

-- LIMITS

-- whether bytes are too many for a number of two bytes to count them
abbrev pub is_long : List ℕ → Bool
is_long bytes = nat_lt 65535 (length bytes)

-- whether a line is a text that is too long; each name and each descriptor is a text of the pool
abbrev pub is_long_line : PoolLine → Bool
is_long_line (Utf8 text) = is_long text
is_long_line line = false

-- whether there are too many entries, fields or methods, or too long a text or code
unfoldable pub has_too_many : List PoolLine → Plan → Bool
has_too_many pool plan =
    nat_lt 65534 (length pool) || (nat_lt 65535 (length plan.fields) || (nat_lt 65535 (length plan.methods)
    || (list_any is_long_line pool || list_any (λ method. is_long method.code) plan.methods)))

-- whether the plan has too many of something, or its file more than a mebibyte
abbrev pub is_too_large : Plan → Bool
is_too_large plan = has_too_many (pool_of plan) plan || nat_lt 1048576 (length (layout plan))
