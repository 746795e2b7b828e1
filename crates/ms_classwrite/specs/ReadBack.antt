-- The class that is read from the file of a plan, and which plans are read back so.
use Rattle.std.specs.Prelude.{◌≡◌, ◌≢◌, ℕ, ◌+◌, ◌^◌, ◌<◌, List, [], ◌∷◌, ◌++◌, length, map, true, ◌&&◌, Some, None, IfSome, unwrap_or, pos, All, AllPairs, FitsSigned}
use Rattle.std.specs.Int.{w32}
use Rattle.ms_words.specs.Throwables.{thrown_named}
use Rattle.ms_pool.specs.Pools.{numbered}
use Rattle.ms_classfile.specs.ClassFile.{Class, Code, Field, Method, is_int_kind, is_static}
use Rattle.ms_classwrite.specs.declared.plan.PlanField.{PlanField}
use Rattle.ms_classwrite.specs.declared.plan.PlanMethod.{PlanMethod}
use Rattle.ms_classwrite.specs.declared.plan.PoolLine.{PoolLine}
use Rattle.ms_classwrite.specs.declared.plan.PoolLine.TheVariants.{Integer}
use Rattle.ms_classwrite.specs.Plans.{Plan, entry_of}
use Rattle.ms_classwrite.specs.Layout.{class_number, pool_of, spelled_class, spelled_fields, spelled_method, spelled_start, text_number}

-- THE CLASS

-- a field; its first int is its constant, or 0
abbrev pub field_of : List PoolLine → PlanField → Field
field_of pool field = record { access = field.access; name = field.name; name_index = text_number pool field.name; desc = field.desc; desc_index = text_number pool field.desc; initial = unwrap_or field.constant (pos 0) }

-- the Code of a method that begins at this place: 22 bytes stand before its code, and two, the number of its handlers,
-- between it and them
abbrev pub code_of : ℕ → PlanMethod → Code
code_of at method = record { max_stack = method.max_stack; max_locals = method.max_locals; code = method.code; code_at = at + 22; table = []; table_at = at + 22 + length method.code + 2 }

-- a method that begins at this place
abbrev pub method_of : List PoolLine → ℕ → PlanMethod → Method
method_of pool at method = record { access = method.access; name = method.name; name_index = text_number pool method.name; desc = method.desc; desc_index = text_number pool method.desc; code = Some (code_of at method); at = at }

-- methods, one behind the other, of which the first begins at this place
abbrev pub methods_of : List PoolLine → ℕ → List PlanMethod → List Method
methods_of pool at [] = []
methods_of pool at (method ∷ methods) = method_of pool at method ∷ methods_of pool (at + length (spelled_method pool method)) methods

-- where the first method begins: behind what stands before the methods, and their number
abbrev pub methods_at : List PoolLine → Plan → ℕ
methods_at pool plan = length (spelled_start pool ++ spelled_class pool plan.name ++ spelled_fields pool plan.fields) + 2

-- the class of a plan with this pool; the pool's count stands at 8
abbrev pub class_with : List PoolLine → Plan → Class
class_with pool plan = record {
  major = 52;
  pool = numbered 8 (map entry_of pool);
  name = plan.name;
  this_index = class_number pool plan.name;
  fields = map (field_of pool) plan.fields;
  methods = methods_of pool (methods_at pool plan) plan.methods;
}

-- the class of a plan
abbrev pub class_of : Plan → Class
class_of plan = class_with (pool_of plan) plan

-- THE PLANS

-- numbers of two bytes, and an int of 32 bits: so it is in every plan by the types of its parts
pub record FieldFits (field : PlanField) : Type 0 where
  pub access : field.access < 2 ^ 16
  pub constant : IfSome field.constant (FitsSigned w32)

-- the same of a method
pub record MethodFits (method : PlanMethod) : Type 0 where
  pub access : method.access < 2 ^ 16
  pub max_stack : method.max_stack < 2 ^ 16
  pub max_locals : method.max_locals < 2 ^ 16

-- the same of a line; its other numbers fit where they are those of lines
abbrev pub LineFits : PoolLine → Type 0
LineFits (Integer int) = FitsSigned w32 int
LineFits line = Unit {0}

-- each number of the plan fits, as it does by its type: each `ClassPlan` has this as its invariant
pub record HasTypes (plan : Plan) : Type 0 where
  pub lines : All LineFits plan.lines
  pub fields : All FieldFits plan.fields
  pub methods : All MethodFits plan.methods

-- what a plan needs to be read back, where it is one that is written: the class has the name of none of the known
-- throwables, each field with a constant is static and of kind Z, B, C, S or I, no code is empty, and no two fields and no
-- two methods have name and descriptor in common
pub record IsReadable (plan : Plan) : Type 0 where
  pub other : thrown_named plan.name ≡ None
  pub constants : All (λ (field : PlanField). IfSome field.constant (λ int. (is_static field.access && is_int_kind field.desc) ≡ true)) plan.fields
  pub coded : All (λ (method : PlanMethod). 0 < length method.code) plan.methods
  pub fields_differ : AllPairs (λ (one other : List ℕ × List ℕ). one ≢ other) (map (λ (field : PlanField). (field.name, field.desc)) plan.fields)
  pub methods_differ : AllPairs (λ (one other : List ℕ × List ℕ). one ≢ other) (map (λ (method : PlanMethod). (method.name, method.desc)) plan.methods)
