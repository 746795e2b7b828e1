-- What a class file says of its methods' codes: which methods are foreign, and the first fault of the whole file.
use Rattle.std.specs.Prelude.{◌≡◌, ◌⊎◌, ℕ, List, [], ◌∷◌, length, Bool, ◌&&◌, ◌==◌, nat_le, if◌then◌else◌, Option, Some, None, option_map, option_and_then, bit_and}
use Rattle.ms_words.specs.Descriptors.{signature_of}
use Rattle.ms_pool.specs.declared.code.ClassKind.{ClassKind}
use Rattle.ms_pool.specs.Pools.{Placed}
use Rattle.ms_classfile.specs.ClassFile.{Class, Code, Method, IsClassFile, IsFirstFaultOf}
use Rattle.ms_classfile.specs.declared.fault.ClassFault.{ClassFault}
use Rattle.ms_classfile.specs.declared.fault.ClassFault.TheVariants.{At, NoMemory}
use Rattle.ms_code.specs.Codes as codes
use Rattle.ms_code.specs.Codes.{HasFault, IsDecoded, IsForeign}
use Rattle.ms_code.specs.Rows.{code_with}
use Rattle.ms_program.specs.declared.body.Body.{Body}

-- WHICH CODES ARE LOOKED AT

-- whether a method is static, and neither synchronized, native nor abstract (table 4.6-A)
abbrev pub is_plain : ℕ → Bool
is_plain access = bit_and access 0x0528 == 0x0008

-- how many parameters a method with this descriptor has, where it names types that the machine knows alone
abbrev pub parameters_of : List ℕ → Option ℕ
parameters_of desc = option_map (λ signature. length signature.parameters) (signature_of desc)

-- whether a code has at most 256 places on its operand stack and at most 256 locals, and a local for each of so many parameters
abbrev pub has_room : ℕ → Code → Bool
has_room parameters code = nat_le code.max_stack 256 && (nat_le code.max_locals 256 && nat_le parameters code.max_locals)

-- this code, where it has room
abbrev pub roomy : Code → ℕ → Option Code
roomy code parameters = if has_room parameters code then Some code else None

-- The code of a method that isn't foreign already for what stands around its code. Only such a code is decoded.
abbrev pub decodable : Method → Option Code
decodable method =
    if is_plain method.access then option_and_then (λ code. option_and_then (roomy code) (parameters_of method.desc)) method.code
    else None

-- WHAT THEY SAY

-- a code as the decoder has it
abbrev pub instructions_of : Code → codes.Code
instructions_of code = code_with code.code code.code_at code.table code.table_at

-- a decodable code says this body, or is foreign
abbrev pub Says : List (Option Placed) → Code → Option Body → Type 0
Says pool code None = IsForeign pool (instructions_of code)
Says pool code (Some body) = (body.max_stack ≡ code.max_stack) × ((body.max_locals ≡ code.max_locals) × IsDecoded pool (instructions_of code) body.code)

-- so does the code of a method, if it is decodable; if not, the method is foreign
abbrev pub SaysIfAny : List (Option Placed) → Option Code → Option Body → Type 0
SaysIfAny pool None body = body ≡ None
SaysIfAny pool (Some code) body = Says pool code body

-- A method of a file with this pool has this body, or is foreign. It is foreign exactly where its code isn't decodable or is
-- foreign itself.
abbrev pub IsBody : List (Option Placed) → Method → Option Body → Type 0
IsBody pool method body = SaysIfAny pool (decodable method) body

-- so it is with each of these methods
abbrev pub AreBodies : List (Option Placed) → List Method → List (Option Body) → Type 0
AreBodies pool [] [] = Unit {0}
AreBodies pool (method ∷ methods) (body ∷ bodies) = IsBody pool method body × AreBodies pool methods bodies
AreBodies pool methods bodies = ⊥

-- a class file with what its methods do
pub record File : Type 0 where
  pub class : Class
  pub bodies : List (Option Body)

-- these bytes are this class file, and these are the bodies of its methods: no code that is decoded is at fault
abbrev pub IsFile : List ℕ → File → Type 0
IsFile bytes file = IsClassFile bytes file.class × AreBodies file.class.pool file.class.methods file.bodies

-- THE FIRST FAULT

-- the code of a method is decodable, and this is its first fault
pub record HasMethodAtFault (pool : List (Option Placed)) (method : Method) (kind : ClassKind) (at : ℕ) : Type 0 where
  pub code : Code
  pub decodable : decodable method ≡ Some code
  pub fault : HasFault pool (instructions_of code) kind at

-- this is the fault of the first of these methods whose code has one: each before it has a body or is foreign
abbrev pub HasCodeAtFault : List (Option Placed) → List Method → ClassKind → ℕ → Type 0
HasCodeAtFault pool [] kind at = ⊥
HasCodeAtFault pool (method ∷ methods) kind at = HasMethodAtFault pool method kind at ⊎ ((body : Option Body) × (IsBody pool method body × HasCodeAtFault pool methods kind at))

-- these bytes are the class file of a class of which a code is at fault
pub record HasCodeFault (bytes : List ℕ) (kind : ClassKind) (at : ℕ) : Type 0 where
  pub class : Class
  pub is : IsClassFile bytes class
  pub code : HasCodeAtFault class.pool class.methods kind at

-- this is the first fault of a file: of its class, else of the first of its codes that has one
abbrev pub IsFirstFault : List ℕ → ClassKind → ℕ → Type 0
IsFirstFault bytes kind at = IsFirstFaultOf bytes (At kind at) ⊎ HasCodeFault bytes kind at

-- the fault is the first of these bytes, unless memory ran out
abbrev pub IsFaultOf : List ℕ → ClassFault → Type 0
IsFaultOf bytes (At kind at) = IsFirstFault bytes kind at
IsFaultOf bytes NoMemory = Unit {0}

-- FOR PRIVATE FUNCTIONS

-- the code is at fault, unless memory ran out
abbrev pub IsCodeFault : List (Option Placed) → codes.Code → ClassFault → Type 0
IsCodeFault pool code (At kind at) = HasFault pool code kind at
IsCodeFault pool code NoMemory = Unit {0}

-- the code of the method is decodable and at fault, unless memory ran out
abbrev pub IsMethodFault : List (Option Placed) → Method → ClassFault → Type 0
IsMethodFault pool method (At kind at) = HasMethodAtFault pool method kind at
IsMethodFault pool method NoMemory = Unit {0}

-- this is the fault of the first of these methods whose code has one, unless memory ran out
abbrev pub AreAtFault : List (Option Placed) → List Method → ClassFault → Type 0
AreAtFault pool methods (At kind at) = HasCodeAtFault pool methods kind at
AreAtFault pool methods NoMemory = Unit {0}
