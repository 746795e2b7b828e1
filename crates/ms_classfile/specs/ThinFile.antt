-- Thin files: class files of one class with one static method over ints and booleans, whose code
-- computes, branches ahead and returns (JVMS SE 8, chapter 4). The spelling of names, the encoding of texts,
-- other flags than those named here, and StackMapTable are not checked.
use Rattle.std.specs.Prelude.{◌≡◌, ℕ, ◌+◌, ◌-◌, ◌^◌, ◌<◌, ◌≤◌, List, [], ◌∷◌, ◌++◌, length, Bool, true, false, IsTrue, ◌==◌, if◌then◌else◌, Option, Some, None, is_some, IsSomeAnd, map, slice_get, filter, codes, bit_and}
use Rattle.std.specs.Option.{option_and_then}
use Rattle.std.specs.List.{list_all, flat_map, AllByRecursion}
use Rattle.std.specs.Str.{bytes_eq}
use Rattle.ms_words.specs.declared.kind.Kind.{Kind}
use Rattle.ms_words.specs.declared.kind.Kind.TheVariants.{Z, B, C, S, I}
use Rattle.ms_words.specs.Throwables.{thrown_named}
use Rattle.ms_classfile.specs.declared.instruction.Instruction.{Instruction}
use Rattle.ms_classfile.specs.Instructions.{IsPlain, ends_with_return, is_walked, spelled_instruction}
use Rattle.ms_pool.specs.Places.{number_bytes}

-- THE PARTS OF A FILE

-- an entry of the constant pool: a text, or a class with the number of its name
pub data Entry : Type 0 where
  Utf8 : List ℕ → Entry
  Class : ℕ → Entry

-- an attribute: the number of its name in the pool, and what it holds
pub record Attribute : Type 0 where
  pub name : ℕ
  pub content : List ℕ

-- what a Code attribute holds, with an empty exception table
pub record Code : Type 0 where
  pub max_stack : ℕ
  pub max_locals : ℕ
  pub instructions : List Instruction
  pub attributes : List Attribute

-- a file with no interfaces, no fields and one method; `code` is what the method's Code attribute holds
pub record ThinFile : Type 0 where
  pub minor : ℕ
  pub major : ℕ
  pub pool : List Entry
  pub access : ℕ
  pub this_class : ℕ
  pub super_class : ℕ
  pub method_access : ℕ
  pub method_name : ℕ
  pub method_descriptor : ℕ
  pub method_attributes : List Attribute
  pub code : Code
  pub attributes : List Attribute

-- HOW THEY ARE SPELLED

-- a number of one byte
abbrev pub u1 : ℕ → List ℕ
u1 n = number_bytes 1 n

-- a number of two bytes
abbrev pub u2 : ℕ → List ℕ
u2 n = number_bytes 2 n

-- a number of four bytes
abbrev pub u4 : ℕ → List ℕ
u4 n = number_bytes 4 n

-- an entry: its tag, and what it holds
abbrev pub spelled_entry : Entry → List ℕ
spelled_entry (Utf8 text) = u1 1 ++ u2 (length text) ++ text
spelled_entry (Class name) = u1 7 ++ u2 name

-- an attribute: the number of its name, its length, what it holds
abbrev pub spelled_attribute : Attribute → List ℕ
spelled_attribute attribute = u2 attribute.name ++ u4 (length attribute.content) ++ attribute.content

-- the number of the attributes, and each of them
abbrev pub spelled_attributes : List Attribute → List ℕ
spelled_attributes attributes = u2 (length attributes) ++ flat_map spelled_attribute attributes

-- the bytes of the instructions, one after another
abbrev pub code_bytes : Code → List ℕ
code_bytes code = flat_map spelled_instruction code.instructions

-- the two limits, the length of the code, the code, no exception table, the attributes
abbrev pub spelled_code : Code → List ℕ
spelled_code code =
    u2 code.max_stack ++ u2 code.max_locals ++ u4 (length (code_bytes code)) ++ code_bytes code ++ u2 0 ++ spelled_attributes code.attributes

-- constant_pool_count, which is the number of entries plus one, and the entries (JVMS SE 8, section 4.1)
abbrev pub spelled_pool : List Entry → List ℕ
spelled_pool pool = u2 (length pool + 1) ++ flat_map spelled_entry pool

-- the magic number of class files (JVMS SE 8, section 4.1)
abbrev pub magic : ℕ
magic = 0xCAFEBABE

-- the whole file, with no interfaces, no fields and one method
abbrev pub spelled_file : ThinFile → List ℕ
spelled_file file =
    u4 magic ++ u2 file.minor ++ u2 file.major ++ spelled_pool file.pool
    ++ u2 file.access ++ u2 file.this_class ++ u2 file.super_class ++ u2 0 ++ u2 0 ++ u2 1
    ++ u2 file.method_access ++ u2 file.method_name ++ u2 file.method_descriptor ++ spelled_attributes file.method_attributes
    ++ spelled_attributes file.attributes

-- WHAT THE NUMBERS NAME

-- the entry of this number; numbers begin at 1
abbrev pub entry_of : List Entry → ℕ → Option Entry
entry_of pool number = if number == 0 then None else slice_get pool (number - 1)

-- the text of an entry, where it is one
abbrev pub text_of : Entry → Option (List ℕ)
text_of (Utf8 text) = Some text
text_of (Class name) = None

-- the number of a class's name, where the entry is a class
abbrev pub name_of : Entry → Option ℕ
name_of (Utf8 text) = None
name_of (Class name) = Some name

-- the text of this number, where a text has it
abbrev pub utf8 : List Entry → ℕ → Option (List ℕ)
utf8 pool number = option_and_then text_of (entry_of pool number)

-- the name of the class of this number, where a class has it
abbrev pub class_name : List Entry → ℕ → Option (List ℕ)
class_name pool number = option_and_then (utf8 pool) (option_and_then name_of (entry_of pool number))

-- a class's name is a text of the pool
abbrev pub is_linked : List Entry → Entry → Bool
is_linked pool (Utf8 text) = true
is_linked pool (Class name) = is_some (utf8 pool name)

-- whether the attribute's name is a text of the pool
abbrev pub has_name : List Entry → Attribute → Bool
has_name pool attribute = is_some (utf8 pool attribute.name)

-- whether the attribute's name is this text
abbrev pub is_named : List Entry → List ℕ → Attribute → Bool
is_named pool name attribute = is_text name (utf8 pool attribute.name)
  where
    is_text : List ℕ → Option (List ℕ) → Bool
    is_text name None = false
    is_text name (Some text) = bytes_eq text name

-- THE RULES

-- the letter of a kind in a descriptor (JVMS SE 8, table 4.3-A)
abbrev pub letter : Kind → ℕ
letter Z = 90
letter B = 66
letter C = 67
letter S = 83
letter I = 73

-- whether thin methods have parameters and results of the kind: it is boolean or int
abbrev pub is_thin_kind : Kind → Bool
is_thin_kind Z = true
is_thin_kind B = false
is_thin_kind C = false
is_thin_kind S = false
is_thin_kind I = true

-- the descriptor of a method with parameters of these kinds and a result of this one (JVMS SE 8,
-- section 4.3.3)
abbrev pub descriptor_of : List Kind → Kind → List ℕ
descriptor_of kinds result = codes "(" ++ map letter kinds ++ codes ")" ++ letter result ∷ []

-- of the flags static, synchronized, native and abstract, static alone is set (JVMS SE 8, table 4.6-A)
abbrev pub is_plain_static : ℕ → Bool
is_plain_static access = bit_and access 0x0528 == 0x0008

-- what can be written: each number fits its field
pub record AttributeFits (attribute : Attribute) : Type 0 where
  pub name : attribute.name < 2 ^ 16
  pub content : length attribute.content < 2 ^ 32

-- attributes that can be written
pub record AttributesFit (attributes : List Attribute) : Type 0 where
  pub number : length attributes < 2 ^ 16
  pub each : AllByRecursion AttributeFits attributes

-- an entry that can be written
abbrev pub EntryFits : Entry → Type 0
EntryFits (Utf8 text) = length text < 2 ^ 16
EntryFits (Class name) = name < 2 ^ 16

-- What is said of a thin method: the name of its class, its name, its descriptor, the kinds of its
-- parameters and of its result, the most words that its stack may have by the file's declaration
-- (max_stack; JVMS SE 8, section 4.7.3), its instructions.
pub record Method : Type 0 where
  pub class : List ℕ
  pub name : List ℕ
  pub descriptor : List ℕ
  pub kinds : List Kind
  pub result : Kind
  pub max_stack : ℕ
  pub instructions : List Instruction

-- The code of a method with so many parameters: what its Code attribute states is small enough, and its
-- instructions meet the constraints on code (JVMS SE 8, section 4.7.3 for the attribute, section 4.9 for
-- the constraints) and the narrower limits of thin code.
pub record IsThinCode (pool : List Entry) (parameters : ℕ) (code : Code) : Type 0 where
  pub stack : code.max_stack ≤ 256
  pub locals : code.max_locals ≤ 256
  pub room : parameters ≤ code.max_locals
  pub length : length (code_bytes code) ≤ 19999
  pub plain : AllByRecursion IsPlain code.instructions
  pub walked : IsTrue (is_walked parameters code.max_stack 0 code.instructions)
  pub returns : IsTrue (ends_with_return code.instructions)
  pub attributes : AttributesFit code.attributes
  pub named : IsTrue (list_all (has_name pool) code.attributes)

-- what holds of the file outside its method: each number fits its field, the version is one of those that
-- are read, the class's superclass is java/lang/Object, and no throwable has its name
pub record IsThinClass (file : ThinFile) : Type 0 where
  pub minor : file.minor < 2 ^ 16
  pub oldest : 45 ≤ file.major
  pub newest : file.major ≤ 52
  pub entries : length file.pool + 1 < 2 ^ 16
  pub each : AllByRecursion EntryFits file.pool
  pub links : IsTrue (list_all (is_linked file.pool) file.pool)
  pub access : file.access < 2 ^ 16
  pub this_number : file.this_class < 2 ^ 16
  pub super_number : file.super_class < 2 ^ 16
  pub this : IsSomeAnd (class_name file.pool file.this_class) (λ name. thrown_named name ≡ None)
  pub super : class_name file.pool file.super_class ≡ Some (codes "java/lang/Object")
  pub attributes : AttributesFit file.attributes
  pub named : IsTrue (list_all (has_name file.pool) file.attributes)

-- the file's method is thin, and is this one
pub record HasThinMethod (file : ThinFile) (method : Method) : Type 0 where
  pub access : file.method_access < 2 ^ 16
  pub name_number : file.method_name < 2 ^ 16
  pub descriptor_number : file.method_descriptor < 2 ^ 16
  pub static : IsTrue (is_plain_static file.method_access)
  pub class : class_name file.pool file.this_class ≡ Some method.class
  pub name : utf8 file.pool file.method_name ≡ Some method.name
  pub descriptor : utf8 file.pool file.method_descriptor ≡ Some method.descriptor
  pub signature : method.descriptor ≡ descriptor_of method.kinds method.result
  pub parameters : length method.kinds ≤ 8
  pub kinds : IsTrue (list_all is_thin_kind method.kinds)
  pub result : IsTrue (is_thin_kind method.result)
  pub attributes : AttributesFit file.method_attributes
  pub named : IsTrue (list_all (has_name file.pool) file.method_attributes)
  -- one attribute is named Code, and holds the code
  pub code : map (λ attribute. attribute.content) (filter (is_named file.pool (codes "Code")) file.method_attributes) ≡ spelled_code file.code ∷ []
  pub thin : IsThinCode file.pool (length method.kinds) file.code
  pub stack : file.code.max_stack ≡ method.max_stack
  pub instructions : file.code.instructions ≡ method.instructions

-- the bytes are a thin file with this method
pub record IsThinFile (bytes : List ℕ) (method : Method) : Type 0 where
  pub file : ThinFile
  pub spelled : bytes ≡ spelled_file file
  pub has_class : IsThinClass file
  pub has_method : HasThinMethod file method

-- What a caller may count on of the method of each thin file; not all that holds of it.
pub record IsThinMethod (method : Method) : Type 0 where
  pub walked : IsTrue (is_walked (length method.kinds) method.max_stack 0 method.instructions)
  pub returns : IsTrue (ends_with_return method.instructions)
  pub short : length method.instructions ≤ 19999
  pub stack : method.max_stack ≤ 256
  pub parameters : length method.kinds ≤ 8
  pub kinds : IsTrue (list_all is_thin_kind method.kinds)
  pub result : IsTrue (is_thin_kind method.result)
