-- Programs: classes in the order in which they came, and an entry.
use Rattle.std.specs.Prelude.{All, ◌≡◌, ◌<◌, ◌≤◌, ◌^◌, ℕ, List, [], ◌∷◌, ◌++◌, map, length, Bool, true, ◌&&◌, ◌==◌, not, Option, Some, None, IsSome, IfSome, is_some, option_map, option_and_then, if◌then◌else◌, position, slice_get, slice_set, codes, ℤ}
use Rattle.std.specs.Option.{option_map_or}
use Rattle.std.specs.Str.{bytes_eq}
use Rattle.ms_words.specs.Descriptors.{entry_part_of}
use Rattle.ms_pool.specs.Pools.{Placed}
use Rattle.ms_classfile.specs.ClassFile as files
use Rattle.ms_classfile.specs.ClassFile.{field_key, is_static, method_key}
use Rattle.ms_program.specs.declared.body.Body.{Body}
use Rattle.ms_program.specs.declared.method.MethodBody.{MethodBody}
use Rattle.ms_program.specs.declared.method.MethodId.{MethodId}
use Rattle.ms_program.specs.declared.view.Initialiser.{Initialiser}
use Rattle.ms_program.specs.declared.view.Initialiser.TheVariants.{Absent, Present, Foreign}
use Rattle.ms_program.specs.Files.{File, IsFile}
use Rattle.ms_program.specs.Names.{Key, place_named}

-- A class of a program: the bytes of its file, its constant pool by number, its name; the names and descriptors of its
-- fields, in file order, and of each that is static the int that it has at first, or 0 where it isn't of an int's type;
-- the names and descriptors of its methods, in file order, and what each does, where it isn't foreign.
pub record Class : Type 0 where
  pub file : List ℕ
  pub pool : List (Option Placed)
  pub name : List ℕ
  pub fields : List Key
  pub statics : List (Option ℤ)
  pub methods : List Key
  pub bodies : List (Option Body)

-- a class of these parts
abbrev pub class_with : (file : List ℕ) (pool : List (Option Placed)) (name : List ℕ) (fields : List Key) (statics : List (Option ℤ)) (methods : List Key) (bodies : List (Option Body)) → Class
class_with file pool name fields statics methods bodies = record { file = file; pool = pool; name = name; fields = fields; statics = statics; methods = methods; bodies = bodies }

-- the int that a field has at first, or 0 where it isn't of an int's type, where it is static
abbrev pub static_of : files.Field → Option ℤ
static_of field = if is_static field.access then Some field.initial else None

-- for private functions: this is the name of the class, and these are its members
pub record HasMembers (class : files.Class) (name : List ℕ) (fields : List Key) (statics : List (Option ℤ)) (methods : List Key) : Type 0 where
  pub name_is : name ≡ class.name
  pub fields_are : fields ≡ map field_key class.fields
  pub statics_are : statics ≡ map static_of class.fields
  pub methods_are : methods ≡ map method_key class.methods

-- the class of a file of these bytes
abbrev pub class_of : List ℕ → File → Class
class_of bytes file = record {
  file = bytes;
  pool = file.class.pool;
  name = file.class.name;
  fields = map field_key file.class.fields;
  statics = map static_of file.class.fields;
  methods = map method_key file.class.methods;
  bodies = file.bodies;
}

-- a class is what its file says, which is a list of bytes, and has at most 65,535 methods
pub record IsClass (class : Class) : Type 0 where
  pub bytes : All (λ byte. byte < 256) class.file
  pub says : File
  pub is : IsFile class.file says
  pub class_is : class ≡ class_of class.file says
  pub few : length class.methods < 2 ^ 16

-- these bytes are the file of a class
abbrev pub IsClassOf : List ℕ → Class → Type 0
IsClassOf bytes class = (class.file ≡ bytes) × IsClass class

-- METHODS AND FIELDS

-- what the method of this number does, where it isn't foreign
abbrev pub body_in : Class → ℕ → Option Body
body_in class method = option_and_then (λ (body : Option Body). body) (slice_get class.bodies method)

-- the number of the method, where what it does is known
abbrev pub if_known : Class → ℕ → Option ℕ
if_known class method = option_map (λ (body : Body). method) (body_in class method)

-- the number of the method of this name and descriptor, where there is one that isn't foreign
abbrev pub method_in : Class → (name desc : List ℕ) → Option ℕ
method_in class name desc = option_and_then (if_known class) (place_named name desc class.methods)

-- the int that the static field of this name and descriptor has at first, or 0 where it isn't of an int's type
abbrev pub static_in : Class → (name desc : List ℕ) → Option ℤ
static_in class name desc = option_and_then (λ field. option_and_then (λ (initial : Option ℤ). initial) (slice_get class.statics field)) (place_named name desc class.fields)

-- where the initialiser stands (JVMS SE 8, section 2.9), whatever its flags and the file's version: one that isn't static
-- is foreign, as any method that isn't
abbrev pub initialiser_place : Class → Option ℕ
initialiser_place class = place_named (codes "<clinit>") (codes "()V") class.methods

-- whether an initialiser that is there is foreign
abbrev pub state_of : Option Body → Initialiser
state_of None = Foreign
state_of (Some body) = Present

-- whether the class has an initialiser, and whether that is foreign
abbrev pub initialiser_in : Class → Initialiser
initialiser_in class = option_map_or (λ method. state_of (body_in class method)) (initialiser_place class) Absent

-- the number of its initialiser, where it has one that isn't foreign
abbrev pub initialiser_method : Class → Option ℕ
initialiser_method class = method_in class (codes "<clinit>") (codes "()V")

-- PROGRAMS

-- the classes of a program, by their numbers, and its entry
pub record Program : Type 0 where
  pub classes : List Class
  pub entry : Option MethodId

-- the program without classes
abbrev pub empty_program : Program
empty_program = record { classes = []; entry = None }

-- the number of the class of this name, where there is one
abbrev pub class_named : Program → List ℕ → Option ℕ
class_named P name = position (λ (class : Class). bytes_eq class.name name) P.classes

-- the method of these numbers
abbrev pub method_id : (class method : ℕ) → MethodId
method_id class method = record { class = class; method = method }

-- the method of this name and descriptor in the class of this number, where there is one that isn't foreign
abbrev pub method_of : Program → ℕ → (name desc : List ℕ) → Option MethodId
method_of P number name desc = option_and_then (λ class. option_map (method_id number) (method_in class name desc)) (slice_get P.classes number)

-- what a method does, where it isn't foreign
abbrev pub body_of : Program → MethodId → Option Body
body_of P id = option_and_then (λ class. body_in class id.method) (slice_get P.classes id.class)

-- the name and the descriptor of a method, where there is one
abbrev pub key_of : Program → MethodId → Option Key
key_of P id = option_and_then (λ (class : Class). slice_get class.methods id.method) (slice_get P.classes id.class)

-- the name and the descriptor of a method with what it does, where it isn't foreign
abbrev pub known_body : Program → MethodId → Option (Key × Body)
known_body P id = option_and_then (λ (body : Body). option_map (λ (key : Key). (key, body)) (key_of P id)) (body_of P id)

-- the same of a method that is lent, without where it lies in memory
abbrev pub body_seen : MethodBody → Key × Body
body_seen method = ((method.name.now, method.desc.now), record { max_stack = method.max_stack; max_locals = method.max_locals; code = method.code.now })

-- whether a method of this name and descriptor can be an entry: it takes at most eight ints and returns an int or
-- nothing, and is no initialiser
abbrev pub can_be_entry : Key → Bool
can_be_entry key = is_some (entry_part_of key.1) && not (bytes_eq key.0 (codes "<clinit>"))

-- the class is there, and its method of this number isn't foreign and can be an entry
abbrev pub CanEnter : Option Class → ℕ → Type 0
CanEnter class method = IsSome (option_and_then (λ (c : Class). body_in c method) class) × (option_map can_be_entry (option_and_then (λ (c : Class). slice_get c.methods method) class) ≡ Some true)

-- no two classes have the same name
abbrev pub AreApart : List Class → Type 0
AreApart classes = (i j : ℕ) (first second : Class) → slice_get classes i ≡ Some first → slice_get classes j ≡ Some second → first.name ≡ second.name → i ≡ j

-- a program has at most 64 classes, each of which is what its file says and has a name of its own, and its entry, if it has
-- one, is a method that can be an entry
pub record IsProgram (P : Program) : Type 0 where
  pub few : length P.classes ≤ 64
  pub each : All IsClass P.classes
  pub apart : AreApart P.classes
  pub enters : IfSome P.entry (λ id. CanEnter (slice_get P.classes id.class) id.method)

-- CLASSES THAT COME

-- the program with one class more
abbrev pub with_class : Program → Class → Program
with_class P class = record P { classes = P.classes ++ class ∷ [] }

-- These bytes are the file of a class of a new name, there are fewer than 64, and the new one has this number then.
pub record Adds (before : Program) (bytes : List ℕ) (number : ℕ) (after : Program) : Type 0 where
  pub class : Class
  pub is : IsClassOf bytes class
  pub new : class_named before class.name ≡ None
  pub few : length before.classes < 64
  pub last : number ≡ length before.classes
  pub after_is : after ≡ with_class before class

-- the method of this class that has the name and descriptor, where it isn't foreign
abbrev pub same_in : ℕ → Class → Key → Option MethodId
same_in number class key = option_map (method_id number) (method_in class key.0 key.1)

-- What an entry is once the class of this number is another: where it is a method of that class, the one of its name and
-- descriptor in the new class, if that isn't foreign; and else it stays.
abbrev pub kept_entry : Program → ℕ → Class → MethodId → Option MethodId
kept_entry P number class id = if id.class == number then option_and_then (same_in number class) (key_of P id) else Some id

-- the program with another class of this number
abbrev pub with_other : Program → ℕ → Class → Program
with_other P number class = record { classes = slice_set P.classes number class; entry = option_and_then (kept_entry P number class) P.entry }

-- These bytes are the file of a class of a name that is there under this number.
pub record Replaces (before : Program) (bytes : List ℕ) (number : ℕ) (after : Program) : Type 0 where
  pub class : Class
  pub is : IsClassOf bytes class
  pub there : class_named before class.name ≡ Some number
  pub after_is : after ≡ with_other before number class
