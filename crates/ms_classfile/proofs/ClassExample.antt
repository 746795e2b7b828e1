-- The class file format computed on a small file: one class T with one static method f of an int.
use Rattle.std.proofs.Common.{◌≡◌, ℕ, ◌+◌, List, [], ◌∷◌, ◌++◌, take, drop, Option, Some, None, Result, Ok, Err, refl, codes}
use Rattle.ms_pool.specs.Places.{Place, beginning}
use Rattle.ms_pool.specs.PoolReading.{behind_tag, entries_at, entry_at, handle_at, one_at, pool_at, text_at, two_at, wide_at, word_at}
use Rattle.ms_pool.specs.declared.code.ClassKind.TheVariants as kinds
use Rattle.ms_classfile.specs.declared.fault.ClassFault.{ClassFault}
use Rattle.ms_classfile.specs.declared.fault.ClassFault.TheVariants.{At}
use Rattle.ms_classfile.specs.ClassFile.{Class, Method, attribute, class_file, code, code_attribute, constant_value, field, field_attribute, handler, head, header, indexed, interface, method, method_attribute, passed, pool, class_and_super}

abbrev file : List ℕ
file =
    202 ∷ 254 ∷ 186 ∷ 190 ∷ 0 ∷ 0 ∷ 0 ∷ 52 ∷ 0 ∷ 8 ∷ 1 ∷ 0 ∷ 1 ∷ 84 ∷ 7 ∷ 0 ∷ 1 ∷ 1 ∷ 0 ∷ 16 ∷ codes "java/lang/Object" ++ 7 ∷ 0 ∷ 3 ∷ 1 ∷ 0 ∷ 1 ∷ 102 ∷ 1 ∷ 0 ∷ 4 ∷ 40 ∷ 73 ∷ 41 ∷ 73 ∷ 1 ∷ 0 ∷ 4 ∷ codes "Code" ++
    0 ∷ 33 ∷ 0 ∷ 2 ∷ 0 ∷ 4 ∷ 0 ∷ 0 ∷ 0 ∷ 0 ∷ 0 ∷ 1 ∷ 0 ∷ 9 ∷ 0 ∷ 5 ∷ 0 ∷ 6 ∷ 0 ∷ 1 ∷ 0 ∷ 7 ∷ 0 ∷ 0 ∷ 0 ∷ 22 ∷ 0 ∷ 2 ∷ 0 ∷ 1 ∷ 0 ∷ 0 ∷ 0 ∷ 10 ∷ 26 ∷ 16 ∷ 10 ∷ 164 ∷ 0 ∷ 5 ∷ 4 ∷ 172 ∷ 3 ∷ 172 ∷ 0 ∷ 0 ∷ 0 ∷ 0 ∷ 0 ∷ 0 ∷ []

abbrev with_byte : ℕ → ℕ → List ℕ
with_byte at byte = take at file ++ byte ∷ drop (at + 1) file

abbrev class_of : Result (Class × Place) ClassFault → Option (List ℕ × List Method)
class_of (Ok x) = Some (x.0.name, x.0.methods)
class_of (Err fault) = None

abbrev fault_of : Result (Class × Place) ClassFault → Option ClassFault
fault_of (Ok x) = None
fault_of (Err fault) = Some fault

abbrev read : List ℕ → Result (Class × Place) ClassFault
read bytes = class_file.read (beginning bytes)

is_read : class_of (read file) ≡ Some (codes "T", record { access = 9; name = codes "f"; name_index = 5; desc = codes "(I)I"; desc_index = 6; code = Some (record { max_stack = 2; max_locals = 1; code = 26 ∷ 16 ∷ 10 ∷ 164 ∷ 0 ∷ 5 ∷ 4 ∷ 172 ∷ 3 ∷ 172 ∷ []; code_at = 91; table = []; table_at = 103 }); at = 69 } ∷ [])
unfolding class_file header class_and_super interface pool pool_at entries_at entry_at behind_tag text_at word_at wide_at one_at two_at handle_at indexed attribute passed field field_attribute constant_value method method_attribute code_attribute code handler head
is_read = refl

-- no bytes, another magic number, another version, no pool, another parent, a Code that doesn't fill its length, one byte more
nothing : fault_of (read []) ≡ Some (At kinds.Short 0)
unfolding class_file header
nothing = refl

magic : fault_of (read (with_byte 0 203)) ≡ Some (At kinds.Magic 0)
unfolding class_file header
magic = refl

version : fault_of (read (with_byte 7 53)) ≡ Some (At kinds.Version 6)
unfolding class_file header
version = refl

no_pool : fault_of (read (with_byte 9 0)) ≡ Some (At kinds.Pool 8)
unfolding class_file header pool pool_at
no_pool = refl

parent : fault_of (read (with_byte 62 2)) ≡ Some (At kinds.Super 61)
unfolding class_file header class_and_super interface pool pool_at entries_at entry_at behind_tag text_at word_at wide_at one_at two_at handle_at indexed
parent = refl

long_code : fault_of (read (with_byte 82 23)) ≡ Some (At kinds.Shape 77)
unfolding class_file header class_and_super interface pool pool_at entries_at entry_at behind_tag text_at word_at wide_at one_at two_at handle_at indexed attribute passed field field_attribute constant_value method method_attribute code_attribute code handler head
long_code = refl

trailing : fault_of (read (file ++ 0 ∷ [])) ≡ Some (At kinds.Trailing 107)
unfolding class_file header class_and_super interface pool pool_at entries_at entry_at behind_tag text_at word_at wide_at one_at two_at handle_at indexed attribute passed field field_attribute constant_value method method_attribute code_attribute code handler head
trailing = refl
