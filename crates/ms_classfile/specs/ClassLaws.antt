-- What is said of each class file.
use Rattle.std.specs.Prelude.{◌≡◌, ℕ, ◌+◌, ◌*◌, ◌^◌, ◌<◌, ◌≤◌, List, [], ◌∷◌, ◌++◌, length, false, IfSome, All}
use Rattle.ms_classfile.specs.declared.fault.ClassFault.{ClassFault}
use Rattle.ms_classfile.specs.declared.fault.ClassFault.TheVariants.{At, NoMemory}
use Rattle.ms_classfile.specs.ClassFile.{Code, Method, is_there}

-- Of a code in a file of so many bytes: it has from 1 to 65,535 bytes, and it and its exception table, of which each entry has
-- eight bytes, end within the file.
pub record LiesWithin (size : ℕ) (code : Code) : Type 0 where
  pub some : 0 < length code.code
  pub short : length code.code < 2 ^ 16
  pub bytes : All (λ byte. byte < 256) code.code
  pub code_ends : code.code_at + length code.code ≤ size
  pub table_ends : code.table_at + 8 * length code.table ≤ size

-- so it is of each method's code
abbrev pub HasCodeWithin : ℕ → Method → Type 0
HasCodeWithin size method = IfSome method.code (LiesWithin size)

-- each of the keys, which are names with descriptors, differs from all of the earlier ones and from the keys before it
abbrev pub AreNew : (earlier keys : List (List ℕ × List ℕ)) → Type 0
AreNew earlier [] = Unit {0}
AreNew earlier (key ∷ keys) = (is_there key.0 key.1 earlier ≡ false) × AreNew (earlier ++ key ∷ []) keys

-- no two of these keys are equal
abbrev pub AreDistinct : List (List ℕ × List ℕ) → Type 0
AreDistinct keys = AreNew [] keys

-- the fault is one of the file, with a kind and a place
abbrev pub IsPlaced : ClassFault → Type 0
IsPlaced (At kind at) = Unit {0}
IsPlaced NoMemory = ⊥
