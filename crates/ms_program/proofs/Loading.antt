-- The parts of a class are those of its file.
use Rattle.std.proofs.Common.{◌≡◌, ℕ, ◌<◌, ◌^◌, All, length, List, Option, ℤ, Result, Ok, Err, ap, arith, subst, sym, ◌∙◌}
use Rattle.std.specs.Prelude.{◌↔◌, IfOk}
use Rattle.ms_pool.specs.declared.code.ClassKind.{ClassKind}
use Rattle.ms_pool.specs.Exact.{ok_is}
use Rattle.ms_classfile.specs.declared.fault.ClassFault.{ClassFault}
use Rattle.ms_classfile.specs.declared.fault.ClassFault.TheVariants.{At}
use Rattle.ms_program.specs.Reading.{file_read}
use Rattle.ms_program.specs.Parts.{IsOnlyClassOf}
use Rattle.std.proofs.lemmas.List.{length-map}
use Rattle.ms_classfile.specs.ClassFile.{method_key}
use Rattle.ms_pool.specs.Pools.{Placed}
use Rattle.ms_pool.specs.ByNumber.{entries_in, places_of}
use Rattle.ms_program.specs.declared.body.Body.{Body}
use Rattle.ms_program.specs.Files.{File, IsFile, IsFirstFault}
use Rattle.ms_program.specs.Names.{Key}
use Rattle.ms_program.specs.Programs.{Class, HasMembers, IsClass, IsClassOf, class_of, class_with}

same_class : (bytes : List ℕ) (pool other : List (Option Placed)) (name name' : List ℕ) (fields fields' : List Key) (statics statics' : List (Option ℤ)) (methods methods' : List Key) (bodies : List (Option Body))
    → pool ≡ other → name ≡ name' → fields ≡ fields' → statics ≡ statics' → methods ≡ methods' → class_with bytes pool name fields statics methods bodies ≡ class_with bytes other name' fields' statics' methods' bodies
same_class bytes pool other name name' fields fields' statics statics' methods methods' bodies one two three four five = cc

pub is_class : (bytes places : List ℕ) (file : File) (name : List ℕ) (fields : List Key) (statics : List (Option ℤ)) (methods : List Key) → All (λ byte. byte < 256) bytes → IsFile bytes file → HasMembers file.class name fields statics methods
    → places ≡ places_of file.class.pool → entries_in bytes (places_of file.class.pool) ≡ file.class.pool → length file.class.methods < 2 ^ 16 → IsClass (class_with bytes (entries_in bytes places) name fields statics methods file.bodies)
is_class bytes places file name fields statics methods all is has placed held few = record {
  bytes = all;
  says = file;
  is = is;
  class_is = same_class bytes (entries_in bytes places) file.class.pool name file.class.name fields _ statics _ methods _ file.bodies (ap (entries_in bytes) placed ∙ held) has.name_is has.fields_are has.statics_are has.methods_are;
  few = omega (arith, few, ap (λ (keys : List Key). length keys) has.methods_are, length-map file.class.methods method_key);
}

-- ONE CLASS OF A FILE

module _ (file_is : (bytes : List ℕ) (file : File) → All (λ byte. byte < 256) bytes → IsFile bytes file ↔ (file_read bytes ≡ Ok file)) where
  read_as : (bytes : List ℕ) (class : Class) → All (λ byte. byte < 256) bytes → (is : IsClassOf bytes class) → file_read bytes ≡ Ok is.1.says
  read_as bytes class all is = (file_is bytes is.1.says all).0 (subst (λ (b : List ℕ). IsFile b is.1.says) is.0 is.1.is)

  pub one_class : (bytes : List ℕ) (class other : Class) → All (λ byte. byte < 256) bytes → IsClassOf bytes class → IsClassOf bytes other → class ≡ other
  one_class bytes class other all is are =
      let same : is.1.says ≡ are.1.says = ok_is {Fault = ClassFault} is.1.says are.1.says (sym (read_as bytes class all is) ∙ read_as bytes other all are) in
      is.1.class_is ∙ ap (λ (b : List ℕ). class_of b is.1.says) (is.0 ∙ sym are.0) ∙ ap (class_of other.file) same ∙ sym are.1.class_is

  module _ (fault_is : (bytes : List ℕ) (kind : ClassKind) (at : ℕ) → All (λ byte. byte < 256) bytes → IsFirstFault bytes kind at ↔ (file_read bytes ≡ Err (At kind at))) where
    pub no_fault : (bytes : List ℕ) (class : Class) (kind : ClassKind) (at : ℕ) → All (λ byte. byte < 256) bytes → IsClassOf bytes class → IsFirstFault bytes kind at → ⊥
    no_fault bytes class kind at all is broken = absurd (let e = sym (read_as bytes class all is) ∙ (fault_is bytes kind at all).0 broken in cc)

-- the only class of a file is the one that is known
pub only_copy : {E : Type 0} (bytes : List ℕ) (known class : Class) (result : Result Class E) → IfOk result (IsOnlyClassOf bytes) → IsClassOf bytes known → known ≡ class → IfOk result (λ copy. copy ≡ class)
only_copy bytes known class (Ok copy) only is same = only known is ∙ same
only_copy bytes known class (Err fault) only is same = tt
