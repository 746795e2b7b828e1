-- The definitions of a layout computed on small plans.
use Rattle.std.proofs.Common.{zero, suc, ◌≤◌, ◌<◌, ◌≢◌, length, All, AllPairs, subst, arith, ◌≡◌, ℕ, List, [], ◌∷◌, Some, refl, false, negsuc}
use Rattle.std.specs.Prelude.{codes, map}
use Rattle.ms_pool.specs.Pools.{numbered, spelled_entry}
use Rattle.ms_classfile.specs.ClassFile.{IsClassFile}
use Rattle.ms_classwrite.specs.declared.plan.PlanMethod.{PlanMethod}
use Rattle.ms_classwrite.specs.declared.plan.PoolLine.TheVariants.{Utf8, Integer, Class, NameAndType, Field}
use Rattle.ms_classwrite.specs.Plans.{AreLinked, Plan, entry_of, is_linked}
use Rattle.ms_classwrite.specs.ReadBack.{HasTypes, IsReadable, MethodFits, class_of}
use Rattle.ms_classwrite.proofs.Files.{read_back}
use Rattle.ms_classwrite.proofs.Fits.{Key}
use Rattle.ms_classwrite.specs.Layout.{has_too_many, is_too_large, layout, layout_with, pool_of, spelled_class, spelled_code, spelled_constant, spelled_field, spelled_fields, spelled_method, spelled_methods, spelled_start, with_class, with_classes, with_constant, with_field, with_method}

-- static public int f(int): whether the argument is above ten
abbrev small_method : PlanMethod
small_method = record { access = 9; name = codes "f"; desc = codes "(I)I"; max_stack = 2; max_locals = 1; code = 0x1a ∷ 0x10 ∷ 0x0a ∷ 0xa4 ∷ 0x00 ∷ 0x05 ∷ 0x04 ∷ 0xac ∷ 0x03 ∷ 0xac ∷ [] }

-- class T with this method
abbrev small : Plan
small = record {
  name = codes "T";
  lines = [];
  fields = [];
  methods = small_method ∷ [];
}

abbrev small_bytes : List ℕ
small_bytes =
    0xca ∷ 0xfe ∷ 0xba ∷ 0xbe ∷ 0x00 ∷ 0x00 ∷ 0x00 ∷ 0x34 ∷ 0x00 ∷ 0x08 ∷ 0x01 ∷ 0x00 ∷ 0x01 ∷ 0x54 ∷ 0x07 ∷ 0x00 ∷
    0x01 ∷ 0x01 ∷ 0x00 ∷ 0x10 ∷ 0x6a ∷ 0x61 ∷ 0x76 ∷ 0x61 ∷ 0x2f ∷ 0x6c ∷ 0x61 ∷ 0x6e ∷ 0x67 ∷ 0x2f ∷ 0x4f ∷ 0x62 ∷
    0x6a ∷ 0x65 ∷ 0x63 ∷ 0x74 ∷ 0x07 ∷ 0x00 ∷ 0x03 ∷ 0x01 ∷ 0x00 ∷ 0x01 ∷ 0x66 ∷ 0x01 ∷ 0x00 ∷ 0x04 ∷ 0x28 ∷ 0x49 ∷
    0x29 ∷ 0x49 ∷ 0x01 ∷ 0x00 ∷ 0x04 ∷ 0x43 ∷ 0x6f ∷ 0x64 ∷ 0x65 ∷ 0x00 ∷ 0x21 ∷ 0x00 ∷ 0x02 ∷ 0x00 ∷ 0x04 ∷ 0x00 ∷
    0x00 ∷ 0x00 ∷ 0x00 ∷ 0x00 ∷ 0x01 ∷ 0x00 ∷ 0x09 ∷ 0x00 ∷ 0x05 ∷ 0x00 ∷ 0x06 ∷ 0x00 ∷ 0x01 ∷ 0x00 ∷ 0x07 ∷ 0x00 ∷
    0x00 ∷ 0x00 ∷ 0x16 ∷ 0x00 ∷ 0x02 ∷ 0x00 ∷ 0x01 ∷ 0x00 ∷ 0x00 ∷ 0x00 ∷ 0x0a ∷ 0x1a ∷ 0x10 ∷ 0x0a ∷ 0xa4 ∷ 0x00 ∷
    0x05 ∷ 0x04 ∷ 0xac ∷ 0x03 ∷ 0xac ∷ 0x00 ∷ 0x00 ∷ 0x00 ∷ 0x00 ∷ 0x00 ∷ 0x00 ∷ []

small_pool : pool_of small ≡ Utf8 (codes "T") ∷ Class 1 ∷ Utf8 (codes "java/lang/Object") ∷ Class 3 ∷ Utf8 (codes "f") ∷ Utf8 (codes "(I)I") ∷ Utf8 (codes "Code") ∷ []
unfolding pool_of with_classes with_class with_method
small_pool = refl

small_layout : layout small ≡ small_bytes
unfolding pool_of with_classes with_class with_method layout_with spelled_start spelled_class spelled_fields spelled_methods spelled_method spelled_code
small_layout = refl

small_fits : is_too_large small ≡ false
unfolding pool_of with_classes with_class with_method layout_with spelled_start spelled_class spelled_fields spelled_methods spelled_method spelled_code has_too_many
small_fits = refl

-- the method begins at 69, behind the number of methods, its code at 91, and its exception table at 103
small_class : class_of small ≡ record {
  major = 52;
  pool = numbered 8 (map entry_of (pool_of small));
  name = codes "T";
  this_index = 2;
  fields = [];
  methods = record {
    access = 9;
    name = codes "f";
    name_index = 5;
    desc = codes "(I)I";
    desc_index = 6;
    at = 69;
    code = Some (record { max_stack = 2; max_locals = 1; code = 0x1a ∷ 0x10 ∷ 0x0a ∷ 0xa4 ∷ 0x00 ∷ 0x05 ∷ 0x04 ∷ 0xac ∷ 0x03 ∷ 0xac ∷ []; code_at = 91; table = []; table_at = 103 });
  } ∷ [];
}
unfolding pool_of with_classes with_class with_method spelled_start spelled_class spelled_fields
small_class = refl

-- THE LAW, OF THIS PLAN

all_of_one : {X : Type 0} (P : X → Type 0) (x : X) → P x → All P (x ∷ [])
all_of_one P x is zero d below = is
all_of_one P x is (suc k) d below = absurd (omega (arith, below))

no_pairs : {X : Type 0} (R : X → X → Type 0) (xs : List X) → length xs ≤ 1 → AllPairs R xs
no_pairs R xs few i j d before below = absurd (omega (arith, few, before, below))

small_types : HasTypes small
small_types = record {
  lines = λ k d below. absurd (omega arith);
  fields = λ k d below. absurd (omega arith);
  methods = all_of_one MethodFits small_method (record { access = omega arith; max_stack = omega arith; max_locals = omega arith });
}

small_readable : IsReadable small
small_readable = record {
  other = refl;
  constants = λ k d below. absurd (omega arith);
  coded = all_of_one (λ (method : PlanMethod). 0 < length method.code) small_method (omega arith);
  fields_differ = no_pairs (λ (one other : Key). one ≢ other) [] (omega arith);
  methods_differ = no_pairs (λ (one other : Key). one ≢ other) ((small_method.name, small_method.desc) ∷ []) (omega arith);
}

small_is_read : IsClassFile small_bytes (class_of small)
small_is_read = subst (λ (bytes : List ℕ). IsClassFile bytes (class_of small)) small_layout (read_back small refl small_fits small_types small_readable)

-- class T with a static final int x = -2, and lines that name it: of what it needs its name, the class, the field's name,
-- its descriptor and its int are there
abbrev lined : Plan
lined = record {
  name = codes "T";
  lines = Utf8 (codes "T") ∷ Class 1 ∷ Utf8 (codes "x") ∷ Utf8 (codes "I") ∷ NameAndType 3 4 ∷ Field 2 5 ∷ Integer (negsuc 1) ∷ [];
  fields = record { access = 0x18; name = codes "x"; desc = codes "I"; constant = Some (negsuc 1) } ∷ [];
  methods = [];
}

lined_linked : AreLinked lined.lines
lined_linked = refl

-- a class whose name is no text
selfish : is_linked (Class 1 ∷ []) (Class 1) ≡ false
selfish = refl

lined_pool : pool_of lined ≡ Utf8 (codes "T") ∷ Class 1 ∷ Utf8 (codes "x") ∷ Utf8 (codes "I") ∷ NameAndType 3 4 ∷ Field 2 5 ∷ Integer (negsuc 1) ∷ Utf8 (codes "java/lang/Object") ∷ Class 8 ∷ Utf8 (codes "ConstantValue") ∷ []
unfolding pool_of with_classes with_class with_field with_constant
lined_pool = refl

lined_fields : spelled_fields (pool_of lined) lined.fields ≡ 0 ∷ 1 ∷ 0 ∷ 0x18 ∷ 0 ∷ 3 ∷ 0 ∷ 4 ∷ 0 ∷ 1 ∷ 0 ∷ 10 ∷ 0 ∷ 0 ∷ 0 ∷ 2 ∷ 0 ∷ 7 ∷ []
unfolding pool_of with_classes with_class with_field with_constant spelled_fields spelled_field spelled_constant
lined_fields = refl

-- the int is spelled as its two's complement
lined_int : spelled_entry (entry_of (Integer (negsuc 1))) ≡ 3 ∷ 0xff ∷ 0xff ∷ 0xff ∷ 0xfe ∷ []
lined_int = refl
