-- Instructions, by what they do (JVMS SE 8, section 6.5). Nothing here names a place of the program: where an instruction
-- leads is said by `Control`.
use Rattle.std.specs.Prelude.{ℕ, ℤ, Bool, List, Option}
use Rattle.ms_words.specs.declared.operator.Un.{Un}
use Rattle.ms_words.specs.declared.operator.Bin.{Bin}
use Rattle.ms_words.specs.declared.operator.Rel.{Rel}
use Rattle.ms_words.specs.declared.operator.Rel.TheVariants.{Eq, Ne, Lt, Ge, Gt, Le}
use Rattle.ms_words.specs.declared.descriptor.FieldType.{FieldType}
use Rattle.ms_words.specs.declared.thrown.Thrown.{Thrown}
use Rattle.ms_words.specs.Descriptors.{Signature}

-- what a branch compares by: the six relations of the instruction set
pub data Comparison : Type 0 where
  Equal : Comparison
  NotEqual : Comparison
  Less : Comparison
  AtLeast : Comparison
  Greater : Comparison
  AtMost : Comparison

-- the relation that a comparison is
abbrev pub relation : Comparison → Rel
relation Equal = Eq
relation NotEqual = Ne
relation Less = Lt
relation AtLeast = Ge
relation Greater = Gt
relation AtMost = Le

-- Whether an instruction is one of ints or of references (JVMS SE 8, section 2.11.1). What it does is the same; the type
-- rules tell the two apart.
pub data Sort : Type 0 where
  OfInt : Sort
  OfReference : Sort

-- whether a class has an initialiser (JVMS SE 8, section 2.9): none, one, or one that is foreign
pub data Initialiser : Type 0 where
  Absent : Initialiser
  Present : Initialiser
  Foreign : Initialiser

-- A static field or method that an instruction names (JVMS SE 8, section 5.4.3): the name of its class, its own name, its
-- descriptor; the number of that class, where it is there; whether the member is there, static and not foreign; and
-- whether the class has an initialiser.
pub record Member : Type 0 where
  pub class_name : List ℕ
  pub name : List ℕ
  pub descriptor : List ℕ
  pub class : Option ℕ
  pub is_there : Bool
  pub initialiser : Initialiser

-- the instructions, in groups
pub data Instr : Type 0 where
  -- does nothing: nop
  Skip : Instr
  -- puts a word on the stack: iconst, bipush, sipush, ldc and ldc_w of an int
  Push : ℤ → Instr
  -- puts null on the stack: aconst_null
  PushNull : Instr
  -- puts a text on the stack: ldc and ldc_w of a string
  PushText : List ℕ → Instr
  -- puts the value of a local on the stack: iload, aload
  Load : Sort → ℕ → Instr
  -- takes a value into a local: istore, astore
  Store : Sort → ℕ → Instr
  -- Takes so many values, and puts back those of these places, the top first; places count from the top, which has place
  -- 0: pop, pop2, dup, dup_x1, dup_x2, dup2, dup2_x1, dup2_x2, swap.
  Shuffle : ℕ → List ℕ → Instr
  -- replaces an int by what the operator gives: ineg, i2b, i2c, i2s
  Change : Un → Instr
  -- replaces two ints by what the operator gives: iadd, isub, imul, ishl, ishr, iushr, iand, ior, ixor
  Combine : Bin → Instr
  -- the same of an operator that has no result by 0: idiv, irem
  Divide : Bin → Instr
  -- adds a word to a local: iinc
  Increment : ℕ → ℤ → Instr
  -- takes two ints, and branches where the relation holds: if_icmp
  Compare : Comparison → Instr
  -- takes an int, and branches where the relation to 0 holds: ifeq and its kin
  CompareZero : Comparison → Instr
  -- takes two references, and branches where they are the same, or where they are not: if_acmpeq, if_acmpne
  CompareReferences : (same : Bool) → Instr
  -- takes a reference, and branches where it is null, or where it is not: ifnull, ifnonnull
  CompareNull : (null : Bool) → Instr
  -- branches: goto, goto_w
  Goto : Instr
  -- takes an int, and branches by its key: tableswitch, lookupswitch
  Switch : List ℤ → Instr
  -- takes a value and returns it: ireturn, areturn
  ReturnValue : Sort → Instr
  -- returns nothing: return
  ReturnVoid : Instr
  -- puts the value of a static field of this type on the stack; before a store that is this int, or null for arrays: getstatic
  GetStatic : Member → FieldType → ℤ → Instr
  -- takes a value into a static field of this type: putstatic
  PutStatic : Member → FieldType → Instr
  -- takes arguments and calls a static method: invokestatic
  Invoke : Member → Signature → Instr
  -- makes a throwable: new
  New : Thrown → Instr
  -- initialises a throwable, with a message or without one: invokespecial
  Construct : (with_message : Bool) → Thrown → Instr
  -- takes a throwable and throws it: athrow
  Throw : Instr
  -- takes a length and makes an array of ints: newarray
  NewArray : Instr
  -- replaces an array by its length: arraylength
  ArrayLength : Instr
  -- takes an index and an array, and puts the cell there on the stack: iaload
  ArrayLoad : Instr
  -- takes an int, an index and an array, and stores the int there: iastore
  ArrayStore : Instr
