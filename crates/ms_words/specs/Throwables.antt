-- The tree of throwable classes that the machine knows, all of java.lang.
use Rattle.std.specs.Prelude.{ℕ, zero, suc, List, [], ◌∷◌, Bool, false, ◌||◌, ◌==◌, Option, Some, None, codes, find}
use Rattle.std.specs.Str.{bytes_eq}
use Rattle.ms_words.specs.declared.thrown.Thrown.{Thrown}
use Rattle.ms_words.specs.declared.thrown.Thrown.TheVariants.{Throwable, Exception, Error, RuntimeException, Arithmetic, IndexOutOfBounds, NegativeArraySize, NullPointer, IllegalArgument, IllegalState, UnsupportedOperation, ArrayIndexOutOfBounds}

-- the name of the class, as class files spell it
abbrev pub class_name : Thrown → List ℕ
class_name Throwable = codes "java/lang/Throwable"
class_name Exception = codes "java/lang/Exception"
class_name Error = codes "java/lang/Error"
class_name RuntimeException = codes "java/lang/RuntimeException"
class_name Arithmetic = codes "java/lang/ArithmeticException"
class_name IndexOutOfBounds = codes "java/lang/IndexOutOfBoundsException"
class_name NegativeArraySize = codes "java/lang/NegativeArraySizeException"
class_name NullPointer = codes "java/lang/NullPointerException"
class_name IllegalArgument = codes "java/lang/IllegalArgumentException"
class_name IllegalState = codes "java/lang/IllegalStateException"
class_name UnsupportedOperation = codes "java/lang/UnsupportedOperationException"
class_name ArrayIndexOutOfBounds = codes "java/lang/ArrayIndexOutOfBoundsException"

-- the class above it in the tree; Throwable has none
abbrev pub parent : Thrown → Option Thrown
parent Throwable = None
parent Exception = Some Throwable
parent Error = Some Throwable
parent RuntimeException = Some Exception
parent IndexOutOfBounds = Some RuntimeException
parent ArrayIndexOutOfBounds = Some IndexOutOfBounds
parent Arithmetic = Some RuntimeException
parent NegativeArraySize = Some RuntimeException
parent NullPointer = Some RuntimeException
parent IllegalArgument = Some RuntimeException
parent IllegalState = Some RuntimeException
parent UnsupportedOperation = Some RuntimeException

-- all of them, in the order in which they are numbered
abbrev pub every_thrown : List Thrown
every_thrown = Throwable ∷ Exception ∷ Error ∷ RuntimeException ∷ Arithmetic ∷ IndexOutOfBounds ∷ NegativeArraySize
    ∷ NullPointer ∷ IllegalArgument ∷ IllegalState ∷ UnsupportedOperation ∷ ArrayIndexOutOfBounds ∷ []

-- the class of this name, where one of them has it
abbrev pub thrown_named : List ℕ → Option Thrown
thrown_named name = find (λ thrown. bytes_eq (class_name thrown) name) every_thrown

-- the place of a class in their order, counted from 0
abbrev pub number_of : Thrown → ℕ
number_of Throwable = 0
number_of Exception = 1
number_of Error = 2
number_of RuntimeException = 3
number_of Arithmetic = 4
number_of IndexOutOfBounds = 5
number_of NegativeArraySize = 6
number_of NullPointer = 7
number_of IllegalArgument = 8
number_of IllegalState = 9
number_of UnsupportedOperation = 10
number_of ArrayIndexOutOfBounds = 11

-- whether the class or one above it is the other one, looking at no more than so many classes, itself included
abbrev pub is_below : ℕ → Option Thrown → Thrown → Bool
is_below n None other = false
is_below zero (Some class) other = false
is_below (suc n) (Some class) other = (number_of class == number_of other) || is_below n (parent class) other

-- whether the class is the other one or stands below it; no class stands more than four below Throwable
abbrev pub is_a : Thrown → Thrown → Bool
is_a class other = is_below 5 (Some class) other
