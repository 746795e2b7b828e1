-- The join of every two kinds, and the lowest common ancestor of every two throwables, computed.
use Rattle.std.proofs.Common.{◌≡◌, List, [], ◌∷◌, map, refl}
use Rattle.ms_words.specs.declared.thrown.Thrown.{Thrown}
use Rattle.ms_words.specs.declared.thrown.Thrown.TheVariants.{Throwable, Exception, Error, RuntimeException, Arithmetic, IndexOutOfBounds, NegativeArraySize, NullPointer, IllegalArgument, IllegalState, UnsupportedOperation, ArrayIndexOutOfBounds}
use Rattle.ms_words.specs.Throwables.{every_thrown}
use Rattle.ms_typing.specs.declared.kind.PlaceKind.{PlaceKind}
use Rattle.ms_typing.specs.declared.kind.PlaceKind.TheVariants.{Int, Null, Array, Text, Ref, New, Unset}
use Rattle.ms_typing.specs.declared.kind.PlaceKind.TheVariants as kinds
use Rattle.ms_typing.specs.Kinds.{common, joined, joined_kind}
use Rattle.ms_typing.proofs.Written.{shape}

-- CLASSES

-- shorter names for those that others stand below
abbrev T : Thrown
T = Throwable

abbrev E : Thrown
E = Exception

abbrev R : Thrown
R = RuntimeException

abbrev I : Thrown
I = IndexOutOfBounds

-- by rows and columns in the order of the classes: Throwable, Exception, Error, RuntimeException, Arithmetic, IndexOutOfBounds,
-- NegativeArraySize, NullPointer, IllegalArgument, IllegalState, UnsupportedOperation, ArrayIndexOutOfBounds
ancestors : map (λ class. map (common class) every_thrown) every_thrown ≡
    (T ∷ T ∷ T ∷ T ∷ T ∷ T ∷ T ∷ T ∷ T ∷ T ∷ T ∷ T ∷ [])
    ∷ (T ∷ E ∷ T ∷ E ∷ E ∷ E ∷ E ∷ E ∷ E ∷ E ∷ E ∷ E ∷ [])
    ∷ (T ∷ T ∷ Error ∷ T ∷ T ∷ T ∷ T ∷ T ∷ T ∷ T ∷ T ∷ T ∷ [])
    ∷ (T ∷ E ∷ T ∷ R ∷ R ∷ R ∷ R ∷ R ∷ R ∷ R ∷ R ∷ R ∷ [])
    ∷ (T ∷ E ∷ T ∷ R ∷ Arithmetic ∷ R ∷ R ∷ R ∷ R ∷ R ∷ R ∷ R ∷ [])
    ∷ (T ∷ E ∷ T ∷ R ∷ R ∷ I ∷ R ∷ R ∷ R ∷ R ∷ R ∷ I ∷ [])
    ∷ (T ∷ E ∷ T ∷ R ∷ R ∷ R ∷ NegativeArraySize ∷ R ∷ R ∷ R ∷ R ∷ R ∷ [])
    ∷ (T ∷ E ∷ T ∷ R ∷ R ∷ R ∷ R ∷ NullPointer ∷ R ∷ R ∷ R ∷ R ∷ [])
    ∷ (T ∷ E ∷ T ∷ R ∷ R ∷ R ∷ R ∷ R ∷ IllegalArgument ∷ R ∷ R ∷ R ∷ [])
    ∷ (T ∷ E ∷ T ∷ R ∷ R ∷ R ∷ R ∷ R ∷ R ∷ IllegalState ∷ R ∷ R ∷ [])
    ∷ (T ∷ E ∷ T ∷ R ∷ R ∷ R ∷ R ∷ R ∷ R ∷ R ∷ UnsupportedOperation ∷ R ∷ [])
    ∷ (T ∷ E ∷ T ∷ R ∷ R ∷ I ∷ R ∷ R ∷ R ∷ R ∷ R ∷ ArrayIndexOutOfBounds ∷ [])
    ∷ []
ancestors = refl

-- KINDS

-- two throwables, what they are joined to, and those that were made at two offsets and aren't initialised
abbrev a : PlaceKind
a = kinds.Thrown Arithmetic

abbrev b : PlaceKind
b = kinds.Thrown Error

abbrev t : PlaceKind
t = kinds.Thrown Throwable

abbrev n : PlaceKind
n = New 3 Error

abbrev m : PlaceKind
m = New 7 Error

-- no known kind
abbrev u : PlaceKind
u = Unset

abbrev some_kinds : List PlaceKind
some_kinds = Int ∷ Null ∷ Array ∷ Text ∷ a ∷ b ∷ Ref ∷ n ∷ m ∷ u ∷ []

-- by rows and columns in the order of these kinds
joins : map (λ kind. map (joined_kind kind) some_kinds) some_kinds ≡
    (Int ∷ u ∷ u ∷ u ∷ u ∷ u ∷ u ∷ u ∷ u ∷ u ∷ [])
    ∷ (u ∷ Null ∷ Array ∷ Text ∷ a ∷ b ∷ Ref ∷ u ∷ u ∷ u ∷ [])
    ∷ (u ∷ Array ∷ Array ∷ Ref ∷ Ref ∷ Ref ∷ Ref ∷ u ∷ u ∷ u ∷ [])
    ∷ (u ∷ Text ∷ Ref ∷ Text ∷ Ref ∷ Ref ∷ Ref ∷ u ∷ u ∷ u ∷ [])
    ∷ (u ∷ a ∷ Ref ∷ Ref ∷ a ∷ t ∷ Ref ∷ u ∷ u ∷ u ∷ [])
    ∷ (u ∷ b ∷ Ref ∷ Ref ∷ t ∷ b ∷ Ref ∷ u ∷ u ∷ u ∷ [])
    ∷ (u ∷ Ref ∷ Ref ∷ Ref ∷ Ref ∷ Ref ∷ Ref ∷ u ∷ u ∷ u ∷ [])
    ∷ (u ∷ u ∷ u ∷ u ∷ u ∷ u ∷ u ∷ n ∷ u ∷ u ∷ [])
    ∷ (u ∷ u ∷ u ∷ u ∷ u ∷ u ∷ u ∷ u ∷ m ∷ u ∷ [])
    ∷ (u ∷ u ∷ u ∷ u ∷ u ∷ u ∷ u ∷ u ∷ u ∷ u ∷ [])
    ∷ []
joins = refl

-- two throwables of every two classes are one of the lowest common ancestor
thrown_joins : map (λ class. map (λ other. joined_kind (kinds.Thrown class) (kinds.Thrown other)) every_thrown) every_thrown
    ≡ map (λ class. map (λ other. kinds.Thrown (common class other)) every_thrown) every_thrown
thrown_joins = refl

-- SHAPES

-- two shapes are joined place by place, locals and stack
shapes : joined (shape (Int ∷ Null ∷ Text ∷ []) (a ∷ n ∷ [])) (shape (Int ∷ Array ∷ Int ∷ []) (b ∷ n ∷ [])) ≡ shape (Int ∷ Array ∷ Unset ∷ []) (t ∷ n ∷ [])
shapes = refl
