-- What each instruction of members, throwables and arrays does, computed.
use Rattle.std.proofs.Common.{◌≡◌, ℕ, List, [], ◌∷◌, ℤ, pos, negsuc, true, false, Some, codes, refl, replicate}
use Rattle.std.specs.Int.{int_wrap}
use Rattle.ms_words.specs.declared.descriptor.FieldType.TheVariants as types
use Rattle.ms_words.specs.declared.kind.Kind.TheVariants.{I, Z}
use Rattle.ms_words.specs.declared.operator.Bin.TheVariants.{Div}
use Rattle.ms_words.specs.declared.thrown.Thrown.TheVariants.{ArrayIndexOutOfBounds, IllegalState, NegativeArraySize, NullPointer}
use Rattle.ms_words.specs.Descriptors.{Signature}
use Rattle.ms_machine.specs.Ints.{Int as Shadowed, ints}
use Rattle.ms_machine.specs.Instructions.{Absent, Present, Foreign, Initialiser, Member, Instr, Divide, GetStatic, PutStatic, Invoke, New, Construct, Throw, NewArray, ArrayLength, ArrayLoad, ArrayStore}
use Rattle.ms_machine.specs.Values.{Value, Null, Array, Throwable, Memory, Static, Missing, SymLength, HeapFull, Stuck}
use Rattle.ms_machine.specs.Effects.{Next, Moves, Calls, Initialises, Raises, Stops, Divides, Indexes, effect, greatest_length, most_cells, most_made}
use Rattle.ms_machine.proofs.Methods.{absent, constant, field_of_B, member, nothing, parameter, without_class}
use Rattle.ms_machine.proofs.OneFrame.{Listed, Once, Each, first, fixed, listed, memory, moves, of_both, on, on_stack, raises, second, text, with_memory}

-- MEMBERS

-- a member of class 0, which is named A and was started; class 1, which is named B, was not
abbrev member_of_A : List ℕ → List ℕ → Member
member_of_A name descriptor = member (codes "A") name descriptor 0 Present

-- the method m of two parameters in A, and in B
abbrev method_of_A : Member
method_of_A = member_of_A (codes "m") (codes "([IZ)I")

abbrev method_of_B : Initialiser → Member
method_of_B initialiser = member (codes "B") (codes "m") (codes "([IZ)I") 1 initialiser

abbrev signature : Signature
signature = record { parameters = types.IntArray ∷ types.Int Z ∷ []; result = Some (types.Int I) }

-- the memory with B marked as started
abbrev started : Memory Shadowed
started = record memory { started = 0 ∷ 1 ∷ [] }

-- GETSTATIC

-- getstatic of an int that is 5 at first
abbrev get_int : Member → Instr
get_int field = GetStatic field (types.Int I) (pos 5)

-- a field that was stored: its value
getstatic : on_stack (get_int (member_of_A (codes "k") (codes "I"))) (text ∷ []) ≡ Once (moves (fixed (pos 30) ∷ text ∷ []))
getstatic = refl

-- an int that was never stored: what it is at first
getstatic_first : on_stack (get_int (member_of_A (codes "j") (codes "I"))) (text ∷ []) ≡ Once (moves (fixed (pos 5) ∷ text ∷ []))
getstatic_first = refl

-- an array that was never stored: null; it has the name of an int, and another descriptor
getstatic_array : on_stack (GetStatic (member_of_A (codes "k") (codes "[I")) types.IntArray (pos 0)) [] ≡ Once (moves (Null ∷ []))
getstatic_array = refl

-- a class without an initialiser is started, and the field read at once
getstatic_starts : on_stack (get_int (field_of_B Absent)) (text ∷ []) ≡ Once (Moves Next (with_memory started (fixed (pos 5) ∷ text ∷ [])))
getstatic_starts = refl

-- one with an initialiser is started, which runs first
getstatic_initialises : on_stack (get_int (field_of_B Present)) (text ∷ []) ≡ Once (Initialises 1 (with_memory started (text ∷ [])))
getstatic_initialises = refl

-- a foreign initialiser is missing
getstatic_foreign : on_stack (get_int (field_of_B Foreign)) (text ∷ []) ≡ Once (Stops (Missing (codes "B.<clinit>")))
getstatic_foreign = refl

-- an absent field is missing, and its class's initialiser is not looked at
getstatic_absent : on_stack (get_int (absent (field_of_B Foreign))) (text ∷ []) ≡ Once (Stops (Missing (codes "B.k")))
getstatic_absent = refl

-- an absent class is missing, and the field is not looked at
getstatic_without_class : on_stack (get_int (without_class (field_of_B Present))) (text ∷ []) ≡ Once (Stops (Missing (codes "B")))
getstatic_without_class = refl

-- PUTSTATIC

-- putstatic of an int
abbrev put_int : Member → Instr
put_int field = PutStatic field (types.Int I)

-- the memory with these static fields
abbrev holding : List (Static Shadowed) → Memory Shadowed
holding statics = record memory { statics = statics }

-- a field of A with this value
abbrev field : List ℕ → List ℕ → Value Shadowed → Static Shadowed
field name descriptor value = record { class = 0; name = name; descriptor = descriptor; value = value }

-- a field that was stored has the new value
putstatic : on_stack (put_int (member_of_A (codes "k") (codes "I"))) (first (pos 4) ∷ text ∷ [])
    ≡ Once (Moves Next (with_memory (holding (field (codes "k") (codes "I") (first (pos 4)) ∷ [])) (text ∷ [])))
putstatic = refl

-- a field of the same name and another descriptor is another field
putstatic_array : on_stack (PutStatic (member_of_A (codes "k") (codes "[I")) types.IntArray) (Array 0 ∷ [])
    ≡ Once (Moves Next (with_memory (holding (field (codes "k") (codes "I") (fixed (pos 30)) ∷ field (codes "k") (codes "[I") (Array 0) ∷ [])) []))
putstatic_array = refl

-- an initialiser runs first, and the value stays on the stack
putstatic_initialises : on_stack (put_int (field_of_B Present)) (first (pos 4) ∷ text ∷ []) ≡ Once (Initialises 1 (with_memory started (first (pos 4) ∷ text ∷ [])))
putstatic_initialises = refl

-- a foreign initialiser is missing
putstatic_foreign : on_stack (put_int (field_of_B Foreign)) (first (pos 4) ∷ []) ≡ Once (Stops (Missing (codes "B.<clinit>")))
putstatic_foreign = refl

-- an absent field is missing
putstatic_absent : on_stack (put_int (absent (member_of_A (codes "k") (codes "I")))) (first (pos 4) ∷ []) ≡ Once (Stops (Missing (codes "A.k")))
putstatic_absent = refl

-- an absent class is missing
putstatic_without_class : on_stack (put_int (without_class (field_of_B Present))) (first (pos 4) ∷ []) ≡ Once (Stops (Missing (codes "B")))
putstatic_without_class = refl

-- INVOKESTATIC

-- the arguments are taken; the last was on top
invokestatic : on_stack (Invoke method_of_A signature) (first (pos 1) ∷ Array 0 ∷ text ∷ []) ≡ Once (Calls (Array 0 ∷ first (pos 1) ∷ []) (on (text ∷ [])))
invokestatic = refl

-- a method of no parameters takes nothing
invokestatic_of_none : on_stack (Invoke method_of_A nothing) (text ∷ []) ≡ Once (Calls [] (on (text ∷ [])))
invokestatic_of_none = refl

-- an initialiser runs first, and the arguments stay on the stack
invokestatic_initialises : on_stack (Invoke (method_of_B Present) signature) (first (pos 1) ∷ Array 0 ∷ text ∷ [])
    ≡ Once (Initialises 1 (with_memory started (first (pos 1) ∷ Array 0 ∷ text ∷ [])))
invokestatic_initialises = refl

-- a class without an initialiser is started, and the method called at once
invokestatic_starts : on_stack (Invoke (method_of_B Absent) signature) (first (pos 1) ∷ Array 0 ∷ [])
    ≡ Once (Calls (Array 0 ∷ first (pos 1) ∷ []) (with_memory started []))
invokestatic_starts = refl

-- a foreign initialiser is missing
invokestatic_foreign : on_stack (Invoke (method_of_B Foreign) signature) (first (pos 1) ∷ Array 0 ∷ []) ≡ Once (Stops (Missing (codes "B.<clinit>")))
invokestatic_foreign = refl

-- an absent or foreign method is missing, with its descriptor
invokestatic_absent : on_stack (Invoke (absent (method_of_B Present)) signature) (first (pos 1) ∷ Array 0 ∷ []) ≡ Once (Stops (Missing (codes "B.m([IZ)I")))
invokestatic_absent = refl

-- an absent class is missing
invokestatic_without_class : on_stack (Invoke (without_class (method_of_B Present)) signature) (first (pos 1) ∷ Array 0 ∷ []) ≡ Once (Stops (Missing (codes "B")))
invokestatic_without_class = refl

-- no rule calls with too few arguments
too_few_arguments : on_stack (Invoke method_of_A signature) (Array 0 ∷ []) ≡ Once (Stops Stuck)
too_few_arguments = refl

-- THROWABLES

-- the memory with so many throwables made; two arrays were made besides
abbrev made : ℕ → Memory Shadowed
made throwables = record memory { throwables = throwables }

-- the effect of an instruction where so many throwables were made
abbrev where_made : ℕ → Instr → List (Value Shadowed) → Listed
where_made throwables instr stack = listed (effect ints instr (with_memory (made throwables) stack))

-- new makes a throwable, with the next number
new : on_stack (New IllegalState) (text ∷ []) ≡ Once (Moves Next (with_memory (made 2) (Throwable 1 IllegalState ∷ text ∷ [])))
unfolding most_made
new = refl

-- the last of 4,096 arrays and throwables is made
new_last : where_made 4093 (New IllegalState) [] ≡ Once (Moves Next (with_memory (made 4094) (Throwable 4093 IllegalState ∷ [])))
unfolding most_made
new_last = refl

-- and no more
new_too_many : where_made 4094 (New IllegalState) [] ≡ Once (Stops HeapFull)
unfolding most_made
new_too_many = refl

-- a constructor without a message takes the throwable
construct : on_stack (Construct false IllegalState) (Throwable 0 IllegalState ∷ Throwable 0 IllegalState ∷ []) ≡ Once (moves (Throwable 0 IllegalState ∷ []))
construct = refl

-- one with a message takes that too
construct_with_message : on_stack (Construct true IllegalState) (text ∷ Throwable 0 IllegalState ∷ Throwable 0 IllegalState ∷ [])
    ≡ Once (moves (Throwable 0 IllegalState ∷ []))
construct_with_message = refl

-- the message may be null
construct_with_null : on_stack (Construct true IllegalState) (Null ∷ Throwable 0 IllegalState ∷ []) ≡ Once (moves [])
construct_with_null = refl

-- athrow throws the throwable, and makes none
athrow : on_stack Throw (Throwable 0 IllegalState ∷ text ∷ []) ≡ Once (Raises 0 IllegalState memory)
athrow = refl

-- athrow of null throws a NullPointerException
athrow_of_null : on_stack Throw (Null ∷ []) ≡ Once (raises NullPointer)
unfolding most_made
athrow_of_null = refl

-- no rule throws a text
athrow_of_text : on_stack Throw (text ∷ []) ≡ Once (Stops Stuck)
athrow_of_text = refl

-- the machine makes what it throws: no throwable of its own where 4,096 were made
throws_too_many : where_made 4094 (Divide Div) (second (pos 2) ∷ first (pos 6) ∷ []) ≡ Each (Divides (parameter 1 (pos 2)))
    (Moves Next (with_memory (made 4094) (of_both Div (pos 3) ∷ [])) ∷ Stops HeapFull ∷ [])
unfolding int_wrap most_made
throws_too_many = refl

-- and none for null
athrow_too_many : where_made 4094 Throw (Null ∷ []) ≡ Once (Stops HeapFull)
unfolding most_made
athrow_too_many = refl

-- ARRAYS: array 0 has the cells 10 and 11, and array 1 has none

-- the memory with these arrays
abbrev with_arrays : List (List Shadowed) → Memory Shadowed
with_arrays arrays = record memory { arrays = arrays }

abbrev cells : ℤ → ℤ → List Shadowed
cells a b = constant a ∷ constant b ∷ []

-- newarray of 3: an array with the next number, of cells that are the constant 0
newarray : on_stack NewArray (fixed (pos 3) ∷ text ∷ []) ≡ Once (Moves Next (with_memory
    (with_arrays (cells (pos 10) (pos 11) ∷ [] ∷ (constant (pos 0) ∷ constant (pos 0) ∷ constant (pos 0) ∷ []) ∷ []))
    (Array 2 ∷ text ∷ [])))
unfolding greatest_length most_cells most_made
newarray = refl

-- of 0: an array of no cells
newarray_of_0 : on_stack NewArray (fixed (pos 0) ∷ []) ≡ Once (Moves Next (with_memory (with_arrays (cells (pos 10) (pos 11) ∷ [] ∷ [] ∷ [])) (Array 2 ∷ [])))
unfolding greatest_length most_cells most_made
newarray_of_0 = refl

-- of a parameter: no constant length
newarray_of_parameter : on_stack NewArray (first (pos 3) ∷ []) ≡ Once (Stops SymLength)
newarray_of_parameter = refl

-- of a parameter that is negative: likewise
newarray_of_negative_parameter : on_stack NewArray (first (negsuc 0) ∷ []) ≡ Once (Stops SymLength)
newarray_of_negative_parameter = refl

-- of -1: a NegativeArraySizeException
newarray_of_negative : on_stack NewArray (fixed (negsuc 0) ∷ text ∷ []) ≡ Once (raises NegativeArraySize)
unfolding most_made
newarray_of_negative = refl

-- of 256: the greatest length
newarray_of_256 : on_stack NewArray (fixed (pos 256) ∷ [])
    ≡ Once (Moves Next (with_memory (with_arrays (cells (pos 10) (pos 11) ∷ [] ∷ replicate 256 (constant (pos 0)) ∷ [])) (Array 2 ∷ [])))
unfolding greatest_length most_cells most_made
newarray_of_256 = refl

-- of 257: too long
newarray_of_257 : on_stack NewArray (fixed (pos 257) ∷ []) ≡ Once (Stops HeapFull)
unfolding greatest_length
newarray_of_257 = refl

-- the memory with one array of 4,000 cells
abbrev many_cells : Memory Shadowed
many_cells = with_arrays (replicate 4000 (constant (pos 0)) ∷ [])

-- where there are 4,000 cells, 96 more are 4,096
newarray_of_96 : listed (effect ints NewArray (with_memory many_cells (fixed (pos 96) ∷ [])))
    ≡ Once (Moves Next (with_memory (with_arrays (replicate 4000 (constant (pos 0)) ∷ replicate 96 (constant (pos 0)) ∷ [])) (Array 1 ∷ [])))
unfolding greatest_length most_cells most_made
newarray_of_96 = refl

-- and 97 more are too many
newarray_of_97 : listed (effect ints NewArray (with_memory many_cells (fixed (pos 97) ∷ []))) ≡ Once (Stops HeapFull)
unfolding greatest_length most_cells
newarray_of_97 = refl

-- an array where 4,096 arrays and throwables were made
newarray_too_many : where_made 4094 NewArray (fixed (pos 0) ∷ []) ≡ Once (Stops HeapFull)
unfolding greatest_length most_cells most_made
newarray_too_many = refl

-- a length that is negative is looked at before that; its exception finds no room either
newarray_negative_too_many : where_made 4094 NewArray (fixed (negsuc 0) ∷ []) ≡ Once (Stops HeapFull)
unfolding most_made
newarray_negative_too_many = refl

-- arraylength gives a constant
arraylength : on_stack ArrayLength (Array 0 ∷ text ∷ []) ≡ Once (moves (fixed (pos 2) ∷ text ∷ []))
arraylength = refl

-- arraylength of null throws a NullPointerException
arraylength_of_null : on_stack ArrayLength (Null ∷ []) ≡ Once (raises NullPointer)
unfolding most_made
arraylength_of_null = refl

-- iaload asks for the index: an arm for each cell, and one that throws an ArrayIndexOutOfBoundsException
iaload : on_stack ArrayLoad (first (pos 1) ∷ Array 0 ∷ text ∷ []) ≡ Each (Indexes (parameter 0 (pos 1)) 2)
    (moves (fixed (pos 10) ∷ text ∷ []) ∷ moves (fixed (pos 11) ∷ text ∷ []) ∷ raises ArrayIndexOutOfBounds ∷ [])
unfolding most_made
iaload = refl

-- of an array of no cells there is that one arm
iaload_of_none : on_stack ArrayLoad (first (pos 1) ∷ Array 1 ∷ []) ≡ Each (Indexes (parameter 0 (pos 1)) 0) (raises ArrayIndexOutOfBounds ∷ [])
unfolding most_made
iaload_of_none = refl

-- iaload of null asks nothing, and throws a NullPointerException
iaload_of_null : on_stack ArrayLoad (first (pos 1) ∷ Null ∷ []) ≡ Once (raises NullPointer)
unfolding most_made
iaload_of_null = refl

-- iastore asks for the index: the int on top is stored in the cell of the arm
iastore : on_stack ArrayStore (second (pos 9) ∷ first (pos 1) ∷ Array 0 ∷ text ∷ []) ≡ Each (Indexes (parameter 0 (pos 1)) 2)
    (Moves Next (with_memory (with_arrays ((parameter 1 (pos 9) ∷ constant (pos 11) ∷ []) ∷ [] ∷ [])) (text ∷ []))
    ∷ Moves Next (with_memory (with_arrays ((constant (pos 10) ∷ parameter 1 (pos 9) ∷ []) ∷ [] ∷ [])) (text ∷ []))
    ∷ raises ArrayIndexOutOfBounds ∷ [])
unfolding most_made
iastore = refl

-- iastore into null asks nothing, and throws a NullPointerException
iastore_of_null : on_stack ArrayStore (second (pos 9) ∷ first (pos 1) ∷ Null ∷ []) ≡ Once (raises NullPointer)
unfolding most_made
iastore_of_null = refl

-- no rule indexes a text
iaload_of_text : on_stack ArrayLoad (first (pos 1) ∷ text ∷ []) ≡ Once (Stops Stuck)
iaload_of_text = refl
