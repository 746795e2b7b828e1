-- Runs of one method as wholes, computed: arrays, locals, switches, divisions and throws.
use Rattle.std.proofs.Common.{◌≡◌, ℕ, List, [], ◌∷◌, ℤ, pos, negsuc, Some, None, length, refl}
use Rattle.std.specs.Int.{int_wrap}
use Rattle.ms_words.specs.declared.item.Item.TheVariants.{Entry}
use Rattle.ms_words.specs.declared.kind.Kind.TheVariants.{I}
use Rattle.ms_words.specs.declared.operator.Bin.TheVariants.{Div, Rem}
use Rattle.ms_words.specs.declared.operator.Rel.{Rel}
use Rattle.ms_words.specs.declared.operator.Rel.TheVariants.{Eq, Ne, Lt, Ge, Uge}
use Rattle.ms_words.specs.declared.thrown.Thrown.TheVariants.{Arithmetic, ArrayIndexOutOfBounds, NegativeArraySize, NullPointer, RuntimeException, Error}
use Rattle.ms_terms.specs.Terms.{Constant, Param, Binary}
use Rattle.ms_machine.specs.Ints.{Int as Shadowed, ints}
use Rattle.ms_machine.specs.Instructions.{Equal, NotEqual, Less, OfInt, OfReference, Skip, Increment, Compare, Push, PushNull, Load, Store, Shuffle, Divide, CompareZero, Goto, Switch, ReturnValue, Throw, NewArray, ArrayLength, ArrayLoad, ArrayStore}
use Rattle.ms_machine.specs.Values.{Int, Returned, Threw, Runaway, SymLength, HeapFull}
use Rattle.ms_machine.specs.Effects.{greatest_length, most_cells, most_made}
use Rattle.ms_machine.specs.Control.{Program, Goes, memory_at_start}
use Rattle.ms_machine.specs.Tests.{Literal, arms_of}
use Rattle.ms_machine.specs.Segments.{After, Choice, Over, done_within, most_instructions}
use Rattle.ms_machine.specs.Runs.{Ended, end_of, footprint, segment_after, started, string, way}
use Rattle.ms_machine.proofs.Methods.{Line, alone, at, constant, covered, line, no_input, one_int, parameter, two_ints}

-- how many arms the choice has that comes, or 0 where the run is over
abbrev arms_then : After Shadowed → ℕ
arms_then (Choice test arms) = arms_of test
arms_then (Over end) = 0

-- a relation between two ints
abbrev literal : Rel → Shadowed → Shadowed → Literal Shadowed
literal rel a b = record { rel = rel; a = a; b = b }

-- AN INDEX OF NULL: f(I)I with aconst_null, iload_0, iaload, ireturn

abbrev index_of_null : Program
index_of_null = alone (I ∷ []) (line 0 PushNull 1 [] ∷ line 1 (Load OfInt 0) 2 [] ∷ line 2 ArrayLoad 3 [] ∷ line 3 (ReturnValue OfInt) 4 [] ∷ [])

-- null comes before the index, so there is no choice
null_has_no_choice : string index_of_null (one_int (pos 1)) 8 ≡ []
unfolding most_instructions most_made
null_has_no_choice = refl

-- and the run is not cut where no choice is allowed
null_throws : end_of index_of_null (one_int (pos 1)) 0 ≡ Ended (Threw NullPointer)
unfolding most_instructions most_made
null_throws = refl

-- the instruction that threw is executed
null_executes : footprint index_of_null (one_int (pos 1)) [] ≡ Entry ∷ at 0 ∷ at 1 ∷ at 2 ∷ []
unfolding most_instructions most_made
null_executes = refl

-- AN INDEX OF AN ARRAY: f(I)I with iconst_2, newarray int, iload_0, iaload, ireturn

abbrev index_of_two : Program
index_of_two = alone (I ∷ []) (line 0 (Push (pos 2)) 1 [] ∷ line 1 NewArray 3 [] ∷ line 3 (Load OfInt 0) 4 [] ∷ line 4 ArrayLoad 5 []
    ∷ line 5 (ReturnValue OfInt) 6 [] ∷ [])

-- there is an arm for each of two cells, and one more
index_has_three_arms : arms_then (segment_after index_of_two (one_int (pos 1)) []).after ≡ 3
unfolding most_instructions greatest_length most_cells most_made
index_has_three_arms = refl

-- index 0 is arm 0
index_0 : string index_of_two (one_int (pos 0)) 8 ≡ 0 ∷ []
unfolding most_instructions greatest_length most_cells most_made
index_0 = refl

-- index 1 is arm 1
index_1 : string index_of_two (one_int (pos 1)) 8 ≡ 1 ∷ []
unfolding most_instructions greatest_length most_cells most_made
index_1 = refl

-- the length is out of range
index_2 : string index_of_two (one_int (pos 2)) 8 ≡ 2 ∷ []
unfolding most_instructions greatest_length most_cells most_made
index_2 = refl

-- and so is -1
index_negative : string index_of_two (one_int (negsuc 0)) 8 ≡ 2 ∷ []
unfolding most_instructions greatest_length most_cells most_made
index_negative = refl

-- a cell is 0 at first
index_1_returns : end_of index_of_two (one_int (pos 1)) 8 ≡ Ended (Returned (constant (pos 0)))
unfolding most_instructions greatest_length most_cells most_made
index_1_returns = refl

-- the last arm throws
index_2_throws : end_of index_of_two (one_int (pos 2)) 8 ≡ Ended (Threw ArrayIndexOutOfBounds)
unfolding most_instructions greatest_length most_cells most_made
index_2_throws = refl

-- the choosing instruction is executed before the choice
before_index : footprint index_of_two (one_int (pos 1)) [] ≡ Entry ∷ at 0 ∷ at 1 ∷ at 3 ∷ at 4 ∷ []
unfolding most_instructions greatest_length most_cells most_made
before_index = refl

-- behind the arm of a cell the next instruction is executed
behind_index_1 : footprint index_of_two (one_int (pos 1)) (1 ∷ []) ≡ at 5 ∷ []
unfolding most_instructions greatest_length most_cells most_made
behind_index_1 = refl

-- behind the arm that throws out of the method there is none
behind_index_2 : footprint index_of_two (one_int (pos 2)) (2 ∷ []) ≡ []
unfolding most_instructions greatest_length most_cells most_made
behind_index_2 = refl

-- the arm of a cell says that the index is its number
way_1 : way ints index_of_two.view (started index_of_two (one_int (pos 1))) (1 ∷ []) ≡ literal Eq (parameter 0 (pos 1)) (constant (pos 1)) ∷ []
unfolding most_instructions greatest_length most_cells most_made
way_1 = refl

-- the last arm says that the index, taken as unsigned, is not below the length
way_2 : way ints index_of_two.view (started index_of_two (one_int (negsuc 0))) (2 ∷ []) ≡ literal Uge (parameter 0 (negsuc 0)) (constant (pos 2)) ∷ []
unfolding most_instructions greatest_length most_cells most_made
way_2 = refl

-- AN INDEX OF AN ARRAY OF NO CELLS: f(I)I with iconst_0, newarray int, iload_0, iaload, ireturn

abbrev index_of_none : Program
index_of_none = alone (I ∷ []) (line 0 (Push (pos 0)) 1 [] ∷ line 1 NewArray 3 [] ∷ line 3 (Load OfInt 0) 4 [] ∷ line 4 ArrayLoad 5 []
    ∷ line 5 (ReturnValue OfInt) 6 [] ∷ [])

-- it is a choice of one arm
index_has_one_arm : arms_then (segment_after index_of_none (one_int (pos 0)) []).after ≡ 1
unfolding most_instructions greatest_length most_cells most_made
index_has_one_arm = refl

-- which each input takes
index_0_of_none : string index_of_none (one_int (pos 0)) 8 ≡ 0 ∷ []
unfolding most_instructions greatest_length most_cells most_made
index_0_of_none = refl

-- and which throws
index_of_none_throws : end_of index_of_none (one_int (pos 0)) 8 ≡ Ended (Threw ArrayIndexOutOfBounds)
unfolding most_instructions greatest_length most_cells most_made
index_of_none_throws = refl

-- A LOCAL PAST THE PARAMETERS: f(I)I with bipush 9, istore_3, iload_3, ireturn

abbrev past_parameters : Program
past_parameters = alone (I ∷ []) (line 0 (Push (pos 9)) 2 [] ∷ line 2 (Store OfInt 3) 3 [] ∷ line 3 (Load OfInt 3) 4 [] ∷ line 4 (ReturnValue OfInt) 5 [] ∷ [])

-- behind the store locals 1 and 2 have no value
locals_then : done_within ints past_parameters.view 2 (started past_parameters (one_int (pos 7)))
    ≡ Goes (record {
      top = record { at = at 3; locals = Some (Int (parameter 0 (pos 7))) ∷ None ∷ None ∷ Some (Int (constant (pos 9))) ∷ []; stack = []; initialises = None };
      below = [];
      memory = memory_at_start 0;
    })
locals_then = refl

-- the load finds what was stored
past_parameters_returns : end_of past_parameters (one_int (pos 7)) 8 ≡ Ended (Returned (constant (pos 9)))
unfolding most_instructions
past_parameters_returns = refl

-- A CELL WITH A PARAMETER: f(I)I with iconst_1, newarray int, astore_1, aload_1, iconst_0, iload_0, iastore,
-- aload_1, iconst_0, iaload, ifeq 16, iconst_1, ireturn, 16: iconst_2, ireturn

abbrev cell : Program
cell = alone (I ∷ []) (line 0 (Push (pos 1)) 1 [] ∷ line 1 NewArray 3 [] ∷ line 3 (Store OfReference 1) 4 [] ∷ line 4 (Load OfReference 1) 5 []
    ∷ line 5 (Push (pos 0)) 6 [] ∷ line 6 (Load OfInt 0) 7 [] ∷ line 7 ArrayStore 8 [] ∷ line 8 (Load OfReference 1) 9 [] ∷ line 9 (Push (pos 0)) 10 []
    ∷ line 10 ArrayLoad 11 [] ∷ line 11 (CompareZero Equal) 14 (16 ∷ []) ∷ line 14 (Push (pos 1)) 15 [] ∷ line 15 (ReturnValue OfInt) 16 []
    ∷ line 16 (Push (pos 2)) 17 [] ∷ line 17 (ReturnValue OfInt) 18 [] ∷ [])

-- the indices are constants, so the comparison is the one choice; 0 takes its branch
cell_of_0 : string cell (one_int (pos 0)) 8 ≡ 1 ∷ []
unfolding most_instructions greatest_length most_cells most_made
cell_of_0 = refl

-- 5 falls through
cell_of_5 : string cell (one_int (pos 5)) 8 ≡ 0 ∷ []
unfolding most_instructions greatest_length most_cells most_made
cell_of_5 = refl

-- and returns 1
cell_of_5_returns : end_of cell (one_int (pos 5)) 8 ≡ Ended (Returned (constant (pos 1)))
unfolding most_instructions greatest_length most_cells most_made
cell_of_5_returns = refl

-- the branch says that the parameter is 0
way_of_cell_1 : way ints cell.view (started cell (one_int (pos 0))) (1 ∷ []) ≡ literal Eq (parameter 0 (pos 0)) (constant (pos 0)) ∷ []
unfolding most_instructions greatest_length most_cells most_made
way_of_cell_1 = refl

-- falling through says that it is not
way_of_cell_0 : way ints cell.view (started cell (one_int (pos 5))) (0 ∷ []) ≡ literal Ne (parameter 0 (pos 5)) (constant (pos 0)) ∷ []
unfolding most_instructions greatest_length most_cells most_made
way_of_cell_0 = refl

-- LENGTHS: f(I)I with iload_0, newarray int, arraylength, ireturn

abbrev length_of_parameter : Program
length_of_parameter = alone (I ∷ []) (line 0 (Load OfInt 0) 1 [] ∷ line 1 NewArray 3 [] ∷ line 3 ArrayLength 4 [] ∷ line 4 (ReturnValue OfInt) 5 [] ∷ [])

-- a parameter is no length
parameter_is_no_length : end_of length_of_parameter (one_int (pos 3)) 0 ≡ Ended SymLength
unfolding most_instructions
parameter_is_no_length = refl

-- also where its word is negative
negative_parameter_is_no_length : end_of length_of_parameter (one_int (negsuc 0)) 0 ≡ Ended SymLength
unfolding most_instructions
negative_parameter_is_no_length = refl

-- the instruction is executed
length_executes : footprint length_of_parameter (one_int (pos 3)) [] ≡ Entry ∷ at 0 ∷ at 1 ∷ []
unfolding most_instructions
length_executes = refl

-- the same of a constant: f()I with sipush, newarray int, arraylength, ireturn
abbrev length_of : ℤ → Program
length_of word = alone [] (line 0 (Push word) 3 [] ∷ line 3 NewArray 5 [] ∷ line 5 ArrayLength 6 [] ∷ line 6 (ReturnValue OfInt) 7 [] ∷ [])

-- -1 is negative
negative_length : end_of (length_of (negsuc 0)) no_input 0 ≡ Ended (Threw NegativeArraySize)
unfolding most_instructions most_made
negative_length = refl

-- 256 is the greatest length
greatest_length_returns : end_of (length_of (pos 256)) no_input 0 ≡ Ended (Returned (constant (pos 256)))
unfolding most_instructions greatest_length most_cells most_made
greatest_length_returns = refl

-- 257 is too long
too_long : end_of (length_of (pos 257)) no_input 0 ≡ Ended HeapFull
unfolding most_instructions greatest_length
too_long = refl

-- TOO MANY CELLS: f()I with sipush 256, newarray int, pop, goto 0

abbrev many_arrays : Program
many_arrays = alone [] (line 0 (Push (pos 256)) 3 [] ∷ line 3 NewArray 5 [] ∷ line 5 (Shuffle 1 []) 6 [] ∷ line 6 Goto 9 (0 ∷ []) ∷ [])

-- 16 arrays have 4,096 cells, and the next one is too much
too_many_cells : end_of many_arrays no_input 0 ≡ Ended HeapFull
unfolding most_instructions greatest_length most_cells most_made
too_many_cells = refl

-- it is the 66th instruction
instructions_of_many : length (segment_after many_arrays no_input []).trace ≡ 66
unfolding most_instructions greatest_length most_cells most_made
instructions_of_many = refl

-- A SWITCH: f(I)I with iload_0, tableswitch from 3 to 4 to 24 and 26 and else 28, 24: iconst_1, ireturn,
-- 26: iconst_2, ireturn, 28: iconst_0, ireturn

abbrev switch : Program
switch = alone (I ∷ []) (line 0 (Load OfInt 0) 1 [] ∷ line 1 (Switch (pos 3 ∷ pos 4 ∷ [])) 24 (24 ∷ 26 ∷ 28 ∷ []) ∷ line 24 (Push (pos 1)) 25 []
    ∷ line 25 (ReturnValue OfInt) 26 [] ∷ line 26 (Push (pos 2)) 27 [] ∷ line 27 (ReturnValue OfInt) 28 [] ∷ line 28 (Push (pos 0)) 29 []
    ∷ line 29 (ReturnValue OfInt) 30 [] ∷ [])

-- the first case
switch_3 : string switch (one_int (pos 3)) 8 ≡ 0 ∷ []
unfolding most_instructions
switch_3 = refl

-- the second case
switch_4 : string switch (one_int (pos 4)) 8 ≡ 1 ∷ []
unfolding most_instructions
switch_4 = refl

-- the default is the last arm
switch_9 : string switch (one_int (pos 9)) 8 ≡ 2 ∷ []
unfolding most_instructions
switch_9 = refl

-- the second case leads to 26
behind_switch_4 : footprint switch (one_int (pos 4)) (1 ∷ []) ≡ at 26 ∷ at 27 ∷ []
unfolding most_instructions
behind_switch_4 = refl

-- the default leads to 28
behind_switch_9 : footprint switch (one_int (pos 9)) (2 ∷ []) ≡ at 28 ∷ at 29 ∷ []
unfolding most_instructions
behind_switch_9 = refl

-- a case says that the parameter is its key
way_of_case : way ints switch.view (started switch (one_int (pos 4))) (1 ∷ []) ≡ literal Eq (parameter 0 (pos 4)) (constant (pos 4)) ∷ []
unfolding most_instructions
way_of_case = refl

-- the default says that it is none of the keys, in their order
way_of_default : way ints switch.view (started switch (one_int (pos 9))) (2 ∷ [])
    ≡ literal Ne (parameter 0 (pos 9)) (constant (pos 3)) ∷ literal Ne (parameter 0 (pos 9)) (constant (pos 4)) ∷ []
unfolding most_instructions
way_of_default = refl

-- the same of a constant: f()I with bipush 4 in the place of iload_0
abbrev switch_of_constant : Program
switch_of_constant = alone [] (line 0 (Push (pos 4)) 2 [] ∷ line 2 (Switch (pos 3 ∷ pos 4 ∷ [])) 24 (24 ∷ 26 ∷ 28 ∷ []) ∷ line 24 (Push (pos 1)) 25 []
    ∷ line 25 (ReturnValue OfInt) 26 [] ∷ line 26 (Push (pos 2)) 27 [] ∷ line 27 (ReturnValue OfInt) 28 [] ∷ line 28 (Push (pos 0)) 29 []
    ∷ line 29 (ReturnValue OfInt) 30 [] ∷ [])

-- it is no choice
switch_of_constant_returns : end_of switch_of_constant no_input 0 ≡ Ended (Returned (constant (pos 2)))
unfolding most_instructions
switch_of_constant_returns = refl

-- A CONSTANT AND A PARAMETER: f(I)I with iconst_5, iload_0, if_icmplt 7, iconst_1, ireturn, 7: iconst_2, ireturn

abbrev five_below : Program
five_below = alone (I ∷ []) (line 0 (Push (pos 5)) 1 [] ∷ line 1 (Load OfInt 0) 2 [] ∷ line 2 (Compare Less) 5 (7 ∷ []) ∷ line 5 (Push (pos 1)) 6 []
    ∷ line 6 (ReturnValue OfInt) 7 [] ∷ line 7 (Push (pos 2)) 8 [] ∷ line 8 (ReturnValue OfInt) 9 [] ∷ [])

-- one parameter makes the comparison a choice
five_below_6 : string five_below (one_int (pos 6)) 8 ≡ 1 ∷ []
unfolding most_instructions
five_below_6 = refl

-- 5 is not below 5
five_below_5 : string five_below (one_int (pos 5)) 8 ≡ 0 ∷ []
unfolding most_instructions
five_below_5 = refl

-- the branch says that the constant is below the parameter
way_of_below : way ints five_below.view (started five_below (one_int (pos 6))) (1 ∷ []) ≡ literal Lt (constant (pos 5)) (parameter 0 (pos 6)) ∷ []
unfolding most_instructions
way_of_below = refl

-- falling through says that it is not
way_of_not_below : way ints five_below.view (started five_below (one_int (pos 5))) (0 ∷ []) ≡ literal Ge (constant (pos 5)) (parameter 0 (pos 5)) ∷ []
unfolding most_instructions
way_of_not_below = refl

-- DIVISION: f(II)I with iload_0, iload_1, idiv, ireturn

abbrev divide : Program
divide = alone (I ∷ I ∷ []) (line 0 (Load OfInt 0) 1 [] ∷ line 1 (Load OfInt 1) 2 [] ∷ line 2 (Divide Div) 3 [] ∷ line 3 (ReturnValue OfInt) 4 [] ∷ [])

-- a divisor that is not 0 is arm 0
divide_by_2 : string divide (two_ints (pos 7) (pos 2)) 8 ≡ 0 ∷ []
unfolding most_instructions
divide_by_2 = refl

-- 0 is arm 1
divide_by_0 : string divide (two_ints (pos 7) (pos 0)) 8 ≡ 1 ∷ []
unfolding most_instructions most_made
divide_by_0 = refl

-- arm 0 returns the quotient
divide_by_2_returns : end_of divide (two_ints (pos 7) (pos 2)) 8 ≡ Ended (Returned (record { word = pos 3; shadow = Binary Div (Param 0 I) (Param 1 I) }))
unfolding most_instructions int_wrap
divide_by_2_returns = refl

-- that of the least word and -1 is the least word
divide_least_returns : end_of divide (two_ints (negsuc 2147483647) (negsuc 0)) 8
    ≡ Ended (Returned (record { word = negsuc 2147483647; shadow = Binary Div (Param 0 I) (Param 1 I) }))
unfolding most_instructions int_wrap
divide_least_returns = refl

-- arm 1 throws
divide_by_0_throws : end_of divide (two_ints (pos 7) (pos 0)) 8 ≡ Ended (Threw Arithmetic)
unfolding most_instructions most_made
divide_by_0_throws = refl

-- arm 0 says that the divisor is not 0
way_of_nonzero : way ints divide.view (started divide (two_ints (pos 7) (pos 2))) (0 ∷ []) ≡ literal Ne (parameter 1 (pos 2)) (constant (pos 0)) ∷ []
unfolding most_instructions
way_of_nonzero = refl

-- arm 1 says that it is
way_of_zero : way ints divide.view (started divide (two_ints (pos 7) (pos 0))) (1 ∷ []) ≡ literal Eq (parameter 1 (pos 0)) (constant (pos 0)) ∷ []
unfolding most_instructions
way_of_zero = refl

-- the remainder of two constants: f()I with bipush 7, a constant, irem, ireturn
abbrev constants : ℤ → Program
constants word = alone [] (line 0 (Push (pos 7)) 2 [] ∷ line 2 (Push word) 3 [] ∷ line 3 (Divide Rem) 4 [] ∷ line 4 (ReturnValue OfInt) 5 [] ∷ [])

-- of constants it is no choice
remainder_returns : end_of (constants (pos 4)) no_input 0 ≡ Ended (Returned (constant (pos 3)))
unfolding most_instructions int_wrap
remainder_returns = refl

-- also where it throws
remainder_throws : end_of (constants (pos 0)) no_input 0 ≡ Ended (Threw Arithmetic)
unfolding most_instructions most_made
remainder_throws = refl

-- the half of a parameter: f(I)I with iload_0, iconst_2, idiv, ireturn
abbrev half : Program
half = alone (I ∷ []) (line 0 (Load OfInt 0) 1 [] ∷ line 1 (Push (pos 2)) 2 [] ∷ line 2 (Divide Div) 3 [] ∷ line 3 (ReturnValue OfInt) 4 [] ∷ [])

-- division of a parameter by a constant is no choice either
half_returns : end_of half (one_int (negsuc 6)) 0 ≡ Ended (Returned (record { word = negsuc 2; shadow = Binary Div (Param 0 I) (Constant (pos 2)) }))
unfolding most_instructions int_wrap
half_returns = refl

-- THROWING NULL: f()I with aconst_null, athrow

abbrev throw_null : Program
throw_null = alone [] (line 0 PushNull 1 [] ∷ line 1 Throw 2 [] ∷ [])

-- what is thrown is a NullPointerException
throw_null_throws : end_of throw_null no_input 0 ≡ Ended (Threw NullPointer)
unfolding most_instructions most_made
throw_null_throws = refl

-- f()I with aconst_null, athrow, which handlers at 2 of Error and at 5 of RuntimeException cover, 2: pop, iconst_3, ireturn,
-- 5: pop, iconst_4, ireturn
abbrev catch_null : Program
catch_null = alone [] (line 0 PushNull 1 [] ∷ covered 2 Error (covered 5 RuntimeException (line 1 Throw 2 [])) ∷ line 2 (Shuffle 1 []) 3 []
    ∷ line 3 (Push (pos 3)) 4 [] ∷ line 4 (ReturnValue OfInt) 5 [] ∷ line 5 (Shuffle 1 []) 6 [] ∷ line 6 (Push (pos 4)) 7 [] ∷ line 7 (ReturnValue OfInt) 8 [] ∷ [])

-- the handler of a class above it catches it
catch_null_returns : end_of catch_null no_input 0 ≡ Ended (Returned (constant (pos 4)))
unfolding most_instructions most_made
catch_null_returns = refl

-- FOREVER: f()I with goto 0

abbrev forever : Program
forever = alone [] (line 0 Goto 3 (0 ∷ []) ∷ [])

-- it comes to no end of its own
forever_ends : end_of forever no_input 0 ≡ Ended Runaway
unfolding most_instructions
forever_ends = refl

-- 20,000 instructions are executed
forever_executes_so_many : length (segment_after forever no_input []).trace ≡ 20000
unfolding most_instructions
forever_executes_so_many = refl

-- their one item stands once
forever_executes : footprint forever no_input [] ≡ Entry ∷ at 0 ∷ []
unfolding most_instructions
forever_executes = refl

-- 20,000 INSTRUCTIONS: f()I with sipush 6,665, istore_0, 4: iinc of local 0 by -1, iload_0, ifne 4, and then these lines: the
-- first two, three for each number from 6,665 down to 1, and three more are 20,000

abbrev counting_down : List Line → Program
counting_down last = alone [] (line 0 (Push (pos 6665)) 3 [] ∷ line 3 (Store OfInt 0) 4 [] ∷ line 4 (Increment 0 (negsuc 0)) 7 [] ∷ line 7 (Load OfInt 0) 8 []
    ∷ line 8 (CompareZero NotEqual) 11 (4 ∷ []) ∷ last)

-- nop, iconst_1, ireturn: the last of 20,000 instructions may end the run
last_may_end : end_of (counting_down (line 11 Skip 12 [] ∷ line 12 (Push (pos 1)) 13 [] ∷ line 13 (ReturnValue OfInt) 14 [] ∷ [])) no_input 0
    ≡ Ended (Returned (constant (pos 1)))
unfolding most_instructions int_wrap
last_may_end = refl

-- nop, nop, iconst_1, ireturn: one more does not
one_more_does_not : end_of (counting_down (line 11 Skip 12 [] ∷ line 12 Skip 13 [] ∷ line 13 (Push (pos 1)) 14 [] ∷ line 14 (ReturnValue OfInt) 15 [] ∷ [])) no_input 0
    ≡ Ended Runaway
unfolding most_instructions int_wrap
one_more_does_not = refl
