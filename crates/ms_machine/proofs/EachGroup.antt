-- What each instruction does, computed: one example at least for each group of instructions, and for each opcode of a group
-- that has several.
use Rattle.std.proofs.Common.{◌≡◌, ℕ, List, [], ◌∷◌, map, ℤ, pos, negsuc, true, false, Some, None, codes, refl}
use Rattle.std.specs.Int.{int_wrap}
use Rattle.ms_words.specs.declared.kind.Kind.TheVariants.{I}
use Rattle.ms_words.specs.declared.operator.Un.TheVariants.{Neg, I2b, I2c, I2s}
use Rattle.ms_words.specs.declared.operator.Bin.{Bin}
use Rattle.ms_words.specs.declared.operator.Bin.TheVariants.{Add, Sub, Mul, Div, Rem, Shl, Shr, Ushr, And, Or, Xor}
use Rattle.ms_words.specs.declared.operator.Rel.{Rel}
use Rattle.ms_words.specs.declared.operator.Rel.TheVariants.{Eq, Ne, Lt, Ge, Gt, Le}
use Rattle.ms_words.specs.declared.thrown.Thrown.TheVariants.{Arithmetic}
use Rattle.ms_terms.specs.Terms.{Constant, Param, Binary}
use Rattle.ms_machine.specs.Ints.{Int as Shadowed, ints}
use Rattle.ms_machine.specs.Instructions.{Comparison, Equal, NotEqual, Less, AtLeast, Greater, AtMost, OfInt, OfReference, Instr, Skip, Push, PushNull, PushText, Load, Store, Shuffle, Change, Combine, Divide, Increment, Compare, CompareZero, CompareReferences, CompareNull, Goto, Switch, ReturnValue, ReturnVoid}
use Rattle.ms_machine.specs.Values.{Value, Int, Null, Array, Text, Throwable, Stuck}
use Rattle.ms_machine.specs.Effects.{Next, Doing, Moves, Returns, Stops, Compares, Divides, Selects, most_made}
use Rattle.ms_machine.specs.Tests.{Literal, arm_of, literals}
use Rattle.ms_machine.proofs.Methods.{constant, parameter}
use Rattle.ms_machine.proofs.OneFrame.{Listed, Once, Each, first, fixed, jumps, memory, moves, of_both, of_first, on_stack, raises, second, text}

-- CONSTANTS

-- nop leaves all as it is
nop : on_stack Skip (fixed (pos 1) ∷ []) ≡ Once (moves (fixed (pos 1) ∷ []))
nop = refl

-- iconst_m1 puts -1 on the stack, which no parameter entered
iconst_m1 : on_stack (Push (negsuc 0)) (text ∷ []) ≡ Once (moves (fixed (negsuc 0) ∷ text ∷ []))
iconst_m1 = refl

-- sipush puts a word on the stack
sipush : on_stack (Push (negsuc 32767)) [] ≡ Once (moves (fixed (negsuc 32767) ∷ []))
sipush = refl

-- aconst_null puts null on the stack
aconst_null : on_stack PushNull (text ∷ []) ≡ Once (moves (Null ∷ text ∷ []))
aconst_null = refl

-- ldc of a string puts the text on the stack
ldc_text : on_stack (PushText (codes "no")) [] ≡ Once (moves (text ∷ []))
ldc_text = refl

-- LOADS AND STORES

-- iload_0 puts the parameter in local 0 on the stack
iload : on_stack (Load OfInt 0) (fixed (pos 1) ∷ []) ≡ Once (moves (first (pos 7) ∷ fixed (pos 1) ∷ []))
iload = refl

-- aload_2 puts the null in local 2 on the stack
aload : on_stack (Load OfReference 2) [] ≡ Once (moves (Null ∷ []))
aload = refl

-- no rule loads a local that was never stored
load_of_no_value : on_stack (Load OfInt 1) [] ≡ Once (Stops Stuck)
load_of_no_value = refl

-- nor one past all that were stored
load_past_all : on_stack (Load OfInt 3) [] ≡ Once (Stops Stuck)
load_past_all = refl

-- istore_0 takes the top into local 0
istore : on_stack (Store OfInt 0) (fixed (pos 5) ∷ text ∷ [])
    ≡ Once (Moves Next (record { locals = Some (fixed (pos 5)) ∷ None ∷ Some Null ∷ []; stack = text ∷ []; memory = memory }))
istore = refl

-- astore 5 takes the top into local 5, past all that were stored
astore : on_stack (Store OfReference 5) (Array 1 ∷ [])
    ≡ Once (Moves Next (record { locals = Some (first (pos 7)) ∷ None ∷ Some Null ∷ None ∷ None ∷ Some (Array 1) ∷ []; stack = []; memory = memory }))
astore = refl

-- no rule stores from an empty stack
store_of_nothing : on_stack (Store OfInt 0) [] ≡ Once (Stops Stuck)
store_of_nothing = refl

-- THE STACK, with four values of different sorts on it

abbrev lowest : Value Shadowed
lowest = fixed (pos 1)

abbrev low : Value Shadowed
low = first (pos 2)

abbrev high : Value Shadowed
high = text

abbrev top : Value Shadowed
top = Null

abbrev shuffled : ℕ → List ℕ → Listed
shuffled count places = on_stack (Shuffle count places) (top ∷ high ∷ low ∷ lowest ∷ [])

-- pop drops the top
pop : shuffled 1 [] ≡ Once (moves (high ∷ low ∷ lowest ∷ []))
pop = refl

-- pop2 drops two
pop2 : shuffled 2 [] ≡ Once (moves (low ∷ lowest ∷ []))
pop2 = refl

-- dup doubles the top
dup : shuffled 1 (0 ∷ 0 ∷ []) ≡ Once (moves (top ∷ top ∷ high ∷ low ∷ lowest ∷ []))
dup = refl

-- dup_x1 puts the top below the second too
dup_x1 : shuffled 2 (0 ∷ 1 ∷ 0 ∷ []) ≡ Once (moves (top ∷ high ∷ top ∷ low ∷ lowest ∷ []))
dup_x1 = refl

-- dup_x2 puts the top below the third too
dup_x2 : shuffled 3 (0 ∷ 1 ∷ 2 ∷ 0 ∷ []) ≡ Once (moves (top ∷ high ∷ low ∷ top ∷ lowest ∷ []))
dup_x2 = refl

-- dup2 doubles the two on top
dup2 : shuffled 2 (0 ∷ 1 ∷ 0 ∷ 1 ∷ []) ≡ Once (moves (top ∷ high ∷ top ∷ high ∷ low ∷ lowest ∷ []))
dup2 = refl

-- dup2_x1 puts the two on top below the third too
dup2_x1 : shuffled 3 (0 ∷ 1 ∷ 2 ∷ 0 ∷ 1 ∷ []) ≡ Once (moves (top ∷ high ∷ low ∷ top ∷ high ∷ lowest ∷ []))
dup2_x1 = refl

-- dup2_x2 puts the two on top below the fourth too
dup2_x2 : shuffled 4 (0 ∷ 1 ∷ 2 ∷ 3 ∷ 0 ∷ 1 ∷ []) ≡ Once (moves (top ∷ high ∷ low ∷ lowest ∷ top ∷ high ∷ []))
dup2_x2 = refl

-- swap exchanges the two on top
swap : shuffled 2 (1 ∷ 0 ∷ []) ≡ Once (moves (high ∷ top ∷ low ∷ lowest ∷ []))
swap = refl

-- no rule takes five values where there are four
too_few : shuffled 5 [] ≡ Once (Stops Stuck)
too_few = refl

-- ONE INT

-- ineg: the least word is its own negative
ineg : on_stack (Change Neg) (first (negsuc 2147483647) ∷ text ∷ []) ≡ Once (moves (of_first Neg (negsuc 2147483647) ∷ text ∷ []))
unfolding int_wrap
ineg = refl

-- of a constant the shadow is a constant
ineg_constant : on_stack (Change Neg) (fixed (pos 5) ∷ []) ≡ Once (moves (fixed (negsuc 4) ∷ []))
unfolding int_wrap
ineg_constant = refl

-- i2b extends the sign of the lowest 8 bits
i2b : on_stack (Change I2b) (first (pos 200) ∷ []) ≡ Once (moves (of_first I2b (negsuc 55) ∷ []))
unfolding int_wrap
i2b = refl

-- i2c extends the lowest 16 bits by zeros
i2c : on_stack (Change I2c) (first (negsuc 0) ∷ []) ≡ Once (moves (of_first I2c (pos 65535) ∷ []))
unfolding int_wrap
i2c = refl

-- i2s extends the sign of the lowest 16 bits
i2s : on_stack (Change I2s) (first (pos 40000) ∷ []) ≡ Once (moves (of_first I2s (negsuc 25535) ∷ []))
unfolding int_wrap
i2s = refl

-- no rule changes a reference
change_of_null : on_stack (Change Neg) (Null ∷ []) ≡ Once (Stops Stuck)
change_of_null = refl

-- TWO INTS, the second on top

-- what an instruction of two ints does to these
abbrev on_both : Instr → (a b : ℤ) → Listed
on_both instr a b = on_stack instr (second b ∷ first a ∷ text ∷ [])

-- puts this word on the stack, which the operator gives of both
abbrev gives : Bin → ℤ → Doing Shadowed
gives op word = moves (of_both op word ∷ text ∷ [])

-- iadd wraps
iadd : on_both (Combine Add) (pos 2147483647) (pos 1) ≡ Once (gives Add (negsuc 2147483647))
unfolding int_wrap
iadd = refl

-- of constants the shadow is a constant
iadd_constants : on_stack (Combine Add) (fixed (pos 2) ∷ fixed (pos 3) ∷ []) ≡ Once (moves (fixed (pos 5) ∷ []))
unfolding int_wrap
iadd_constants = refl

-- of a constant and a parameter it is no constant
iadd_mixed : on_stack (Combine Add) (fixed (pos 2) ∷ first (pos 3) ∷ [])
    ≡ Once (moves (Int (record { word = pos 5; shadow = Binary Add (Param 0 I) (Constant (pos 2)) }) ∷ []))
unfolding int_wrap
iadd_mixed = refl

-- isub takes the second from the first
isub : on_both (Combine Sub) (pos 3) (pos 4) ≡ Once (gives Sub (negsuc 0))
unfolding int_wrap
isub = refl

-- imul wraps: 65,536 times 65,537
imul : on_both (Combine Mul) (pos 65536) (pos 65537) ≡ Once (gives Mul (pos 65536))
unfolding int_wrap
imul = refl

-- ishl by 33 shifts by 1
ishl : on_both (Combine Shl) (pos 3) (pos 33) ≡ Once (gives Shl (pos 6))
unfolding int_wrap
ishl = refl

-- ishr rounds down: -9 by 2
ishr : on_both (Combine Shr) (negsuc 8) (pos 2) ≡ Once (gives Shr (negsuc 2))
unfolding int_wrap
ishr = refl

-- iushr lets zeros in: -9 by 28
iushr : on_both (Combine Ushr) (negsuc 8) (pos 28) ≡ Once (gives Ushr (pos 15))
unfolding int_wrap
iushr = refl

-- iand of -4 and 7
iand : on_both (Combine And) (negsuc 3) (pos 7) ≡ Once (gives And (pos 4))
unfolding int_wrap
iand = refl

-- ior of -4 and 1
ior : on_both (Combine Or) (negsuc 3) (pos 1) ≡ Once (gives Or (negsuc 2))
unfolding int_wrap
ior = refl

-- ixor of -1 and 5
ixor : on_both (Combine Xor) (negsuc 0) (pos 5) ≡ Once (gives Xor (negsuc 5))
unfolding int_wrap
ixor = refl

-- idiv asks whether the divisor is 0; -7 by 2 rounds toward zero
idiv : on_both (Divide Div) (negsuc 6) (pos 2) ≡ Each (Divides (parameter 1 (pos 2))) (gives Div (negsuc 2) ∷ raises Arithmetic ∷ [])
unfolding int_wrap most_made
idiv = refl

-- the least word by -1 is the least word
idiv_least : on_both (Divide Div) (negsuc 2147483647) (negsuc 0)
    ≡ Each (Divides (parameter 1 (negsuc 0))) (gives Div (negsuc 2147483647) ∷ raises Arithmetic ∷ [])
unfolding int_wrap most_made
idiv_least = refl

-- irem asks whether the divisor is 0; -7 by 2 has the sign of -7
irem : on_both (Divide Rem) (negsuc 6) (pos 2) ≡ Each (Divides (parameter 1 (pos 2))) (gives Rem (negsuc 0) ∷ raises Arithmetic ∷ [])
unfolding int_wrap most_made
irem = refl

-- that of the least word and -1 is 0
irem_least : on_both (Divide Rem) (negsuc 2147483647) (negsuc 0) ≡ Each (Divides (parameter 1 (negsuc 0))) (gives Rem (pos 0) ∷ raises Arithmetic ∷ [])
unfolding int_wrap most_made
irem_least = refl

-- 7 by -2 has the sign of 7
irem_negative : on_both (Divide Rem) (pos 7) (negsuc 1) ≡ Each (Divides (parameter 1 (negsuc 1))) (gives Rem (pos 1) ∷ raises Arithmetic ∷ [])
unfolding int_wrap most_made
irem_negative = refl

-- iinc adds a word to a local, and leaves the stack
iinc : on_stack (Increment 0 (negsuc 2)) (text ∷ [])
    ≡ Once (Moves Next (record {
      locals = Some (Int (record { word = pos 4; shadow = Binary Add (Param 0 I) (Constant (negsuc 2)) })) ∷ None ∷ Some Null ∷ [];
      stack = text ∷ [];
      memory = memory;
    }))
unfolding int_wrap
iinc = refl

-- no rule adds to a reference
iinc_of_null : on_stack (Increment 2 (pos 1)) [] ≡ Once (Stops Stuck)
iinc_of_null = refl

-- BRANCHES OF INTS: arm 0 goes on, and arm 1 jumps

abbrev compared : Comparison → Listed
compared comparison = on_both (Compare comparison) (pos 3) (pos 4)

-- asks this of the two parameters, and takes both from the stack
abbrev asks : Comparison → Listed
asks comparison = Each (Compares comparison (parameter 0 (pos 3)) (parameter 1 (pos 4))) (moves (text ∷ []) ∷ jumps 0 (text ∷ []) ∷ [])

-- if_icmpeq asks whether the two are equal
if_icmpeq : compared Equal ≡ asks Equal
if_icmpeq = refl

-- if_icmpne asks whether they differ
if_icmpne : compared NotEqual ≡ asks NotEqual
if_icmpne = refl

-- if_icmplt asks whether the first is below the second
if_icmplt : compared Less ≡ asks Less
if_icmplt = refl

-- if_icmpge asks whether the first is not below the second
if_icmpge : compared AtLeast ≡ asks AtLeast
if_icmpge = refl

-- if_icmpgt asks whether the first is above the second
if_icmpgt : compared Greater ≡ asks Greater
if_icmpgt = refl

-- if_icmple asks whether the first is not above the second
if_icmple : compared AtMost ≡ asks AtMost
if_icmple = refl

abbrev compared_with_zero : Comparison → Listed
compared_with_zero comparison = on_stack (CompareZero comparison) (first (pos 3) ∷ text ∷ [])

-- asks this of the parameter and the constant 0, and takes the parameter from the stack
abbrev asks_of_zero : Comparison → Listed
asks_of_zero comparison = Each (Compares comparison (parameter 0 (pos 3)) (constant (pos 0))) (moves (text ∷ []) ∷ jumps 0 (text ∷ []) ∷ [])

-- ifeq asks whether the int is 0
ifeq : compared_with_zero Equal ≡ asks_of_zero Equal
ifeq = refl

-- ifne asks whether the int is not 0
ifne : compared_with_zero NotEqual ≡ asks_of_zero NotEqual
ifne = refl

-- iflt asks whether the int is below 0
iflt : compared_with_zero Less ≡ asks_of_zero Less
iflt = refl

-- ifge asks whether the int is not below 0
ifge : compared_with_zero AtLeast ≡ asks_of_zero AtLeast
ifge = refl

-- ifgt asks whether the int is above 0
ifgt : compared_with_zero Greater ≡ asks_of_zero Greater
ifgt = refl

-- ifle asks whether the int is not above 0
ifle : compared_with_zero AtMost ≡ asks_of_zero AtMost
ifle = refl

-- the arms that a comparison takes of -1 and 0, of 0 and 0, of 1 and 0, and of the least and the greatest word
abbrev taken : Comparison → List ℕ
taken comparison = arm_of (Compares comparison (negsuc 0) (pos 0)) ∷ arm_of (Compares comparison (pos 0) (pos 0)) ∷ arm_of (Compares comparison (pos 1) (pos 0))
    ∷ arm_of (Compares comparison (negsuc 2147483647) (pos 2147483647)) ∷ []

-- only 0 and 0 are equal
taken_equal : taken Equal ≡ 0 ∷ 1 ∷ 0 ∷ 0 ∷ []
taken_equal = refl

-- all the others differ
taken_not_equal : taken NotEqual ≡ 1 ∷ 0 ∷ 1 ∷ 1 ∷ []
taken_not_equal = refl

-- -1 is below 0, and the least word is below the greatest
taken_less : taken Less ≡ 1 ∷ 0 ∷ 0 ∷ 1 ∷ []
taken_less = refl

-- 0 and 1 are not below 0
taken_at_least : taken AtLeast ≡ 0 ∷ 1 ∷ 1 ∷ 0 ∷ []
taken_at_least = refl

-- 1 is above 0
taken_greater : taken Greater ≡ 0 ∷ 0 ∷ 1 ∷ 0 ∷ []
taken_greater = refl

-- -1 and 0 are not above 0, nor the least word above the greatest
taken_at_most : taken AtMost ≡ 1 ∷ 1 ∷ 0 ∷ 1 ∷ []
taken_at_most = refl

-- what the two arms of a comparison of the parameters say
abbrev said : Comparison → List (List (Literal Shadowed))
said comparison = map (literals ints.constant (Compares comparison (parameter 0 (pos 3)) (parameter 1 (pos 4)))) (0 ∷ 1 ∷ [])

-- arm 0 says this of the parameters, and arm 1 that
abbrev this_or_that : Rel → Rel → List (List (Literal Shadowed))
this_or_that this that = map (λ rel. record { rel = rel; a = parameter 0 (pos 3); b = parameter 1 (pos 4) } ∷ []) (this ∷ that ∷ [])

-- of equality: they differ, or are equal
said_by_equal : said Equal ≡ this_or_that Ne Eq
said_by_equal = refl

-- of difference: they are equal, or differ
said_by_not_equal : said NotEqual ≡ this_or_that Eq Ne
said_by_not_equal = refl

-- of the first below the second: it is not below, or is
said_by_less : said Less ≡ this_or_that Ge Lt
said_by_less = refl

-- of the first not below the second: it is below, or is not
said_by_at_least : said AtLeast ≡ this_or_that Lt Ge
said_by_at_least = refl

-- of the first above the second: it is not above, or is
said_by_greater : said Greater ≡ this_or_that Le Gt
said_by_greater = refl

-- of the first not above the second: it is above, or is not
said_by_at_most : said AtMost ≡ this_or_that Gt Le
said_by_at_most = refl

-- BRANCHES OF REFERENCES, which ask no test

-- what is done where a branch jumps, and where it goes on: the stack has lost its operands
abbrev branches : Listed
branches = Once (jumps 0 (fixed (pos 1) ∷ []))

abbrev goes_on : Listed
goes_on = Once (moves (fixed (pos 1) ∷ []))

abbrev same : Value Shadowed → Value Shadowed → Listed
same a b = on_stack (CompareReferences true) (b ∷ a ∷ fixed (pos 1) ∷ [])

abbrev different : Value Shadowed → Value Shadowed → Listed
different a b = on_stack (CompareReferences false) (b ∷ a ∷ fixed (pos 1) ∷ [])

-- if_acmpeq jumps for an array and itself
if_acmpeq : same (Array 0) (Array 0) ≡ branches
if_acmpeq = refl

-- and goes on for two arrays
if_acmpeq_of_two : same (Array 0) (Array 1) ≡ goes_on
if_acmpeq_of_two = refl

-- a throwable is the same by its number
same_throwable : same (Throwable 0 Arithmetic) (Throwable 0 Arithmetic) ≡ branches
same_throwable = refl

-- two throwables of one class differ
two_throwables : same (Throwable 0 Arithmetic) (Throwable 1 Arithmetic) ≡ goes_on
two_throwables = refl

-- a text is the same by its bytes
same_text : same text (Text (codes "no")) ≡ branches
same_text = refl

-- texts of other bytes differ
two_texts : same text (Text (codes "not")) ≡ goes_on
two_texts = refl

-- null is null
same_null : same Null Null ≡ branches
same_null = refl

-- null is no array
null_and_array : same Null (Array 0) ≡ goes_on
null_and_array = refl

-- an array is no throwable, also of the same number
array_and_throwable : same (Array 0) (Throwable 0 Arithmetic) ≡ goes_on
array_and_throwable = refl

-- if_acmpne goes on for an array and itself
if_acmpne : different (Array 0) (Array 0) ≡ goes_on
if_acmpne = refl

-- and jumps for two arrays
if_acmpne_of_two : different (Array 0) (Array 1) ≡ branches
if_acmpne_of_two = refl

-- ifnull jumps for null
ifnull : on_stack (CompareNull true) (Null ∷ fixed (pos 1) ∷ []) ≡ branches
ifnull = refl

-- and goes on for a text
ifnull_of_text : on_stack (CompareNull true) (text ∷ fixed (pos 1) ∷ []) ≡ goes_on
ifnull_of_text = refl

-- ifnonnull goes on for null
ifnonnull : on_stack (CompareNull false) (Null ∷ fixed (pos 1) ∷ []) ≡ goes_on
ifnonnull = refl

-- and jumps for an array
ifnonnull_of_array : on_stack (CompareNull false) (Array 0 ∷ fixed (pos 1) ∷ []) ≡ branches
ifnonnull_of_array = refl

-- OTHER BRANCHES

-- goto and goto_w jump, and leave the stack
goto : on_stack Goto (text ∷ []) ≡ Once (jumps 0 (text ∷ []))
goto = refl

-- tableswitch from 3 to 4: a target for each key, and that of the default behind them
tableswitch : on_stack (Switch (pos 3 ∷ pos 4 ∷ [])) (first (pos 4) ∷ text ∷ [])
    ≡ Each (Selects (parameter 0 (pos 4)) (pos 3 ∷ pos 4 ∷ [])) (jumps 0 (text ∷ []) ∷ jumps 1 (text ∷ []) ∷ jumps 2 (text ∷ []) ∷ [])
tableswitch = refl

-- lookupswitch without a key: the default alone
lookupswitch : on_stack (Switch []) (first (pos 4) ∷ text ∷ []) ≡ Each (Selects (parameter 0 (pos 4)) []) (jumps 0 (text ∷ []) ∷ [])
lookupswitch = refl

-- no rule switches on a reference
switch_on_null : on_stack (Switch (pos 3 ∷ [])) (Null ∷ []) ≡ Once (Stops Stuck)
switch_on_null = refl

-- RETURNS

-- ireturn returns the top
ireturn : on_stack (ReturnValue OfInt) (first (pos 4) ∷ text ∷ []) ≡ Once (Returns (Some (first (pos 4))) memory)
ireturn = refl

-- areturn returns the top
areturn : on_stack (ReturnValue OfReference) (Array 0 ∷ []) ≡ Once (Returns (Some (Array 0)) memory)
areturn = refl

-- return returns nothing
return_nothing : on_stack ReturnVoid (text ∷ []) ≡ Once (Returns None memory)
return_nothing = refl
