-- A frame, and the effect of an instruction on it as a list, for the examples.
use Rattle.std.proofs.Common.{ℕ, zero, suc, List, [], ◌∷◌, ℤ, pos, Some, None, codes}
use Rattle.ms_words.specs.declared.kind.Kind.TheVariants.{I}
use Rattle.ms_words.specs.declared.operator.Un.{Un}
use Rattle.ms_words.specs.declared.operator.Bin.{Bin}
use Rattle.ms_words.specs.declared.thrown.Thrown.{Thrown}
use Rattle.ms_terms.specs.Terms.{Param, Unary, Binary}
use Rattle.ms_machine.specs.Ints.{Int as Shadowed, ints}
use Rattle.ms_machine.specs.Instructions.{Instr}
use Rattle.ms_machine.specs.Values.{Value, Int, Null, Text, Memory}
use Rattle.ms_machine.specs.Effects.{Here, Next, Target, Doing, Moves, Raises, Test, Effect, Does, Asks, effect}
use Rattle.ms_machine.specs.Tests.{arms_of}
use Rattle.ms_machine.proofs.Methods.{constant, parameter}

-- THE FRAME

-- the first parameter and the second, an int that no parameter entered, and a text
abbrev pub first : ℤ → Value Shadowed
first word = Int (parameter 0 word)

abbrev pub second : ℤ → Value Shadowed
second word = Int (parameter 1 word)

abbrev pub fixed : ℤ → Value Shadowed
fixed word = Int (constant word)

abbrev pub text : Value Shadowed
text = Text (codes "no")

-- what an operator gives of the first parameter, and of the first and the second: this word
abbrev pub of_first : Un → ℤ → Value Shadowed
of_first op word = Int (record { word = word; shadow = Unary op (Param 0 I) })

abbrev pub of_both : Bin → ℤ → Value Shadowed
of_both op word = Int (record { word = word; shadow = Binary op (Param 0 I) (Param 1 I) })

-- Class 0, named A, was started, and its static field k holds 30. There are two arrays, of two cells and of none, and one
-- throwable.
abbrev pub memory : Memory Shadowed
memory = record {
  statics = record { class = 0; name = codes "k"; descriptor = codes "I"; value = fixed (pos 30) } ∷ [];
  started = 0 ∷ [];
  arrays = (constant (pos 10) ∷ constant (pos 11) ∷ []) ∷ [] ∷ [];
  throwables = 1;
}

-- with this memory, local 0 the first parameter, local 1 without a value, local 2 null, and this operand stack
abbrev pub with_memory : Memory Shadowed → List (Value Shadowed) → Here Shadowed
with_memory shared stack = record { locals = Some (first (pos 7)) ∷ None ∷ Some Null ∷ []; stack = stack; memory = shared }

abbrev pub on : List (Value Shadowed) → Here Shadowed
on stack = with_memory memory stack

-- EFFECTS AS LISTS

-- what an instruction does, or the test that it asks with what it does for each arm
pub data Listed : Type 0 where
  Once : Doing Shadowed → Listed
  Each : Test Shadowed → List (Doing Shadowed) → Listed

abbrev first_arms : ℕ → (ℕ → Doing Shadowed) → List (Doing Shadowed)
first_arms zero arms = []
first_arms (suc count) arms = arms 0 ∷ first_arms count (λ arm. arms (suc arm))

abbrev pub listed : Effect Shadowed → Listed
listed (Does doing) = Once doing
listed (Asks test arms) = Each test (first_arms (arms_of test) arms)

-- the effect of an instruction on a stack
abbrev pub on_stack : Instr → List (Value Shadowed) → Listed
on_stack instr stack = listed (effect ints instr (on stack))

-- going on at the next instruction, and at a target, with this stack
abbrev pub moves : List (Value Shadowed) → Doing Shadowed
moves stack = Moves Next (on stack)

abbrev pub jumps : ℕ → List (Value Shadowed) → Doing Shadowed
jumps target stack = Moves (Target target) (on stack)

-- the machine throws: one throwable more is made
abbrev pub raises : Thrown → Doing Shadowed
raises class = Raises 1 class (record memory { throwables = 2 })
