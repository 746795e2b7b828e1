-- An opcode that is none of those that say all says not all, or nothing.
use Rattle.std.proofs.Common.{◌≡◌, ℕ, ◌<◌, ◌≤◌, ◌==◌, arith, nat_lt, Bool, true, false, ◌||◌, List, [], ◌∷◌, Option, None, Some, refl, sym, ap, ◌∙◌}
use Rattle.std.specs.Prelude.{is_none, option_and_then}
use Rattle.std.proofs.lemmas.Bool.{eqb-true, ltb-true}
use Rattle.ms_machine.specs.Instructions.{Instr}
use Rattle.ms_code.specs.declared.instruction.Operand.{Operand}
use Rattle.ms_program.specs.Views.{View}
use Rattle.ms_linking.specs.Groups.{Group, Fixed, OfWord, OfConstant, OfLoad, OfStore, OfIncrement, OfSwitch, OfGetStatic, OfPutStatic, OfInvoke, OfConstruct, OfNew, group_of}
use Rattle.ms_linking.specs.Linked.{Numbers, instr_in}
use Rattle.ms_linking.specs.Told.{fixed_in}
use Rattle.ms_linking.proofs.Opcodes.{all_below, passes}

-- it is none of these
abbrev pub IsOther : ℕ → List ℕ → Type 0
IsOther op [] = Unit {0}
IsOther op (first ∷ others) = IsOther op others × (op ≡ first → ⊥)

abbrev is_among : ℕ → List ℕ → Bool
is_among op [] = false
is_among op (first ∷ others) = (op == first) || is_among op others

isnt_among : (op : ℕ) (others : List ℕ) → IsOther op others → is_among op others ≡ false
isnt_among op [] is = refl
isnt_among op (first ∷ others) is = by_test (isnt_among op others is.0) (op == first) refl
  where
    by_test : is_among op others ≡ false → (b : Bool) → (op == first) ≡ b → (b || is_among op others) ≡ false
    by_test rest true same = absurd (is.1 (eqb-true op first same))
    by_test rest false same = rest

-- the opcodes below 96 that say all, the last first
abbrev pub moving_said : List ℕ
moving_said =
    95 ∷ 94 ∷ 93 ∷ 92 ∷ 91 ∷ 90 ∷ 89 ∷ 88 ∷ 87 ∷ 79 ∷ 78 ∷ 77 ∷ 76 ∷ 75 ∷ 62 ∷ 61 ∷ 60 ∷ 59 ∷ 46 ∷ 45 ∷ 44 ∷ 43 ∷ 42 ∷ 29 ∷ 28 ∷ 27 ∷ 26
    ∷ 8 ∷ 7 ∷ 6 ∷ 5 ∷ 4 ∷ 3 ∷ 2 ∷ 1 ∷ 0 ∷ []

-- those from 96 on
abbrev pub working_said : List ℕ
working_said =
    200 ∷ 199 ∷ 198 ∷ 191 ∷ 190 ∷ 188 ∷ 177 ∷ 176 ∷ 172 ∷ 167 ∷ 166 ∷ 165 ∷ 164 ∷ 163 ∷ 162 ∷ 161 ∷ 160 ∷ 159 ∷ 158 ∷ 157 ∷ 156 ∷ 155 ∷ 154 ∷ 153
    ∷ 147 ∷ 146 ∷ 145 ∷ 130 ∷ 128 ∷ 126 ∷ 124 ∷ 122 ∷ 120 ∷ 116 ∷ 112 ∷ 108 ∷ 104 ∷ 100 ∷ 96 ∷ []

-- whether an opcode is among these, or says not all
abbrev is_told : List ℕ → ℕ → Bool
is_told said op = is_among op said || is_none (option_and_then fixed_in (group_of op))

first_96 : all_below 96 (is_told moving_said) ≡ true
unfolding group_of
first_96 = refl

from_96 : all_below 256 (λ op. nat_lt op 96 || is_told working_said op) ≡ true
unfolding group_of
from_96 = refl

none_is : (found : Option Instr) → is_none found ≡ true → None ≡ found
none_is None is = refl
none_is (Some x) is = absurd (let e = is in cc)

-- each other opcode doesn't
says_less : (said : List ℕ) (op : ℕ) → IsOther op said → is_told said op ≡ true → None ≡ option_and_then fixed_in (group_of op)
says_less said op other told = none_is (option_and_then fixed_in (group_of op)) (sym (ap (λ (b : Bool). b || is_none (option_and_then fixed_in (group_of op))) (isnt_among op said other)) ∙ told)

pub others_move_less : (op : ℕ) → op < 96 → IsOther op moving_said → None ≡ option_and_then fixed_in (group_of op)
others_move_less op below other = says_less moving_said op other (passes 96 op (is_told moving_said) first_96 below)

pub others_work_less : (op : ℕ) → 96 ≤ op → op < 256 → IsOther op working_said → None ≡ option_and_then fixed_in (group_of op)
others_work_less op from below other = says_less working_said op other (by_test (nat_lt op 96) refl (passes 256 op (λ op. nat_lt op 96 || is_told working_said op) from_96 below))
  where
    by_test : (b : Bool) → nat_lt op 96 ≡ b → (b || is_told working_said op) ≡ true → is_told working_said op ≡ true
    by_test true less told = absurd (omega (arith, from, ltb-true op 96 less))
    by_test false less told = told

-- OPCODES THAT SAY NOT ALL

-- they, the last first
abbrev pub partly_said : List ℕ
partly_said = 187 ∷ 184 ∷ 183 ∷ 179 ∷ 178 ∷ 171 ∷ 170 ∷ 132 ∷ 58 ∷ 54 ∷ 25 ∷ 21 ∷ 19 ∷ 18 ∷ 17 ∷ 16 ∷ []

-- what the machine does is nothing, or said by the opcode alone
abbrev is_said : Option Group → Bool
is_said None = true
is_said (Some (Fixed instr)) = true
is_said group = false

whole_256 : all_below 256 (λ op. is_among op partly_said || is_said (group_of op)) ≡ true
unfolding group_of
whole_256 = refl

said_whole : (numbers : Numbers) (view : View) (operand : Operand) (group : Option Group) → is_said group ≡ true → option_and_then fixed_in group ≡ option_and_then (instr_in numbers view operand) group
said_whole numbers view operand None is = refl
said_whole numbers view operand (Some (Fixed instr)) is = refl
said_whole numbers view operand (Some OfWord) is = absurd (let e = is in cc)
said_whole numbers view operand (Some OfConstant) is = absurd (let e = is in cc)
said_whole numbers view operand (Some (OfLoad sort)) is = absurd (let e = is in cc)
said_whole numbers view operand (Some (OfStore sort)) is = absurd (let e = is in cc)
said_whole numbers view operand (Some OfIncrement) is = absurd (let e = is in cc)
said_whole numbers view operand (Some OfSwitch) is = absurd (let e = is in cc)
said_whole numbers view operand (Some OfGetStatic) is = absurd (let e = is in cc)
said_whole numbers view operand (Some OfPutStatic) is = absurd (let e = is in cc)
said_whole numbers view operand (Some OfInvoke) is = absurd (let e = is in cc)
said_whole numbers view operand (Some OfConstruct) is = absurd (let e = is in cc)
said_whole numbers view operand (Some OfNew) is = absurd (let e = is in cc)

-- each other opcode says all, or nothing
pub others_say_all : (numbers : Numbers) (view : View) (operand : Operand) (op : ℕ) → op < 256 → IsOther op partly_said → option_and_then fixed_in (group_of op) ≡ option_and_then (instr_in numbers view operand) (group_of op)
others_say_all numbers view operand op below other =
    let all : (is_among op partly_said || is_said (group_of op)) ≡ true = passes 256 op (λ op. is_among op partly_said || is_said (group_of op)) whole_256 below in
    said_whole numbers view operand (group_of op) (sym (ap (λ (b : Bool). b || is_said (group_of op)) (isnt_among op partly_said other)) ∙ all)
