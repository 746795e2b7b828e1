-- The machine at an instruction of walked code, for any ints.
use Rattle.std.proofs.Common.{◌≡◌, ℕ, suc, ◌+◌, ◌-◌, ◌<◌, Bool, true, false, cond, List, [], ◌∷◌, length, map, Some, None, refl, ap, ◌∙◌, arith}
use Rattle.ms_classfile.specs.declared.instruction.Instruction.{Instruction}
use Rattle.ms_classfile.specs.Instructions.{size_of}
use Rattle.ms_machine.specs.Ints.{Ints}
use Rattle.ms_machine.specs.Values.{Int, Returned}
use Rattle.ms_machine.specs.Effects.{Effect, Does, Asks, Doing, Moves, Returns, Next, Target, Test, by_arm, effect}
use Rattle.ms_machine.specs.Control.{Done, Goes, Ends, State, memory_at_start, perform, performed, step}
use Rattle.ms_machine.specs.Tests.{known_test}
use Rattle.ms_machine.specs.Segments.{Over, followed, forked, segment_within}
use Rattle.ms_jvm.specs.Programs.{at, code_from, distance_of, instr_of, views_of}
use Rattle.ms_jvm.specs.Turns.{here_with, locals_of}
use Rattle.ms_jvm.proofs.Codes.{from_behind, from_further, from_zero}

-- the state at an offset, with these ints on the stack
abbrev pub state_at : {V : Type 0} → List V → ℕ → List V → State V
state_at parameters offset stack = record {
  top = record { at = at offset; locals = locals_of parameters; stack = map (λ a. Int a) stack; initialises = None };
  below = [];
  memory = memory_at_start 0;
}

abbrev pub standing : {V : Type 0} → List V → ℕ → List V → Done V
standing parameters offset stack = Goes (state_at parameters offset stack)

-- ---- THE CODE BEHIND AN INSTRUCTION

pub code_behind : (offset : ℕ) (code : List Instruction) (first : Instruction) (rest : List Instruction) → code_from offset code ≡ first ∷ rest → code_from (offset + size_of first) code ≡ rest
code_behind offset code first rest here =
    let none : code_from (size_of first - size_of first) rest ≡ rest = ap (λ (n : ℕ). code_from n rest) (nothing (size_of first)) ∙ from_zero rest in
    from_further offset (size_of first) code first rest here ∙ from_behind (size_of first) first rest (omega arith) ∙ none
  where
    nothing : (n : ℕ) → n - n ≡ 0
    nothing n = omega arith

-- ---- A STEP

pub stepped : {V : Type 0} (I : Ints V) (code : List Instruction) (parameters : List V) (offset : ℕ) (stack : List V) (first : Instruction) (rest : List Instruction) (does : Effect V)
    → code_from offset code ≡ first ∷ rest → effect I (instr_of first) (here_with parameters stack) ≡ does
    → step I (views_of code) (state_at parameters offset stack) ≡ performed (views_of code) (state_at parameters offset stack) does
stepped I code parameters offset stack first rest does here is =
    let read : step I (views_of code) (state_at parameters offset stack) ≡ performed (views_of code) (state_at parameters offset stack) (effect I (instr_of first) (here_with parameters stack)) = rw here refl in
    read ∙ ap (performed (views_of code) (state_at parameters offset stack)) is

-- where the next instruction stands
pub moves_on : {V : Type 0} (code : List Instruction) (parameters : List V) (offset : ℕ) (stack left : List V) (first : Instruction) (rest : List Instruction) → code_from offset code ≡ first ∷ rest → 0 < length rest
    → perform (views_of code) (state_at parameters offset stack) (Moves Next (here_with parameters left)) ≡ standing parameters (offset + size_of first) left
moves_on code parameters offset stack left first [] here more = absurd (omega (arith, more))
moves_on code parameters offset stack left first (next ∷ rest) here more = rw here refl

-- where the target of a branch stands
pub moves_ahead : {V : Type 0} (code : List Instruction) (parameters : List V) (offset far : ℕ) (stack left : List V) (first : Instruction) (rest : List Instruction) → code_from offset code ≡ first ∷ rest → distance_of first ≡ Some far
    → perform (views_of code) (state_at parameters offset stack) (Moves (Target 0) (here_with parameters left)) ≡ standing parameters (offset + far) left
moves_ahead code parameters offset far stack left first rest here leads = rw (here, leads) refl

-- ---- WITHIN A SEGMENT

pub after_move : {V : Type 0} (I : Ints V) (code : List Instruction) (parameters : List V) (offset n : ℕ) (stack left : List V) (first : Instruction) (rest : List Instruction)
    → code_from offset code ≡ first ∷ rest → 0 < length rest → effect I (instr_of first) (here_with parameters stack) ≡ Does (Moves Next (here_with parameters left))
    → (segment_within I (views_of code) (suc n) (standing parameters offset stack)).after ≡ (segment_within I (views_of code) n (standing parameters (offset + size_of first) left)).after
after_move I code parameters offset n stack left first rest here more is =
    ap (λ s. (followed I (segment_within I (views_of code) n) s).after) (stepped I code parameters offset stack first rest (Does (Moves Next (here_with parameters left))) here is)
    ∙ ap (λ d. (segment_within I (views_of code) n d).after) (moves_on code parameters offset stack left first rest here more)

pub after_return : {V : Type 0} (I : Ints V) (code : List Instruction) (parameters : List V) (offset n : ℕ) (stack : List V) (first : Instruction) (rest : List Instruction) (a : V)
    → code_from offset code ≡ first ∷ rest → effect I (instr_of first) (here_with parameters stack) ≡ Does (Returns (Some (Int a)) (memory_at_start 0))
    → (segment_within I (views_of code) (suc n) (standing parameters offset stack)).after ≡ Over (Returned a)
after_return I code parameters offset n stack first rest a here is =
    ap (λ s. (followed I (segment_within I (views_of code) n) s).after) (stepped I code parameters offset stack first rest (Does (Returns (Some (Int a)) (memory_at_start 0))) here is)
    ∙ ended n
  where
    ended : (n : ℕ) → (segment_within I (views_of code) n (Ends (Returned a))).after ≡ Over (Returned a)
    ended n = refl

pub after_test : {V : Type 0} (I : Ints V) (code : List Instruction) (parameters : List V) (offset n : ℕ) (stack : List V) (first : Instruction) (rest : List Instruction) (test : Test V) (arms : ℕ → Doing V)
    → code_from offset code ≡ first ∷ rest → effect I (instr_of first) (here_with parameters stack) ≡ Asks test arms
    → (segment_within I (views_of code) (suc n) (standing parameters offset stack)).after
    ≡ (forked test (λ arm. perform (views_of code) (state_at parameters offset stack) (arms arm)) (segment_within I (views_of code) n) (known_test I test)).after
after_test I code parameters offset n stack first rest test arms here is =
    ap (λ s. (followed I (segment_within I (views_of code) n) s).after) (stepped I code parameters offset stack first rest (Asks test arms) here is)

-- ---- THE ARMS OF A BRANCH

-- where an arm leads: ahead where the branch is taken, else to the next instruction
abbrev pub offset_after : Bool → (offset far : ℕ) → Instruction → ℕ
offset_after taken offset far branch = cond taken (offset + far) (offset + size_of branch)

pub arm_leads : {V : Type 0} (code : List Instruction) (parameters : List V) (offset far : ℕ) (stack left : List V) (branch : Instruction) (rest : List Instruction) (taken : Bool)
    → code_from offset code ≡ branch ∷ rest → 0 < length rest → distance_of branch ≡ Some far
    → perform (views_of code) (state_at parameters offset stack) (by_arm (Moves Next (here_with parameters left)) (Moves (Target 0) (here_with parameters left)) (cond taken 1 0))
    ≡ standing parameters (offset_after taken offset far branch) left
arm_leads code parameters offset far stack left branch rest true here more leads = moves_ahead code parameters offset far stack left branch rest here leads
arm_leads code parameters offset far stack left branch rest false here more leads = moves_on code parameters offset stack left branch rest here more

pub arm_code : (code : List Instruction) (offset far : ℕ) (branch : Instruction) (rest : List Instruction) (taken : Bool) → code_from offset code ≡ branch ∷ rest
    → code_from (offset_after taken offset far branch) code ≡ cond taken (code_from far (branch ∷ rest)) rest
arm_code code offset far branch rest true here = from_further offset far code branch rest here
arm_code code offset far branch rest false here = code_behind offset code branch rest here
