-- Code that is walked, as a loop walks it.
use Rattle.std.proofs.Common.{◌≡◌, ℕ, suc, ◌-◌, ◌<◌, Bool, false, Option, Some, None, List, [], ◌∷◌, length, refl, sym, ap, ◌∙◌, arith}
use Rattle.std.specs.Prelude.{◌==◌, slice_get}
use Rattle.ms_classfile.specs.declared.instruction.Instruction.{Instruction}
use Rattle.ms_classfile.specs.Instructions.{ends_with_return, is_empty_at, is_return}

-- the place that is looked for is here
pub is_here : (depth : ℕ) (code : List Instruction) → 0 < length code → is_empty_at depth 0 code ≡ (depth == 0)
is_here depth [] some = absurd (omega (arith, some))
is_here depth (instruction ∷ code) some = refl

-- ---- the last instruction

returns : Option Instruction → Bool
returns None = false
returns (Some instruction) = is_return instruction

ends_by_last : (code : List Instruction) → ends_with_return code ≡ returns (slice_get code (length code - 1))
unfolding returns
ends_by_last [] = refl
ends_by_last (instruction ∷ []) = refl
ends_by_last (instruction ∷ next ∷ code) =
    let all : length (instruction ∷ next ∷ code) - 1 ≡ suc (length code) = omega arith in
    let behind : length (next ∷ code) - 1 ≡ length code = omega arith in
    ends_by_last (next ∷ code) ∙ ap (λ (k : ℕ). returns (slice_get (next ∷ code) k)) behind ∙ sym (ap (λ (k : ℕ). returns (slice_get (instruction ∷ next ∷ code) k)) all)

-- the code ends with a return where its last instruction is one
pub last_returns : (code : List Instruction) (last : Instruction) → Some last ≡ slice_get code (length code - 1) → is_return last ≡ ends_with_return code
unfolding returns
last_returns code last found = ap returns found ∙ sym (ends_by_last code)

-- code with no last instruction does not
pub none_returns : (code : List Instruction) → None ≡ slice_get code (length code - 1) → false ≡ ends_with_return code
unfolding returns
none_returns code found = ap returns found ∙ sym (ends_by_last code)
