-- Code from an offset on, and what walked code is from a target on.
use Rattle.std.proofs.Common.{◌≡◌, ℕ, zero, suc, ◌+◌, ◌-◌, ◌<◌, ◌≤◌, Bool, true, false, cond, List, [], ◌∷◌, length, refl, sym, ap, subst, ◌∙◌, arith, inl, inr, ◌⊎◌}
use Rattle.std.specs.Prelude.{nat_le, ◌==◌, Some}
use Rattle.std.proofs.lemmas.Bool.{and_parts, leb-true, le-leb, eqb-true}
use Rattle.ms_classfile.specs.declared.instruction.Instruction.{Instruction}
use Rattle.ms_classfile.specs.declared.instruction.Instruction.TheVariants.{IloadN, Iload, Iconst, Bipush, Iadd, Isub, If, IfIcmp, Ireturn}
use Rattle.ms_classfile.specs.Instructions.{size_of, depth_after, ends_with_return, is_empty_at, is_placed, is_return, is_target, is_walked}
use Rattle.ms_jvm.specs.Programs.{code_from, distance_of}

-- ---- OFFSETS

pub some_size : (instruction : Instruction) → 0 < size_of instruction
some_size (IloadN local) = omega arith
some_size (Iload local) = omega arith
some_size (Iconst word) = omega arith
some_size (Bipush word) = omega arith
some_size Iadd = omega arith
some_size Isub = omega arith
some_size (If condition far) = omega arith
some_size (IfIcmp condition far) = omega arith
some_size Ireturn = omega arith

pub from_zero : (code : List Instruction) → code_from 0 code ≡ code
from_zero [] = refl
from_zero (instruction ∷ code) = refl

-- the code behind the first instruction, some bytes further on
pub from_behind : (offset : ℕ) (instruction : Instruction) (code : List Instruction) → size_of instruction ≤ offset → code_from offset (instruction ∷ code) ≡ code_from (offset - size_of instruction) code
from_behind zero instruction code within = absurd (omega (arith, some_size instruction))
from_behind (suc offset) instruction code within = rw (le-leb _ _ within) refl

-- where an instruction starts at an offset, the code from further on is code from there
pub from_further : (offset far : ℕ) (code : List Instruction) (first : Instruction) (rest : List Instruction) → code_from offset code ≡ first ∷ rest → code_from (offset + far) code ≡ code_from far (first ∷ rest)
from_further offset far [] first rest found = absurd cc
from_further zero far (instruction ∷ code) first rest found =
    let same : 0 + far ≡ far = omega arith in ap (λ (n : ℕ). code_from n (instruction ∷ code)) same ∙ ap (code_from far) found
from_further (suc offset) far (instruction ∷ code) first rest found =
    elim (le_or (size_of instruction) (suc offset)) [
      | inl le ↦
          let inside : code_from (suc offset - size_of instruction) code ≡ first ∷ rest = sym (from_behind (suc offset) instruction code le) ∙ found in
          let further : suc offset + far - size_of instruction ≡ (suc offset - size_of instruction) + far = omega arith in
          from_behind (suc offset + far) instruction code (omega arith)
          ∙ ap (λ (n : ℕ). code_from n code) further
          ∙ from_further (suc offset - size_of instruction) far code first rest inside
      | inr gt ↦ absurd (let none : [] ≡ first ∷ rest = rw gt at found in cc)
    ]
  where
    le_or : (n m : ℕ) → (n ≤ m) ⊎ (nat_le n m ≡ false)
    le_or n m = by_test (nat_le n m) refl
      where
        by_test : (test : Bool) → nat_le n m ≡ test → (n ≤ m) ⊎ (nat_le n m ≡ false)
        by_test true e = inl (leb-true _ _ e)
        by_test false e = inr e

-- ---- WALKED CODE

-- what holds of code that is walked from this depth, in a method with so many parameters
pub record IsWalked (parameters most depth : ℕ) (code : List Instruction) : Type 0 where
  pub walked : is_walked parameters most depth code ≡ true
  pub returns : ends_with_return code ≡ true

pub placed : (parameters most depth : ℕ) (first : Instruction) (rest : List Instruction) → IsWalked parameters most depth (first ∷ rest) → is_placed parameters most depth first rest ≡ true
placed parameters most depth first rest walks = (and_parts (is_placed parameters most depth first rest) _ walks.walked).0

-- behind an instruction that is no return the code goes on
pub behind : (parameters most depth : ℕ) (first : Instruction) (rest : List Instruction) → IsWalked parameters most depth (first ∷ rest) → is_return first ≡ false → IsWalked parameters most (depth_after depth first) rest
behind parameters most depth first [] walks goes_on = absurd (let returns : is_return first ≡ true = walks.returns in cc)
behind parameters most depth first (next ∷ rest) walks goes_on = record {
  walked = (and_parts (is_placed parameters most depth first (next ∷ rest)) _ walks.walked).1;
  returns = walks.returns;
}

-- the code from a place where the stack is empty
pub record IsAhead (parameters most : ℕ) (code target : List Instruction) : Type 0 where
  pub walks : IsWalked parameters most 0 target
  pub shorter : length target ≤ length code

pub ahead : (parameters most depth far : ℕ) (code : List Instruction) → is_empty_at depth far code ≡ true → IsWalked parameters most depth code → IsAhead parameters most code (code_from far code)
ahead parameters most depth far [] empty walks = absurd cc
ahead parameters most depth zero (instruction ∷ code) empty walks = record {
  walks = subst (λ (n : ℕ). IsWalked parameters most n (instruction ∷ code)) (eqb-true _ _ empty) walks;
  shorter = omega arith;
}
ahead parameters most depth (suc far) (instruction ∷ []) empty walks = absurd (let none = (and_parts (nat_le (size_of instruction) (suc far)) false empty).1 in cc)
ahead parameters most depth (suc far) (instruction ∷ next ∷ code) empty walks =
    let both = and_parts (nat_le (size_of instruction) (suc far)) (is_empty_at (depth_after depth instruction) (suc far - size_of instruction) (next ∷ code)) empty in
    let rest = ahead parameters most (depth_after depth instruction) (suc far - size_of instruction) (next ∷ code) both.1 (record {
      walked = (and_parts (is_placed parameters most depth instruction (next ∷ code)) _ walks.walked).1;
      returns = walks.returns;
    }) in
    subst (λ (target : List Instruction). IsAhead parameters most (instruction ∷ next ∷ code) target) (sym (from_behind (suc far) instruction (next ∷ code) (leb-true _ _ both.0)))
    (record { walks = rest.walks; shorter = omega (arith, rest.shorter) })

-- ---- BRANCHES

-- what the walk says of a branch
record IsBranch (depth far : ℕ) (branch : Instruction) (rest : List Instruction) : Type 0 where
  pub target : is_target far rest ≡ true
  pub empty : depth_after depth branch ≡ 0
  pub size : size_of branch ≡ 3
  pub goes_on : is_return branch ≡ false

is_branch : (parameters most depth far : ℕ) (branch : Instruction) (rest : List Instruction) → is_placed parameters most depth branch rest ≡ true → distance_of branch ≡ Some far → IsBranch depth far branch rest
is_branch parameters most depth far (IloadN local) rest stands leads = absurd cc
is_branch parameters most depth far (Iload local) rest stands leads = absurd cc
is_branch parameters most depth far (Iconst word) rest stands leads = absurd cc
is_branch parameters most depth far (Bipush word) rest stands leads = absurd cc
is_branch parameters most depth far Iadd rest stands leads = absurd cc
is_branch parameters most depth far Isub rest stands leads = absurd cc
is_branch parameters most depth far (If condition distance) rest stands leads =
    let both = and_parts (depth == 1) (is_target distance rest) stands in
    let same : distance ≡ far = cc in
    record { target = subst (λ (n : ℕ). is_target n rest ≡ true) same both.1; empty = ap (λ n. n - 1) (eqb-true _ _ both.0); size = refl; goes_on = refl }
is_branch parameters most depth far (IfIcmp condition distance) rest stands leads =
    let both = and_parts (depth == 2) (is_target distance rest) stands in
    let same : distance ≡ far = cc in
    record { target = subst (λ (n : ℕ). is_target n rest ≡ true) same both.1; empty = ap (λ n. n - 2) (eqb-true _ _ both.0); size = refl; goes_on = refl }
is_branch parameters most depth far Ireturn rest stands leads = absurd cc

-- a branch is no return
pub branch_goes_on : (parameters most depth far : ℕ) (branch : Instruction) (rest : List Instruction) → IsWalked parameters most depth (branch ∷ rest) → distance_of branch ≡ Some far → is_return branch ≡ false
branch_goes_on parameters most depth far branch rest walks leads = (is_branch parameters most depth far branch rest (placed parameters most depth branch rest walks) leads).goes_on

-- behind a branch the stack is empty
pub branch_empties : (parameters most depth far : ℕ) (branch : Instruction) (rest : List Instruction) → IsWalked parameters most depth (branch ∷ rest) → distance_of branch ≡ Some far → depth_after depth branch ≡ 0
branch_empties parameters most depth far branch rest walks leads = (is_branch parameters most depth far branch rest (placed parameters most depth branch rest walks) leads).empty

-- the code from the target of a branch on
pub targeted : (parameters most depth far : ℕ) (branch : Instruction) (rest : List Instruction) → IsWalked parameters most depth (branch ∷ rest) → distance_of branch ≡ Some far → IsAhead parameters most rest (code_from far (branch ∷ rest))
targeted parameters most depth far branch rest walks leads =
    let is = is_branch parameters most depth far branch rest (placed parameters most depth branch rest walks) leads in
    let both = and_parts (nat_le 3 far) (is_empty_at 0 (far - 3) rest) is.target in
    let there : code_from far (branch ∷ rest) ≡ code_from (far - 3) rest =
    from_behind far branch rest (subst (λ (n : ℕ). n ≤ far) (sym is.size) (leb-true _ _ both.0)) ∙ ap (λ (n : ℕ). code_from (far - n) rest) is.size in
    subst (λ (target : List Instruction). IsAhead parameters most rest target) (sym there)
    (ahead parameters most 0 (far - 3) rest both.1 (subst (λ (n : ℕ). IsWalked parameters most n rest) is.empty (behind parameters most depth branch rest walks is.goes_on)))

-- the code that an arm of a branch leads to
pub arm_walks : (parameters most depth far : ℕ) (branch : Instruction) (rest : List Instruction) (taken : Bool) → IsWalked parameters most depth (branch ∷ rest) → distance_of branch ≡ Some far → IsAhead parameters most rest (cond taken (code_from far (branch ∷ rest)) rest)
arm_walks parameters most depth far branch rest true walks leads = targeted parameters most depth far branch rest walks leads
arm_walks parameters most depth far branch rest false walks leads = record {
  walks = subst (λ (n : ℕ). IsWalked parameters most n rest) (branch_empties parameters most depth far branch rest walks leads) (behind parameters most depth branch rest walks (branch_goes_on parameters most depth far branch rest walks leads));
  shorter = omega arith;
}

-- walked code has an instruction
pub some_walked : (parameters most depth : ℕ) (code : List Instruction) → IsWalked parameters most depth code → 0 < length code
some_walked parameters most depth [] walks = absurd (let none = walks.returns in cc)
some_walked parameters most depth (instruction ∷ code) walks = omega arith
