-- A lookupswitch that was read part by part.
use Rattle.std.proofs.Common.{◌≡◌, ℕ, List, [], true, false, Ok, ℤ, pos, refl}
use Rattle.std.specs.Prelude.{int_lt, unsigned_abs}
use Rattle.ms_pool.specs.Places.{Place}
use Rattle.ms_pool.specs.Formats.{added, repeated}
use Rattle.ms_code.specs.declared.instruction.Case.{Case}
use Rattle.ms_code.specs.declared.instruction.Operand.TheVariants as operands
use Rattle.ms_code.specs.Instructions.{gap, lookup_case, lookup_switch, s4, target_from}
use Rattle.ms_code.specs.Keys.{SwitchCases, keys_ascend}

pub lookup_is : (place offset : ℕ) (start behind_gap behind_default behind_count after : Place) (bytes : List ℕ) (otherwise count : ℤ) (cases : List Case) (switch : SwitchCases)
    → (gap place offset).read start ≡ Ok (bytes, behind_gap) → (s4 place).read behind_gap ≡ Ok (otherwise, behind_default) → (s4 place).read behind_default ≡ Ok (count, behind_count) → int_lt count (pos 0) ≡ false
    → (repeated (unsigned_abs count) (added (λ before. lookup_case place offset)) []).read behind_count ≡ Ok (cases, after) → keys_ascend cases ≡ true → switch ≡ record { cases = cases; otherwise = target_from offset otherwise }
    → (lookup_switch place offset).read start ≡ Ok (operands.Cases switch, after)
unfolding lookup_switch
lookup_is place offset start behind_gap behind_default behind_count after bytes otherwise count cases switch is_gap is_default is_count counted are_cases ascend is_switch =
    rw (is_gap, is_default, is_count, counted, are_cases, ascend, is_switch) refl
