-- The keys of a table ascend.
use Rattle.std.proofs.Common.{◌≡◌, ℕ, zero, suc, List, [], ◌∷◌, ◌++◌, length, true, Ok, ℤ, pos, ◌+ℤ◌, refl, sym, ap, subst, ◌∙◌, arith}
use Rattle.std.specs.Prelude.{int_lt}
use Rattle.std.proofs.lemmas.Int.{ints}
use Rattle.ms_pool.specs.Places.{Place}
use Rattle.ms_pool.specs.Formats.{added, repeated}
use Rattle.ms_pool.specs.Exact.{ok_is, then_ok}
use Rattle.ms_code.specs.declared.trouble.Trouble.{Trouble}
use Rattle.ms_code.specs.declared.instruction.Case.{Case}
use Rattle.ms_code.specs.Instructions.{case_of, s4, table_case, target_from}
use Rattle.ms_code.specs.Keys.{ascend_above, keys_ascend}

-- the keys are this one and those that follow it
abbrev pub AreFrom : ℤ → List Case → Type 0
AreFrom key [] = Unit {0}
AreFrom key (case ∷ cases) = (case.key ≡ key) × AreFrom (key +ℤ pos 1) cases

one_more : (key : ℤ) (n : ℕ) → (key +ℤ pos 1) +ℤ pos n ≡ key +ℤ pos (suc n)
one_more key n = omega (arith, ints)

pub are_from_more : (key : ℤ) (cases : List Case) (case : Case) → AreFrom key cases → case.key ≡ key +ℤ pos (length cases) → AreFrom key (cases ++ case ∷ [])
are_from_more key [] case are is = (is ∙ omega (arith, ints), tt)
are_from_more key (first ∷ cases) case are is = (are.0, are_from_more (key +ℤ pos 1) cases case are.1 (is ∙ sym (one_more key (length cases))))

next_above : (key : ℤ) → int_lt key (key +ℤ pos 1) ≡ true
next_above key = grind (arith, ints)

above : (key : ℤ) (cases : List Case) → AreFrom (key +ℤ pos 1) cases → ascend_above key cases ≡ true
above key [] are = refl
above key (case ∷ cases) are =
    let rest = above (key +ℤ pos 1) cases are.1 in
    rw (are.0, next_above key) rest

pub are_from_ascend : (key : ℤ) (cases : List Case) → AreFrom key cases → keys_ascend cases ≡ true
are_from_ascend key [] are = refl
are_from_ascend key (case ∷ cases) are = rw are.0 (above key cases are.1)

-- what was read is behind what was read before it
case_key : (place offset : ℕ) (key : ℤ) (at : Place) (x : Case × Place) → (case_of place offset key).read at ≡ Ok x → x.0.key ≡ key
unfolding case_of
case_key place offset key at x found =
    then_ok ((s4 place).read at) _ x found (λ by is_by rest. ap (λ (y : Case × Place). y.0.key) (sym (ok_is {Fault = Trouble} (record { key = key; target = target_from offset by.0 }, by.1) x rest)))

pub table_keys : (n place offset : ℕ) (low : ℤ) (before : List Case) (at : Place) (x : List Case × Place) → AreFrom low before → (repeated n (added (table_case place offset low)) before).read at ≡ Ok x → AreFrom low x.0
table_keys zero place offset low before at x are found = subst (λ (y : List Case × Place). AreFrom low y.0) (ok_is {Fault = Trouble} (before, at) x found) are
table_keys (suc n) place offset low before at x are found =
    then_ok ((added (table_case place offset low) before).read at) _ x found (λ all is_all rest.
    then_ok ((table_case place offset low before).read at) _ all is_all (λ case is_case last.
    let added_on = subst (λ (y : List Case × Place). AreFrom low y.0) (ok_is {Fault = Trouble} (before ++ case.0 ∷ [], case.1) all last) (are_from_more low before case.0 are (case_key place offset (low +ℤ pos (length before)) at case is_case)) in
    table_keys n place offset low all.0 all.1 x added_on rest))
