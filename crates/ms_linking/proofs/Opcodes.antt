-- The table of what the machine does has exactly the opcodes that are decoded.
use Rattle.std.proofs.Common.{◌≡◌, ℕ, zero, suc, ◌<◌, ◌==◌, Bool, true, false, ◌&&◌, nat_le, nat_lt, cond, List, [], ◌∷◌, Some, None, refl, ap, ◌∙◌, arith}
use Rattle.std.specs.Prelude.{find, not, option_map}
use Rattle.std.specs.List.{list_all}
use Rattle.std.proofs.lemmas.Bool.{eqb-true, eqb-false, leb-true, ltb-true, ltb-false}
use Rattle.ms_code.specs.Opcodes as code
use Rattle.ms_code.specs.Opcodes.{form_of, subset}
use Rattle.ms_linking.specs.Groups as table
use Rattle.ms_linking.specs.Groups.{Group, group_of, groups}
use Rattle.ms_linking.specs.Laws.{go_together}

-- a test of each number below this one
abbrev pub all_below : ℕ → (ℕ → Bool) → Bool
all_below zero test = true
all_below (suc n) test = test n && all_below n test

both : (a b : Bool) → (a && b) ≡ true → (a ≡ true) × (b ≡ true)
both true b is = (refl, is)
both false b is = absurd (let e = is in cc)

pub passes : (n k : ℕ) (test : ℕ → Bool) → all_below n test ≡ true → k < n → test k ≡ true
passes zero k test all below = absurd (omega (arith, below))
passes (suc n) k test all below = by_test (k == n) refl (passes n k test (both (test n) (all_below n test) all).1)
  where
    by_test : (b : Bool) → (k == n) ≡ b → (k < n → test k ≡ true) → test k ≡ true
    by_test true is rest = ap test (eqb-true k n is) ∙ (both (test n) (all_below n test) all).0
    by_test false is rest = rest (omega (arith, below, eqb-false k n is))

-- OPCODES FROM 201 ON

-- no row has the opcode
none_found : {Row : Type 0} (test : Row → Bool) (rows : List Row) → list_all (λ row. not (test row)) rows ≡ true → find test rows ≡ None
none_found test [] all = refl
none_found test (row ∷ rows) all = by_test (test row) refl (none_found test rows)
  where
    by_test : (b : Bool) → test row ≡ b → (list_all (λ row. not (test row)) rows ≡ true → find test rows ≡ None) → cond b (Some row) (find test rows) ≡ None
    by_test true is rest = absurd (let e = (both (not (test row)) (list_all (λ row. not (test row)) rows) all).0 in let f = is in cc)
    by_test false is rest = rest (both (not (test row)) (list_all (λ row. not (test row)) rows) all).1

all_imply : {Row : Type 0} (low test : Row → Bool) → ((row : Row) → low row ≡ true → test row ≡ true) → (rows : List Row) → list_all low rows ≡ true → list_all test rows ≡ true
all_imply low test implies [] all = refl
all_imply low test implies (row ∷ rows) all =
    let parts = both (low row) (list_all low rows) all in
    rw (implies row parts.0) (all_imply low test implies rows parts.1)

form_above : (op : ℕ) → 200 < op → form_of op ≡ None
unfolding form_of
form_above op above = ap (option_map (λ (row : code.Row). row.2)) (none_found (code.has op) subset (all_imply (λ (row : code.Row). nat_le row.1 200) (λ row. not (code.has op row)) outside subset refl))
  where
    outside : (row : code.Row) → nat_le row.1 200 ≡ true → not (code.has op row) ≡ true
    outside row low = by_tests (nat_le row.0 op) (nat_le op row.1) refl
      where
        by_tests : (a b : Bool) → nat_le op row.1 ≡ b → not (a && b) ≡ true
        by_tests false b is = refl
        by_tests true false is = refl
        by_tests true true is = absurd (omega (arith, above, leb-true row.1 200 low, leb-true op row.1 is))

group_above : (op : ℕ) → 200 < op → group_of op ≡ None
unfolding group_of
group_above op above = ap (option_map (λ (row : table.Row). row.1)) (none_found (table.has op) groups (all_imply (λ (row : table.Row). nat_le row.0 200) (λ row. not (table.has op row)) outside groups refl))
  where
    outside : (row : table.Row) → nat_le row.0 200 ≡ true → not (table.has op row) ≡ true
    outside row low = by_test (row.0 == op) refl
      where
        by_test : (b : Bool) → (row.0 == op) ≡ b → not b ≡ true
        by_test false is = refl
        by_test true is = absurd (omega (arith, above, leb-true row.0 200 low, eqb-true row.0 op is))

-- ALL OPCODES

first_201 : all_below 201 (λ op. go_together (form_of op) (group_of op)) ≡ true
unfolding form_of group_of
first_201 = refl

pub opcodes_have_groups : (op : ℕ) → go_together (form_of op) (group_of op) ≡ true
opcodes_have_groups op = by_test (nat_lt op 201) refl
  where
    by_test : (b : Bool) → nat_lt op 201 ≡ b → go_together (form_of op) (group_of op) ≡ true
    by_test true is = passes 201 op (λ op. go_together (form_of op) (group_of op)) first_201 (ltb-true op 201 is)
    by_test false is = rw (form_above op (omega (arith, ltb-false op 201 is)), group_above op (omega (arith, ltb-false op 201 is))) refl
