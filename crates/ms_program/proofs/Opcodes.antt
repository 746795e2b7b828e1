-- Which opcodes have a form whose operand is a number of the pool.
use Rattle.std.proofs.Common.{◌≡◌, ◌⊎◌, ℕ, ◌≤◌, List, [], ◌∷◌, Bool, true, false, cond, Some, refl, ap, subst, arith, inl, inr}
use Rattle.std.specs.Prelude.{◌&&◌, ◌==◌, nat_le, option_map, find}
use Rattle.std.specs.List.{list_all}
use Rattle.std.proofs.lemmas.Bool.{eqb-false, eqb-true, leb-true}
use Rattle.ms_code.specs.declared.form.Form.{Form}
use Rattle.ms_code.specs.declared.form.Form.TheVariants.{ConstantByte, ConstantShort, FieldIndex, ConstructorIndex, MethodIndex, ClassIndex}
use Rattle.ms_code.specs.Opcodes.{Row, form_of, has, subset}
use Rattle.ms_program.specs.Views.{is_static_member_op}
use Rattle.ms_program.proofs.Picking.{both_true, some_is}

-- the least and the greatest opcode of a form
abbrev pub bounds : Form → ℕ × ℕ
bounds ConstantByte = (18, 18)
bounds ConstantShort = (19, 19)
bounds FieldIndex = (178, 179)
bounds ConstructorIndex = (183, 183)
bounds MethodIndex = (184, 184)
bounds ClassIndex = (187, 187)
bounds other = (0, 255)

-- whether the opcodes of a row are within the bounds of its form
abbrev is_bounded : Row → Bool
is_bounded row = nat_le (bounds row.2).0 row.0 && nat_le row.1 (bounds row.2).1

-- an opcode within the bounds of a form
pub record IsBounded (op : ℕ) (form : Form) : Type 0 where
  pub least : (bounds form).0 ≤ op
  pub greatest : op ≤ (bounds form).1

-- an opcode of rows that are within bounds is within those of its form
found_bounded : (op : ℕ) (rows : List Row) (form : Form) → list_all is_bounded rows ≡ true → option_map (λ (row : Row). row.2) (find (has op) rows) ≡ Some form → IsBounded op form
found_bounded op [] form all found = absurd (let e = found in cc)
found_bounded op (row ∷ rows) form all found = by_test (has op row) refl found (λ e. found_bounded op rows form (both_true (is_bounded row) (list_all is_bounded rows) all).1 e)
  where
    by_test : (b : Bool) → has op row ≡ b → option_map (λ (r : Row). r.2) (cond b (Some row) (find (has op) rows)) ≡ Some form → (option_map (λ (r : Row). r.2) (find (has op) rows) ≡ Some form → IsBounded op form) → IsBounded op form
    by_test true here e others =
        let within = both_true (nat_le row.0 op) (nat_le op row.1) here in
        let bounded = both_true (nat_le (bounds row.2).0 row.0) (nat_le row.1 (bounds row.2).1) (both_true (is_bounded row) (list_all is_bounded rows) all).0 in
        subst (IsBounded op) (some_is row.2 form e)
        (record {
          least = omega (arith, leb-true _ _ within.0, leb-true _ _ bounded.0);
          greatest = omega (arith, leb-true _ _ within.1, leb-true _ _ bounded.1);
        })
    by_test false elsewhere e others = others e

-- and so is each opcode of a form
pub form_bounded : (op : ℕ) (form : Form) → form_of op ≡ Some form → IsBounded op form
unfolding form_of
form_bounded op form is = found_bounded op subset form refl is

-- `getstatic`, `putstatic` and `invokestatic` name a static member
pub names_static : (op : ℕ) → (op ≡ 178) ⊎ ((op ≡ 179) ⊎ (op ≡ 184)) → is_static_member_op op ≡ true
names_static op (inl is) = ap is_static_member_op is
names_static op (inr (inl is)) = ap is_static_member_op is
names_static op (inr (inr is)) = ap is_static_member_op is

-- the opcodes of fields
pub field_op : (op : ℕ) → IsBounded op FieldIndex → (op ≡ 178) ⊎ ((op ≡ 179) ⊎ (op ≡ 184))
field_op op bounded = by_test (op == 178) refl
  where
    by_test : (b : Bool) → (op == 178) ≡ b → (op ≡ 178) ⊎ ((op ≡ 179) ⊎ (op ≡ 184))
    by_test true same = inl (eqb-true op 178 same)
    by_test false other = inr (inl (let differs = eqb-false op 178 other in omega (arith, bounded.least, bounded.greatest, differs)))
