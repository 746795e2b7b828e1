-- What is read of an instruction is of the form that its opcode asks for, with its keys in order and few targets.
use Rattle.std.proofs.Common.{◌≡◌, ℕ, zero, suc, ◌+◌, ◌≤◌, List, [], ◌∷◌, ◌++◌, length, Bool, true, false, Option, Some, None, Ok, pos, refl, ap, subst, ◌∙◌, arith}
use Rattle.std.specs.Prelude.{not, ◌&&◌, int_lt, unsigned_abs, ◌-ℤ◌}
use Rattle.std.proofs.lemmas.List.{length-append, length-map}
use Rattle.ms_pool.specs.declared.code.ClassKind.TheVariants as kinds
use Rattle.ms_pool.specs.Places.{Place}
use Rattle.ms_pool.specs.Formats.{Format, done, found, check, ◌>>=◌, added, repeated}
use Rattle.ms_pool.specs.Forward.{IsForward, on_of}
use Rattle.ms_pool.specs.Exact.{ok_is, then_ok}
use Rattle.ms_code.specs.declared.form.Form.{Form}
use Rattle.ms_code.specs.declared.form.Form.TheVariants.{Plain, SignedByte, SignedShort, ConstantByte, ConstantShort, LocalIndex, LocalAndByte, BranchShort, TableCases, LookupCases, FieldIndex, ConstructorIndex, MethodIndex, ClassIndex, ArrayType, Widened, BranchInt}
use Rattle.ms_code.specs.declared.instruction.Case.{Case}
use Rattle.ms_code.specs.declared.instruction.Instr.{Instr}
use Rattle.ms_code.specs.declared.instruction.Operand.{Operand}
use Rattle.ms_code.specs.declared.instruction.Operand.TheVariants as operands
use Rattle.ms_code.specs.declared.trouble.Trouble.{Trouble}
use Rattle.ms_code.specs.declared.trouble.Trouble.TheVariants.{Foreign, At}
use Rattle.ms_code.specs.Codes.{case_targets, targets_of}
use Rattle.ms_code.specs.Instructions.{behind, foreign, gap, holds_of, instruction, is_constant, is_constructor, is_field, is_method, is_throwable, lookup_case, lookup_switch, named, operand, s4, table_case, table_switch, target, target_from, u1, wide_operand, widened}
use Rattle.ms_code.specs.Keys.{keys_ascend}
use Rattle.ms_code.specs.Laws.{Slots, has_form, has_keys_in_order, is_instruction, is_number, is_of_form, is_widened}
use Rattle.ms_code.specs.Opcodes.{form_of}
use Rattle.ms_code.proofs.Forward.{HasByte, case_has_byte, check_sound, gap_sound, lookup_case_has_byte, operand_sound, s4_sound, u1_has_byte, u1_sound, wide_operand_sound}
use Rattle.ms_code.proofs.Keys.{are_from_ascend, table_keys}

-- what is read has this property
record Yields {X : Type 0} (P : X → Type 0) (format : Format Trouble X) : Type 0 where
  pub all : (place : Place) (x : X × Place) → format.read place ≡ Ok x → P x.0

-- so has what is read from no bytes
done_yields : {X : Type 0} {P : X → Type 0} (x : X) → P x → Yields P (done x)
done_yields {X = X} {P = P} x holds = record { all = λ place y is. subst (λ (z : X × Place). P z.0) (ok_is {Fault = Trouble} (x, place) y is) holds }

-- so has what is read behind something
both_yields : {X Y : Type 0} {P : Y → Type 0} (first : Format Trouble X) (rest : X → Format Trouble Y) → ((x : X) → Yields P (rest x)) → Yields P (first >>= rest)
both_yields first rest more = record { all = λ place y is. then_ok (first.read place) _ y is (λ x is_first is_rest. (more x.0).all x.1 y is_rest) }

-- so has what isn't read
foreign_yields : {X : Type 0} (P : X → Type 0) → Yields P foreign
foreign_yields P = record { all = λ place y is. absurd (let e = is in cc) }

-- behind a check its test holds
check_true : (test : Bool) (trouble : Trouble) (place : Place) (x : Unit {0} × Place) → (check test trouble).read place ≡ Ok x → test ≡ true
check_true true trouble place x is = refl
check_true false trouble place x is = absurd (let e = is in cc)

-- what was read was found
pub found_is : {X : Type 0} (option : Option X) (place : Place) (x : X × Place) → (found option Foreign).read place ≡ Ok x → option ≡ Some x.0
found_is {X = X} (Some y) place x is = ap (λ (z : X × Place). Some z.0) (ok_is {Fault = Trouble} (y, place) x is)
found_is None place x is = absurd (let e = is in cc)

-- FORMS

-- an operand of this form, with its keys in order
abbrev IsFormed : Slots → Form → Operand → Type 0
IsFormed pool form operand = (has_form pool form operand ≡ true) × (has_keys_in_order operand ≡ true)

-- a number of the pool for which the test holds
abbrev IsNumber : (ℕ → Bool) → Operand → Type 0
IsNumber test operand = (is_number test operand ≡ true) × (has_keys_in_order operand ≡ true)

-- what is read as such a number is one
named_yields : (test : ℕ → Bool) (i : ℕ) → Yields (IsNumber test) (named test i)
named_yields test i = record {
  all = λ at x is. then_ok ((check (test i) Foreign).read at) _ x is (λ known is_known rest.
      (done_yields {P = IsNumber test} (operands.Pool i) (check_true (test i) Foreign at known is_known, refl)).all known.1 x rest);
}

-- a target
target_yields : (pool : Slots) (offset : ℕ) (by : _) → Yields (IsFormed pool BranchInt) (target offset by)
target_yields pool offset by = done_yields _ (refl, refl)

-- the cases of a tableswitch
table_yields : (pool : Slots) (place offset : ℕ) → Yields (IsFormed pool TableCases) (table_switch place offset)
unfolding table_switch
table_yields pool place offset =
    both_yields (gap place offset) _ (λ bytes.
    both_yields (s4 place) _ (λ otherwise.
    both_yields (s4 place) _ (λ low.
    both_yields (s4 place) _ (λ high.
    both_yields (check (not (int_lt high low)) (At kinds.Switch place)) _ (λ ordered. record {
      all = λ at x is. then_ok ((repeated (unsigned_abs (high -ℤ low) + 1) (added (table_case place offset low)) []).read at) _ x is (λ cases are rest.
          (done_yields {P = IsFormed pool TableCases} _ (refl, are_from_ascend low cases.0 (table_keys (unsigned_abs (high -ℤ low) + 1) place offset low [] at cases tt are))).all cases.1 x rest);
    })))))

-- the cases of a lookupswitch
lookup_yields : (pool : Slots) (place offset : ℕ) → Yields (IsFormed pool LookupCases) (lookup_switch place offset)
unfolding lookup_switch
lookup_yields pool place offset =
    both_yields (gap place offset) _ (λ bytes.
    both_yields (s4 place) _ (λ otherwise.
    both_yields (s4 place) _ (λ count.
    both_yields (check (not (int_lt count (pos 0))) (At kinds.Switch place)) _ (λ counted.
    both_yields (repeated (unsigned_abs count) (added (λ before. lookup_case place offset)) []) _ (λ cases. record {
      all = λ at x is. then_ok ((check (keys_ascend cases) (At kinds.Switch place)).read at) _ x is (λ ordered is_ordered rest.
          (done_yields {P = IsFormed pool LookupCases} _ (refl, check_true (keys_ascend cases) (At kinds.Switch place) at ordered is_ordered)).all ordered.1 x rest);
    })))))

-- what is read as an operand of a form is of that form
operand_yields : (pool : Slots) (place offset : ℕ) (form : Form) → Yields (IsFormed pool form) (operand pool place offset form)
unfolding operand
operand_yields pool place offset Plain = done_yields _ (refl, refl)
operand_yields pool place offset SignedByte = both_yields _ _ (λ word. done_yields _ (refl, refl))
operand_yields pool place offset SignedShort = both_yields _ _ (λ word. done_yields _ (refl, refl))
operand_yields pool place offset ConstantByte = both_yields _ _ (named_yields (is_constant pool))
operand_yields pool place offset ConstantShort = both_yields _ _ (named_yields (is_constant pool))
operand_yields pool place offset LocalIndex = both_yields _ _ (λ index. done_yields _ (refl, refl))
operand_yields pool place offset LocalAndByte = both_yields _ _ (λ index. both_yields _ _ (λ by. done_yields _ (refl, refl)))
operand_yields pool place offset BranchShort = both_yields _ _ (target_yields pool offset)
operand_yields pool place offset TableCases = table_yields pool place offset
operand_yields pool place offset LookupCases = lookup_yields pool place offset
operand_yields pool place offset FieldIndex = both_yields _ _ (named_yields (is_field pool))
operand_yields pool place offset ConstructorIndex = both_yields _ _ (named_yields (is_constructor pool))
operand_yields pool place offset MethodIndex = both_yields _ _ (named_yields (is_method pool))
operand_yields pool place offset ClassIndex = both_yields _ _ (named_yields (is_throwable pool))
operand_yields pool place offset ArrayType = both_yields _ _ (λ element. both_yields _ _ (λ int. done_yields _ (refl, refl)))
operand_yields pool place offset Widened = foreign_yields (IsFormed pool Widened)
operand_yields pool place offset BranchInt = both_yields _ _ (target_yields pool offset)

-- an operand behind `wide` and an opcode of this form
record IsWide (pool : Slots) (form : Option Form) (operand : Operand) : Type 0 where
  pub fits : holds_of (λ f. has_form pool f operand && is_widened f) form ≡ true
  pub keys : has_keys_in_order operand ≡ true
  pub few : length (targets_of operand) ≤ 1

-- what is read behind `wide` is such an operand
wide_yields : (pool : Slots) (place : ℕ) (form : Option Form) → Yields (IsWide pool form) (wide_operand place form)
unfolding wide_operand
wide_yields pool place None = foreign_yields (IsWide pool None)
wide_yields pool place (Some LocalIndex) = both_yields _ _ (λ index. done_yields _ (record { fits = refl; keys = refl; few = omega arith }))
wide_yields pool place (Some LocalAndByte) = both_yields _ _ (λ index. both_yields _ _ (λ by. done_yields _ (record { fits = refl; keys = refl; few = omega arith })))
wide_yields pool place (Some other) = foreign_yields (IsWide pool (Some other))

-- TARGETS

-- an operand has no more targets than bytes, but for one and as many as the cases that were read before
record IsFew (cases : ℕ) (format : Format Trouble Operand) : Type 0 where
  pub few : (place : Place) (x : Operand × Place) → format.read place ≡ Ok x → length (targets_of x.0) + place.at ≤ x.1.at + 1 + cases

-- so it is behind something
few_behind : {X : Type 0} (cases : ℕ) (first : Format Trouble X) (rest : X → Format Trouble Operand) → IsForward first → ((x : X) → IsFew cases (rest x)) → IsFew cases (first >>= rest)
few_behind cases first rest forward more = record { few = λ place y is. then_ok (first.read place) _ y is (λ x is_first is_rest. omega (arith, on_of place x.1 (forward.goes place x is_first), (more x.0).few x.1 y is_rest)) }

-- each case takes a byte at least
cases_take : (n : ℕ) (part : List Case → Format Trouble Case) → ((before : List Case) → HasByte (part before)) → (before : List Case) (at : Place) (x : List Case × Place) → (repeated n (added part) before).read at ≡ Ok x → length x.0 + at.at ≤ x.1.at + length before
cases_take zero part each before at x found = subst (λ (y : List Case × Place). length y.0 + at.at ≤ y.1.at + length before) (ok_is {Fault = Trouble} (before, at) x found) (omega arith)
cases_take (suc n) part each before at x found =
    then_ok ((added part before).read at) _ x found (λ all is_all rest.
    then_ok ((part before).read at) _ all is_all (λ case is_case last.
    let is : (before ++ case.0 ∷ [], case.1) ≡ all = ok_is {Fault = Trouble} (before ++ case.0 ∷ [], case.1) all last in
    omega (arith, (each before).takes at case is_case, ap (λ (y : List Case × Place). length y.0) is, ap (λ (y : List Case × Place). y.1.at) is, length-append before (case.0 ∷ []), cases_take n part each all.0 all.1 x rest)))

-- so it is behind the cases
few_cases : (n : ℕ) (part : List Case → Format Trouble Case) (rest : List Case → Format Trouble Operand) → ((before : List Case) → HasByte (part before)) → ((cases : List Case) → IsFew (length cases) (rest cases)) → IsFew 0 (repeated n (added part) [] >>= rest)
few_cases n part rest each more = record {
  few = λ place y is. then_ok ((repeated n (added part) []).read place) _ y is (λ cases are is_rest.
      omega (arith, cases_take n part each [] place cases are, (more cases.0).few cases.1 y is_rest));
}

-- of a switch whose cases were read
switch_few : (cases : List Case) (otherwise : ℕ) → IsFew (length cases) (done (operands.Cases (record { cases = cases; otherwise = otherwise })))
switch_few cases otherwise = record {
  few = λ place x is.
      let many : length (case_targets cases ++ otherwise ∷ []) ≡ length cases + 1 = omega (arith, length-append (case_targets cases) (otherwise ∷ []), length-map cases (λ (case : Case). case.target)) in
      subst (λ (y : Operand × Place). length (targets_of y.0) + place.at ≤ y.1.at + 1 + length cases) (ok_is {Fault = Trouble} (operands.Cases (record { cases = cases; otherwise = otherwise }), place) x is) (omega (arith, many));
}

-- of a tableswitch
table_few : (place offset : ℕ) → IsFew 0 (table_switch place offset)
unfolding table_switch
table_few place offset =
    few_behind 0 (gap place offset) _ (gap_sound place offset).forward (λ bytes.
    few_behind 0 (s4 place) _ (s4_sound place).forward (λ otherwise.
    few_behind 0 (s4 place) _ (s4_sound place).forward (λ low.
    few_behind 0 (s4 place) _ (s4_sound place).forward (λ high.
    few_behind 0 (check (not (int_lt high low)) (At kinds.Switch place)) _ (check_sound (not (int_lt high low)) (At kinds.Switch place) refl).forward (λ ordered.
    few_cases (unsigned_abs (high -ℤ low) + 1) (table_case place offset low) _ (λ before. case_has_byte place offset _) (λ cases. switch_few cases (target_from offset otherwise)))))))

-- of a lookupswitch
lookup_few : (place offset : ℕ) → IsFew 0 (lookup_switch place offset)
unfolding lookup_switch
lookup_few place offset =
    few_behind 0 (gap place offset) _ (gap_sound place offset).forward (λ bytes.
    few_behind 0 (s4 place) _ (s4_sound place).forward (λ otherwise.
    few_behind 0 (s4 place) _ (s4_sound place).forward (λ count.
    few_behind 0 (check (not (int_lt count (pos 0))) (At kinds.Switch place)) _ (check_sound (not (int_lt count (pos 0))) (At kinds.Switch place) refl).forward (λ counted.
    few_cases (unsigned_abs count) (λ before. lookup_case place offset) _ (λ before. lookup_case_has_byte place offset) (λ cases.
    few_behind (length cases) (check (keys_ascend cases) (At kinds.Switch place)) _ (check_sound (keys_ascend cases) (At kinds.Switch place) refl).forward (λ ordered. switch_few cases (target_from offset otherwise)))))))

-- whether a form is that of a switch
abbrev is_switch : Form → Bool
is_switch TableCases = true
is_switch LookupCases = true
is_switch other = false

-- no other form has cases
no_cases : (pool : Slots) (form : Form) (switch : _) → has_form pool form (operands.Cases switch) ≡ true → is_switch form ≡ false → ⊥
no_cases pool TableCases switch is plain = absurd (let e = plain in cc)
no_cases pool LookupCases switch is plain = absurd (let e = plain in cc)
no_cases pool other switch is plain = absurd (let e = is in cc)

-- and no other form has two targets
one_target : (pool : Slots) (form : Form) (operand : Operand) → has_form pool form operand ≡ true → is_switch form ≡ false → length (targets_of operand) ≤ 1
one_target pool form (operands.Cases switch) is plain = absurd (no_cases pool form switch is plain)
one_target pool form (operands.Target target) is plain = omega arith
one_target pool form other is plain = omega arith

-- so it is of an operand of another form
plain_few : (pool : Slots) (place offset : ℕ) (form : Form) → is_switch form ≡ false → IsFew 0 (operand pool place offset form)
plain_few pool place offset form plain = record {
  few = λ at x is. omega (arith, one_target pool form x.0 ((operand_yields pool place offset form).all at x is).0 plain, on_of at x.1 ((operand_sound pool place offset form).forward.goes at x is));
}

-- so it is of each operand
operand_few : (pool : Slots) (place offset : ℕ) (form : Form) → IsFew 0 (operand pool place offset form)
unfolding operand
operand_few pool place offset TableCases = table_few place offset
operand_few pool place offset LookupCases = lookup_few place offset
operand_few pool place offset form = plain_few pool place offset form refl

-- INSTRUCTIONS

-- an instruction of the subset, with its keys in order, that has at most so many targets
pub record IsRight (pool : Slots) (instr : Instr) (most : ℕ) : Type 0 where
  pub fits : is_instruction pool instr ≡ true
  pub keys : has_keys_in_order instr.operand ≡ true
  pub few : length (targets_of instr.operand) ≤ most

-- an instruction that is read behind an opcode which isn't `wide` is such
plain_right : (pool : Slots) (place offset op : ℕ) (form : Form) → form_of op ≡ Some form → (at : Place) (x : Instr × Place) → 1 ≤ at.at → (operand pool place offset form >>= λ operand. done (record { op = op; wide = false; operand = operand })).read at ≡ Ok x → IsRight pool x.0 x.1.at
plain_right pool place offset op form is_form at x some is =
    then_ok ((operand pool place offset form).read at) _ x is (λ operand is_operand rest.
    let formed = (operand_yields pool place offset form).all at operand is_operand in
    let instr : Instr = record { op = op; wide = false; operand = operand.0 } in
    subst (λ (y : Instr × Place). IsRight pool y.0 y.1.at) (ok_is {Fault = Trouble} (instr, operand.1) x rest)
    (record {
      fits = ap (holds_of (is_of_form pool instr)) is_form ∙ ap (λ (b : Bool). b && true) formed.0;
      keys = formed.1;
      few = omega (arith, some, (operand_few pool place offset form).few at operand is_operand);
    }))

-- so is one behind any opcode
behind_right : (pool : Slots) (place offset op : ℕ) (form : Form) → form_of op ≡ Some form → (at : Place) (x : Instr × Place) → 1 ≤ at.at → (behind pool place offset op form).read at ≡ Ok x → IsRight pool x.0 x.1.at
unfolding behind widened
behind_right pool place offset op Widened is_form at x some is =
    then_ok ((u1 place).read at) _ x is (λ inner is_inner rest.
    then_ok ((wide_operand place (form_of inner.0)).read inner.1) _ x rest (λ operand is_operand last.
    let wide = (wide_yields pool place (form_of inner.0)).all inner.1 operand is_operand in
    let on = on_of at inner.1 ((u1_sound place).forward.goes at inner is_inner) in
    let further = on_of inner.1 operand.1 ((wide_operand_sound place (form_of inner.0)).forward.goes inner.1 operand is_operand) in
    subst (λ (y : Instr × Place). IsRight pool y.0 y.1.at) (ok_is {Fault = Trouble} (record { op = inner.0; wide = true; operand = operand.0 }, operand.1) x last)
    (record { fits = wide.fits; keys = wide.keys; few = omega (arith, some, on, further, wide.few) })))
behind_right pool place offset op form is_form at x some is = plain_right pool place offset op form is_form at x some is

-- so is each instruction, and it has no more targets than where it ends
pub instruction_right : (pool : Slots) (place offset : ℕ) (at : Place) (x : Instr × Place) → (instruction pool place offset).read at ≡ Ok x → IsRight pool x.0 x.1.at
unfolding instruction
instruction_right pool place offset at x is =
    then_ok ((u1 place).read at) _ x is (λ op is_op rest.
    then_ok ((found (form_of op.0) Foreign).read op.1) _ x rest (λ form is_form last.
    let one = (u1_has_byte place).takes at op is_op in
    let stays : form.1 ≡ op.1 = found_stays (form_of op.0) op.1 form is_form in
    behind_right pool place offset op.0 form.0 (found_is (form_of op.0) op.1 form is_form) form.1 x (omega (arith, one, ap (λ (p : Place). p.at) stays)) last))
  where
    found_stays : (option : Option Form) (at : Place) (x : Form × Place) → (found option Foreign).read at ≡ Ok x → x.1 ≡ at
    found_stays (Some form) at x is = ap (λ (y : Form × Place). y.1) (let e : ◌≡◌ {A = Form × Place} x (form, at) = cc in e)
    found_stays None at x is = absurd (let e = is in cc)
