-- What is read of an instruction lies behind where it was read from, and what is left ends where it ended.
use Rattle.std.proofs.Common.{◌≡◌, ℕ, zero, suc, ◌+◌, ◌-◌, ◌%◌, ◌≤◌, List, [], ◌∷◌, ◌++◌, length, Bool, true, false, cond, ltb, Option, Some, None, Ok, Err, ℤ, pos, refl, subst, arith}
use Rattle.std.specs.Prelude.{not, int_lt, unsigned_abs, ◌-ℤ◌, ◌==◌}
use Rattle.std.specs.Int.{cast_signed, w8, w16, w32}
use Rattle.ms_pool.specs.declared.cursor.Short.{Short}
use Rattle.ms_pool.specs.declared.code.ClassKind.TheVariants as kinds
use Rattle.ms_pool.specs.Pools.{Placed}
use Rattle.ms_pool.specs.Places.{Place}
use Rattle.ms_pool.specs.Formats.{Format, number, run, done, found, check, ◌>>=◌, added, or_short, repeated}
use Rattle.ms_pool.specs.Forward.{IsForward, both_forward, check_forward, done_forward, found_forward, number_forward, on_of, run_forward}
use Rattle.ms_pool.specs.Exact.{enough_ok, IsExact, both_exact, check_exact, done_exact, found_exact, number_exact, run_exact, err_is, then_err, then_ok}
use Rattle.ms_pool.specs.Numbers.{width1, width2, width4}
use Rattle.ms_code.specs.declared.form.Form.{Form}
use Rattle.ms_code.specs.declared.form.Form.TheVariants.{Plain, SignedByte, SignedShort, ConstantByte, ConstantShort, LocalIndex, LocalAndByte, BranchShort, TableCases, LookupCases, FieldIndex, ConstructorIndex, MethodIndex, ClassIndex, ArrayType, Widened, BranchInt}
use Rattle.ms_code.specs.declared.instruction.Operand.TheVariants as operands
use Rattle.ms_code.specs.declared.trouble.Trouble.{Trouble}
use Rattle.ms_code.specs.declared.trouble.Trouble.TheVariants.{Foreign, At, NoMemory}
use Rattle.ms_code.specs.Instructions.{u1, u2, s1, s2, s4, cut, named, is_constant, is_field, is_method, is_constructor, is_throwable, case_of, table_case, gap, table_switch, lookup_case, lookup_switch, target, target_from, operand, wide_operand, widened, behind as behind_opcode, instruction}
use Rattle.ms_code.specs.Keys.{keys_ascend}
use Rattle.ms_code.specs.Laws.{is_code_fault}
use Rattle.ms_code.specs.Opcodes.{form_of}

-- a trouble that a code has, and not memory
abbrev pub IsTold : Trouble → Type 0
IsTold Foreign = Unit {0}
IsTold (At kind at) = is_code_fault kind ≡ true
IsTold NoMemory = ⊥

-- A format that is exact, goes on where it is read, and never tells that memory ran out.
pub record IsSound {X : Type 0} (format : Format Trouble X) : Type 0 where
  pub exact : IsExact format
  pub forward : IsForward format
  pub told : (place : Place) (trouble : Trouble) → format.read place ≡ Err trouble → IsTold trouble

-- the trouble of a part for which too few bytes are left
enough_told : {X : Type 0} (place : ℕ) (b : Bool) (missing : Short) (x : X) (trouble : Trouble) → or_short (cut place) (cond b (Err missing) (Ok x)) ≡ Err trouble → IsTold trouble
enough_told {X = X} place true missing x trouble found = subst IsTold (err_is {A = X} (cut place missing.at) trouble found) refl
enough_told place false missing x trouble found = absurd (let e = found in cc)

number_sound : (place n : ℕ) → IsExact (number (cut place) n) → IsSound (number (cut place) n)
number_sound place n exact = record {
  exact = exact;
  forward = number_forward (cut place) n;
  told = λ start trouble found. enough_told place (ltb (length start.left) n) (record { at = start.at }) _ trouble found;
}

run_sound : (place n : ℕ) → IsSound (run (cut place) n)
run_sound place n = record {
  exact = run_exact (cut place) n;
  forward = run_forward (cut place) n;
  told = λ start trouble found. enough_told place (ltb (length start.left) n) (record { at = start.at }) _ trouble found;
}

pub done_sound : {X : Type 0} (x : X) → IsSound (done x)
done_sound {X = X} x = record {
  exact = done_exact x;
  forward = done_forward x;
  told = λ place trouble found. absurd (let e = found in cc);
}

pub found_sound : {X : Type 0} (option : Option X) → IsSound (found option Foreign)
found_sound {X = X} option = record {
  exact = found_exact option Foreign;
  forward = found_forward option Foreign;
  told = λ place trouble is. by_option option place trouble is;
}
  where
    by_option : (o : Option X) (place : Place) (trouble : Trouble) → (found o Foreign).read place ≡ Err trouble → IsTold trouble
    by_option (Some x) place trouble is = absurd (let e = is in cc)
    by_option None place trouble is = subst IsTold (err_is {A = X × Place} Foreign trouble is) tt

pub check_sound : (test : Bool) (trouble : Trouble) → IsTold trouble → IsSound (check test trouble)
check_sound test trouble is_told = record {
  exact = check_exact test trouble;
  forward = check_forward test trouble;
  told = λ place other is. by_test test place other is;
}
  where
    by_test : (b : Bool) (place : Place) (other : Trouble) → (check b trouble).read place ≡ Err other → IsTold other
    by_test true place other is = absurd (let e = is in cc)
    by_test false place other is = subst IsTold (err_is {A = Unit {0} × Place} trouble other is) is_told

pub both_sound : {X Y : Type 0} (first : Format Trouble X) (rest : X → Format Trouble Y) → IsSound first → ((x : X) → IsSound (rest x)) → IsSound (first >>= rest)
both_sound first rest one more = record {
  exact = both_exact first rest one.exact (λ x. (more x).exact);
  forward = both_forward first rest one.forward (λ x. (more x).forward);
  told = λ place trouble found. then_err (first.read place) _ trouble found (λ is_first. one.told place trouble is_first) (λ x is_first is_rest. (more x.0).told x.1 trouble is_rest);
}

repeated_sound : {X : Type 0} (n : ℕ) (part : X → Format Trouble X) (known : X) → ((x : X) → IsSound (part x)) → IsSound (repeated n part known)
repeated_sound zero part known each = done_sound known
repeated_sound (suc n) part known each = both_sound (part known) (repeated n part) (each known) (λ x. repeated_sound n part x each)

added_sound : {X : Type 0} (part : List X → Format Trouble X) (before : List X) → IsSound (part before) → IsSound (added part before)
added_sound part before one = both_sound (part before) (λ x. done (before ++ x ∷ [])) one (λ x. done_sound (before ++ x ∷ []))

-- NUMBERS

pub u1_sound : (place : ℕ) → IsSound (u1 place)
u1_sound place = number_sound place 1 (number_exact (cut place) 1 width1)

u2_sound : (place : ℕ) → IsSound (u2 place)
u2_sound place = number_sound place 2 (number_exact (cut place) 2 width2)

s1_sound : (place : ℕ) → IsSound (s1 place)
unfolding s1
s1_sound place = both_sound (u1 place) (λ n. done (cast_signed w8 n)) (u1_sound place) (λ n. done_sound (cast_signed w8 n))

s2_sound : (place : ℕ) → IsSound (s2 place)
unfolding s2
s2_sound place = both_sound (u2 place) (λ n. done (cast_signed w16 n)) (u2_sound place) (λ n. done_sound (cast_signed w16 n))

pub s4_sound : (place : ℕ) → IsSound (s4 place)
unfolding s4
s4_sound place = both_sound (number (cut place) 4) (λ n. done (cast_signed w32 n)) (number_sound place 4 (number_exact (cut place) 4 width4)) (λ n. done_sound (cast_signed w32 n))

-- OPERANDS

named_sound : (test : ℕ → Bool) (i : ℕ) → IsSound (named test i)
named_sound test i = both_sound (check (test i) Foreign) _ (check_sound (test i) Foreign tt) (λ known. done_sound (operands.Pool i))

case_sound : (place offset : ℕ) (key : ℤ) → IsSound (case_of place offset key)
unfolding case_of
case_sound place offset key = both_sound (s4 place) _ (s4_sound place) (λ by. done_sound (record { key = key; target = target_from offset by }))

-- a gap is sound
pub gap_sound : (place offset : ℕ) → IsSound (gap place offset)
gap_sound place offset = run_sound place (3 - offset % 4)

table_sound : (place offset : ℕ) → IsSound (table_switch place offset)
unfolding table_switch
table_sound place offset =
    both_sound (gap place offset) _ (gap_sound place offset) (λ bytes.
    both_sound (s4 place) _ (s4_sound place) (λ otherwise.
    both_sound (s4 place) _ (s4_sound place) (λ low.
    both_sound (s4 place) _ (s4_sound place) (λ high.
    both_sound (check (not (int_lt high low)) (At kinds.Switch place)) _ (check_sound (not (int_lt high low)) (At kinds.Switch place) refl) (λ ordered.
    both_sound (repeated (unsigned_abs (high -ℤ low) + 1) (added (table_case place offset low)) []) _ (repeated_sound (unsigned_abs (high -ℤ low) + 1) (added (table_case place offset low)) [] (λ before. added_sound (table_case place offset low) before (case_sound place offset _))) (λ cases.
    done_sound (operands.Cases (record { cases = cases; otherwise = target_from offset otherwise }))))))))

lookup_case_sound : (place offset : ℕ) → IsSound (lookup_case place offset)
unfolding lookup_case
lookup_case_sound place offset = both_sound (s4 place) (case_of place offset) (s4_sound place) (case_sound place offset)

lookup_sound : (place offset : ℕ) → IsSound (lookup_switch place offset)
unfolding lookup_switch
lookup_sound place offset =
    both_sound (gap place offset) _ (gap_sound place offset) (λ bytes.
    both_sound (s4 place) _ (s4_sound place) (λ otherwise.
    both_sound (s4 place) _ (s4_sound place) (λ count.
    both_sound (check (not (int_lt count (pos 0))) (At kinds.Switch place)) _ (check_sound (not (int_lt count (pos 0))) (At kinds.Switch place) refl) (λ counted.
    both_sound (repeated (unsigned_abs count) (added (λ before. lookup_case place offset)) []) _ (repeated_sound (unsigned_abs count) (added (λ before. lookup_case place offset)) [] (λ before. added_sound (λ others. lookup_case place offset) before (lookup_case_sound place offset))) (λ cases.
    both_sound (check (keys_ascend cases) (At kinds.Switch place)) _ (check_sound (keys_ascend cases) (At kinds.Switch place) refl) (λ ordered.
    done_sound (operands.Cases (record { cases = cases; otherwise = target_from offset otherwise }))))))))

target_sound : (offset : ℕ) (by : ℤ) → IsSound (target offset by)
target_sound offset by = done_sound (operands.Target (target_from offset by))

pub operand_sound : (pool : List (Option Placed)) (place offset : ℕ) (form : Form) → IsSound (operand pool place offset form)
unfolding operand
operand_sound pool place offset Plain = done_sound operands.Nothing
operand_sound pool place offset SignedByte = both_sound (s1 place) _ (s1_sound place) (λ word. done_sound (operands.Word word))
operand_sound pool place offset SignedShort = both_sound (s2 place) _ (s2_sound place) (λ word. done_sound (operands.Word word))
operand_sound pool place offset ConstantByte = both_sound (u1 place) _ (u1_sound place) (named_sound (is_constant pool))
operand_sound pool place offset ConstantShort = both_sound (u2 place) _ (u2_sound place) (named_sound (is_constant pool))
operand_sound pool place offset LocalIndex = both_sound (u1 place) _ (u1_sound place) (λ index. done_sound (operands.Local index))
operand_sound pool place offset LocalAndByte = both_sound (u1 place) _ (u1_sound place) (λ index. both_sound (s1 place) _ (s1_sound place) (λ by. done_sound (operands.Increment index by)))
operand_sound pool place offset BranchShort = both_sound (s2 place) _ (s2_sound place) (target_sound offset)
operand_sound pool place offset TableCases = table_sound place offset
operand_sound pool place offset LookupCases = lookup_sound place offset
operand_sound pool place offset FieldIndex = both_sound (u2 place) _ (u2_sound place) (named_sound (is_field pool))
operand_sound pool place offset ConstructorIndex = both_sound (u2 place) _ (u2_sound place) (named_sound (is_constructor pool))
operand_sound pool place offset MethodIndex = both_sound (u2 place) _ (u2_sound place) (named_sound (is_method pool))
operand_sound pool place offset ClassIndex = both_sound (u2 place) _ (u2_sound place) (named_sound (is_throwable pool))
operand_sound pool place offset ArrayType = both_sound (u1 place) _ (u1_sound place) (λ element. both_sound (check (element == 10) Foreign) _ (check_sound (element == 10) Foreign tt) (λ int. done_sound operands.Nothing))
operand_sound pool place offset Widened = found_sound None
operand_sound pool place offset BranchInt = both_sound (s4 place) _ (s4_sound place) (target_sound offset)

pub wide_operand_sound : (place : ℕ) (form : Option Form) → IsSound (wide_operand place form)
unfolding wide_operand
wide_operand_sound place None = found_sound None
wide_operand_sound place (Some LocalIndex) = both_sound (u2 place) _ (u2_sound place) (λ index. done_sound (operands.Local index))
wide_operand_sound place (Some LocalAndByte) = both_sound (u2 place) _ (u2_sound place) (λ index. both_sound (s2 place) _ (s2_sound place) (λ by. done_sound (operands.Increment index by)))
wide_operand_sound place (Some other) = found_sound None

widened_sound : (place : ℕ) → IsSound (widened place)
unfolding widened
widened_sound place = both_sound (u1 place) _ (u1_sound place) (λ op. both_sound (wide_operand place (form_of op)) _ (wide_operand_sound place (form_of op)) (λ operand. done_sound (record { op = op; wide = true; operand = operand })))

behind_sound : (pool : List (Option Placed)) (place offset op : ℕ) (form : Form) → IsSound (behind_opcode pool place offset op form)
unfolding behind_opcode
behind_sound pool place offset op Widened = widened_sound place
behind_sound pool place offset op form = both_sound (operand pool place offset form) _ (operand_sound pool place offset form) (λ operand. done_sound (record { op = op; wide = false; operand = operand }))

pub instruction_sound : (pool : List (Option Placed)) (place offset : ℕ) → IsSound (instruction pool place offset)
unfolding instruction
instruction_sound pool place offset = both_sound (u1 place) _ (u1_sound place) (λ op. both_sound (found (form_of op) Foreign) _ (found_sound (form_of op)) (behind_sound pool place offset op))

-- WHAT TAKES A BYTE

-- a format that takes a byte at least where it is read
pub record HasByte {X : Type 0} (format : Format Trouble X) : Type 0 where
  pub takes : (place : Place) (x : X × Place) → format.read place ≡ Ok x → place.at + 1 ≤ x.1.at

-- a number does
number_has_byte : (place n : ℕ) → 1 ≤ n → HasByte (number (cut place) n)
number_has_byte place n some = record {
  takes = λ start x is. subst (λ (y : ℕ × Place). start.at + 1 ≤ y.1.at) (enough_ok (cut place) n start _ x is).1 (omega (arith, some));
}

-- so do parts of which the first does
first_has_byte : {X Y : Type 0} (first : Format Trouble X) (rest : X → Format Trouble Y) → HasByte first → ((x : X) → IsForward (rest x)) → HasByte (first >>= rest)
first_has_byte first rest one more = record {
  takes = λ place y is. then_ok (first.read place) _ y is (λ x is_first is_rest. omega (arith, one.takes place x is_first, on_of x.1 y.1 ((more x.0).goes x.1 y is_rest)));
}

pub u1_has_byte : (place : ℕ) → HasByte (u1 place)
u1_has_byte place = number_has_byte place 1 (omega arith)

s4_has_byte : (place : ℕ) → HasByte (s4 place)
unfolding s4
s4_has_byte place = first_has_byte (number (cut place) 4) _ (number_has_byte place 4 (omega arith)) (λ n. done_forward (cast_signed w32 n))

pub case_has_byte : (place offset : ℕ) (key : ℤ) → HasByte (case_of place offset key)
unfolding case_of
case_has_byte place offset key = first_has_byte (s4 place) _ (s4_has_byte place) (λ by. done_forward (record { key = key; target = target_from offset by }))

pub lookup_case_has_byte : (place offset : ℕ) → HasByte (lookup_case place offset)
unfolding lookup_case
lookup_case_has_byte place offset = first_has_byte (s4 place) _ (s4_has_byte place) (λ key. (case_sound place offset key).forward)

-- an instruction has one byte at least
pub instruction_has_byte : (pool : List (Option Placed)) (code_at offset : ℕ) → HasByte (instruction pool code_at offset)
unfolding instruction
instruction_has_byte pool code_at offset =
    first_has_byte (u1 code_at) _ (u1_has_byte code_at) (λ op. (both_sound (found (form_of op) Foreign) _ (found_sound (form_of op)) (behind_sound pool code_at offset op)).forward)
