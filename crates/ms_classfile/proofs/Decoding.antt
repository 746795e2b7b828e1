-- Instructions one after another, as a loop reads them.
use Rattle.std.proofs.Common.{◌≡◌, ℕ, zero, suc, ◌+◌, ◌-◌, ◌<◌, ◌≤◌, Bool, true, false, cond, ltb, eqb, List, [], ◌∷◌, ◌++◌, length, length-drop, Option, Some, None, Ok, Err, refl, sym, ap, subst, ◌∙◌, append_assoc, ◌≢◌, arith, inl, inr}
use Rattle.std.specs.Prelude.{◌==◌, ◌&&◌, ◌^◌, nat_le, nat_lt}
use Rattle.std.specs.Option.{option_map}
use Rattle.std.specs.Result.{result_ok}
use Rattle.std.specs.Int.{w8, cast_signed}
use Rattle.std.proofs.lemmas.Bool.{ne_eqb, ltb-false}
use Rattle.std.proofs.lemmas.List.{append-nil, nil_from_length}
use Rattle.ms_pool.specs.Places.{Place, number_at}
use Rattle.ms_pool.specs.declared.cursor.Short.{Short}
use Rattle.ms_classfile.specs.declared.instruction.Condition.{Condition}
use Rattle.ms_classfile.specs.declared.instruction.Instruction.{Instruction}
use Rattle.ms_classfile.specs.declared.instruction.Instruction.TheVariants.{Iload, Bipush, If, IfIcmp}
use Rattle.ms_classfile.specs.Reading.{u1_at, u2_at, short_instruction, condition_of, load_at, push_at, offset_at, branch_at, operand_at, instruction_at, instructions_at, instructions_of}
use Rattle.ms_classfile.proofs.Steps.{then_some, provided_some, some_is, either, mapped_some}
use Rattle.ms_classfile.proofs.Spelling.{at_end}

-- ---- each instruction that is read has a byte at least

-- a read that has enough bytes
was_read : {A : Type 0} (short : Bool) (fault : Short) (y x : A) → result_ok (cond short (Err fault) (Ok y)) ≡ Some x → (short ≡ false) × (y ≡ x)
was_read true fault y x found = absurd cc
was_read false fault y x found = (refl, some_is y x found)

number_past : (n : ℕ) (place : Place) (x : ℕ × Place) → result_ok (number_at n place) ≡ Some x → length x.1.left + n ≡ length place.left
number_past n place x found =
    let g = was_read (ltb (length place.left) n) (record { at = place.at }) _ x found in
    subst (λ (y : ℕ × Place). length y.1.left + n ≡ length place.left) g.1 (omega (arith, ltb-false _ _ g.0, length-drop n place.left))

-- no more is left than before
abbrev IsOn : Place → Instruction × Place → Type 0
IsOn place x = length x.1.left ≤ length place.left

load_on : (place : Place) (x : Instruction × Place) → load_at place ≡ Some x → IsOn place x
unfolding load_at
load_on place x found =
    then_some (u1_at place) _ x found (λ local at_local last.
    subst (λ (y : Instruction × Place). IsOn place y) (some_is (Iload local.0, local.1) x last) (omega (arith, number_past 1 place local at_local)))

push_on : (place : Place) (x : Instruction × Place) → push_at place ≡ Some x → IsOn place x
unfolding push_at
push_on place x found =
    then_some (u1_at place) _ x found (λ byte at_byte last.
    subst (λ (y : Instruction × Place). IsOn place y) (some_is (Bipush (cast_signed w8 byte.0), byte.1) x last) (omega (arith, number_past 1 place byte at_byte)))

branch_on : (branch : Condition → ℕ → Instruction) (number : ℕ) (place : Place) (x : Instruction × Place) → branch_at branch number place ≡ Some x → IsOn place x
unfolding branch_at offset_at
branch_on branch number place x found =
    then_some (condition_of number) _ x found (λ condition at_condition more.
    then_some (offset_at place) _ x more (λ far at_far last.
    then_some (u2_at place) _ far at_far (λ read at_read tested.
    let same = some_is read far (provided_some (nat_lt read.0 (2 ^ 15)) (Some read) far tested).1 in
    subst (λ (y : Instruction × Place). IsOn place y) (some_is (branch condition far.0, far.1) x last)
    (subst (λ (y : ℕ × Place). length y.1.left ≤ length place.left) same (omega (arith, number_past 2 place read at_read))))))

operand_on : (opcode : ℕ) (place : Place) (x : Instruction × Place) → operand_at opcode place ≡ Some x → IsOn place x
unfolding operand_at
operand_on opcode place x found =
    elim (either (opcode == 16) (push_at place) _ (Some x) found) [
      | inl p ↦ push_on place x p.1
      | inr p ↦ elim (either (opcode == 21) (load_at place) _ (Some x) p.1) [
        | inl q ↦ load_on place x q.1
        | inr q ↦ elim (either (nat_le 153 opcode && nat_le opcode 158) (branch_at If (opcode - 153) place) _ (Some x) q.1) [
          | inl r ↦ branch_on If (opcode - 153) place x r.1
          | inr r ↦ elim (either (nat_le 159 opcode && nat_le opcode 164) (branch_at IfIcmp (opcode - 159) place) _ (Some x) r.1) [
            | inl s ↦ branch_on IfIcmp (opcode - 159) place x s.1
            | inr s ↦
                let found = mapped_some (λ (instruction : Instruction). (instruction, place)) (short_instruction opcode) x s.1 in
                subst (λ (y : Instruction × Place). IsOn place y) found.2 (omega arith)
          ]
        ]
      ]
    ]

pub instruction_shorter : (place : Place) (x : Instruction × Place) → instruction_at place ≡ Some x → length x.1.left < length place.left
unfolding instruction_at
instruction_shorter place x found =
    then_some (u1_at place) _ x found (λ opcode at_opcode more.
    omega (arith, number_past 1 place opcode at_opcode, operand_on opcode.0 opcode.1 x more))

-- ---- the loop

-- what was read before, and what is still read
abbrev pub with_read : List Instruction → Option (List Instruction) → Option (List Instruction)
with_read front read = option_map (λ more. front ++ more) read

-- What was read before, and what is still read up to a bound that is not met, are the instructions of
-- these bytes.
pub record IsReading (bytes : List ℕ) (front : List Instruction) (place : Place) : Type 0 where
  pub most : ℕ
  pub enough : length place.left ≤ most
  pub reads : with_read front (instructions_at most place) ≡ instructions_of bytes

-- what was read first joins what was read before
regroup : (front : List Instruction) (first : Instruction) (read : Option (List Instruction)) → with_read front (option_map (λ more. first ∷ more) read) ≡ with_read (front ++ first ∷ []) read
regroup front first (Some more) = ap Some (simp append_assoc)
regroup front first None = refl

-- bytes are left, by the test
some_left : (place : Place) → (place.left ≢ []) → eqb (length place.left) 0 ≡ false
some_left place some = ne_eqb _ _ (λ none. some (nil_from_length place.left none))

-- then the bound is not 0
none_ahead : (place : Place) (most : ℕ) → length place.left ≤ most → (place.left ≢ []) → most ≡ 0 → ⊥
none_ahead place most enough some none = some (nil_from_length place.left (omega (arith, enough, none)))

-- a step with an instruction
on_from : (bytes : List ℕ) (front : List Instruction) (place : Place) (first : Instruction) (after : Place) (most : ℕ) → length place.left ≤ most → with_read front (instructions_at most place) ≡ instructions_of bytes
    → (place.left ≢ []) → instruction_at place ≡ Some (first, after) → IsReading bytes (front ++ first ∷ []) after
unfolding instructions_at
on_from bytes front place first after zero enough reads some found = absurd (none_ahead place 0 enough some refl)
on_from bytes front place first after (suc most) enough reads some found =
    let one : with_read front (instructions_at (suc most) place) ≡ with_read (front ++ first ∷ []) (instructions_at most after) = rw (some_left place some, found) (regroup front first (instructions_at most after)) in
    record { most = most; enough = omega (arith, enough, instruction_shorter place (first, after) found); reads = sym one ∙ reads }

pub goes_on : (bytes : List ℕ) (front : List Instruction) (place : Place) (first : Instruction) (after : Place) → IsReading bytes front place → (place.left ≢ []) → instruction_at place ≡ Some (first, after) → IsReading bytes (front ++ first ∷ []) after
goes_on bytes front place first after reading some found = on_from bytes front place first after reading.most reading.enough reading.reads some found

-- where no instruction is read, the bytes are none
ends_from : (bytes : List ℕ) (front : List Instruction) (place : Place) (most : ℕ) → length place.left ≤ most → with_read front (instructions_at most place) ≡ instructions_of bytes
    → (place.left ≢ []) → instruction_at place ≡ None → instructions_of bytes ≡ None
unfolding instructions_at
ends_from bytes front place zero enough reads some fails = absurd (none_ahead place 0 enough some refl)
ends_from bytes front place (suc most) enough reads some fails =
    let one : with_read front (instructions_at (suc most) place) ≡ None = rw (some_left place some, fails) refl in
    sym reads ∙ one

pub ends : (bytes : List ℕ) (front : List Instruction) (place : Place) → IsReading bytes front place → (place.left ≢ []) → instruction_at place ≡ None → instructions_of bytes ≡ None
ends bytes front place reading some fails = ends_from bytes front place reading.most reading.enough reading.reads some fails

-- where nothing is left, all was read
done_from : (place : Place) (most : ℕ) → place.left ≡ [] → instructions_at most place ≡ Some []
unfolding instructions_at
done_from place zero none = rw (at_end place none) refl
done_from place (suc most) none = rw (at_end place none) refl

pub is_done : (bytes : List ℕ) (front : List Instruction) (place : Place) → IsReading bytes front place → place.left ≡ [] → instructions_of bytes ≡ Some front
is_done bytes front place reading none =
    sym reading.reads ∙ ap (with_read front) (done_from place reading.most none) ∙ ap Some (append-nil front)
