-- The instructions that are read are spelled there, and those that are spelled are read.
use Rattle.std.proofs.Common.{◌≡◌, ℕ, zero, suc, ◌+◌, ◌-◌, ◌^◌, ◌<◌, ◌≤◌, true, false, eqb, List, [], ◌∷◌, ◌++◌, length, Some, None, refl, sym, ap, subst, ◌∙◌, append_assoc, length-append, arith, inl, inr, ℤ, pos, negsuc}
use Rattle.std.specs.Prelude.{◌==◌, ◌&&◌, nat_le, nat_lt, ◌-ℤ◌}
use Rattle.std.specs.Int.{w8, cast_signed, cast_unsigned}
use Rattle.std.specs.List.{flat_map, AllByRecursion}
use Rattle.std.proofs.lemmas.Bool.{eqb-true, ne_eqb, leb-true, ltb-true, lt-ltb, and_parts}
use Rattle.std.proofs.lemmas.List.{nil_from_length}
use Rattle.std.proofs.lemmas.Int.{ints, of_z-to_z, to_z-of_z}
use Rattle.std.proofs.Math.Facts.{Fits-of_z}
use borrow.Author.Gap.{read_sfits}
use Rattle.ms_pool.specs.Places.{Place, beginning}
use Rattle.ms_pool.specs.Numbers.{IsBytes, width1, width2}
use Rattle.ms_classfile.specs.declared.instruction.Condition.{Condition}
use Rattle.ms_classfile.specs.declared.instruction.Condition.TheVariants.{Eq, Ne, Lt, Ge, Gt, Le}
use Rattle.ms_classfile.specs.declared.instruction.Instruction.{Instruction}
use Rattle.ms_classfile.specs.declared.instruction.Instruction.TheVariants.{IloadN, Iload, Iconst, Bipush, Iadd, Isub, If, IfIcmp, Ireturn}
use Rattle.ms_classfile.specs.Instructions.{condition_number, spelled_instruction, IsPlain}
use Rattle.ms_classfile.specs.ThinFile.{u1, u2}
use Rattle.ms_classfile.specs.Reading.{u1_at, u2_at, short_instruction, condition_of, load_at, push_at, offset_at, branch_at, operand_at, instruction_at, instructions_at, instructions_of}
use Rattle.ms_classfile.proofs.Steps.{then_some, provided_some, some, some_is, either, mapped_some}
use Rattle.ms_classfile.proofs.Spelling.{Takes, Takes-is, Reaches, at_end, number_takes, number_reaches}

-- an instruction that has this spelling
record Spells (instruction : Instruction) (bytes : List ℕ) : Type 0 where
  pub text : spelled_instruction instruction ≡ bytes
  pub plain : IsPlain instruction

-- ---- one byte

one_byte : (n : ℕ) → n < 256 → u1 n ≡ n ∷ []
one_byte n below = ap (λ (byte : ℕ). byte ∷ []) (omega arith)

byte_takes : (start front : List ℕ) (place : Place) (x : ℕ × Place) → Takes start front place.left → u1_at place ≡ Some x → Takes start (front ++ x.0 ∷ []) x.1.left × (x.0 < 256)
byte_takes start front place x takes found =
    let one = number_takes 1 width1 start front place x takes found in
    (Takes-is start _ _ _ (ap (λ (text : List ℕ). front ++ text) (one_byte x.0 one.1)) one.0, one.1)

byte_reaches : (n : ℕ) (place : Place) (rest : List ℕ) → n < 256 → place.left ≡ n ∷ rest → Reaches (u1_at place) n rest
byte_reaches n place rest below spelled =
    number_reaches 1 n place rest below (spelled ∙ ap (λ (text : List ℕ). text ++ rest) (sym (one_byte n below)))

-- ---- the instructions of one byte

iconst_spells : (byte : ℕ) → 2 ≤ byte → byte ≤ 8 → Spells (Iconst (pos byte -ℤ pos 3)) (byte ∷ [])
iconst_spells zero low high = absurd (omega arith)
iconst_spells (suc zero) low high = absurd (omega arith)
iconst_spells (suc (suc zero)) low high = record { text = refl; plain = (omega (arith, ints), omega (arith, ints)) }
iconst_spells (suc (suc (suc zero))) low high = record { text = refl; plain = (omega (arith, ints), omega (arith, ints)) }
iconst_spells (suc (suc (suc (suc zero)))) low high = record { text = refl; plain = (omega (arith, ints), omega (arith, ints)) }
iconst_spells (suc (suc (suc (suc (suc zero))))) low high = record { text = refl; plain = (omega (arith, ints), omega (arith, ints)) }
iconst_spells (suc (suc (suc (suc (suc (suc zero)))))) low high = record { text = refl; plain = (omega (arith, ints), omega (arith, ints)) }
iconst_spells (suc (suc (suc (suc (suc (suc (suc zero))))))) low high = record { text = refl; plain = (omega (arith, ints), omega (arith, ints)) }
iconst_spells (suc (suc (suc (suc (suc (suc (suc (suc zero)))))))) low high = record { text = refl; plain = (omega (arith, ints), omega (arith, ints)) }
iconst_spells (suc (suc (suc (suc (suc (suc (suc (suc (suc byte))))))))) low high = absurd (omega arith)

iload_n_spells : (byte : ℕ) → 26 ≤ byte → byte ≤ 29 → Spells (IloadN (byte - 26)) (byte ∷ [])
iload_n_spells byte low high = record { text = ap (λ (n : ℕ). n ∷ []) (omega arith); plain = omega arith }

-- the byte of the instruction is the one that was met
byte_is : (instruction : Instruction) (n byte : ℕ) → Spells instruction (n ∷ []) → eqb byte n ≡ true → Spells instruction (byte ∷ [])
byte_is instruction n byte spells e = subst (λ (k : ℕ). Spells instruction (k ∷ [])) (sym (eqb-true _ _ e)) spells

short_spells : (byte : ℕ) (instruction : Instruction) → short_instruction byte ≡ Some instruction → Spells instruction (byte ∷ [])
short_spells byte instruction found =
    let made : (i : Instruction) → Some i ≡ Some instruction → Spells i (byte ∷ []) → Spells instruction (byte ∷ []) = λ i e spells. subst (λ (j : Instruction). Spells j (byte ∷ [])) (some_is i instruction e) spells in
    elim (either (nat_le 26 byte && nat_le byte 29) _ _ (Some instruction) found) [
      | inl p ↦ let both = and_parts _ _ p.0 in made (IloadN (byte - 26)) p.1 (iload_n_spells byte (leb-true _ _ both.0) (leb-true _ _ both.1))
      | inr p ↦ elim (either (nat_le 2 byte && nat_le byte 8) _ _ (Some instruction) p.1) [
        | inl q ↦ let both = and_parts _ _ q.0 in made (Iconst (pos byte -ℤ pos 3)) q.1 (iconst_spells byte (leb-true _ _ both.0) (leb-true _ _ both.1))
        | inr q ↦ elim (either (byte == 96) _ _ (Some instruction) q.1) [
          | inl r ↦ made Iadd r.1 (byte_is Iadd 96 byte (record { text = refl; plain = tt }) r.0)
          | inr r ↦ elim (either (byte == 100) _ _ (Some instruction) r.1) [
            | inl s ↦ made Isub s.1 (byte_is Isub 100 byte (record { text = refl; plain = tt }) s.0)
            | inr s ↦ elim (either (byte == 172) _ _ (Some instruction) s.1) [
              | inl t ↦ made Ireturn t.1 (byte_is Ireturn 172 byte (record { text = refl; plain = tt }) t.0)
              | inr t ↦ absurd (let none : None ≡ Some instruction = t.1 in cc)
            ]
          ]
        ]
      ]
    ]

-- ---- what is read is spelled so

-- the instruction is spelled there
abbrev IsTaken : (start front : List ℕ) → Instruction × Place → Type 0
IsTaken start front x = Takes start (front ++ spelled_instruction x.0) x.1.left × IsPlain x.0

-- the opcode and its operand are the bytes of the instruction
operand_taken : (start front : List ℕ) (opcode : ℕ) (operand : List ℕ) (made x : Instruction × Place) → Takes start (front ++ opcode ∷ [] ++ operand) made.1.left → Spells made.0 (opcode ∷ operand) → some made ≡ Some x → IsTaken start front x
operand_taken start front opcode operand made x takes spells e =
    subst (λ (y : Instruction × Place). IsTaken start front y) (some_is made x e)
    (Takes-is start _ _ _ (append_assoc front (opcode ∷ []) operand ∙ ap (λ (text : List ℕ). front ++ text) (sym spells.text)) takes, spells.plain)

load_takes : (start front : List ℕ) (place : Place) (x : Instruction × Place) → Takes start (front ++ 21 ∷ []) place.left → load_at place ≡ Some x → IsTaken start front x
unfolding load_at
load_takes start front place x takes found =
    then_some (u1_at place) _ x found (λ local at_local last.
    let one = byte_takes start (front ++ 21 ∷ []) place local takes at_local in
    operand_taken start front 21 (local.0 ∷ []) (Iload local.0, local.1) x one.0 (record { text = refl; plain = one.1 }) last)

push_takes : (start front : List ℕ) (place : Place) (x : Instruction × Place) → Takes start (front ++ 16 ∷ []) place.left → push_at place ≡ Some x → IsTaken start front x
unfolding push_at
push_takes start front place x takes found =
    then_some (u1_at place) _ x found (λ byte at_byte last.
    let one = byte_takes start (front ++ 16 ∷ []) place byte takes at_byte in
    operand_taken start front 16 (byte.0 ∷ []) (Bipush (cast_signed w8 byte.0), byte.1) x one.0 (record { text = rw (of_z-to_z w8 byte.0 one.1) refl; plain = read_sfits w8 byte.0 }) last)

offset_takes : (start front : List ℕ) (place : Place) (x : ℕ × Place) → Takes start front place.left → offset_at place ≡ Some x → Takes start (front ++ u2 x.0) x.1.left × (x.0 < 2 ^ 15)
unfolding offset_at
offset_takes start front place x takes found =
    then_some (u2_at place) _ x found (λ far at_far last.
    let known = provided_some (nat_lt far.0 (2 ^ 15)) (Some far) x last in
    let one = number_takes 2 width2 start front place far takes at_far in
    subst (λ (y : ℕ × Place). Takes start (front ++ u2 y.0) y.1.left × (y.0 < 2 ^ 15)) (some_is far x known.1) (one.0, ltb-true _ _ known.0))

-- the condition of this place in its group
condition_is : (n : ℕ) (condition : Condition) → condition_of n ≡ Some condition → n ≡ condition_number condition
condition_is zero condition found = ap condition_number (some_is Eq condition found)
condition_is (suc zero) condition found = ap condition_number (some_is Ne condition found)
condition_is (suc (suc zero)) condition found = ap condition_number (some_is Lt condition found)
condition_is (suc (suc (suc zero))) condition found = ap condition_number (some_is Ge condition found)
condition_is (suc (suc (suc (suc zero)))) condition found = ap condition_number (some_is Gt condition found)
condition_is (suc (suc (suc (suc (suc zero))))) condition found = ap condition_number (some_is Le condition found)
condition_is (suc (suc (suc (suc (suc (suc n)))))) condition found = absurd cc

-- the branches of a group of six opcodes
record IsGroup (branch : Condition → ℕ → Instruction) (group : ℕ) : Type 0 where
  pub spelled : (condition : Condition) (far : ℕ) → spelled_instruction (branch condition far) ≡ (group + condition_number condition) ∷ u2 far
  pub plain : (condition : Condition) (far : ℕ) → far < 2 ^ 15 → IsPlain (branch condition far)

branch_takes : (branch : Condition → ℕ → Instruction) (group opcode : ℕ) (start front : List ℕ) (place : Place) (x : Instruction × Place) → IsGroup branch group → group ≤ opcode
    → Takes start (front ++ opcode ∷ []) place.left → branch_at branch (opcode - group) place ≡ Some x → IsTaken start front x
unfolding branch_at
branch_takes branch group opcode start front place x is_group above takes found =
    then_some (condition_of (opcode - group)) _ x found (λ condition at_condition more.
    then_some (offset_at place) _ x more (λ far at_far last.
    let number = condition_is (opcode - group) condition at_condition in
    let is_opcode : group + condition_number condition ≡ opcode = omega (arith, number, above) in
    let one = offset_takes start (front ++ opcode ∷ []) place far takes at_far in
    let text = is_group.spelled condition far.0 ∙ ap (λ (n : ℕ). n ∷ u2 far.0) is_opcode in
    operand_taken start front opcode (u2 far.0) (branch condition far.0, far.1) x one.0 (record { text = text; plain = is_group.plain condition far.0 one.1 }) last))

-- the opcode is the one that was met
opcode_is : (start front rest : List ℕ) (opcode n : ℕ) → Takes start (front ++ opcode ∷ []) rest → eqb opcode n ≡ true → Takes start (front ++ n ∷ []) rest
opcode_is start front rest opcode n takes e = Takes-is start _ _ _ (ap (λ (k : ℕ). front ++ k ∷ []) (eqb-true _ _ e)) takes

operand_takes : (opcode : ℕ) (start front : List ℕ) (place : Place) (x : Instruction × Place) → Takes start (front ++ opcode ∷ []) place.left → operand_at opcode place ≡ Some x → IsTaken start front x
unfolding operand_at
operand_takes opcode start front place x takes found =
    elim (either (opcode == 16) (push_at place) _ (Some x) found) [
      | inl p ↦ push_takes start front place x (opcode_is start front place.left opcode 16 takes p.0) p.1
      | inr p ↦ elim (either (opcode == 21) (load_at place) _ (Some x) p.1) [
        | inl q ↦ load_takes start front place x (opcode_is start front place.left opcode 21 takes q.0) q.1
        | inr q ↦ elim (either (nat_le 153 opcode && nat_le opcode 158) (branch_at If (opcode - 153) place) _ (Some x) q.1) [
          | inl r ↦ branch_takes If 153 opcode start front place x (record { spelled = λ condition far. refl; plain = λ condition far below. below }) (leb-true _ _ (and_parts _ _ r.0).0) takes r.1
          | inr r ↦ elim (either (nat_le 159 opcode && nat_le opcode 164) (branch_at IfIcmp (opcode - 159) place) _ (Some x) r.1) [
            | inl s ↦ branch_takes IfIcmp 159 opcode start front place x (record { spelled = λ condition far. refl; plain = λ condition far below. below }) (leb-true _ _ (and_parts _ _ s.0).0) takes s.1
            | inr s ↦
                let found = mapped_some (λ (instruction : Instruction). (instruction, place)) (short_instruction opcode) x s.1 in
                let whole = Takes-is start _ _ _ (sym (append_assoc front (opcode ∷ []) [])) takes in
                operand_taken start front opcode [] (found.0, place) x whole (short_spells opcode found.0 found.1) (ap some found.2)
          ]
        ]
      ]
    ]

instruction_takes : (start front : List ℕ) (place : Place) (x : Instruction × Place) → Takes start front place.left → instruction_at place ≡ Some x → IsTaken start front x
unfolding instruction_at
instruction_takes start front place x takes found =
    then_some (u1_at place) _ x found (λ opcode at_opcode more.
    operand_takes opcode.0 start front opcode.1 x (byte_takes start front place opcode takes at_opcode).0 more)

-- behind what is in front the bytes are this code
record AreInstructions (start front : List ℕ) (code : List Instruction) : Type 0 where
  pub text : start ≡ front ++ flat_map spelled_instruction code
  pub plain : AllByRecursion IsPlain code

-- nothing is left
no_more : (start front : List ℕ) (place : Place) (code : List Instruction) → Takes start front place.left → eqb (length place.left) 0 ≡ true → some [] ≡ Some code → AreInstructions start front code
no_more start front place code takes ended e =
    subst (λ (c : List Instruction). AreInstructions start front c) (some_is [] code e)
    (record { text = takes.parts ∙ ap (λ (rest : List ℕ). front ++ rest) (nil_from_length place.left (eqb-true _ _ ended)); plain = tt })

code_takes : (most : ℕ) (start front : List ℕ) (place : Place) (code : List Instruction) → Takes start front place.left → instructions_at most place ≡ Some code → AreInstructions start front code
unfolding instructions_at
code_takes zero start front place code takes found =
    let ended = provided_some (length place.left == 0) (Some []) code found in
    no_more start front place code takes ended.0 ended.1
code_takes (suc most) start front place code takes found =
    elim (either (length place.left == 0) (Some []) _ (Some code) found) [
      | inl p ↦ no_more start front place code takes p.0 p.1
      | inr p ↦ then_some (instruction_at place) _ code p.1 (λ first at_first last.
          let more = mapped_some _ (instructions_at most first.1) code last in
          let one = instruction_takes start front place first takes at_first in
          let others = code_takes most start (front ++ spelled_instruction first.0) first.1 more.0 one.0 more.1 in
          subst (λ (c : List Instruction). AreInstructions start front c) more.2
          (record { text = others.text ∙ append_assoc front (spelled_instruction first.0) (flat_map spelled_instruction more.0); plain = (one.1, others.plain) }))
    ]

-- the code that bytes are is spelled by all of them
pub instructions_take : (bytes : List ℕ) (code : List Instruction) → IsBytes bytes → instructions_of bytes ≡ Some code → (bytes ≡ flat_map spelled_instruction code) × AllByRecursion IsPlain code
instructions_take bytes code fits found =
    let are = code_takes (length bytes) bytes [] (beginning bytes) code (record { parts = refl; fits = fits }) found in
    (are.text, are.plain)

-- ---- what is spelled so is read

-- an instruction that is its opcode
short_reaches : (instruction : Instruction) (opcode : ℕ) (place : Place) (rest : List ℕ) → opcode < 256 → ((after : Place) → operand_at opcode after ≡ Some (instruction, after)) → place.left ≡ opcode ∷ rest → Reaches (instruction_at place) instruction rest
unfolding instruction_at
short_reaches instruction opcode place rest below read spelled =
    let byte = byte_reaches opcode place rest below spelled in
    record { after = byte.after; found = rw byte.found (read byte.after); left = byte.left }

iconst_reaches : (word : ℤ) (place : Place) (rest : List ℕ) → IsPlain (Iconst word) → place.left ≡ spelled_instruction (Iconst word) ++ rest → Reaches (instruction_at place) (Iconst word) rest
unfolding operand_at
iconst_reaches (pos zero) place rest plain spelled = short_reaches (Iconst (pos 0)) 3 place rest (omega arith) (λ after. refl) spelled
iconst_reaches (pos (suc zero)) place rest plain spelled = short_reaches (Iconst (pos 1)) 4 place rest (omega arith) (λ after. refl) spelled
iconst_reaches (pos (suc (suc zero))) place rest plain spelled = short_reaches (Iconst (pos 2)) 5 place rest (omega arith) (λ after. refl) spelled
iconst_reaches (pos (suc (suc (suc zero)))) place rest plain spelled = short_reaches (Iconst (pos 3)) 6 place rest (omega arith) (λ after. refl) spelled
iconst_reaches (pos (suc (suc (suc (suc zero))))) place rest plain spelled = short_reaches (Iconst (pos 4)) 7 place rest (omega arith) (λ after. refl) spelled
iconst_reaches (pos (suc (suc (suc (suc (suc zero)))))) place rest plain spelled = short_reaches (Iconst (pos 5)) 8 place rest (omega arith) (λ after. refl) spelled
iconst_reaches (pos (suc (suc (suc (suc (suc (suc n))))))) place rest plain spelled = absurd (omega (arith, ints, plain.1))
iconst_reaches (negsuc zero) place rest plain spelled = short_reaches (Iconst (negsuc 0)) 2 place rest (omega arith) (λ after. refl) spelled
iconst_reaches (negsuc (suc n)) place rest plain spelled = absurd (omega (arith, ints, plain.0))

iload_n_reaches : (local : ℕ) (place : Place) (rest : List ℕ) → local < 4 → place.left ≡ (26 + local) ∷ rest → Reaches (instruction_at place) (IloadN local) rest
unfolding operand_at
iload_n_reaches zero place rest below spelled = short_reaches (IloadN 0) 26 place rest (omega arith) (λ after. refl) spelled
iload_n_reaches (suc zero) place rest below spelled = short_reaches (IloadN 1) 27 place rest (omega arith) (λ after. refl) spelled
iload_n_reaches (suc (suc zero)) place rest below spelled = short_reaches (IloadN 2) 28 place rest (omega arith) (λ after. refl) spelled
iload_n_reaches (suc (suc (suc zero))) place rest below spelled = short_reaches (IloadN 3) 29 place rest (omega arith) (λ after. refl) spelled
iload_n_reaches (suc (suc (suc (suc local)))) place rest below spelled = absurd (omega arith)

if_operand : (condition : Condition) (place : Place) (far : ℕ × Place) → offset_at place ≡ Some far → operand_at (153 + condition_number condition) place ≡ Some (If condition far.0, far.1)
unfolding operand_at branch_at
if_operand Eq place far found = rw found refl
if_operand Ne place far found = rw found refl
if_operand Lt place far found = rw found refl
if_operand Ge place far found = rw found refl
if_operand Gt place far found = rw found refl
if_operand Le place far found = rw found refl

if_icmp_operand : (condition : Condition) (place : Place) (far : ℕ × Place) → offset_at place ≡ Some far → operand_at (159 + condition_number condition) place ≡ Some (IfIcmp condition far.0, far.1)
unfolding operand_at branch_at
if_icmp_operand Eq place far found = rw found refl
if_icmp_operand Ne place far found = rw found refl
if_icmp_operand Lt place far found = rw found refl
if_icmp_operand Ge place far found = rw found refl
if_icmp_operand Gt place far found = rw found refl
if_icmp_operand Le place far found = rw found refl

condition_below : (condition : Condition) → condition_number condition < 6
condition_below Eq = omega arith
condition_below Ne = omega arith
condition_below Lt = omega arith
condition_below Ge = omega arith
condition_below Gt = omega arith
condition_below Le = omega arith

-- a branch, whose opcode is this one
branch_reaches : (instruction : Instruction) (opcode far : ℕ) (place : Place) (rest : List ℕ) → opcode < 256 → far < 2 ^ 15 → ((after end : Place) → offset_at after ≡ Some (far, end) → operand_at opcode after ≡ Some (instruction, end)) → place.left ≡ opcode ∷ (u2 far ++ rest) → Reaches (instruction_at place) instruction rest
unfolding instruction_at offset_at
branch_reaches instruction opcode far place rest below near read spelled =
    let byte = byte_reaches opcode place (u2 far ++ rest) below spelled in
    let offset = number_reaches 2 far byte.after rest (omega (arith, near)) byte.left in
    let offset_found : offset_at byte.after ≡ Some (far, offset.after) = rw (offset.found, lt-ltb _ _ near) refl in
    record { after = offset.after; found = rw byte.found (read byte.after offset.after offset_found); left = offset.left }

instruction_reaches : (instruction : Instruction) (place : Place) (rest : List ℕ) → IsPlain instruction → place.left ≡ spelled_instruction instruction ++ rest → Reaches (instruction_at place) instruction rest
unfolding instruction_at operand_at load_at push_at
instruction_reaches (IloadN local) place rest plain spelled = iload_n_reaches local place rest plain spelled
instruction_reaches (Iload local) place rest plain spelled =
    let opcode = byte_reaches 21 place (local ∷ rest) (omega arith) spelled in
    let operand = byte_reaches local opcode.after rest plain opcode.left in
    record { after = operand.after; found = rw (opcode.found, operand.found) refl; left = operand.left }
instruction_reaches (Iconst word) place rest plain spelled = iconst_reaches word place rest plain spelled
instruction_reaches (Bipush word) place rest plain spelled =
    let opcode = byte_reaches 16 place (cast_unsigned w8 word ∷ rest) (omega arith) spelled in
    let operand = byte_reaches (cast_unsigned w8 word) opcode.after rest (omega (arith, Fits-of_z plain)) opcode.left in
    record { after = operand.after; found = rw (opcode.found, operand.found, to_z-of_z w8 word plain) refl; left = operand.left }
instruction_reaches Iadd place rest plain spelled = short_reaches Iadd 96 place rest (omega arith) (λ after. refl) spelled
instruction_reaches Isub place rest plain spelled = short_reaches Isub 100 place rest (omega arith) (λ after. refl) spelled
instruction_reaches (If condition far) place rest plain spelled = branch_reaches (If condition far) (153 + condition_number condition) far place rest (omega (arith, condition_below condition)) plain (λ after end found. if_operand condition after (far, end) found) spelled
instruction_reaches (IfIcmp condition far) place rest plain spelled = branch_reaches (IfIcmp condition far) (159 + condition_number condition) far place rest (omega (arith, condition_below condition)) plain (λ after end found. if_icmp_operand condition after (far, end) found) spelled
instruction_reaches Ireturn place rest plain spelled = short_reaches Ireturn 172 place rest (omega arith) (λ after. refl) spelled

-- each instruction has a byte at least
has_byte : (instruction : Instruction) → 1 ≤ length (spelled_instruction instruction)
has_byte (IloadN local) = omega arith
has_byte (Iload local) = omega arith
has_byte (Iconst word) = omega arith
has_byte (Bipush word) = omega arith
has_byte Iadd = omega arith
has_byte Isub = omega arith
has_byte (If condition far) = omega arith
has_byte (IfIcmp condition far) = omega arith
has_byte Ireturn = omega arith

-- code has no more instructions than bytes
pub length_spelled : (code : List Instruction) → length code ≤ length (flat_map spelled_instruction code)
length_spelled [] = omega arith
length_spelled (instruction ∷ code) = omega (arith, has_byte instruction, length_spelled code, length-append (spelled_instruction instruction) (flat_map spelled_instruction code))

code_reaches : (code : List Instruction) (most : ℕ) (place : Place) → AllByRecursion IsPlain code → length (flat_map spelled_instruction code) ≤ most → place.left ≡ flat_map spelled_instruction code → instructions_at most place ≡ Some code
unfolding instructions_at
code_reaches [] zero place plain enough spelled = rw (at_end place spelled) refl
code_reaches [] (suc most) place plain enough spelled = rw (at_end place spelled) refl
code_reaches (instruction ∷ code) zero place plain enough spelled = absurd (omega (arith, enough, has_byte instruction, length-append (spelled_instruction instruction) (flat_map spelled_instruction code)))
code_reaches (instruction ∷ code) (suc most) place plain enough spelled =
    let long = length-append (spelled_instruction instruction) (flat_map spelled_instruction code) in
    let some_left : eqb (length place.left) 0 ≡ false = ne_eqb _ _ (λ none. omega (arith, none, ap length spelled, has_byte instruction, long)) in
    let first = instruction_reaches instruction place (flat_map spelled_instruction code) plain.0 spelled in
    let others = code_reaches code most first.after plain.1 (omega (arith, enough, has_byte instruction, long)) first.left in
    rw (some_left, first.found, others) refl

-- code that is spelled is read
pub instructions_reach : (code : List Instruction) → AllByRecursion IsPlain code → instructions_of (flat_map spelled_instruction code) ≡ Some code
instructions_reach code plain = code_reaches code (length (flat_map spelled_instruction code)) (beginning (flat_map spelled_instruction code)) plain (omega arith) refl
