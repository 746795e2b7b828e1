-- A loop over the instructions of a code reads all of them.
use Rattle.std.proofs.Common.{◌≡◌, ℕ, zero, suc, ◌+◌, ◌<◌, ◌≤◌, List, [], ◌∷◌, ◌++◌, length, true, false, Option, Result, Ok, refl, sym, ap, subst, ◌∙◌, arith}
use Rattle.std.specs.Prelude.{◌==◌}
use Rattle.std.proofs.lemmas.Bool.{ne_eqb}
use Rattle.ms_pool.specs.Pools.{Placed}
use Rattle.ms_pool.specs.Places.{Place}
use Rattle.ms_pool.specs.Formats.{Format, and_then}
use Rattle.ms_pool.specs.Forward.{whole_of}
use Rattle.ms_pool.specs.Exact.{ok_is, then_ok}
use Rattle.ms_code.specs.declared.trouble.Trouble.{Trouble}
use Rattle.ms_code.specs.declared.trouble.Trouble.TheVariants.{Foreign, At, NoMemory}
use Rattle.ms_code.specs.declared.instruction.Instr.{Instr}
use Rattle.ms_code.specs.Codes.{Steps, step, steps_of, to_end}
use Rattle.ms_code.specs.Finds.{Fails}
use Rattle.ms_code.specs.Instructions.{instruction}
use Rattle.ms_code.proofs.Forward.{instruction_has_byte, instruction_sound}

-- the place goes on by one byte at least
pub record GoesFurther (place after : Place) : Type 0 where
  pub whole : after.at + length after.left ≡ place.at + length place.left
  pub on : place.at + 1 ≤ after.at

pub instruction_goes : (pool : List (Option Placed)) (code_at offset : ℕ) (place : Place) (instr : Instr) (after : Place) → (instruction pool code_at offset).read place ≡ Ok (instr, after) → GoesFurther place after
instruction_goes pool code_at offset place instr after found = record {
  whole = whole_of place after ((instruction_sound pool code_at offset).forward.goes place (instr, after) found);
  on = (instruction_has_byte pool code_at offset).takes place (instr, after) found;
}

pub step_goes : (pool : List (Option Placed)) (code_at : ℕ) (before : Steps) (place : Place) (x : Steps × Place) → (step pool code_at before).read place ≡ Ok x → GoesFurther place x.1
unfolding step
step_goes pool code_at before place x found =
    then_ok ((instruction pool (code_at + place.at) place.at).read place) _ x found (λ instr is_instr rest.
    subst (λ (y : Steps × Place). GoesFurther place y.1) (ok_is {Fault = Trouble} (before ++ steps_of place.at (record { instr = instr.0; next = instr.1.at }), instr.1) x rest) (instruction_goes pool (code_at + place.at) place.at place instr.0 instr.1 is_instr))

-- what is read behind these parts is what is read from the start
pub record IsWalking {X : Type 0} (part : X → Format Trouble X) (known : X) (place : Place) (total : Result (X × Place) Trouble) : Type 0 where
  pub most : ℕ
  pub enough : length place.left ≤ most
  pub reading : (to_end most part known).read place ≡ total

-- behind no byte
ended : (left : List ℕ) → left ≡ [] → (length left == 0) ≡ true
ended left none = rw none refl

pub walked : {X : Type 0} (part : X → Format Trouble X) (known : X) (place : Place) (total : Result (X × Place) Trouble) → place.left ≡ [] → IsWalking part known place total → total ≡ Ok (known, place)
walked {X = X} part known place total none so_far = sym so_far.reading ∙ by_most so_far.most
  where
    by_most : (n : ℕ) → (to_end n part known).read place ≡ Ok (known, place)
    by_most zero = refl
    by_most (suc n) = rw (ended place.left none) refl

-- where bytes are left, one part is read, and then the others
one_read : {X : Type 0} (part : X → Format Trouble X) (known : X) (place : Place) (n : ℕ) → 0 < length place.left → length place.left ≤ n → (m : ℕ) × (n ≡ suc m) × ((to_end n part known).read place ≡ and_then ((part known).read place) (λ (y : X × Place). (to_end m part y.0).read y.1))
one_read part known place zero some enough = absurd (omega (arith, some, enough))
one_read part known place (suc m) some enough =
    let more : (length place.left == 0) ≡ false = ne_eqb (length place.left) 0 (λ none. absurd (omega (arith, some, none))) in
    (m, refl, rw more refl)

pub goes_on : {X : Type 0} (part : X → Format Trouble X) (known x : X) (place after : Place) (total : Result (X × Place) Trouble) → (part known).read place ≡ Ok (x, after) → GoesFurther place after → IsWalking part known place total → IsWalking part x after total
goes_on {X = X} part known x place after total found further so_far =
    let some : 0 < length place.left = omega (arith, further.whole, further.on) in
    let p = one_read part known place so_far.most some so_far.enough in
    record {
      most = p.0;
      enough = omega (arith, further.whole, further.on, p.1, so_far.enough);
      reading = sym (p.2 ∙ ap (λ (r : Result (X × Place) Trouble). and_then r (λ (y : X × Place). (to_end p.0 part y.0).read y.1)) found) ∙ so_far.reading;
    }

fails_and_then : {A B : Type 0} (trouble : Trouble) (read : Result A Trouble) (next : A → Result B Trouble) → Fails trouble read → Fails trouble (and_then read next)
fails_and_then Foreign read next fails = ap (λ r. and_then r next) fails
fails_and_then (At kind at) read next fails = ap (λ r. and_then r next) fails
fails_and_then NoMemory read next fails = tt

pub some_left : (left : List ℕ) → (left ≡ [] → ⊥) → 0 < length left
some_left [] none = absurd (none refl)
some_left (byte ∷ left) none = omega arith

pub walk_fails : {X : Type 0} (part : X → Format Trouble X) (known : X) (place : Place) (trouble : Trouble) (total : Result (X × Place) Trouble) → 0 < length place.left → Fails trouble ((part known).read place) → IsWalking part known place total → Fails trouble total
walk_fails {X = X} part known place trouble total some fails so_far =
    let p = one_read part known place so_far.most some so_far.enough in
    subst (λ (r : Result (X × Place) Trouble). Fails trouble r) (sym p.2 ∙ so_far.reading) (fails_and_then trouble ((part known).read place) (λ (y : X × Place). (to_end p.0 part y.0).read y.1) fails)
