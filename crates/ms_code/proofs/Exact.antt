-- A code is exact: what is read of it is what it says, and else it is foreign or has the fault that is read.
use Rattle.std.proofs.Common.{◌≡◌, ℕ, zero, suc, ◌+◌, ◌-◌, ◌<◌, ◌≤◌, List, [], ◌++◌, length, Bool, true, false, Option, Some, None, Result, Ok, Err, refl, sym, ap, subst, ◌∙◌, arith}
use Rattle.std.specs.Prelude.{◌==◌, IfErr, IfOk}
use Rattle.std.proofs.lemmas.Bool.{eqb-true}
use Rattle.std.proofs.lemmas.List.{length-append, length-replicate}
use Rattle.ms_pool.specs.declared.code.ClassKind.TheVariants as kinds
use Rattle.ms_pool.specs.Pools.{Placed}
use Rattle.ms_pool.specs.Places.{Place, beginning}
use Rattle.ms_pool.specs.Numbers.{IsBytes}
use Rattle.ms_pool.specs.Formats.{Format, done, either, found, here, ◌>>=◌}
use Rattle.ms_pool.specs.Exact.{IsExact, err_is, here_exact, ok_is, then_ok}
use Rattle.ms_code.specs.declared.decoded.Handler.{Handler}
use Rattle.ms_code.specs.declared.decoded.Step.{Step}
use Rattle.ms_code.specs.declared.instruction.Instr.{Instr}
use Rattle.ms_code.specs.declared.trouble.Trouble.{Trouble}
use Rattle.ms_code.specs.declared.trouble.Trouble.TheVariants.{Foreign, At, NoMemory}
use Rattle.ms_code.specs.Codes.{Code, DecodedCode, IsDecoded, Steps, at_end, decoded, first_astray, first_misplaced, handlers_of, step, steps, steps_of, to_end, unless}
use Rattle.ms_code.specs.Finds.{Gives}
use Rattle.ms_code.specs.Instructions.{instruction}
use Rattle.ms_code.specs.Rows.{HasTrouble}
use Rattle.ms_pool.specs.Forward.{GoesOn, here_forward, stays}
use Rattle.ms_code.proofs.Forward.{IsSound, IsTold, both_sound, done_sound, found_sound, instruction_sound}
use Rattle.ms_code.proofs.Walks.{instruction_goes}

at_end_exact : IsExact {Fault = Trouble} at_end
at_end_exact = record {
  fits = λ place y bytes is. subst (λ (z : Bool × Place). IsBytes z.1.left) (ok_is {Fault = Trouble} (length place.left == 0, place) y is) bytes;
  spells = λ place y bytes is. subst (λ (z : Bool × Place). (z.0 ≡ (length place.left == 0)) × (z.1 ≡ place)) (ok_is {Fault = Trouble} (length place.left == 0, place) y is) (refl, refl);
  reads = λ place y after bytes is. ap (λ (z : Bool). Ok (z, place)) (sym is.0) ∙ ap (λ (p : Place). Ok (y, p)) (sym is.1);
  breaks = λ place fault bytes is. absurd (let e = is in cc);
  faults = λ place fault bytes is. absurd is;
}

unless_exact : (astray : Option ℕ) → IsExact (unless astray)
unless_exact None = record {
  fits = λ place y bytes is. subst (λ (z : Unit {0} × Place). IsBytes z.1.left) (ok_is {Fault = Trouble} (tt, place) y is) bytes;
  spells = λ place y bytes is. subst (λ (z : Unit {0} × Place). (◌≡◌ {A = Option ℕ} None None) × (z.1 ≡ place)) (ok_is {Fault = Trouble} (tt, place) y is) (refl, refl);
  reads = λ place y after bytes is. ap (λ (p : Place). Ok (tt, p)) (sym is.1);
  breaks = λ place trouble bytes is. absurd (let e = is in cc);
  faults = λ place trouble bytes is. absurd (let e = is in cc);
}
unless_exact (Some at) = record {
  fits = λ place y bytes is. absurd (let e = is in cc);
  spells = λ place y bytes is. absurd (let e = is in cc);
  reads = λ place y after bytes is. absurd (let e = is.0 in cc);
  breaks = λ place trouble bytes is. ap (λ (t : Trouble). Some t) (err_is {A = Unit {0} × Place} (At kinds.Target at) trouble is);
  faults = λ place trouble bytes is. ap (λ (t : Trouble). Err t) (let e = is in cc);
}

here_sound : IsSound here
here_sound = record {
  exact = here_exact;
  forward = here_forward;
  told = λ place trouble is. absurd (let e = is in cc);
}

at_end_sound : IsSound at_end
at_end_sound = record {
  exact = at_end_exact;
  forward = record { goes = λ place y is. subst (λ (z : Bool × Place). GoesOn place z.1) (ok_is {Fault = Trouble} (length place.left == 0, place) y is) (stays place) };
  told = λ place trouble is. absurd (let e = is in cc);
}

either_sound : {X : Type 0} (test : Bool) (first second : Format Trouble X) → IsSound first → IsSound second → IsSound (either test first second)
either_sound true first second is_first is_second = is_first
either_sound false first second is_first is_second = is_second

to_end_sound : {X : Type 0} (n : ℕ) (part : X → Format Trouble X) (known : X) → ((x : X) → IsSound (part x)) → IsSound (to_end n part known)
to_end_sound zero part known each = done_sound known
to_end_sound (suc n) part known each =
    both_sound at_end _ at_end_sound (λ ended. either_sound ended _ _ (done_sound known) (both_sound (part known) (to_end n part) (each known) (λ x. to_end_sound n part x each)))

step_sound : (pool : List (Option Placed)) (code_at : ℕ) (before : Steps) → IsSound (step pool code_at before)
unfolding step
step_sound pool code_at before =
    both_sound here _ here_sound (λ offset.
    both_sound (instruction pool (code_at + offset) offset) _ (instruction_sound pool (code_at + offset) offset) (λ instr.
    both_sound here _ here_sound (λ next. done_sound _)))

unless_sound : (astray : Option ℕ) → IsSound (unless astray)
unless_sound None = record {
  exact = unless_exact None;
  forward = record { goes = λ place y is. subst (λ (z : Unit {0} × Place). GoesOn place z.1) (ok_is {Fault = Trouble} (tt, place) y is) (stays place) };
  told = λ place trouble is. absurd (let e = is in cc);
}
unless_sound (Some at) = record {
  exact = unless_exact (Some at);
  forward = record { goes = λ place y is. absurd (let e = is in cc) };
  told = λ place trouble is. subst IsTold (err_is {A = Unit {0} × Place} (At kinds.Target at) trouble is) refl;
}

pub decoded_sound : (pool : List (Option Placed)) (code : Code) → IsSound (decoded pool code)
unfolding decoded
decoded_sound pool code =
    both_sound (steps pool (length code.code) code.code_at) _ (to_end_sound (length code.code) (step pool code.code_at) [] (step_sound pool code.code_at)) (λ all.
    both_sound (unless (first_astray all code.code_at all)) _ (unless_sound (first_astray all code.code_at all)) (λ targets.
    both_sound (unless (first_misplaced all (length code.code) code.table_at code.table)) _ (unless_sound (first_misplaced all (length code.code) code.table_at code.table)) (λ entries.
    both_sound (found (handlers_of pool code.table) Foreign) _ (found_sound (handlers_of pool code.table)) (λ handlers. done_sound _))))

-- WHAT HOLDS ALONG A CODE

-- where something holds of the steps before an instruction, it holds with that instruction, which was read
pub record IsKept (P : Steps → ℕ → Type 0) (pool : List (Option Placed)) (code_at : ℕ) : Type 1 where
  pub kept : (before : Steps) (place after : Place) (instr : Instr) → (instruction pool (code_at + place.at) place.at).read place ≡ Ok (instr, after) → place.at < after.at → P before place.at
      → P (before ++ steps_of place.at (record { instr = instr; next = after.at })) after.at

-- it holds of the steps before a place, and no more bytes are left than instructions may come
record IsAlong (P : Steps → ℕ → Type 0) (size n : ℕ) (known : Steps) (place : Place) : Type 0 where
  pub holds : P known place.at
  pub whole : place.at + length place.left ≡ size
  pub enough : length place.left ≤ n

step_along : (P : Steps → ℕ → Type 0) (pool : List (Option Placed)) (code_at size n : ℕ) → IsKept P pool code_at → (before : Steps) (place : Place) (x : Steps × Place) → IsAlong P size (suc n) before place → (step pool code_at before).read place ≡ Ok x → IsAlong P size n x.0 x.1
unfolding step
step_along P pool code_at size n keeps before place x along is =
    then_ok ((instruction pool (code_at + place.at) place.at).read place) _ x is (λ instr is_instr rest.
    let goes = instruction_goes pool (code_at + place.at) place.at place instr.0 instr.1 is_instr in
    let added = steps_of place.at (record { instr = instr.0; next = instr.1.at }) in
    subst (λ (y : Steps × Place). IsAlong P size n y.0 y.1) (ok_is {Fault = Trouble} (before ++ added, instr.1) x rest)
    (record {
      holds = keeps.kept before place instr.1 instr.0 is_instr (omega (arith, goes.on)) along.holds;
      whole = goes.whole ∙ along.whole;
      enough = omega (arith, goes.whole, goes.on, along.enough);
    }))

steps_along : (P : Steps → ℕ → Type 0) (pool : List (Option Placed)) (code_at size n : ℕ) → IsKept P pool code_at → (before : Steps) (place : Place) (x : Steps × Place) → IsAlong P size n before place → (to_end n (step pool code_at) before).read place ≡ Ok x → P x.0 size
steps_along P pool code_at size zero keeps before place x along is =
    let all : place.at ≡ size = omega (arith, along.whole, along.enough) in
    subst (λ (y : Steps × Place). P y.0 size) (ok_is {Fault = Trouble} (before, place) x is) (subst (P before) all along.holds)
steps_along P pool code_at size (suc n) keeps before place x along is = by_end (λ y next rest. steps_along P pool code_at size n keeps y.0 y.1 x next rest) (length place.left == 0) refl is
  where
    by_end : ((y : Steps × Place) → IsAlong P size n y.0 y.1 → (to_end n (step pool code_at) y.0).read y.1 ≡ Ok x → P x.0 size)
        → (b : Bool) → (length place.left == 0) ≡ b → (either b (done before) (step pool code_at before >>= to_end n (step pool code_at))).read place ≡ Ok x → P x.0 size
    by_end others true none found =
        let all : place.at ≡ size = omega (arith, along.whole, eqb-true (length place.left) 0 none) in
        subst (λ (y : Steps × Place). P y.0 size) (ok_is {Fault = Trouble} (before, place) x found) (subst (P before) all along.holds)
    by_end others false more found = then_ok ((step pool code_at before).read place) _ x found (λ y is_step rest. others y (step_along P pool code_at size n keeps before place y along is_step) rest)

-- what holds of no steps holds of all
pub all_along : (P : Steps → ℕ → Type 0) (pool : List (Option Placed)) (code_at : ℕ) (bytes : List ℕ) (found : Steps) (after : Place) → IsKept P pool code_at → P [] 0 → (steps pool (length bytes) code_at).read (beginning bytes) ≡ Ok (found, after) → P found (length bytes)
all_along P pool code_at bytes found after keeps begun is = steps_along P pool code_at (length bytes) (length bytes) keeps [] (beginning bytes) (found, after) (record { holds = begun; whole = omega arith; enough = omega arith }) is

-- HOW MANY STEPS THERE ARE

-- what stands for a byte within an instruction
abbrev no_step : Option Step
no_step = None

-- as many steps as bytes
pub steps_many : (pool : List (Option Placed)) (code_at : ℕ) (bytes : List ℕ) (found : Steps) (after : Place) → (steps pool (length bytes) code_at).read (beginning bytes) ≡ Ok (found, after) → length found ≡ length bytes
steps_many pool code_at bytes found after is = all_along (λ known at. length known ≡ at) pool code_at bytes found after (record { kept = kept }) refl is
  where
    kept : (before : Steps) (place after : Place) (instr : Instr) → (instruction pool (code_at + place.at) place.at).read place ≡ Ok (instr, after) → place.at < after.at → length before ≡ place.at → length (before ++ steps_of place.at (record { instr = instr; next = after.at })) ≡ after.at
    kept before place after instr is_instr further level =
        let added = steps_of place.at (record { instr = instr; next = after.at }) in
        omega (arith, length-append before added, length-replicate (after.at - place.at - 1) no_step, level, further)

-- WHAT WAS DECODED

-- what was read part by part is what the code says
pub decoded_is : (pool : List (Option Placed)) (code : Code) (all : Steps) (after : Place) (handlers : List Handler) → (steps pool (length code.code) code.code_at).read (beginning code.code) ≡ Ok (all, after) → first_astray all code.code_at all ≡ None
    → first_misplaced all (length code.code) code.table_at code.table ≡ None → handlers_of pool code.table ≡ Some handlers → (decoded pool code).read (beginning code.code) ≡ Ok (record { steps = all; handlers = handlers }, after)
unfolding decoded
decoded_is pool code all after handlers are_steps targets entries are_handlers = rw (are_steps, targets, entries, are_handlers) refl

-- a code that was read says what was read
pub is_decoded : (pool : List (Option Placed)) (code : Code) (result : Result DecodedCode Trouble) → IsBytes code.code → Gives (λ (decoded : DecodedCode). decoded) result ((decoded pool code).read (beginning code.code)) → IfOk result (IsDecoded pool code)
is_decoded pool code (Ok result) bytes read = record { after = read.0; is = (decoded_sound pool code).exact.spells (beginning code.code) (result, read.0) bytes read.1 }
is_decoded pool code (Err trouble) bytes read = tt

-- a code that has trouble when it is read has it
pub has_trouble : (pool : List (Option Placed)) (code : Code) (result : Result DecodedCode Trouble) → IsBytes code.code → Gives (λ (decoded : DecodedCode). decoded) result ((decoded pool code).read (beginning code.code)) → IfErr result (HasTrouble pool code)
has_trouble pool code (Ok result) bytes read = tt
has_trouble pool code (Err Foreign) bytes read = (decoded_sound pool code).exact.breaks (beginning code.code) Foreign bytes read
has_trouble pool code (Err (At kind at)) bytes read = (decoded_sound pool code).exact.breaks (beginning code.code) (At kind at) bytes read
has_trouble pool code (Err NoMemory) bytes read = tt
