-- The instructions of a code stand end to end: where one ends another starts, or the code ends.
use Rattle.std.proofs.Common.{◌≡◌, ◌⊎◌, ℕ, zero, suc, ◌+◌, ◌-◌, ◌<◌, ◌≤◌, List, [], ◌∷◌, ◌++◌, length, replicate, Option, Some, None, Ok, refl, sym, ap, subst, ◌∙◌, arith, inl, inr, append_assoc, append-nil}
use Rattle.std.specs.Prelude.{slice_get}
use Rattle.std.proofs.lemmas.List.{length-append, length-replicate}
use Rattle.ms_pool.specs.Pools.{Placed}
use Rattle.ms_pool.specs.Places.{Place, beginning}
use Rattle.ms_code.specs.declared.decoded.Step.{Step}
use Rattle.ms_code.specs.declared.instruction.Instr.{Instr}
use Rattle.ms_code.specs.Codes.{Steps, steps, steps_of}
use Rattle.ms_code.specs.Instructions.{instruction}
use Rattle.ms_code.specs.Laws.{AreEndToEnd, laid}
use Rattle.ms_code.proofs.Exact.{all_along}

-- the steps before an offset are those of instructions end to end
pub record IsLaid (known : Steps) (offset : ℕ) : Type 0 where
  pub steps : List Step
  pub are : known ≡ laid 0 steps
  pub ends : AreEndToEnd 0 steps offset

laid_more : (from : ℕ) (before : List Step) (offset : ℕ) (step : Step) → AreEndToEnd from before offset → laid from (before ++ step ∷ []) ≡ laid from before ++ steps_of offset step
laid_more from [] offset step ends = append-nil (steps_of from step) ∙ ap (λ (n : ℕ). steps_of n step) ends
laid_more from (first ∷ before) offset step ends = ap (λ (l : Steps). steps_of from first ++ l) (laid_more first.next before offset step ends.1) ∙ sym (append_assoc (steps_of from first) (laid first.next before) (steps_of offset step))

ends_more : (from : ℕ) (before : List Step) (offset : ℕ) (step : Step) → AreEndToEnd from before offset → offset < step.next → AreEndToEnd from (before ++ step ∷ []) step.next
ends_more from [] offset step ends further = (subst (λ (n : ℕ). n < step.next) (sym ends) further, refl)
ends_more from (first ∷ before) offset step ends further = (ends.0, ends_more first.next before offset step ends.1 further)

pub are_laid : (pool : List (Option Placed)) (code_at : ℕ) (bytes : List ℕ) (found : Steps) (after : Place) → (steps pool (length bytes) code_at).read (beginning bytes) ≡ Ok (found, after) → IsLaid found (length bytes)
are_laid pool code_at bytes found after is = all_along IsLaid pool code_at bytes found after (record { kept = kept }) (record { steps = []; are = refl; ends = refl }) is
  where
    kept : (before : Steps) (place after : Place) (instr : Instr) → (instruction pool (code_at + place.at) place.at).read place ≡ Ok (instr, after) → place.at < after.at → IsLaid before place.at → IsLaid (before ++ steps_of place.at (record { instr = instr; next = after.at })) after.at
    kept before place after instr is_instr further so_far =
        let step : Step = record { instr = instr; next = after.at } in
        record {
          steps = so_far.steps ++ step ∷ [];
          are = ap (λ (l : Steps). l ++ steps_of place.at step) so_far.are ∙ sym (laid_more 0 so_far.steps place.at step so_far.ends);
          ends = ends_more 0 so_far.steps place.at step so_far.ends further;
        }

-- WHAT STANDS AT AN OFFSET

get_after : {X : Type 0} (xs ys : List X) (k : ℕ) → slice_get (xs ++ ys) (length xs + k) ≡ slice_get ys k
get_after [] ys k = ap (slice_get ys) (omega arith)
get_after (x ∷ xs) ys k =
    let next : suc (length xs) + k ≡ suc (length xs + k) = omega arith in
    ap (slice_get (x ∷ (xs ++ ys))) next ∙ get_after xs ys k

get_either : {X : Type 0} (xs ys : List X) (k : ℕ) (x : X) → slice_get (xs ++ ys) k ≡ Some x → (slice_get xs k ≡ Some x) ⊎ ((j : ℕ) × (slice_get ys j ≡ Some x))
get_either [] ys k x is = inr (k, is)
get_either (first ∷ xs) ys zero x is = inl is
get_either (first ∷ xs) ys (suc k) x is = get_either xs ys k x is

none_of : (n k : ℕ) (step : Step) → slice_get (replicate n None) k ≡ Some (Some step) → ⊥
none_of zero k step is = absurd (let e = is in cc)
none_of (suc n) zero step is = absurd (let e = is in cc)
none_of (suc n) (suc k) step is = none_of n k step is

first_of : (first : Step) (n k : ℕ) (step : Step) → slice_get (Some first ∷ replicate n None) k ≡ Some (Some step) → first ≡ step
first_of first n zero step is = let e = is in cc
first_of first n (suc k) step is = absurd (none_of n k step is)

-- it holds of each instruction that stands in these steps, and each ends before this offset or there
abbrev Each : (Step → Type 0) → Steps → ℕ → Type 0
Each P known at = (offset : ℕ) (step : Step) → slice_get known offset ≡ Some (Some step) → P step × (step.next ≤ at)

-- what holds of each instruction that is read holds of each that stands in a code, and none ends behind the code's end
pub each_along : (P : Step → Type 0) (pool : List (Option Placed)) (code_at : ℕ) (bytes : List ℕ) (found : Steps) (after : Place) → ((place after : Place) (instr : Instr) → (instruction pool (code_at + place.at) place.at).read place ≡ Ok (instr, after) → P (record { instr = instr; next = after.at }))
    → (steps pool (length bytes) code_at).read (beginning bytes) ≡ Ok (found, after) → Each P found (length bytes)
each_along P pool code_at bytes found after each is = all_along (Each P) pool code_at bytes found after (record { kept = kept }) (λ offset step there. absurd (let e = there in cc)) is
  where
    kept : (before : Steps) (place after : Place) (instr : Instr) → (instruction pool (code_at + place.at) place.at).read place ≡ Ok (instr, after) → place.at < after.at → Each P before place.at → Each P (before ++ steps_of place.at (record { instr = instr; next = after.at })) after.at
    kept before place after instr is_instr further so_far offset step there = by_part (get_either before (steps_of place.at (record { instr = instr; next = after.at })) offset (Some step) there)
      where
        by_part : (slice_get before offset ≡ Some (Some step)) ⊎ ((j : ℕ) × (slice_get (steps_of place.at (record { instr = instr; next = after.at })) j ≡ Some (Some step))) → P step × (step.next ≤ after.at)
        by_part (inl earlier) =
            let known = so_far offset step earlier in
            (known.0, omega (arith, known.1, further))
        by_part (inr last) = subst (λ (s : Step). P s × (s.next ≤ after.at)) (first_of (record { instr = instr; next = after.at }) (after.at - place.at - 1) last.0 step last.1) (each place after instr is_instr, omega arith)

-- no step is there
abbrev no_step : Option Step
no_step = None

length_of_steps : (offset : ℕ) (step : Step) → offset < step.next → length (steps_of offset step) ≡ step.next - offset
length_of_steps offset step further = omega (arith, length-replicate (step.next - offset - 1) no_step, further)

-- behind an instruction the code ends or another one starts
pub record IsFollowed (from : ℕ) (all : Steps) (size : ℕ) (step : Step) : Type 0 where
  pub above : from < step.next
  pub by : (step.next ≡ size) ⊎ ((other : Step) × (slice_get all (step.next - from) ≡ Some (Some other)))

pub followed : (from : ℕ) (placed : List Step) (size k : ℕ) (step : Step) → AreEndToEnd from placed size → slice_get (laid from placed) k ≡ Some (Some step) → IsFollowed from (laid from placed) size step
followed from [] size k step ends is = absurd (let e = is in cc)
followed from (first ∷ placed) size k step ends is = by_part (λ j found. followed first.next placed size j step ends.1 found) (get_either (steps_of from first) (laid first.next placed) k (Some step) is)
  where
    by_rest : (others : List Step) → AreEndToEnd first.next others size → (first.next ≡ size) ⊎ ((other : Step) × (slice_get (steps_of from first ++ laid first.next others) (first.next - from) ≡ Some (Some other)))
    by_rest [] e = inl e
    by_rest (second ∷ others) e =
        let here : first.next - from ≡ length (steps_of from first) + 0 = omega (arith, length_of_steps from first ends.0) in
        inr (second, ap (slice_get (steps_of from first ++ laid first.next (second ∷ others))) here ∙ get_after (steps_of from first) (laid first.next (second ∷ others)) 0)

    shifted : (s : Step) → first.next < s.next → (other : Step) → slice_get (laid first.next placed) (s.next - first.next) ≡ Some (Some other) → slice_get (steps_of from first ++ laid first.next placed) (s.next - from) ≡ Some (Some other)
    shifted s above other there =
        let here : s.next - from ≡ length (steps_of from first) + (s.next - first.next) = omega (arith, length_of_steps from first ends.0, ends.0, above) in
        ap (slice_get (steps_of from first ++ laid first.next placed)) here ∙ get_after (steps_of from first) (laid first.next placed) (s.next - first.next) ∙ there

    by_end : (s : Step) → first.next < s.next → (s.next ≡ size) ⊎ ((other : Step) × (slice_get (laid first.next placed) (s.next - first.next) ≡ Some (Some other)))
        → (s.next ≡ size) ⊎ ((other : Step) × (slice_get (steps_of from first ++ laid first.next placed) (s.next - from) ≡ Some (Some other)))
    by_end s above (inl all) = inl all
    by_end s above (inr there) = inr (there.0, shifted s above there.0 there.1)

    by_part : ((j : ℕ) → slice_get (laid first.next placed) j ≡ Some (Some step) → IsFollowed first.next (laid first.next placed) size step)
        → (slice_get (steps_of from first) k ≡ Some (Some step)) ⊎ ((j : ℕ) × (slice_get (laid first.next placed) j ≡ Some (Some step))) → IsFollowed from (steps_of from first ++ laid first.next placed) size step
    by_part others (inl here) =
        subst (λ (s : Step). IsFollowed from (steps_of from first ++ laid first.next placed) size s) (first_of first (first.next - from - 1) k step here)
        (record { above = ends.0; by = by_rest placed ends.1 })
    by_part others (inr there) =
        let rest = others there.0 there.1 in
        record { above = omega (arith, ends.0, rest.above); by = by_end step rest.above rest.by }

pub length_laid : (from : ℕ) (placed : List Step) (size : ℕ) → AreEndToEnd from placed size → length (laid from placed) + from ≡ size
length_laid from [] size ends = omega (arith, ends)
length_laid from (first ∷ placed) size ends = omega (arith, length-append (steps_of from first) (laid first.next placed), length_of_steps from first ends.0, length_laid first.next placed size ends.1, ends.0)

pub first_laid : (placed : List Step) (size : ℕ) → AreEndToEnd 0 placed size → 0 < size → (step : Step) × (slice_get (laid 0 placed) 0 ≡ Some (Some step))
first_laid [] size ends some = absurd (omega (arith, ends, some))
first_laid (first ∷ placed) size ends some = (first, refl)
