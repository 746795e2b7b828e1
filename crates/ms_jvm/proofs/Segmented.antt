-- What a turn makes of the segment that it is in.
use Rattle.std.proofs.Common.{◌≡◌, ℕ, zero, suc, ◌-◌, ◌<◌, Some, None, sym, ap, ◌∙◌, arith}
use Rattle.ms_machine.specs.Ints.{Marked, marks}
use Rattle.ms_machine.specs.Values.{End}
use Rattle.ms_machine.specs.Control.{Ends, State, Views, step}
use Rattle.ms_machine.specs.Segments.{After, Over, Segment}
use Rattle.ms_interpreter.specs.declared.state.State as interpreter
use Rattle.ms_interpreter.specs.declared.turn.Turn.TheVariants as turn
use Rattle.ms_interpreter.specs.Leads.{state_of}
use Rattle.ms_interpreter.specs.Seen.{texts_of}
use Rattle.ms_interpreter.specs.Turns.{Turns, choice_of, settled, step_in}
use Rattle.ms_interpreter.proofs.Segmented.{goes, stands}
use Rattle.ms_jvm.specs.Segments.{after_within, going}

-- with what is kept of the turns before
pub goes_on : (P : Views) (left : ℕ) (before : After Marked) (state : interpreter.State Marked) (state' : interpreter.State Marked) → 0 < left → before ≡ after_within P left state → Turns marks (λ a. a) P state turn.Goes state' → before ≡ after_within P (left - 1) state'
goes_on P zero before state state' more is e = absurd (omega (arith, more))
goes_on P (suc n) before state state' more is e =
    let same : suc n - 1 ≡ n = omega arith in
    rw same (is ∙ ap (λ (s : Segment Marked). s.after) (goes marks P n (state_of (λ a. a) (texts_of P) state) (going P state') e))

pub stands_so : (P : Views) (left : ℕ) (before : After Marked) (state : interpreter.State Marked) → 0 < left → before ≡ after_within P left state → settled marks (step_in marks (λ a. a) P state) ≡ None → before ≡ choice_of (step_in marks (λ a. a) P state)
stands_so P zero before state more is e = absurd (omega (arith, more))
stands_so P (suc n) before state more is e = is ∙ ap (λ (s : Segment Marked). s.after) (stands marks P n (state_of (λ a. a) (texts_of P) state) e)

pub ends_so : (P : Views) (left : ℕ) (before : After Marked) (state : interpreter.State Marked) (end : End Marked) → 0 < left → before ≡ after_within P left state → settled marks (step_in marks (λ a. a) P state) ≡ Some (Ends end) → before ≡ Over end
ends_so P zero before state end more is e = absurd (omega (arith, more))
ends_so P (suc n) before state end more is e = is ∙ ap (λ (s : Segment Marked). s.after) (goes marks P n (state_of (λ a. a) (texts_of P) state) (Ends end) e)

pub stands_there : (P : Views) (left : ℕ) (before : After Marked) (state : interpreter.State Marked) (state' : interpreter.State Marked) → 0 < left → before ≡ after_within P left state → Turns marks (λ a. a) P state turn.Stands state'
    → (settled marks (step_in marks (λ a. a) P state') ≡ None) × (before ≡ choice_of (step_in marks (λ a. a) P state'))
stands_there P left before state state' more is e =
    (ap (λ (s : State Marked). settled marks (step marks P s)) e.1 ∙ e.0, stands_so P left before state more is e.0 ∙ sym (ap (λ (s : State Marked). choice_of (step marks P s)) e.1))
