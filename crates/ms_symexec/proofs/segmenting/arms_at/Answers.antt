use Rattle.std.proofs.Common.{◌≡◌, sym, subst, ◌∙◌}
use Rattle.std.specs.Prelude.{ℕ, [], Option, Some}
use Rattle.ms_linking.specs.Linked.{views_of}
use Rattle.ms_terms.specs.declared.term.TermId.{TermId}
use Rattle.ms_machine.specs.Control.{step}
use Rattle.ms_machine.specs.Ints.{shadows}
use Rattle.ms_machine.specs.Segments.{After}
use Rattle.ms_machine.specs.Tests.{arms_of}
use Rattle.ms_terms.specs.Terms.{Term}
use Rattle.ms_interpreter.specs.Asking.{asked_of}
use Rattle.ms_interpreter.specs.Symbols.{symbol, symbols}
use Rattle.ms_interpreter.specs.Turns.{choice_of}
use Rattle.ms_interpreter.specs.declared.asked.Asked.{Asked}
use Rattle.ms_symexec.specs.Outcomes.{HasArms}
use Rattle.ms_symexec.proofs.Turning.{IsAsked, asked_at, few_arms}
use Rattle.ms_symexec.proofs.segmenting.arms_at.Goals as goal

-- the arms of the test that was found
of_found : (found : Option (Asked TermId)) (test : Asked TermId) (after : After Term) → found ≡ Some test → IsAsked found after → HasArms (arms_of (asked_of symbols (symbol []) test)) after
of_found found test after is asked =
    let same : asked.test ≡ test = (let e = sym asked.is ∙ is in cc) in
    subst (λ (t : Asked TermId). HasArms (arms_of (asked_of symbols (symbol []) t)) after) same asked.arms

pub arms_of-requires : goal.arms_of-requires
arms_of-requires c =
    let P = views_of c.args.program.now in
    let after = choice_of (step shadows P c.requires.seen) in
    few_arms _ after (of_found c.in-Ok-Some.field-0 c.in-Ok-Some.test after c.in-Ok-Some.field-0-is
    (asked_at P c.requires.nodes c.args.state.now c.requires.seen c.requires.is c.in-Ok-Some.field-0 (c.in-Ok-Some.ensures (symbol c.requires.nodes)))) c.requires.few

pub returns-in-Ok-Some : goal.returns-in-Ok-Some
returns-in-Ok-Some c = λ nodes seen at.
    let P = views_of c.args.program.now in
    let after = choice_of (step shadows P seen) in
    subst (λ (n : ℕ). HasArms n after) (sym c.arms_of.ensures) (of_found c.in-Ok-Some.field-0 c.in-Ok-Some.test after c.in-Ok-Some.field-0-is
    (asked_at P nodes c.args.state.now seen at c.in-Ok-Some.field-0 (c.in-Ok-Some.ensures (symbol nodes))))

pub returns-in-Ok-None : goal.returns-in-Ok-None
returns-in-Ok-None c = λ nodes seen at.
    let asked = asked_at (views_of c.args.program.now) nodes c.args.state.now seen at c.in-Ok-None.field-0 (c.in-Ok-None.ensures (symbol nodes)) in
    absurd (let e = sym asked.is ∙ c.in-Ok-None.field-0-is in cc)
