use Rattle.std.proofs.Common.{Option, Some, None, sym, ap, subst, ◌∙◌}
use Rattle.std.specs.Prelude.{option_map}
use Rattle.ms_words.specs.declared.item.Item.{Item}
use Rattle.ms_linking.specs.Linked.{views_of}
use Rattle.ms_linking.specs.Told.{told}
use Rattle.ms_linking.specs.declared.instruction.Instruction.{Instruction}
use Rattle.ms_interpreter.specs.Seen.{texts_of}
use Rattle.ms_interpreter.specs.Turns.{IsSeen, test_in}
use Rattle.ms_interpreter.proofs.Steps.{asked_seen, step_unseen, test_seen}
use Rattle.ms_interpreter.proofs.turn.test_asked.Goals as goal

pub returns-in_default : goal.returns-in_default
returns-in_default g c = λ f. sym (ap test_in (step_unseen g.A.Arithmetic.ints f (views_of c.args.program.now) c.args.state.now (subst (λ (item : Item). IsSeen (views_of c.args.program.now) item (None)) c.at.ensures (subst (λ (o : Option Instruction). IsSeen (views_of c.args.program.now) c.at.result (option_map told o)) c.in_default.is c.in_ok-instruction.ensures))))

pub returns : goal.returns
returns g c = λ f.
    sym (test_seen g.A.Arithmetic.ints f (views_of c.args.program.now) c.args.state.now (told c.in-Some.instruction) (subst (λ (item : Item). IsSeen (views_of c.args.program.now) item (Some (told c.in-Some.instruction))) c.at.ensures (subst (λ (o : Option Instruction). IsSeen (views_of c.args.program.now) c.at.result (option_map told o)) c.in-Some.is c.in_ok-instruction.ensures))
    ∙ asked_seen g.A.Arithmetic.ints f (texts_of (views_of c.args.program.now)) (told c.in-Some.instruction) c.args.state.now.top c.args.state.now.memory c.ask-test.result c.ask-test.ensures)
