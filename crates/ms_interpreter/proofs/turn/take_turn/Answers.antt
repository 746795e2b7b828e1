use Rattle.std.proofs.Common.{◌≡◌, ℕ, IfSome, Option, Some, None, refl, sym, ap, subst, ◌∙◌}
use Rattle.std.specs.Prelude.{option_map}
use Rattle.ms_words.specs.declared.item.Item.{Item}
use Rattle.ms_machine.specs.Effects.{effect}
use Rattle.ms_machine.specs.Control.{Done}
use Rattle.ms_linking.specs.Linked.{views_of}
use Rattle.ms_linking.specs.Told.{told}
use Rattle.ms_linking.specs.declared.instruction.Instruction.{Instruction}
use Rattle.ms_interpreter.specs.Doing.{test_of}
use Rattle.ms_interpreter.specs.Seen.{here_of, texts_of}
use Rattle.ms_interpreter.specs.Turns.{IsSeen, Turns, arm_due, settled}
use Rattle.ms_interpreter.specs.declared.turn.Turn.{Turn}
use Rattle.ms_interpreter.proofs.Steps.{has_text, settled_seen, step_unseen, there, turns_by}
use Rattle.ms_interpreter.proofs.turn.take_turn.Goals as goal

pub returns-in_default-clause-turns : goal.returns-in_default-clause-turns
returns-in_default-clause-turns g c = ap (settled g.A.Arithmetic.ints) (step_unseen g.A.Arithmetic.ints (g.A.Arithmetic.means c.args.arithmetic.now) (views_of c.args.program.now) c.args.state.now (subst (λ (item : Item). IsSeen (views_of c.args.program.now) item (None)) c.at.ensures (subst (λ (o : Option Instruction). IsSeen (views_of c.args.program.now) c.at.result (option_map told o)) c.in_default.is c.in_ok-instruction.ensures)))

pub returns-in_default-due-clause-turns : goal.returns-in_default-due-clause-turns
returns-in_default-due-clause-turns g c = (settled_seen g.A.Arithmetic.ints (g.A.Arithmetic.means c.args.arithmetic.now) (views_of c.args.program.now) c.args.state.now (told c.in-Some.instruction) (subst (λ (item : Item). IsSeen (views_of c.args.program.now) item (Some (told c.in-Some.instruction))) c.at.ensures (subst (λ (o : Option Instruction). IsSeen (views_of c.args.program.now) c.at.result (option_map told o)) c.in-Some.is c.in_ok-instruction.ensures)) None (sym c.in_default-due.is ∙ c.due.ensures.now), refl)

pub execute-requires-clause-there : goal.execute-requires-clause-there
execute-requires-clause-there g c = there (views_of c.args.program.now) c.args.state.now.top.at (told c.in-Some.instruction) (subst (λ (item : Item). IsSeen (views_of c.args.program.now) item (Some (told c.in-Some.instruction))) c.at.ensures (subst (λ (o : Option Instruction). IsSeen (views_of c.args.program.now) c.at.result (option_map told o)) c.in-Some.is c.in_ok-instruction.ensures))

pub execute-requires-clause-text : goal.execute-requires-clause-text
execute-requires-clause-text g c = has_text (views_of c.args.program.now) c.args.state.now.top.at (told c.in-Some.instruction) (subst (λ (item : Item). IsSeen (views_of c.args.program.now) item (Some (told c.in-Some.instruction))) c.at.ensures (subst (λ (o : Option Instruction). IsSeen (views_of c.args.program.now) c.at.result (option_map told o)) c.in-Some.is c.in_ok-instruction.ensures))

pub returns-clause-turns : goal.returns-clause-turns
returns-clause-turns g c =
    let f = g.A.Arithmetic.means c.execute.new.arithmetic in
    let asked = test_of (effect g.A.Arithmetic.ints (told c.in-Some.instruction) (here_of f (texts_of (views_of c.args.program.now)) c.args.state.now.top c.args.state.now.memory)) in
    let due : arm_due g.A.Arithmetic.ints asked ≡ Some c.in-Some-due.arm =
    subst (λ (o : Option ℕ). IfSome o (λ arm. arm_due g.A.Arithmetic.ints asked ≡ Some arm)) c.in-Some-due.is (c.due.ensures.later f c.execute.ensures.stay) in
    subst (λ (came : Turn _). Turns g.A.Arithmetic.ints (g.A.Arithmetic.means c.execute.new.arithmetic) (views_of c.args.program.now) c.args.state.now came c.execute.new.state) (sym c.turned.ensures)
    (turns_by g.A.Arithmetic.ints (g.A.Arithmetic.means c.execute.new.arithmetic) (views_of c.args.program.now) c.args.state.now c.in_ok-finish.finish c.execute.new.state
    (settled_seen g.A.Arithmetic.ints (g.A.Arithmetic.means c.execute.new.arithmetic) (views_of c.args.program.now) c.args.state.now (told c.in-Some.instruction) (subst (λ (item : Item). IsSeen (views_of c.args.program.now) item (Some (told c.in-Some.instruction))) c.at.ensures (subst (λ (o : Option Instruction). IsSeen (views_of c.args.program.now) c.at.result (option_map told o)) c.in-Some.is c.in_ok-instruction.ensures)) (Some c.in-Some-due.arm) (sym due)
    ∙ ap (λ (done : Done _). Some done) c.in_ok-finish.ensures.executes))
