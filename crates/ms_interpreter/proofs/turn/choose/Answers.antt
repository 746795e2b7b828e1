use Rattle.std.proofs.Common.{Option, Some, None, ap, subst, ◌∙◌}
use Rattle.std.specs.Prelude.{option_map}
use Rattle.ms_words.specs.declared.item.Item.{Item}
use Rattle.ms_linking.specs.Linked.{views_of}
use Rattle.ms_linking.specs.Told.{told}
use Rattle.ms_linking.specs.declared.instruction.Instruction.{Instruction}
use Rattle.ms_interpreter.specs.Turns.{IsSeen, with_arm}
use Rattle.ms_interpreter.proofs.Steps.{has_text, step_unseen, there, with_arm_seen}
use Rattle.ms_interpreter.proofs.turn.choose.Goals as goal

pub returns-in_default-clause-chooses : goal.returns-in_default-clause-chooses
returns-in_default-clause-chooses g c = ap (with_arm c.args.arm) (step_unseen g.A.Arithmetic.ints (g.A.Arithmetic.means c.args.arithmetic.now) (views_of c.args.program.now) c.args.state.now (subst (λ (item : Item). IsSeen (views_of c.args.program.now) item (None)) c.at.ensures (subst (λ (o : Option Instruction). IsSeen (views_of c.args.program.now) c.at.result (option_map told o)) c.in_default.is c.in_ok-instruction.ensures)))

pub execute-requires-clause-there : goal.execute-requires-clause-there
execute-requires-clause-there g c = there (views_of c.args.program.now) c.args.state.now.top.at (told c.in-Some.instruction) (subst (λ (item : Item). IsSeen (views_of c.args.program.now) item (Some (told c.in-Some.instruction))) c.at.ensures (subst (λ (o : Option Instruction). IsSeen (views_of c.args.program.now) c.at.result (option_map told o)) c.in-Some.is c.in_ok-instruction.ensures))

pub execute-requires-clause-text : goal.execute-requires-clause-text
execute-requires-clause-text g c = has_text (views_of c.args.program.now) c.args.state.now.top.at (told c.in-Some.instruction) (subst (λ (item : Item). IsSeen (views_of c.args.program.now) item (Some (told c.in-Some.instruction))) c.at.ensures (subst (λ (o : Option Instruction). IsSeen (views_of c.args.program.now) c.at.result (option_map told o)) c.in-Some.is c.in_ok-instruction.ensures))

pub returns-clause-chooses : goal.returns-clause-chooses
returns-clause-chooses g c = with_arm_seen g.A.Arithmetic.ints (g.A.Arithmetic.means c.execute.new.arithmetic) (views_of c.args.program.now) c.args.state.now (told c.in-Some.instruction) (subst (λ (item : Item). IsSeen (views_of c.args.program.now) item (Some (told c.in-Some.instruction))) c.at.ensures (subst (λ (o : Option Instruction). IsSeen (views_of c.args.program.now) c.at.result (option_map told o)) c.in-Some.is c.in_ok-instruction.ensures)) c.args.arm ∙ c.in_ok-finish.ensures.executes
