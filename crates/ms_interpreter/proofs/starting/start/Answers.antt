use Rattle.std.proofs.lemmas.Result.{IfOk-weaker}
use Rattle.ms_interpreter.proofs.Started.{starts_absent, starts_above}
use Rattle.ms_interpreter.proofs.starting.start.Goals as goal

pub returns-in-Absent : goal.returns-in-Absent
returns-in-Absent g c = λ f texts parameters are.
    starts_absent f texts c.args.program.now c.args.entry c.in_ok-state.state c.args.locals.items parameters c.requires.entry
    (record { top = c.in_ok-state.ensures.top; below = c.in_ok-state.ensures.below; memory = c.in_ok-state.ensures.memory }) c.in-Absent.ensures are

pub returns-in-Present : goal.returns-in-Present
returns-in-Present g c = IfOk-weaker c.begin_above.result _ _ (λ began goes f texts parameters are.
    starts_above f texts c.args.program.now c.args.entry c.in_ok-state.state c.args.locals.items parameters c.initialiser_item-item.result began c.requires.entry
    (record { top = c.in_ok-state.ensures.top; below = c.in_ok-state.ensures.below; memory = c.in_ok-state.ensures.memory }) c.in-Present.ensures c.initialiser_item-item.ensures (goes f texts) are) c.begin_above.ensures
