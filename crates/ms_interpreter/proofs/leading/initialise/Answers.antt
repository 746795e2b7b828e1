use Rattle.std.proofs.Common.{Some, None, List, [], Option, sym, ap, ◌∙◌}
use Rattle.std.proofs.lemmas.Result.{IfOk-weaker}
use Rattle.ms_linking.specs.Linked.{views_of}
use Rattle.ms_machine.specs.Control.{enters}
use Rattle.ms_interpreter.specs.declared.slot.Slot.{Slot}
use Rattle.ms_interpreter.specs.Leads.{below_of}
use Rattle.ms_interpreter.specs.Seen.{frame_of, locals_of, memory_of}
use Rattle.ms_interpreter.proofs.Views.{enters_seen_at}
use Rattle.ms_interpreter.proofs.leading.initialise.Goals as goal

pub returns-in_default : goal.returns-in_default
returns-in_default g c = λ f texts.
    let state = c.args.state.now in
    enters_seen_at f texts (views_of c.args.program.now) state c.at.result (λ view. view.initialiser_first) None [] (Some c.args.class) (frame_of f texts state.top) c.at.ensures c.in_default.ensures

pub returns : goal.returns
returns g c = IfOk-weaker c.enter.result _ _ (λ finish goes f texts.
    let state = c.args.state.now in
    enters_seen_at f texts (views_of c.args.program.now) state c.at.result (λ view. view.initialiser_first) (Some c.in-Some.item) [] (Some c.args.class) (frame_of f texts state.top) c.at.ensures c.in-Some.ensures
    ∙ ap (λ (locals : List (Option (Slot _))). enters (Some c.in-Some.item) (locals_of f texts locals) (Some c.args.class) (frame_of f texts state.top) (below_of f texts state) (memory_of f texts state.memory)) (sym c.new.ensures.items)
    ∙ goes f texts) c.enter.ensures
