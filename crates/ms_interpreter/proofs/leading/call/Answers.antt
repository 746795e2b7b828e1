use Rattle.std.proofs.Common.{◌≡◌, Some, None, List, Option, map, reverse, take, drop, sym, ap, ◌∙◌}
use Rattle.std.proofs.lemmas.Result.{IfOk-weaker}
use Rattle.ms_linking.specs.Linked.{views_of}
use Rattle.ms_machine.specs.Values.{Value}
use Rattle.ms_machine.specs.Control as control
use Rattle.ms_machine.specs.Control.{enters}
use Rattle.ms_interpreter.specs.Leads.{below_of}
use Rattle.ms_interpreter.specs.Seen.{frame_of, locals_of, memory_of, values_of}
use Rattle.ms_interpreter.proofs.Views.{arguments_seen, enters_seen_at, rest_seen}
use Rattle.ms_interpreter.proofs.leading.call.Goals as goal

pub returns-in_default : goal.returns-in_default
returns-in_default g c = λ f texts.
    let state = c.args.state.now in
    let arguments = map (λ v. Some v) (reverse (take c.args.count (values_of f texts state.top.stack))) in
    let caller : control.Frame _ = record (frame_of f texts state.top) { stack = drop c.args.count (values_of f texts state.top.stack) } in
    enters_seen_at f texts (views_of c.args.program.now) state c.at.result (λ view. view.callee) None arguments None caller c.at.ensures c.in_default.ensures

pub returns : goal.returns
returns g c = IfOk-weaker c.enter.result _ _ (λ finish goes f texts.
    let state = c.args.state.now in
    let arguments = map (λ v. Some v) (reverse (take c.args.count (values_of f texts state.top.stack))) in
    let caller : control.Frame _ = record (frame_of f texts state.top) { stack = drop c.args.count (values_of f texts state.top.stack) } in
    let passed : arguments ≡ locals_of f texts c.in_ok-locals.locals.items =
    arguments_seen f texts state.top.stack c.args.count ∙ ap (locals_of f texts) (sym c.in_ok-locals.ensures.locals) in
    let left : caller ≡ frame_of f texts c.take_arguments.new.self =
    ap (λ (stack : List (Value _)). record (frame_of f texts state.top) { stack = stack }) (rest_seen f texts state.top.stack c.args.count) ∙ ap (frame_of f texts) (sym c.in_ok-locals.ensures.left) in
    enters_seen_at f texts (views_of c.args.program.now) state c.at.result (λ view. view.callee) (Some c.in-Some.item) arguments None caller c.at.ensures c.in-Some.ensures
    ∙ ap (λ (locals : List (Option (Value _))). enters (Some c.in-Some.item) locals None caller (below_of f texts state) (memory_of f texts state.memory)) passed
    ∙ ap (λ (frame : control.Frame _). enters (Some c.in-Some.item) (locals_of f texts c.in_ok-locals.locals.items) None frame (below_of f texts state) (memory_of f texts state.memory)) left
    ∙ goes f texts) c.enter.ensures
