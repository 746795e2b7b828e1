use Rattle.std.proofs.Common.{option_map}
use Rattle.ms_linking.specs.Linked.{views_of}
use Rattle.ms_machine.specs.Values.{Stuck}
use Rattle.ms_machine.specs.Control as control
use Rattle.ms_machine.specs.Control.{Ends, goes_on, onto}
use Rattle.ms_interpreter.specs.Leads.{below_of, done_of}
use Rattle.ms_interpreter.specs.Seen.{frame_of, memory_of, value_of, values_of}
use Rattle.ms_interpreter.proofs.Views.{resumes, unseen}
use Rattle.ms_interpreter.proofs.leading.resume.Goals as goal

pub returns-then-not-branch : goal.returns-then-not-branch
returns-then-not-branch g c = λ f texts.
    let state = c.args.state.now in
    let caller : control.Frame _ = record (frame_of f texts state.top) { stack = onto (option_map (value_of f texts) c.args.slot) (values_of f texts state.top.stack) } in
    unseen (views_of c.args.program.now) c.at-at.result state.top.at c.in_ok-is_seen.field-0 (Ends Stuck) (λ view. goes_on view.next caller (below_of f texts state) (memory_of f texts state.memory))
    c.at-at.ensures c.in_ok-is_seen.ensures c.if-not-branch.true

pub returns : goal.returns
returns g c = λ f texts.
    let state = c.args.state.now in
    let caller : control.Frame _ = record (frame_of f texts state.top) { stack = onto (option_map (value_of f texts) c.args.slot) (values_of f texts state.top.stack) } in
    resumes f texts (views_of c.args.program.now) state c.at-at.result c.next_of.result caller c.put.new.frame (done_of f texts c.go_on.result c.go_on.new.state)
    c.at-at.ensures c.next_of.ensures (c.in_ok-put.ensures f texts) (c.go_on.ensures f texts)
