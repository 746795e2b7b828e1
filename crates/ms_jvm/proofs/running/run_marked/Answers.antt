use Rattle.std.proofs.Common.{length, ap}
use Rattle.ms_machine.specs.Control.{Ends}
use Rattle.ms_machine.specs.Ints.{marks}
use Rattle.ms_machine.specs.Laws.{mark_arm}
use Rattle.ms_linking.specs.Linked.{views_of}
use Rattle.ms_interpreter.specs.Leads.{finish_of}
use Rattle.ms_jvm.specs.Segments.{ends_with, going}
use Rattle.ms_jvm.proofs.Choosing.{ended_arms, ended_end, run_arms, run_end}
use Rattle.ms_jvm.proofs.Marking.{run_marked}
use Rattle.ms_jvm.proofs.running.run_marked.Goals as goal

pub returns-in_ok-run-in-In-clause-end : goal.returns-in_ok-run-in-In-clause-end
returns-in_ok-run-in-In-clause-end c =
    let P = c.args.program.now in
    run_marked P c.args.entry c.args.x.now (λ views done. run_end views c.args.depth done) (going (views_of P) c.in-In.state) (ends_with c.in_ok-run-in-In.run'.last) (rw c.in-In.is at c.in_ok-state.ensures.start) c.in_ok-run-in-In.ensures.end

pub returns-in_ok-run-in-In-clause-arms : goal.returns-in_ok-run-in-In-clause-arms
returns-in_ok-run-in-In-clause-arms c =
    let P = c.args.program.now in
    run_marked P c.args.entry c.args.x.now (λ views done. run_arms views c.args.depth done) (going (views_of P) c.in-In.state) c.in_ok-run-in-In.run'.arms (rw c.in-In.is at c.in_ok-state.ensures.start) c.in_ok-run-in-In.ensures.arms

pub returns-in-Over-clause-end : goal.returns-in-Over-clause-end
returns-in-Over-clause-end c =
    let P = c.args.program.now in
    let end = finish_of (λ a. a) c.in-Over.finish in
    run_marked P c.args.entry c.args.x.now (λ views done. run_end views c.args.depth done) (Ends end) _ (rw c.in-Over.is at c.in_ok-state.ensures.start) (ended_end marks (views_of P) mark_arm c.args.depth end)

pub returns-in-Over-clause-arms : goal.returns-in-Over-clause-arms
returns-in-Over-clause-arms c =
    let P = c.args.program.now in
    let end = finish_of (λ a. a) c.in-Over.finish in
    run_marked P c.args.entry c.args.x.now (λ views done. run_arms views c.args.depth done) (Ends end) _ (rw c.in-Over.is at c.in_ok-state.ensures.start) (ap length (ended_arms marks (views_of P) mark_arm c.args.depth end))
