use Rattle.std.proofs.Common.{rules, ◌<◌, ◌+◌}
use Rattle.ms_machine.specs.Values.{Runaway}
use Rattle.ms_linking.specs.Linked.{views_of}
use Rattle.ms_interpreter.specs.Leads.{finish_of}
use Rattle.ms_jvm.specs.Segments.{going}
use Rattle.ms_jvm.proofs.Choosing.{chosen_so, cut_so, ended_so, Runs, kept_at_first, over_so}
use Rattle.ms_machine.specs.Runs.{Ended, Cut}
use Rattle.ms_jvm.proofs.choices.run_from.Goals as goal

pub choices-init : goal.choices-init
choices-init c = kept_at_first (views_of c.args.program.now) c.args.depth (going (views_of c.args.program.now) c.args.state.now)

-- the run ends with the segment
runaway : (c : goal.In-Runaway) → Runs (views_of c.args.program.now) c.args.depth (going (views_of c.args.program.now) c.args.state.now) (Ended Runaway) c.choices.arms
runaway c = over_so (views_of c.args.program.now) c.args.depth _ _ c.choices.arms c.choices.state Runaway c.choices.invariant (rw c.in-Runaway.is at c.in_ok-segment.ensures)

pub returns-in-Runaway-clause-end : goal.returns-in-Runaway-clause-end
returns-in-Runaway-clause-end c = (runaway c).0

pub returns-in-Runaway-clause-arms : goal.returns-in-Runaway-clause-arms
returns-in-Runaway-clause-arms c = (runaway c).1

over : (c : goal.In-Over) → Runs (views_of c.args.program.now) c.args.depth (going (views_of c.args.program.now) c.args.state.now) (Ended (finish_of (λ a. a) c.in-Over.finish)) c.choices.arms
over c = over_so (views_of c.args.program.now) c.args.depth _ _ c.choices.arms c.choices.state (finish_of (λ a. a) c.in-Over.finish) c.choices.invariant (rw c.in-Over.is at c.in_ok-segment.ensures)

pub returns-in-Over-clause-end : goal.returns-in-Over-clause-end
returns-in-Over-clause-end c = (over c).0

pub returns-in-Over-clause-arms : goal.returns-in-Over-clause-arms
returns-in-Over-clause-arms c = (over c).1

-- it is cut
cut : (c : goal.Then-arms-depth) → Runs (views_of c.args.program.now) c.args.depth (going (views_of c.args.program.now) c.args.state.now) Cut c.choices.arms
cut c =
    let comes = rw c.in-AtChoice.is at c.in_ok-segment.ensures in
    cut_so (views_of c.args.program.now) c.args.depth _ _ c.choices.arms c.choices.state c.segment.new.state c.choices.invariant (search rules) comes.0 comes.1

pub returns-then-arms-depth-clause-end : goal.returns-then-arms-depth-clause-end
returns-then-arms-depth-clause-end c = (cut c).0

pub returns-then-arms-depth-clause-arms : goal.returns-then-arms-depth-clause-arms
returns-then-arms-depth-clause-arms c = (cut c).1

-- it ends with the choice
chosen_last : (c : goal.In-Some) → Runs (views_of c.args.program.now) c.args.depth (going (views_of c.args.program.now) c.args.state.now) (Ended (finish_of (λ a. a) c.in-Some.finish)) (c.choices.arms + 1)
chosen_last c =
    let P = views_of c.args.program.now in
    let comes = rw c.in-AtChoice.is at c.in_ok-segment.ensures in
    let more : c.choices.arms < c.args.depth = search rules in
    let chose = chosen_so P c.args.depth _ _ c.choices.arms c.choices.state c.segment.new.state c.in_ok-finish-in-AtChoice.field-0 c.choose_arm.new.state c.choices.invariant more comes.0 comes.1 c.in_ok-finish-in-AtChoice.ensures in
    ended_so P c.args.depth _ _ (c.choices.arms + 1) (finish_of (λ a. a) c.in-Some.finish) (rw c.in-Some.is at chose)

pub returns-in-Some-clause-end : goal.returns-in-Some-clause-end
returns-in-Some-clause-end c = (chosen_last c).0

pub returns-in-Some-clause-arms : goal.returns-in-Some-clause-arms
returns-in-Some-clause-arms c = (chosen_last c).1

-- it goes on
pub choices-preserved : goal.choices-preserved
choices-preserved c =
    let P = views_of c.args.program.now in
    let comes = rw c.in-AtChoice.is at c.in_ok-segment.ensures in
    let more : c.choices.arms < c.args.depth = search rules in
    let chose = chosen_so P c.args.depth _ _ c.choices.arms c.choices.state c.segment.new.state c.in_ok-finish-in-AtChoice.field-0 c.choose_arm.new.state c.choices.invariant more comes.0 comes.1 c.in_ok-finish-in-AtChoice.ensures in
    rw c.in_default.is at chose
