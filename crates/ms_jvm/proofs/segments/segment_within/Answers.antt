use Rattle.std.proofs.Common.{rules, ◌<◌}
use Rattle.ms_linking.specs.Linked.{views_of}
use Rattle.ms_interpreter.specs.Leads.{finish_of}
use Rattle.ms_jvm.specs.Segments.{after_within}
use Rattle.ms_jvm.proofs.Segmented.{goes_on, stands_there, ends_so}
use Rattle.ms_jvm.proofs.segments.segment_within.Goals as goal

pub loop-left-preserved : goal.loop-left-preserved
loop-left-preserved c =
    let more : 0 < c.loop-left.left = search rules in
    goes_on (views_of c.args.program.now) c.loop-left.left (after_within (views_of c.args.program.now) c.args.most c.args.state.now) c.loop-left.state c.take_turn.new.state more c.loop-left.invariant (rw c.in-Goes.is at c.in_ok-turn.ensures.turns)

pub returns-in-Stands : goal.returns-in-Stands
returns-in-Stands c =
    let more : 0 < c.loop-left.left = search rules in
    stands_there (views_of c.args.program.now) c.loop-left.left (after_within (views_of c.args.program.now) c.args.most c.args.state.now) c.loop-left.state c.take_turn.new.state more c.loop-left.invariant (rw c.in-Stands.is at c.in_ok-turn.ensures.turns)

pub returns-in-Ends : goal.returns-in-Ends
returns-in-Ends c =
    let more : 0 < c.loop-left.left = search rules in
    ends_so (views_of c.args.program.now) c.loop-left.left (after_within (views_of c.args.program.now) c.args.most c.args.state.now) c.loop-left.state (finish_of (λ a. a) c.in-Ends.finish) more c.loop-left.invariant (rw c.in-Ends.is at c.in_ok-turn.ensures.turns)
