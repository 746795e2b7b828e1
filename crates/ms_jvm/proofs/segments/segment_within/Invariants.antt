use Rattle.std.proofs.Common.{◌≡◌}
use Rattle.ms_linking.specs.Linked.{views_of}
use Rattle.ms_jvm.specs.Segments.{after_within}
use Rattle.ms_jvm.proofs.segments.segment_within.Given as goal

abbrev pub invariant-loop-left : goal.invariant-loop-left
invariant-loop-left l = after_within (views_of l.program) l.most l.fn.state ≡ after_within (views_of l.program) l.left l.state

abbrev pub decreases-loop-left : goal.decreases-loop-left
decreases-loop-left l = l.left
