use Rattle.std.proofs.Common.{length}
use Rattle.ms_classfile.specs.Found.{view}
use Rattle.ms_jvm.proofs.Following.{Follows}
use Rattle.ms_jvm.proofs.path.path_of.Given as goal

abbrev pub invariant-loop-choices : goal.invariant-loop-choices
invariant-loop-choices l = Follows (view l.method) l.x l.depth l.rest l.stack l.choices

abbrev pub decreases-loop-choices : goal.decreases-loop-choices
decreases-loop-choices l = length l.rest
