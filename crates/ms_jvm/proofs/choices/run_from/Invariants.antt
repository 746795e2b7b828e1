use Rattle.std.proofs.Common.{◌-◌}
use Rattle.ms_linking.specs.Linked.{views_of}
use Rattle.ms_jvm.specs.Segments.{going}
use Rattle.ms_jvm.proofs.Choosing.{Kept, run_arms, run_end}
use Rattle.ms_jvm.proofs.choices.run_from.Given as goal

-- the run goes on from here with the arms that are left
abbrev pub invariant-choices : goal.invariant-choices
invariant-choices l =
    Kept (views_of l.program) l.depth (run_end (views_of l.program) l.depth (going (views_of l.program) l.fn.state)) (run_arms (views_of l.program) l.depth (going (views_of l.program) l.fn.state)) l.arms (going (views_of l.program) l.state)

abbrev pub decreases-choices : goal.decreases-choices
decreases-choices l = l.depth - l.arms
