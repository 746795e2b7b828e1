use Rattle.std.proofs.Common.{◌∙◌}
use Rattle.ms_verify.proofs.Starting.{parameter_pushed, unset_pushed}
use Rattle.ms_verify.proofs.turns.first_locals.Goals as goal
use Rattle.ms_verify.proofs.turns.first_locals.Goals.{in-Some, in-None}

pub loop-i-preserved : goal.loop-i-preserved
loop-i-preserved c = elim c.match-get.branch [
  | in-Some w ↦ parameter_pushed c.loop-i.i c.args.parameters.now c.loop-i.locals.items _ c.match-get.kind w.in-Some.parameter.now w.in-Some.ensures.lookup.3.0 w.in-Some.ensures.lookup.1 (w.kind-is ∙ w.kind_of-kind.ensures)
      c.loop-i.invariant c.in_ok-push.ensures.items
  | in-None w ↦ unset_pushed c.loop-i.i c.args.parameters.now c.loop-i.locals.items _ c.match-get.kind w.in-None.ensures.lookup.3 w.kind-is c.loop-i.invariant c.in_ok-push.ensures.items
]
