use Rattle.std.proofs.Common.{◌∙◌}
use Rattle.ms_verify.proofs.Joining.{all_changed, all_joined, changes, joins_next, same_next, stays}
use Rattle.ms_verify.proofs.kinds.join_into.Goals as goal
use Rattle.ms_verify.proofs.kinds.join_into.Goals.{then-join_place, else-join_place}

pub loop-i-preserved : goal.loop-i-preserved
loop-i-preserved c =
    let step = same_next c.loop-i.i _ _ _ _ c.loop-i-test.true c.requires c.loop-i.invariant.kinds in
    record {
      kinds = joins_next c.loop-i.i _ _ _ _ _ c.loop-i-test.true c.requires c.loop-i.invariant.kinds c.join_place.ensures.joined;
      changed = elim c.if-join_place.branch [
        | then-join_place w ↦ w.changed-is ∙ changes _ _ _ c.join_place.result step c.join_place.ensures.changed w.if-join_place.true
        | else-join_place w ↦ w.changed-is ∙ stays _ _ _ _ c.join_place.result step c.join_place.ensures.changed w.if-join_place.false c.loop-i.invariant.changed
      ];
    }

pub returns-clause-joined : goal.returns-clause-joined
returns-clause-joined c = all_joined _ _ _ c.loop-i.i c.loop-i-test.false c.requires c.loop-i.invariant.kinds

pub returns-clause-changed : goal.returns-clause-changed
returns-clause-changed c = all_changed _ _ c.loop-i.i _ c.loop-i-test.false c.requires c.loop-i.invariant.changed
