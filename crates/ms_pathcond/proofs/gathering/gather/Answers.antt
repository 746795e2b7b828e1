use Rattle.std.proofs.Common.{◌≡◌, ◌+◌, Some, slice_get, get_or, sym, subst, ◌∙◌, arith}
use Rattle.std.proofs.lemmas.Option.{slice_get-get_or}
use Rattle.ms_pathcond.proofs.Rounds.{Gathered, left, taken}
use Rattle.ms_pathcond.proofs.gathering.gather.Goals as goal
use Rattle.ms_pathcond.proofs.gathering.gather.Goals.{else-meets, then-meets}

there : (c : goal.Joined-meets) → slice_get c.args.supports.now c.loop-place.place ≡ Some (get_or c.args.supports.now c.loop-place.place 0)
there c = slice_get-get_or c.args.supports.now c.loop-place.place 0 (omega (arith, c.loop-place-test.true, c.loop-place.auto.place-end))

pub loop-place-preserved : goal.loop-place-preserved
loop-place-preserved c = elim c.if-meets.branch [
  | then-meets w ↦ subst (Gathered c.args.supports.now c.args.first c.args.gathered (c.loop-place.place + 1)) (sym w.all-is) (taken _ _ _ _ _ _ (there c) c.loop-place.invariant (sym c.meets.ensures ∙ w.if-meets.true))
  | else-meets w ↦ subst (Gathered c.args.supports.now c.args.first c.args.gathered (c.loop-place.place + 1)) (sym w.all-is) (left _ _ _ _ _ _ (there c) c.loop-place.invariant (sym c.meets.ensures ∙ w.if-meets.false))
]
