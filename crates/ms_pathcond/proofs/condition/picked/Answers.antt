use Rattle.std.proofs.Common.{◌<◌, length, refl, sym, ◌∙◌, arith}
use Rattle.std.proofs.lemmas.Option.{slice_get_read}
use Rattle.ms_terms.proofs.Growing.{stands}
use Rattle.ms_pathcond.proofs.Picking.{none_picked, one_left, one_picked}
use Rattle.ms_pathcond.proofs.condition.picked.Goals as goal
use Rattle.ms_pathcond.proofs.condition.picked.Goals.{else-meets, then-meets+in_ok-push}

pub loop-place-init : goal.loop-place-init
loop-place-init c = rw c.new.ensures.items (none_picked _ _ _ _)

less : (c : goal.Joined-meets) → c.loop-place.place < length c.args.literals.now
less c = omega (arith, c.loop-place-test.true, c.loop-place.auto.place-end)

pub loop-place-preserved : goal.loop-place-preserved
loop-place-preserved c = elim c.if-meets.branch [
  | then-meets+in_ok-push w ↦ rw w.slice-inside-is (rw w.in_ok-push.ensures.items (one_picked _ _ _ _ _ _ _ (slice_get_read c.args.literals.now (length c.args.literals.now) c.loop-place.place w.index-literals-place.result refl (less c) w.index-literals-place.is) c.loop-place.invariant (sym c.meets.ensures ∙ w.if-meets.true)))
  | else-meets w ↦ rw w.slice-inside-is (one_left _ _ _ _ _ _ _ (stands c.args.literals.now c.loop-place.place (less c)).1 c.loop-place.invariant (sym c.meets.ensures ∙ w.if-meets.false))
]
