use Rattle.std.proofs.Common.{◌≡◌, ◌∙◌, ◌||◌, Some, subst, sym}
use Rattle.ms_typing.specs.Verifier.{received}
use Rattle.ms_verify.specs.Told.{cell_with}
use Rattle.ms_verify.proofs.Receiving.{held_receives, keeps_locals, or_first, or_second}
use Rattle.ms_verify.proofs.passing.receive.Goals as goal
use Rattle.ms_verify.proofs.passing.receive.Goals.{then-slot, else-slot}

pub returns-in-Some-clause-received : goal.returns-in-Some-clause-received
returns-in-Some-clause-received c b =
    let v : c.if-slot.slot ≡ (c.args.slot.now.waits || c.join-changed.result) = elim c.if-slot.branch [
      | then-slot w ↦ or_first _ _ _ w.if-slot.true w.slot-is
      | else-slot w ↦ or_second _ _ _ w.if-slot.false w.slot-is
    ] in
    subst (λ x. received (cell_with x c.args.slot.now.waits) c.args.shape.now ≡ Some (cell_with (Some c.join-changed.new.self) c.if-slot.slot)) (sym c.in-Some.is)
    (held_receives c.in-Some.held c.args.shape.now c.join-changed.new.self c.args.slot.now.waits c.if-slot.slot c.join-changed.result c.join-changed.ensures.joined
    (sym c.depth.ensures ∙ (c.if-depth.false ∙ c.depth-in-Some.ensures)) c.join-changed.ensures.changed v)

pub returns-in-Some-clause-sized : goal.returns-in-Some-clause-sized
returns-in-Some-clause-sized c = keeps_locals c.in-Some.held c.args.shape.now c.join-changed.new.self c.join-changed.ensures.joined (rw c.in-Some.is at c.requires)
