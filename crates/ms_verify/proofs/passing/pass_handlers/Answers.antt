use Rattle.std.proofs.Common.{◌≡◌, ◌∙◌, ◌+◌, length, refl, subst, sym, take}
use Rattle.ms_typing.specs.Kinds.{Shape}
use Rattle.ms_typing.specs.Verifier.{Leaves, pass_all}
use Rattle.ms_verify.specs.Told.{AllHave, cells_of}
use Rattle.ms_verify.proofs.Handling.{handler_passed, handler_refused, handler_skipped, to_handlers}
use Rattle.ms_verify.proofs.passing.pass_handlers.Goals as goal
use Rattle.ms_verify.proofs.passing.pass_handlers.Goals.{then-covers+in_ok-caught+in_ok-pass+else-not-branch, else-covers}

pub returns-then-not-branch-clause-passed : goal.returns-then-not-branch-clause-passed
returns-then-not-branch-clause-passed c =
    handler_refused c.args.handlers.now c.loop-handler.handler-index c.args.at c.args.shape.now _ _ _ _ c.in_ok-caught.caught c.loop-handler-test.true refl (sym c.covers.ensures ∙ c.if-covers.true) c.in_ok-caught.ensures
    c.loop-handler.invariant.passed (c.in_ok-pass.ensures.refused c.if-not-branch.true)

pub loop-handler-preserved : goal.loop-handler-preserved
loop-handler-preserved c = record {
  passed = elim c.if-covers.branch [
    | then-covers+in_ok-caught+in_ok-pass+else-not-branch w ↦ subst (λ x. pass_all (cells_of c.args.slots.now) (to_handlers c.args.shape.now c.args.at (take (c.loop-handler.handler-index + 1) c.args.handlers.now)) ≡ Leaves (cells_of x)) (sym w.slots-is)
        (handler_passed c.args.handlers.now c.loop-handler.handler-index c.args.at c.args.shape.now _ _ _ _ _ w.in_ok-caught.caught c.loop-handler-test.true refl (sym c.covers.ensures ∙ w.if-covers.true) w.in_ok-caught.ensures
        c.loop-handler.invariant.passed (w.in_ok-pass.ensures.passed w.if-not-branch.false))
    | else-covers w ↦ subst (λ x. pass_all (cells_of c.args.slots.now) (to_handlers c.args.shape.now c.args.at (take (c.loop-handler.handler-index + 1) c.args.handlers.now)) ≡ Leaves (cells_of x)) (sym w.slots-is)
        (handler_skipped c.args.handlers.now c.loop-handler.handler-index c.args.at c.args.shape.now _ _ _ _ c.loop-handler-test.true refl (sym c.covers.ensures ∙ w.if-covers.false) c.loop-handler.invariant.passed)
  ];
  sized = elim c.if-covers.branch [
    | then-covers+in_ok-caught+in_ok-pass+else-not-branch w ↦ subst (AllHave (length c.args.shape.now.locals)) (sym w.slots-is)
        (subst (λ (x : Shape). AllHave (length x.locals) w.pass.new.slots) w.in_ok-caught.ensures w.pass.ensures.sized)
    | else-covers w ↦ subst (AllHave (length c.args.shape.now.locals)) (sym w.slots-is) c.loop-handler.invariant.sized
  ];
}
