use Rattle.std.proofs.lemmas.Option.{slice_get-get_or}
use Rattle.std.proofs.lemmas.Result.{IfOk-weaker}
use Rattle.ms_verify.proofs.Receiving.{one_passed, one_refused}
use Rattle.ms_verify.proofs.passing.pass.Goals as goal

pub returns-clause-passed : goal.returns-clause-passed
returns-clause-passed c =
    IfOk-weaker c.receive.result _ _ (λ b h e. one_passed c.args.slots.now c.args.to _ _ c.args.shape.now (slice_get-get_or c.args.slots.now c.args.to c.index-slots-to.result c.requires.within) (h e)) c.receive.ensures.received

pub returns-clause-refused : goal.returns-clause-refused
returns-clause-refused c =
    IfOk-weaker c.receive.result _ _ (λ b h e. one_refused c.args.slots.now c.args.to _ c.args.shape.now (slice_get-get_or c.args.slots.now c.args.to c.index-slots-to.result c.requires.within) (h e)) c.receive.ensures.refused
