use Rattle.std.proofs.lemmas.Result.{IfOk-weaker}
use Rattle.ms_linking.specs.Linked.{views_of}
use Rattle.ms_interpreter.specs.Begun.{begins}
use Rattle.ms_interpreter.specs.Seen.{texts_of}
use Rattle.ms_jvm.specs.Entered.{entered}
use Rattle.ms_jvm.proofs.Marking.{start_marked}
use Rattle.ms_jvm.proofs.starting.start_of.Goals as goal

pub returns-clause-start : goal.returns-clause-start
returns-clause-start c = IfOk-weaker c.start.result _ _ (λ began starts.
    let texts = texts_of (views_of c.args.program.now) in
    start_marked texts (entered c.args.program.now c.args.entry) c.args.x.now c.in_ok-locals.locals.items (begins (λ a. a) texts began) c.parameters.ensures.input c.in_ok-locals.ensures.locals (starts (λ a. a) texts)) c.start.ensures
