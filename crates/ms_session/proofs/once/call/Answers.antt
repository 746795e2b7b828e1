use Rattle.std.proofs.Common.{◌≡◌, Some, ap, ◌∙◌, subst, sym}
use Rattle.std.specs.Prelude.{option_and_then}
use Rattle.ms_program.specs.Programs.{Program}
use Rattle.ms_command.specs.declared.reply.Reply.TheVariants.{Ran}
use Rattle.ms_machine.specs.Runs.{end_of}
use Rattle.ms_jvm.specs.Ends.{path_end_of}
use Rattle.ms_jvm.specs.Entered.{entered}
use Rattle.ms_session.specs.Once.{call_reply, called, once_depth}
use Rattle.ms_session.proofs.Called.{call_is}
use Rattle.ms_session.proofs.once.call.Goals as goal

pub returns : goal.returns
returns c =
    ap Ran c.in_ok-end.ensures
    ∙ call_is c.args.names.now c.args.words.now (entered c.program.result.now c.in-Some.method.id) c.in-Some.method.kinds c.in-Some-of.input c.in_ok-ran.ran.end c.in-Some.ensures.kinds c.in-Some-of.ensures.input c.in-Some-of.ensures.kept
    (subst (λ (P : Program). option_and_then (λ m. path_end_of (end_of m c.in-Some-of.input once_depth)) (entered P c.in-Some.method.id) ≡ Some c.in_ok-ran.ran.end) (sym c.program.ensures.program) c.in_ok-ran.ensures.end)
    ∙ ap (call_reply c.args.names.now c.args.words.now) c.in-Some.ensures.machine
    ∙ ap (λ (P : Program). call_reply c.args.names.now c.args.words.now (called P c.args.name.now c.args.desc.now)) c.program.ensures.program
