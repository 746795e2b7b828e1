use Rattle.ms_linking.specs.Linked.{views_of}
use Rattle.ms_interpreter.specs.Leads.{done_of}
use Rattle.ms_interpreter.specs.Seen.{texts_of}
use Rattle.ms_jvm.proofs.Choosing.{chose_so}
use Rattle.ms_jvm.proofs.choices.choose_arm.Goals as goal

pub returns : goal.returns
returns c =
    chose_so (views_of c.args.program.now) c.args.state.now c.in_ok-arm.arm (done_of (λ a. a) (texts_of (views_of c.args.program.now)) c.in_ok-finish.finish c.choose.new.state) c.requires c.in_ok-arm.ensures c.in_ok-finish.ensures.chooses
