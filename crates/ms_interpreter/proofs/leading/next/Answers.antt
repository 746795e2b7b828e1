use Rattle.ms_linking.specs.Linked.{views_of}
use Rattle.ms_machine.specs.Effects.{Next}
use Rattle.ms_interpreter.specs.Leads.{done_of}
use Rattle.ms_interpreter.proofs.Views.{moves}
use Rattle.ms_interpreter.proofs.leading.next.Goals as goal

pub returns : goal.returns
returns g c = λ f texts.
    moves f texts (views_of c.args.program.now) c.args.state.now c.at.result Next c.next_of-item.result (done_of f texts c.go_on.result c.go_on.new.state) c.at.ensures c.next_of-item.ensures (c.go_on.ensures f texts)
