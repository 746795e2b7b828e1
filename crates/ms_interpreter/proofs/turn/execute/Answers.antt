use Rattle.ms_linking.specs.Linked.{views_of}
use Rattle.ms_linking.specs.Told.{told}
use Rattle.ms_interpreter.specs.Seen.{texts_of}
use Rattle.ms_interpreter.proofs.Turned.{executed}
use Rattle.ms_interpreter.proofs.turn.execute.Goals as goal

pub returns-clause-executes : goal.returns-clause-executes
returns-clause-executes g c =
    let f = g.A.Arithmetic.means c.settle.new.arithmetic in
    let P = views_of c.args.program.now in
    executed g.A.Arithmetic.ints f P (told c.args.instruction.now) c.args.arm c.args.state.now c.in_ok-did.did c.act.new.frame c.settle.new.frame c.act.new.memory c.settle.new.memory c.in_ok-led.led c.in_ok-finish.finish c.lead.new.state
    c.in_ok-did.ensures.acts c.in_ok-did.ensures.stays (c.in_ok-led.ensures.lead (texts_of P)) c.in_ok-led.ensures.keeps (c.in_ok-finish.ensures f (texts_of P))
