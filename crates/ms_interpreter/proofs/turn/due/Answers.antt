use Rattle.std.proofs.Common.{Some, None, sym, ap, ◌∙◌}
use Rattle.std.proofs.lemmas.Option.{IfSome_then}
use Rattle.ms_linking.specs.Linked.{views_of}
use Rattle.ms_linking.specs.Told.{told}
use Rattle.ms_interpreter.specs.Seen.{texts_of}
use Rattle.ms_interpreter.specs.Turns.{arm_due}
use Rattle.ms_interpreter.proofs.Steps.{asked_seen}
use Rattle.ms_interpreter.proofs.Stayed.{found_stays}
use Rattle.ms_interpreter.proofs.turn.due.Goals as goal

pub returns-in-Some-clause-now : goal.returns-in-Some-clause-now
returns-in-Some-clause-now g c =
    c.known_arm.ensures ∙ ap (arm_due g.A.Arithmetic.ints) (sym (asked_seen g.A.Arithmetic.ints (g.A.Arithmetic.means c.args.arithmetic.now) (texts_of (views_of c.args.program.now)) (told c.args.instruction.now) c.args.state.now.top c.args.state.now.memory (Some c.in-Some.test) c.in-Some.ensures))

pub returns-in-Some-clause-later : goal.returns-in-Some-clause-later
returns-in-Some-clause-later g c = λ f stay.
    IfSome_then c.known_arm.result (found_stays g.A.Arithmetic.ints g.A.Arithmetic.Has g.met.A.Arithmetic.has_known (g.A.Arithmetic.means c.args.arithmetic.now) f stay c.in-Some.test c.known_arm.result c.known_arm.ensures)
    (λ arm is. ap (arm_due g.A.Arithmetic.ints) (asked_seen g.A.Arithmetic.ints f (texts_of (views_of c.args.program.now)) (told c.args.instruction.now) c.args.state.now.top c.args.state.now.memory (Some c.in-Some.test) c.in-Some.ensures) ∙ is)

pub returns-in-None-clause-now : goal.returns-in-None-clause-now
returns-in-None-clause-now g c =
    ap (arm_due g.A.Arithmetic.ints) (sym (asked_seen g.A.Arithmetic.ints (g.A.Arithmetic.means c.args.arithmetic.now) (texts_of (views_of c.args.program.now)) (told c.args.instruction.now) c.args.state.now.top c.args.state.now.memory None c.in-None.ensures))

pub returns-in-None-clause-later : goal.returns-in-None-clause-later
returns-in-None-clause-later g c = λ f stay.
    ap (arm_due g.A.Arithmetic.ints) (asked_seen g.A.Arithmetic.ints f (texts_of (views_of c.args.program.now)) (told c.args.instruction.now) c.args.state.now.top c.args.state.now.memory None c.in-None.ensures)
