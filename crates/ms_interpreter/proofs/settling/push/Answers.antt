use Rattle.std.proofs.Common.{sym, ap, ◌∙◌}
use Rattle.ms_machine.specs.Effects.{Moves, Next}
use Rattle.ms_interpreter.specs.Frames.{Frame}
use Rattle.ms_interpreter.specs.Plans.{planned}
use Rattle.ms_interpreter.specs.Seen.{here_of}
use Rattle.ms_interpreter.proofs.Settled.{pushed}
use Rattle.ms_interpreter.proofs.settling.push.Goals as goal

pub returns-clause-lead : goal.returns-clause-lead
returns-clause-lead g c = λ texts.
    ap (Moves Next) (pushed g.A.Arithmetic.ints (g.A.Arithmetic.means c.compute.new.arithmetic) texts c.args.frame.now c.args.memory.now (planned c.args.plan) c.in_ok-a.a c.in_ok-a.ensures.is
    ∙ ap (λ (frame : Frame _). here_of (g.A.Arithmetic.means c.compute.new.arithmetic) texts frame c.args.memory.now) (sym c.in_ok-push.ensures.ok))
