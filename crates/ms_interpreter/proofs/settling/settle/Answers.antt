use Rattle.std.proofs.Common.{sym, subst}
use Rattle.ms_interpreter.specs.declared.did.Did.{Did}
use Rattle.ms_interpreter.specs.declared.lead.Lead.TheVariants as lead
use Rattle.ms_interpreter.specs.Leads.{Settles}
use Rattle.ms_interpreter.proofs.Settled as settled
use Rattle.ms_interpreter.proofs.settling.settle.Goals as goal

pub returns-in-Next-clause-lead : goal.returns-in-Next-clause-lead
returns-in-Next-clause-lead g c = λ texts.
    subst (λ (did : Did _). Settles g.A.Arithmetic.ints (g.A.Arithmetic.means c.args.arithmetic.now) texts did c.args.frame.now c.args.memory.now lead.Next c.args.frame.now c.args.memory.now) (sym c.in-Next.is)
    (settled.next g.A.Arithmetic.ints (g.A.Arithmetic.means c.args.arithmetic.now) texts c.args.frame.now c.args.memory.now)

pub returns-in-Jumps-clause-lead : goal.returns-in-Jumps-clause-lead
returns-in-Jumps-clause-lead g c = λ texts.
    subst (λ (did : Did _). Settles g.A.Arithmetic.ints (g.A.Arithmetic.means c.args.arithmetic.now) texts did c.args.frame.now c.args.memory.now (lead.Jumps c.in-Jumps.target) c.args.frame.now c.args.memory.now) (sym c.in-Jumps.is)
    (settled.jumped g.A.Arithmetic.ints (g.A.Arithmetic.means c.args.arithmetic.now) texts c.args.frame.now c.args.memory.now c.in-Jumps.target)

pub returns-in-Calls-clause-lead : goal.returns-in-Calls-clause-lead
returns-in-Calls-clause-lead g c = λ texts.
    subst (λ (did : Did _). Settles g.A.Arithmetic.ints (g.A.Arithmetic.means c.args.arithmetic.now) texts did c.args.frame.now c.args.memory.now (lead.Calls c.in-Calls.parameters) c.args.frame.now c.args.memory.now) (sym c.in-Calls.is)
    (settled.called g.A.Arithmetic.ints (g.A.Arithmetic.means c.args.arithmetic.now) texts c.args.frame.now c.args.memory.now c.in-Calls.parameters)

pub returns-in-Initialises-clause-lead : goal.returns-in-Initialises-clause-lead
returns-in-Initialises-clause-lead g c = λ texts.
    subst (λ (did : Did _). Settles g.A.Arithmetic.ints (g.A.Arithmetic.means c.args.arithmetic.now) texts did c.args.frame.now c.args.memory.now (lead.Initialises c.in-Initialises.class) c.args.frame.now c.args.memory.now) (sym c.in-Initialises.is)
    (settled.initialised g.A.Arithmetic.ints (g.A.Arithmetic.means c.args.arithmetic.now) texts c.args.frame.now c.args.memory.now c.in-Initialises.class)

pub returns-in-Returns-clause-lead : goal.returns-in-Returns-clause-lead
returns-in-Returns-clause-lead g c = λ texts.
    subst (λ (did : Did _). Settles g.A.Arithmetic.ints (g.A.Arithmetic.means c.args.arithmetic.now) texts did c.args.frame.now c.args.memory.now (lead.Returns c.in-Returns.slot) c.args.frame.now c.args.memory.now) (sym c.in-Returns.is)
    (settled.returned g.A.Arithmetic.ints (g.A.Arithmetic.means c.args.arithmetic.now) texts c.args.frame.now c.args.memory.now c.in-Returns.slot)

pub returns-in-Raises-clause-lead : goal.returns-in-Raises-clause-lead
returns-in-Raises-clause-lead g c = λ texts.
    subst (λ (did : Did _). Settles g.A.Arithmetic.ints (g.A.Arithmetic.means c.args.arithmetic.now) texts did c.args.frame.now c.args.memory.now (lead.Raises c.in-Raises.number c.in-Raises.class) c.args.frame.now c.args.memory.now) (sym c.in-Raises.is)
    (settled.raised g.A.Arithmetic.ints (g.A.Arithmetic.means c.args.arithmetic.now) texts c.args.frame.now c.args.memory.now c.in-Raises.number c.in-Raises.class)
