use Rattle.std.proofs.Common.{refl, sym, ap, subst}
use Rattle.ms_linking.specs.Linked.{views_of}
use Rattle.ms_terms.specs.Terms.{Term}
use Rattle.ms_machine.specs.Control as control
use Rattle.ms_machine.specs.Control.{Goes}
use Rattle.ms_machine.specs.Segments as machine
use Rattle.ms_machine.specs.Values.{Runaway}
use Rattle.ms_symexec.specs.declared.arriving.Arrived.{Arrived}
use Rattle.ms_symexec.specs.Outcomes.{HasArms}
use Rattle.ms_symexec.specs.Segments.{Arrives, Choice}
use Rattle.ms_symexec.proofs.next.come_next.Goals as goal

pub returns-in_ok-arms-in-AtChoice : goal.returns-in_ok-arms-in-AtChoice
returns-in_ok-arms-in-AtChoice c = λ nodes trace segment arrives.
    let P = views_of c.args.program.now in
    let choice : Choice nodes P trace c.in-AtChoice.state segment = subst (λ (arrived : Arrived). Arrives nodes P trace arrived segment) c.in-AtChoice.is arrives in
    let after = ap (λ (s : machine.Segment Term). s.after) choice.segment_is in (
      subst (λ (a : machine.After Term). HasArms c.in_ok-arms-in-AtChoice.arms a) (sym after) (c.in_ok-arms-in-AtChoice.ensures nodes choice.seen choice.is),
      record {
        seen = choice.seen;
        stands = ap (λ (s : control.State _). Goes s) choice.is.stands;
        chooses = choice.is.chooses;
        after_is = after;
      },
    )

pub returns-in-Runaway : goal.returns-in-Runaway
returns-in-Runaway c = λ nodes trace segment arrives.
    let is = subst (λ (arrived : Arrived). Arrives nodes (views_of c.args.program.now) trace arrived segment) c.in-Runaway.is arrives in
    (Runaway, ap (λ (s : machine.Segment Term). s.after) is, refl)
