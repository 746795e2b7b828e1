use Rattle.std.proofs.Common.{◌≡◌, List, ◌++◌, Some, sym, ap, subst, ◌∙◌}
use Rattle.ms_words.specs.declared.item.Item.{Item}
use Rattle.ms_words.specs.Items.{firsts}
use Rattle.ms_linking.specs.Linked.{program_of, views_of}
use Rattle.ms_machine.specs.Control.{Views}
use Rattle.ms_machine.specs.Ints.{shadows}
use Rattle.ms_machine.specs.Laws.{shadow_started}
use Rattle.ms_machine.specs.Runs.{after_arms}
use Rattle.ms_machine.specs.Segments.{segment_from}
use Rattle.ms_verify.specs.Methods.{AllAccepted}
use Rattle.ms_interpreter.specs.declared.starting.Beginning.{Beginning}
use Rattle.ms_symexec.specs.Outcomes.{IsInOrder, IsSegment}
use Rattle.ms_symexec.specs.Segments.{Arrives, onto}
use Rattle.ms_symexec.specs.Standing.{StandsFor}
use Rattle.ms_symexec.proofs.Reaching.{in_order, trace_is, views_are, with_first}
use Rattle.ms_symexec.proofs.running.segment.Goals as goal

pub come_next-requires : goal.come_next-requires
come_next-requires c =
    let reached = c.requires.reached in
    let M = reached.machine in
    let program = c.program-program.result.now in
    let there : program_of program ≡ Some M = ap program_of c.program-program.ensures.program ∙ reached.is in
    let view = views_are program M there in
    let done = after_arms shadows M.view (shadow_started M M.entry.kinds) reached.arms in
    let stands = subst (λ (run : Beginning _). StandsFor c.args.terms.now M.view run done) (sym c.replace-run.ensures.value) reached.stands in
    let arrives = c.in_ok-arrived.ensures.arrives done (subst (λ (P : Views). StandsFor c.args.terms.now P c.replace-run.result done) view stands) in
    let never = c.accepted_programs_are_never_stuck.ensures program M c.is_program.ensures (subst AllAccepted (sym c.program-program.ensures.program) c.program-program.ensures.verified) there in
    let order = c.linked_programs_are_in_order.ensures program M c.is_program.ensures there in
    subst (λ (P : Views). IsInOrder P c.in_ok-arrived.arrived) view
    (in_order M never.0 never.3 (c.choices_are_small.ensures M) order.few reached.arms reached.possible c.in_ok-trace.trace.items c.arrive.new.trace.items c.arrive.new.terms c.in_ok-arrived.arrived
    (subst (λ (P : Views). Arrives c.arrive.new.terms P c.arrive.new.trace.items c.in_ok-arrived.arrived (onto c.in_ok-trace.trace.items (segment_from shadows P done))) (sym view) arrives))

pub returns-clause-segment : goal.returns-clause-segment
returns-clause-segment c = λ done stands.
    let P = views_of c.program-program.result.now in
    let same = ap views_of c.program-program.ensures.program in
    let begun = subst (λ (run : Beginning _). StandsFor c.args.terms.now (views_of c.args.verified.now) run done) (sym c.replace-run.ensures.value) stands in
    let arrives = c.in_ok-arrived.ensures.arrives done (subst (λ (P : Views). StandsFor c.args.terms.now P c.replace-run.result done) (sym same) begun) in
    let segment = segment_from shadows P done in
    let whole = onto c.in_ok-trace.trace.items segment in
    let came = c.in_ok-next.ensures c.arrive.new.terms c.arrive.new.trace.items whole arrives in
    let trace = trace_is P c.arrive.new.terms c.arrive.new.trace.items c.in_ok-arrived.arrived whole arrives in
    subst (λ (P : Views). IsSegment c.arrive.new.terms P c.args.state.now.is_first (record { next = c.in_ok-next.next; footprint = c.in_ok-footprint.footprint }) (record { run = c.in_ok-next.run'; is_first = c.args.state.now.is_first }) (segment_from shadows P done)) same
    (record {
      footprint = c.in_ok-footprint.ensures ∙ ap firsts (c.as_slice.ensures.value ∙ trace ∙ ap (λ (items : List Item). items ++ segment.trace) c.in_ok-trace.ensures ∙ with_first c.args.state.now.is_first segment.trace);
      next = came;
    })
