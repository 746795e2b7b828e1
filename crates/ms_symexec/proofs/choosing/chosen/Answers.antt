use Rattle.std.proofs.Common.{Option, ap, ◌∙◌}
use Rattle.ms_linking.specs.Linked.{views_of}
use Rattle.ms_machine.specs.Control.{Ends, Goes}
use Rattle.ms_terms.specs.declared.term.TermId.{TermId}
use Rattle.ms_interpreter.specs.declared.finish.Finish.{Finish}
use Rattle.ms_interpreter.specs.Leads.{done_of, finish_of, state_of}
use Rattle.ms_interpreter.specs.Seen.{texts_of}
use Rattle.ms_interpreter.specs.Symbols.{symbol}
use Rattle.ms_symexec.proofs.Turning.{arm_taken}
use Rattle.ms_symexec.proofs.choosing.chosen.Goals as goal

pub returns-in-None-clause-chosen : goal.returns-in-None-clause-chosen
returns-in-None-clause-chosen c = λ after at.
    let P = views_of c.args.program.now in
    let f = symbol c.choose.new.arithmetic in
    arm_taken P c.args.terms.now c.choose.new.arithmetic c.choose.ensures.stay c.args.run c.in-In.state c.in-In.is c.args.arm after at (Goes (state_of f (texts_of P) c.choose.new.state)) (c.in_ok-choose-in-In.ensures.chooses ∙ ap (λ (finish : Option (Finish TermId)). done_of f (texts_of P) finish c.choose.new.state) c.in-None.is)

pub returns-in-Some-clause-chosen : goal.returns-in-Some-clause-chosen
returns-in-Some-clause-chosen c = λ after at.
    let P = views_of c.args.program.now in
    let f = symbol c.choose.new.arithmetic in
    arm_taken P c.args.terms.now c.choose.new.arithmetic c.choose.ensures.stay c.args.run c.in-In.state c.in-In.is c.args.arm after at (Ends (finish_of f c.in-Some.finish)) (c.in_ok-choose-in-In.ensures.chooses ∙ ap (λ (finish : Option (Finish TermId)). done_of f (texts_of P) finish c.choose.new.state) c.in-Some.is)
