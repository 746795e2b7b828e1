use Rattle.std.proofs.Common.{◌≡◌, Some, sym, ap, ◌∙◌}
use Rattle.ms_linking.specs.Linked.{program_of}
use Rattle.ms_interpreter.specs.Begun.{begins}
use Rattle.ms_interpreter.specs.Seen.{locals_of, texts_of}
use Rattle.ms_interpreter.specs.Symbols.{symbol}
use Rattle.ms_symexec.proofs.Started.{some_is, started_so}
use Rattle.ms_symexec.proofs.starting.start.Goals as goal

pub returns-clause-started : goal.returns-clause-started
returns-clause-started c = λ P is.
    let f = symbol c.parameters.new.terms in
    let texts = texts_of P.view in
    let program = c.program-program.result.now in
    let there : program_of program ≡ Some P = ap program_of c.program-program.ensures.program ∙ is in
    let kinds : c.in-Some-kinds_of.kinds ≡ P.entry.kinds = some_is _ _ (sym c.in-Some-kinds_of.is ∙ c.kinds_of.ensures P there) in
    started_so program c.in-Some.entry (sym c.in-Some.ensures.entry) P there c.in-Some-kinds_of.kinds kinds (locals_of f texts c.in_ok-locals.locals.items) (begins f texts c.in_ok-run.run')
    (λ parameters are. c.in_ok-run.ensures f texts parameters are) (c.in_ok-locals.ensures.locals texts)
