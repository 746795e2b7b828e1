use Rattle.std.proofs.Common.{ap, option_map, sym, ◌∙◌}
use Rattle.ms_verify.specs.Told.{line_told}
use Rattle.ms_verify.proofs.Turning.{lent_is, line_found}
use Rattle.ms_verify.proofs.line.Code.line.Goals as goal

pub returns-clause-line : goal.returns-clause-line
returns-clause-line c = line_found c.args.self.now c.args.at c.index.result.now c.requires.within
    ∙ (ap (option_map (line_told c.args.self.now.handlers.now c.args.at)) (sym c.index.ensures ∙ sym c.as_ref.ensures.value) ∙ lent_is c.args.self.now.handlers.now c.args.at c.as_ref.result)
