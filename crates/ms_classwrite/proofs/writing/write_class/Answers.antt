use Rattle.std.proofs.Common.{sym, ◌∙◌}
use Rattle.std.proofs.lemmas.Result.{err_from_is_err_and}
use Rattle.ms_classwrite.proofs.Files.{written_back}
use Rattle.ms_classwrite.proofs.More.{too_many_entries}
use Rattle.ms_classwrite.proofs.writing.write_class.Goals as goal

pub returns-in_err-lines-clause-too_many : goal.returns-in_err-lines-clause-too_many
returns-in_err-lines-clause-too_many c = λ many.
    let p = err_from_is_err_and c.from_residual.result c.from_residual.ensures.1 in
    too_many_entries c.args.plan.now (c.in_err-lines.ensures.many (let q = p.1 in let r = p.2 in cc))

pub returns-clause-read : goal.returns-clause-read
returns-clause-read c = λ readable.
    written_back c.args.plan.now c.in_ok-lines.lines c.in_ok-bytes.bytes.items (sym c.has_too_many.ensures ∙ c.if-has_too_many.false) c.in_ok-lines.ensures.ok c.in_ok-bytes.ensures c.requires.linked c.numbers_fit.ensures readable
