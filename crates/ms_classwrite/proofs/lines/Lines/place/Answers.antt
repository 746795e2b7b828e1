use Rattle.std.proofs.Common.{ℕ, ◌+◌, List, ap, ◌∙◌, Option, position, unwrap_or}
use Rattle.ms_classwrite.specs.declared.plan.PoolLine.{PoolLine}
use Rattle.ms_classwrite.specs.Lines.{line_view}
use Rattle.ms_classwrite.specs.Plans.{number_in}
use Rattle.ms_classwrite.proofs.Same.{place_or_len, place_seen, same_lent}
use Rattle.ms_classwrite.proofs.lines.Lines.place.Goals as goal

pub returns-clause-number : goal.returns-clause-number
returns-clause-number c =
    let keys = c.self.inside.lines.keys in
    ap (λ (n : ℕ). n + 1)
    (c.unwrap_or.ensures ∙ ap (λ (place : Option ℕ). unwrap_or place c.len.result) c.get_index_of.ensures.index ∙ ap (λ (n : ℕ). unwrap_or (position (same_lent c.args.line) keys) n) c.len.ensures.len
    ∙ place_or_len (same_lent c.args.line) keys ∙ place_seen keys c.args.line)
    ∙ ap (λ (lines : List PoolLine). number_in lines (line_view c.args.line)) c.self.view_is
