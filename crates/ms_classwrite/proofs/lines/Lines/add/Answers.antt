use Rattle.std.proofs.Common.{ℕ, ◌+◌, List, ap, ◌∙◌, map}
use Rattle.ms_classwrite.specs.declared.plan.PoolLine.{PoolLine}
use Rattle.ms_classwrite.specs.Layout.{with_line}
use Rattle.ms_classwrite.specs.Lines.{line_view}
use Rattle.ms_classwrite.specs.Plans.{number_in}
use Rattle.ms_classwrite.proofs.Same.{added_seen, place_seen}
use Rattle.ms_classwrite.proofs.lines.Lines.add.Goals as goal

pub returns-clause-added : goal.returns-clause-added
returns-clause-added c = ap (map line_view) c.in_ok-place.ensures.keys ∙ added_seen c.self.inside.lines.keys c.args.line ∙ ap (λ (lines : List PoolLine). with_line lines (line_view c.args.line)) c.self.view_is

pub returns-clause-place : goal.returns-clause-place
returns-clause-place c = ap (λ (n : ℕ). n + 1) (c.in_ok-place.ensures.index ∙ place_seen c.self.inside.lines.keys c.args.line) ∙ ap (λ (lines : List PoolLine). number_in lines (line_view c.args.line)) c.self.view_is
