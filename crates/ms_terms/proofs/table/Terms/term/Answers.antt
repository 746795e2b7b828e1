use Rattle.std.proofs.Common.{sym, ap, ◌∙◌}
use Rattle.std.specs.Prelude.{slice_get}
use Rattle.ms_terms.proofs.Adding.{Looks, looks}
use Rattle.ms_terms.proofs.table.Terms.term.Goals as goal

looked : (c : goal.After-result-1) → Looks c.args.self.now c.args.id c.in-Some.node.now c.in-Some.field-0-1.now
looked c = looks _ _ c.self.view_is c.self.invariant.0 c.self.invariant.1 _ _ _ (ap (slice_get c.self.inside.nodes.entries) (sym c.place.ensures) ∙ sym c.in-Some.ensures.entry)

pub returns-clause-term : goal.returns-clause-term
returns-clause-term c = (looked c).term

pub returns-clause-operands : goal.returns-clause-operands
returns-clause-operands c = (looked c).operands

pub returns-clause-node : goal.returns-clause-node
returns-clause-node c = (looked c).node
