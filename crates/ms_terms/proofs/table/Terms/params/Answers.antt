use Rattle.std.proofs.Common.{sym, ap, ◌∙◌}
use Rattle.std.specs.Prelude.{slice_get}
use Rattle.ms_terms.proofs.Adding.{looks}
use Rattle.ms_terms.proofs.table.Terms.params.Goals as goal

pub returns : goal.returns
returns c = (looks _ _ c.self.view_is c.self.invariant.0 c.self.invariant.1 _ _ _ (ap (slice_get c.self.inside.nodes.entries) (sym c.place.ensures) ∙ sym c.in-Some.ensures.entry)).params
