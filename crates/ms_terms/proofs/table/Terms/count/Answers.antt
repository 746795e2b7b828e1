use Rattle.std.proofs.Common.{subst, arith}
use Rattle.ms_terms.specs.Nodes.{EachOnce, terms_of}
use Rattle.std.proofs.lemmas.List.{length-map}
use Rattle.ms_terms.proofs.Once.{terms_once}
use Rattle.ms_terms.proofs.Same.{same_itself}
use Rattle.ms_terms.proofs.table.Terms.count.Goals as goal

pub returns-clause-once : goal.returns-clause-once
returns-clause-once c = subst (λ ks. EachOnce (terms_of ks)) c.self.view_is (terms_once _ same_itself _ c.self.invariant.0 c.len.ensures.unique)

pub overflow_cast-result : goal.overflow_cast-result
overflow_cast-result c = let few = c.self.invariant.0.few in let len = c.len.ensures.len in let keys = length-map c.self.inside.nodes.entries (λ e. e.0) in grind (arith, few, len, keys)
