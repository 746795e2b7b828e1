use Rattle.std.proofs.Common.{◌≡◌, map, take}
use Rattle.ms_terms.specs.Nodes.{terms_of}
use Rattle.ms_terms.specs.Terms as terms
use Rattle.ms_terms.proofs.table.Terms.values.Given as goal

abbrev pub invariant-loop-place : goal.invariant-loop-place
invariant-loop-place l = l.words.items ≡ map (terms.value l.parameters) (take l.place (terms_of l.self))
