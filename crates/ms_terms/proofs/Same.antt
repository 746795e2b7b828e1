-- The derived equality of nodes.
use Rattle.std.proofs.Common.{◌≡◌, true, rules}
use Rattle.ms_terms.specs.declared.term.Term.{Term as Node}
use Rattle.ms_terms.specs.contracts.term.TermPartialEq.TheImpl.{eq-value}

pub same_node : (n m : Node) → eq-value.it n m ≡ true → n ≡ m
same_node n m is = search rules

pub same_itself : (n : Node) → eq-value.it n n ≡ true
same_itself n = search rules
