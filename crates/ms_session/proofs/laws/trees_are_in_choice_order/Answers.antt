use Rattle.std.proofs.Common.{[]}
use Rattle.ms_session.specs.Laws.{Precedes}
use Rattle.ms_session.specs.Paths.{tree}
use Rattle.ms_session.proofs.Members.{AllPairs-from_ordered}
use Rattle.ms_session.proofs.Reports.{tree_ordered}
use Rattle.ms_session.proofs.laws.trees_are_in_choice_order.Goals as goal

pub returns : goal.returns
returns c = λ P depth. AllPairs-from_ordered Precedes (tree P depth) (tree_ordered P depth [])
