use Rattle.ms_pool.proofs.Placing.{IsListing}
use Rattle.ms_pool.proofs.reading.places.Given as goal

abbrev pub invariant-loop-left : goal.invariant-loop-left
invariant-loop-left l = IsListing l.fn.cursor l.numbers l.places.items l.left l.cursor

abbrev pub decreases-loop-left : goal.decreases-loop-left
decreases-loop-left l = l.left
