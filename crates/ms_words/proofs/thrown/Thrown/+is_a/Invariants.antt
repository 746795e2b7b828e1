use Rattle.ms_words.proofs.Tree.{depth}
use Rattle.ms_words.proofs.thrown.Thrown.+is_a.Given as goal

-- how many classes stand above it
abbrev pub decreases-is_a : goal.decreases-is_a
decreases-is_a l = depth l.self
