use Rattle.std.proofs.Common.{◌≡◌}
use Rattle.ms_pathcond.specs.Mixing.{has}
use Rattle.ms_pathcond.proofs.Together.{mixed_until}
use Rattle.ms_pathcond.proofs.mixing.put_together.Given as goal

abbrev pub invariant-loop-place : goal.invariant-loop-place
invariant-loop-place l = l.input ≡ record { kinds = l.second.kinds; words = mixed_until (has l.params) 0 l.place l.first.words l.second.words }
