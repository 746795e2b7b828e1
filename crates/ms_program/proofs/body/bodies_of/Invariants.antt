use Rattle.ms_program.proofs.Files.{AreUpTo}
use Rattle.ms_program.proofs.body.bodies_of.Given as goal

-- the bodies so far are those of the methods before the next one
abbrev pub invariant-loop-method : goal.invariant-loop-method
invariant-loop-method l = AreUpTo l.pool l.methods l.method-index l.rows.items
