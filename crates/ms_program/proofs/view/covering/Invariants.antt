use Rattle.ms_program.proofs.Covering.{IsLeft}
use Rattle.ms_program.proofs.view.covering.Given as goal

-- so many that cover the offset are still to be passed
abbrev pub invariant-loop-handler : goal.invariant-loop-handler
invariant-loop-handler l = IsLeft l.offset l.handlers l.fn.i l.handler-index l.left
