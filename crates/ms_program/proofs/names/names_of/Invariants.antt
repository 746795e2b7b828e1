use Rattle.ms_program.proofs.Members.{AreSoFar}
use Rattle.ms_program.proofs.names.names_of.Given as goal

-- the names so far are those of the members before the next one
abbrev pub invariant-loop-member : goal.invariant-loop-member
invariant-loop-member g l = AreSoFar g.M.Member.key l.members l.member-index l.names
