use Rattle.ms_verify.proofs.Bodies.{coded, seen}
use Rattle.ms_verify.proofs.laws.methods_are_seen.Goals as goal

pub returns-clause-seen : goal.returns-clause-seen
returns-clause-seen c = seen

pub returns-clause-code : goal.returns-clause-code
returns-clause-code c = λ P class number method program is. coded P class number method (c.bodies_have_whole_codes.ensures P) program is
