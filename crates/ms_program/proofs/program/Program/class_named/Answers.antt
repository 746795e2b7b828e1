use Rattle.std.proofs.Common.{sym}
use Rattle.ms_program.proofs.Apart.{has_that_name}
use Rattle.ms_program.proofs.program.Program.class_named.Goals as goal

pub returns-clause-name : goal.returns-clause-name
returns-clause-name c = has_that_name c.args.self.now c.args.name.now c.in_ok-place.place (sym c.in_ok-place.ensures.place)
