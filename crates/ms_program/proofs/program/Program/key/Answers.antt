use Rattle.std.proofs.Common.{subst}
use Rattle.ms_program.specs.Programs.{IsProgram, Program}
use Rattle.ms_program.proofs.Keys.{key_there}
use Rattle.ms_program.proofs.program.Program.key.Goals as goal

pub returns-clause-there : goal.returns-clause-there
returns-clause-there c = λ known. key_there c.args.self.now (subst (λ (P : Program). IsProgram P) c.self.view_is c.self.invariant) c.args.id known
