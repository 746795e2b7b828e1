use Rattle.std.proofs.Common.{subst}
use Rattle.ms_program.specs.Programs.{Adds, Program}
use Rattle.ms_session.proofs.Called.{is_loaded}
use Rattle.ms_session.proofs.once.load.Goals as goal

pub returns-in-Ok : goal.returns-in-Ok
returns-in-Ok c = is_loaded c.args.bytes.items c.in-Ok.field-0 c.add.new.self c.files_are_read.ensures.file (subst (λ (P : Program). Adds P c.args.bytes.items c.in-Ok.field-0 c.add.new.self) c.new-program.ensures c.in-Ok.ensures)
