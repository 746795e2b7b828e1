use Rattle.std.proofs.Common.{arith}
use Rattle.ms_classfile.specs.Found.{view}
use Rattle.ms_classfile.proofs.Files.{file_takes, method_is_thin, none_thin}
use Rattle.ms_classfile.proofs.thin.read_thin.Goals as goal

pub returns-in-Ok-clause-thin : goal.returns-in-Ok-clause-thin
returns-in-Ok-clause-thin c = file_takes c.args.bytes.now (view c.in-Ok.method) (λ i. omega (arith, c.type_inv.bytes i)) c.in-Ok.ensures

pub returns-in-Err-NotThin-clause-none : goal.returns-in-Err-NotThin-clause-none
returns-in-Err-NotThin-clause-none c = none_thin c.args.bytes.now (rw c.in-Err-NotThin.field-0-is at c.in-Err-NotThin.ensures)

pub returns-in-Ok-clause-method : goal.returns-in-Ok-clause-method
returns-in-Ok-clause-method c = method_is_thin c.args.bytes.now (view c.in-Ok.method) (λ i. omega (arith, c.type_inv.bytes i)) c.in-Ok.ensures
