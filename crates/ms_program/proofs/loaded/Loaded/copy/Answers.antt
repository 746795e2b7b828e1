use Rattle.std.proofs.Common.{sym}
use Rattle.ms_program.proofs.Loading.{only_copy}
use Rattle.ms_program.proofs.loaded.Loaded.copy.Goals as goal

pub returns : goal.returns
returns c = only_copy c.as_slice.result.now _ c.args.self.now c.again.result c.again.ensures (sym c.as_slice.ensures.value, c.self.invariant) c.self.view_is
