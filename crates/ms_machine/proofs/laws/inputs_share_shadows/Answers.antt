use Rattle.ms_machine.proofs.Runs.{inputs_share_shadows}
use Rattle.ms_machine.proofs.laws.inputs_share_shadows.Goals as goal

pub returns : goal.returns
returns c = inputs_share_shadows
