use Rattle.ms_linking.proofs.Opcodes.{opcodes_have_groups}
use Rattle.ms_linking.proofs.laws.opcodes_have_groups.Goals as goal

pub returns : goal.returns
returns c = opcodes_have_groups
