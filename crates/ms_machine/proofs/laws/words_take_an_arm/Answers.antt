use Rattle.ms_machine.proofs.Literals.{words_take_an_arm}
use Rattle.ms_machine.proofs.laws.words_take_an_arm.Goals as goal

pub returns : goal.returns
returns c = words_take_an_arm
