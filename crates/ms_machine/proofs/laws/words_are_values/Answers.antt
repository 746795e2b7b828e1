use Rattle.ms_machine.proofs.Runs.{words_are_values}
use Rattle.ms_machine.proofs.laws.words_are_values.Goals as goal

pub returns : goal.returns
returns c = words_are_values
