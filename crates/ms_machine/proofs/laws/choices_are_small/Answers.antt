use Rattle.ms_machine.proofs.Bounds.{choices_are_small}
use Rattle.ms_machine.proofs.laws.choices_are_small.Goals as goal

pub returns : goal.returns
returns c = choices_are_small
