use Rattle.ms_program.proofs.Firsts.{first_items}
use Rattle.ms_program.proofs.laws.members_have_first_items.Goals as goal

pub returns : goal.returns
returns c = first_items
