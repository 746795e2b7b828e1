use Rattle.ms_typing.proofs.Lasting.{never_stuck}
use Rattle.ms_typing.proofs.laws.verified_programs_are_never_stuck.Goals as goal

pub returns : goal.returns
returns c = never_stuck c.words_take_an_arm.ensures
