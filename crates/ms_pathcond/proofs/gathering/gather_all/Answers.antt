use Rattle.ms_pathcond.proofs.Rounds.{sound_at_first}
use Rattle.ms_pathcond.proofs.gathering.gather_all.Goals as goal

pub rounds-init : goal.rounds-init
rounds-init c = sound_at_first c.args.supports.now c.args.first
