use Rattle.std.proofs.Common.{arith}
use Rattle.ms_linking.proofs.Fixed.{IsOther, moving_said, others_move_less}
use Rattle.ms_linking.proofs.decoding.moving.Goals as goal

pub returns-in_default : goal.returns-in_default
returns-in_default c =
    let other : IsOther c.args.op moving_said = search in
    others_move_less c.args.op c.requires other
