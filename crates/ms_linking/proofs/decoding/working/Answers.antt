use Rattle.std.proofs.Common.{arith}
use Rattle.ms_linking.proofs.Fixed.{IsOther, working_said, others_work_less}
use Rattle.ms_linking.proofs.decoding.working.Goals as goal

pub returns-in_default : goal.returns-in_default
returns-in_default c =
    let other : IsOther c.args.op working_said = search in
    others_work_less c.args.op c.requires (omega (arith, c.ranges.op.fits)) other
