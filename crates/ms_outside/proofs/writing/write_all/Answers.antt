use Rattle.std.proofs.Common.{arith}
use Rattle.ms_outside.proofs.Parts.{part_more}
use Rattle.ms_outside.proofs.writing.write_all.Goals as goal

pub returns-in_err-count-clause-part : goal.returns-in_err-count-clause-part
returns-in_err-count-clause-part g c =
    grind (arith, part_more _ _ _ _ _ c.loop-at.invariant.written c.in_err-count.ensures.bytes)
