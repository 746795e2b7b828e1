use Rattle.std.proofs.Common.{arith, ap, sym, ◌∙◌}
use Rattle.ms_verify.specs.Told.{waiting}
use Rattle.ms_verify.proofs.Leading.{one_rests}
use Rattle.ms_verify.proofs.turns.lower.Goals as goal

pub returns-then-offset-low-clause-rests : goal.returns-then-offset-low-clause-rests
returns-then-offset-low-clause-rests c = λ below. absurd (omega arith)

pub returns-then-is_waiting-clause-rests : goal.returns-then-is_waiting-clause-rests
returns-then-is_waiting-clause-rests c = λ below. absurd (omega arith)

pub returns-clause-rests : goal.returns-clause-rests
returns-clause-rests c = λ below.
    one_rests c.args.slots.now c.args.offset c.index-slots-offset.result (ap waiting (sym c.index-slots-offset.is) ∙ sym c.if-is_waiting.ensures)
