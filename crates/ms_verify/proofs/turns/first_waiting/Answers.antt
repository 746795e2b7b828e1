use Rattle.std.proofs.Common.{ap, sym, ◌∙◌}
use Rattle.ms_verify.specs.Told.{waiting}
use Rattle.ms_verify.proofs.Finding.{waits_here, waits_later}
use Rattle.ms_verify.proofs.turns.first_waiting.Goals as goal

pub returns-then-is_waiting : goal.returns-then-is_waiting
returns-then-is_waiting c =
    waits_here c.args.slots.now c.loop-i.i c.index-slots-i.result c.loop-i.invariant c.loop-i-test.true (sym c.if-is_waiting.true ∙ (c.is_waiting.ensures ∙ ap waiting c.index-slots-i.is))

pub loop-i-preserved : goal.loop-i-preserved
loop-i-preserved c = waits_later c.args.slots.now c.loop-i.i c.index-slots-i.result c.loop-i.invariant (sym c.if-is_waiting.false ∙ (c.is_waiting.ensures ∙ ap waiting c.index-slots-i.is))
