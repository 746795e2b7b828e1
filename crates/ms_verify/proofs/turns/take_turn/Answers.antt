use Rattle.std.proofs.Common.{◌<◌, ap, subst, sym, ◌∙◌}
use Rattle.ms_verify.specs.Told.{AllHave, cells_of, line_told, turn_of}
use Rattle.ms_verify.proofs.Finding.{lowest_within}
use Rattle.ms_verify.proofs.Turning.{left_locals, next_locals, passes_on, passes_refused, shape_locals, turn_is}
use Rattle.ms_verify.proofs.turns.take_turn.Goals as goal

pub line-requires-clause-within : goal.line-requires-clause-within
line-requires-clause-within c = subst (λ x. c.args.at < x) c.requires.long (lowest_within c.args.slots.now c.args.at c.requires.lowest)

pub pass_each-requires-clause-sized : goal.pass_each-requires-clause-sized
pass_each-requires-clause-sized c =
    subst (λ x. AllHave x c.settle_at.new.slots) (sym (next_locals c.args.slots.now c.args.at c.args.code.now.max_locals c.in-Some.line.now c.in_ok-shape.shape c.in_ok-next.next c.requires.sized c.in_ok-shape.ensures.copied c.in_ok-next.ensures))
    (c.settle_at.ensures.sized _ c.requires.sized)

pub returns-in_err-offset-clause-sized : goal.returns-in_err-offset-clause-sized
returns-in_err-offset-clause-sized c =
    subst (λ x. AllHave x c.pass_each.new.slots) (next_locals c.args.slots.now c.args.at c.args.code.now.max_locals c.in-Some.line.now c.in_ok-shape.shape c.in_ok-next.next c.requires.sized c.in_ok-shape.ensures.copied c.in_ok-next.ensures) c.pass_each.ensures.sized

pub returns-in-Some-2-clause-sized : goal.returns-in-Some-2-clause-sized
returns-in-Some-2-clause-sized c =
    subst (λ x. AllHave x c.pass_each.new.slots) (next_locals c.args.slots.now c.args.at c.args.code.now.max_locals c.in-Some.line.now c.in_ok-shape.shape c.in_ok-next.next c.requires.sized c.in_ok-shape.ensures.copied c.in_ok-next.ensures) c.pass_each.ensures.sized

pub pass_handlers-requires-clause-sized : goal.pass_handlers-requires-clause-sized
pass_handlers-requires-clause-sized c = subst (λ x. AllHave x c.pass_each.new.slots) (left_locals c.args.at c.in-Some.line.now c.in_ok-shape.shape c.in_ok-next.next c.in_ok-next.ensures) c.pass_each.ensures.sized

pub returns-in_err-offset-2-clause-sized : goal.returns-in_err-offset-2-clause-sized
returns-in_err-offset-2-clause-sized c =
    subst (λ x. AllHave x c.pass_handlers.new.slots) (shape_locals c.args.slots.now c.args.at c.args.code.now.max_locals c.in_ok-shape.shape c.requires.sized c.in_ok-shape.ensures.copied) c.pass_handlers.ensures.sized

pub returns-in-Some-3-clause-sized : goal.returns-in-Some-3-clause-sized
returns-in-Some-3-clause-sized c =
    subst (λ x. AllHave x c.pass_handlers.new.slots) (shape_locals c.args.slots.now c.args.at c.args.code.now.max_locals c.in_ok-shape.shape c.requires.sized c.in_ok-shape.ensures.copied) c.pass_handlers.ensures.sized

pub returns-clause-sized : goal.returns-clause-sized
returns-clause-sized c =
    subst (λ x. AllHave x c.pass_handlers.new.slots) (shape_locals c.args.slots.now c.args.at c.args.code.now.max_locals c.in_ok-shape.shape c.requires.sized c.in_ok-shape.ensures.copied) c.pass_handlers.ensures.sized

pub returns-in-Some-2-clause-turned : goal.returns-in-Some-2-clause-turned
returns-in-Some-2-clause-turned c =
    turn_is c.args.code.now c.args.slots.now c.settle_at.new.slots c.args.at c.in-Some.line.now c.in_ok-shape.shape _ c.in-Some.ensures.line c.in_ok-shape.ensures.copied c.in_ok-shape.ensures.settled
    (sym c.fault_of.ensures ∙ c.in_default-fault_of.is)
    (passes_refused (line_told c.args.code.now.handlers.now c.args.at c.in-Some.line.now) c.args.at c.in_ok-shape.shape c.in_ok-next.next c.deref.result.now (cells_of c.settle_at.new.slots) c.in-Some-2.offset
    c.in_ok-next.ensures (c.deref.ensures.value ∙ c.in-Some.ensures.whole.successors_are c.args.code.now.handlers.now c.args.at)
    (c.in_ok-offset.ensures.passed ∙ ap (λ x. turn_of x (cells_of c.pass_each.new.slots)) c.in-Some-2.is))

pub returns-in-Some-3-clause-turned : goal.returns-in-Some-3-clause-turned
returns-in-Some-3-clause-turned c =
    turn_is c.args.code.now c.args.slots.now c.settle_at.new.slots c.args.at c.in-Some.line.now c.in_ok-shape.shape _ c.in-Some.ensures.line c.in_ok-shape.ensures.copied c.in_ok-shape.ensures.settled
    (sym c.fault_of.ensures ∙ c.in_default-fault_of.is)
    (passes_on (line_told c.args.code.now.handlers.now c.args.at c.in-Some.line.now) c.args.at c.in_ok-shape.shape c.in_ok-next.next c.deref.result.now (cells_of c.settle_at.new.slots) (cells_of c.pass_each.new.slots) _
    c.in_ok-next.ensures (c.deref.ensures.value ∙ c.in-Some.ensures.whole.successors_are c.args.code.now.handlers.now c.args.at)
    (c.in_ok-offset.ensures.passed ∙ ap (λ x. turn_of x (cells_of c.pass_each.new.slots)) c.in_default-2.is)
    (c.in_ok-offset-2.ensures.passed ∙ ap (λ x. turn_of x (cells_of c.pass_handlers.new.slots)) c.in-Some-3.is))

pub returns-clause-turned : goal.returns-clause-turned
returns-clause-turned c =
    turn_is c.args.code.now c.args.slots.now c.settle_at.new.slots c.args.at c.in-Some.line.now c.in_ok-shape.shape _ c.in-Some.ensures.line c.in_ok-shape.ensures.copied c.in_ok-shape.ensures.settled
    (sym c.fault_of.ensures ∙ c.in_default-fault_of.is)
    (passes_on (line_told c.args.code.now.handlers.now c.args.at c.in-Some.line.now) c.args.at c.in_ok-shape.shape c.in_ok-next.next c.deref.result.now (cells_of c.settle_at.new.slots) (cells_of c.pass_each.new.slots) _
    c.in_ok-next.ensures (c.deref.ensures.value ∙ c.in-Some.ensures.whole.successors_are c.args.code.now.handlers.now c.args.at)
    (c.in_ok-offset.ensures.passed ∙ ap (λ x. turn_of x (cells_of c.pass_each.new.slots)) c.in_default-2.is)
    (c.in_ok-offset-2.ensures.passed ∙ ap (λ x. turn_of x (cells_of c.pass_handlers.new.slots)) c.in_default-3.is))
