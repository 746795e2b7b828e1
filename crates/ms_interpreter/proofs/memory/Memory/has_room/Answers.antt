use Rattle.std.proofs.Common.{ℕ, ◌+◌, ◌<◌, ◌≤◌, sym, ap, subst, ◌∙◌, arith}
use Rattle.ms_machine.specs.Values.{cells_of}
use Rattle.ms_interpreter.specs.Frames.{Shared}
use Rattle.ms_interpreter.proofs.Room.{room_is, too_long, too_many}
use Rattle.ms_interpreter.proofs.memory.Memory.has_room.Goals as goal

pub returns-then-size-gt-GREATEST_LENGTH : goal.returns-then-size-gt-GREATEST_LENGTH
returns-then-size-gt-GREATEST_LENGTH g c = sym (too_long c.args.self.now c.args.size c.if-size-gt-GREATEST_LENGTH.true)

pub returns-then-cells-size-gt-MOST_CELLS : goal.returns-then-cells-size-gt-MOST_CELLS
returns-then-cells-size-gt-MOST_CELLS g c =
    let cells = c.cells.ensures.cells ∙ ap (λ (shared : Shared _). cells_of shared.arrays) c.self.view_is in
    sym (too_many c.args.self.now c.args.size (omega (arith, c.if-size-gt-GREATEST_LENGTH.false)) (subst (λ (n : ℕ). 4096 < n + c.args.size) cells c.if-cells-size-gt-MOST_CELLS.true))

pub returns : goal.returns
returns g c =
    let cells = c.cells.ensures.cells ∙ ap (λ (shared : Shared _). cells_of shared.arrays) c.self.view_is in
    c.may_make.ensures ∙ sym (room_is c.args.self.now c.args.size (omega (arith, c.if-size-gt-GREATEST_LENGTH.false)) (subst (λ (n : ℕ). n + c.args.size ≤ 4096) cells (omega (arith, c.if-cells-size-gt-MOST_CELLS.false))))
