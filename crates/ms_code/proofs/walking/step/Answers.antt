use Rattle.std.proofs.Common.{arith}
use Rattle.ms_code.proofs.Walks.{instruction_goes}
use Rattle.ms_code.proofs.walking.step.Goals as goal

pub overflow_cast-next : goal.overflow_cast-next
overflow_cast-next c =
    let goes = instruction_goes c.args.pool.now _ _ c.args.cursor.now c.in_ok-instr.instr c.instruction.new.cursor c.in_ok-instr.ensures in
    record { fits = omega (arith, goes.whole, goes.on, c.requires.short, c.at-next.ensures) }
