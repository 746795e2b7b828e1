use Rattle.std.proofs.Common.{◌-◌, []}
use Rattle.ms_classfile.specs.ClassFile.{handler}
use Rattle.ms_classfile.specs.ClassFinds.{short_of}
use Rattle.ms_pool.specs.Formats.{added, repeated}
use Rattle.ms_pool.specs.Loops.{IsReading}
use Rattle.ms_classfile.proofs.reading.code.handlers.Given as goal

abbrev pub invariant-loop : goal.invariant-loop
invariant-loop l = IsReading (added (λ before. handler (short_of l.inside) l.pool)) l.rows.items (l.count - l.counter) l.cursor ((repeated l.count (added (λ before. handler (short_of l.inside) l.pool)) []).read l.fn.cursor)
