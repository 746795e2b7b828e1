use Rattle.std.proofs.Common.{◌-◌}
use Rattle.ms_classfile.specs.ClassFile.{interface}
use Rattle.ms_pool.specs.Formats.{repeated}
use Rattle.ms_pool.specs.Loops.{IsReading}
use Rattle.ms_classfile.proofs.reading.several_interfaces.Given as goal

abbrev pub invariant-loop : goal.invariant-loop
invariant-loop l = IsReading interface tt (l.count - l.counter) l.cursor ((repeated l.count interface tt).read l.fn.cursor)
