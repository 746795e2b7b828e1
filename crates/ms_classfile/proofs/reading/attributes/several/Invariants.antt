use Rattle.std.proofs.Common.{◌-◌}
use Rattle.ms_classfile.specs.ClassFile.{attribute}
use Rattle.ms_classfile.specs.ClassFinds.{short_of}
use Rattle.ms_pool.specs.Formats.{repeated}
use Rattle.ms_pool.specs.Loops.{IsReading}
use Rattle.ms_classfile.proofs.reading.attributes.several.Given as goal

abbrev pub invariant-loop : goal.invariant-loop
invariant-loop l = IsReading (attribute (short_of l.inside) l.pool) tt (l.count - l.counter) l.cursor ((repeated l.count (attribute (short_of l.inside) l.pool) tt).read l.fn.cursor)
