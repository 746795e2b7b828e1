use Rattle.std.proofs.Common.{◌-◌, None}
use Rattle.ms_classfile.specs.ClassFile.{field_attribute}
use Rattle.ms_pool.specs.Formats.{repeated}
use Rattle.ms_pool.specs.Loops.{IsReading}
use Rattle.ms_classfile.proofs.reading.fields.several_attributes.Given as goal

abbrev pub invariant-loop : goal.invariant-loop
invariant-loop l = IsReading (field_attribute l.pool l.gives) l.known (l.count - l.counter) l.cursor ((repeated l.count (field_attribute l.pool l.gives) None).read l.fn.cursor)
