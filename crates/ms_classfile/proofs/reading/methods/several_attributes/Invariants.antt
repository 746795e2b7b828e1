use Rattle.std.proofs.Common.{◌-◌, None, option_map}
use Rattle.ms_classfile.specs.ClassFile.{method_attribute}
use Rattle.ms_classfile.specs.ClassViews.{code_view}
use Rattle.ms_pool.specs.Formats.{repeated}
use Rattle.ms_pool.specs.Loops.{IsReading}
use Rattle.ms_classfile.proofs.reading.methods.several_attributes.Given as goal

abbrev pub invariant-loop : goal.invariant-loop
invariant-loop l = IsReading (method_attribute l.pool) (option_map code_view l.known) (l.count - l.counter) l.cursor ((repeated l.count (method_attribute l.pool) None).read l.fn.cursor)
