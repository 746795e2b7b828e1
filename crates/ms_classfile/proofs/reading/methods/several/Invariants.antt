use Rattle.std.proofs.Common.{◌-◌, [], map}
use Rattle.ms_classfile.specs.ClassFile.{method, method_key}
use Rattle.ms_classfile.specs.ClassViews.{method_view}
use Rattle.ms_classfile.specs.Seen.{AreKeysOf}
use Rattle.ms_pool.specs.Formats.{added, repeated}
use Rattle.ms_pool.specs.Loops.{IsReading}
use Rattle.ms_classfile.proofs.reading.methods.several.Given as goal

abbrev pub invariant-loop : goal.invariant-loop
invariant-loop l =
    IsReading (added (method l.pool)) (map method_view l.rows.items) (l.count - l.counter) l.cursor ((repeated l.count (added (method l.pool)) []).read l.fn.cursor)
    × AreKeysOf l.pool l.texts l.keys (map method_key (map method_view l.rows.items))
