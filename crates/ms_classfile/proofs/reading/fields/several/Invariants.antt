use Rattle.std.proofs.Common.{◌-◌, [], map}
use Rattle.ms_classfile.specs.ClassFile.{field, field_key}
use Rattle.ms_classfile.specs.ClassViews.{field_view}
use Rattle.ms_classfile.specs.Seen.{AreKeysOf}
use Rattle.ms_pool.specs.Formats.{added, repeated}
use Rattle.ms_pool.specs.Loops.{IsReading}
use Rattle.ms_classfile.proofs.reading.fields.several.Given as goal

abbrev pub invariant-loop : goal.invariant-loop
invariant-loop l =
    IsReading (added (field l.pool)) (map field_view l.rows.items) (l.count - l.counter) l.cursor ((repeated l.count (added (field l.pool)) []).read l.fn.cursor)
    × AreKeysOf l.pool l.texts l.keys (map field_key (map field_view l.rows.items))
