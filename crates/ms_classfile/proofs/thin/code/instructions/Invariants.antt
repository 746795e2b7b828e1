use Rattle.std.proofs.Common.{length}
use Rattle.ms_classfile.proofs.Decoding.{IsReading}
use Rattle.ms_classfile.proofs.thin.code.instructions.Given as goal

abbrev pub invariant-loop-cursor : goal.invariant-loop-cursor
invariant-loop-cursor l = IsReading l.code l.instructions.items l.cursor

abbrev pub decreases-loop-cursor : goal.decreases-loop-cursor
decreases-loop-cursor l = length l.cursor.left
