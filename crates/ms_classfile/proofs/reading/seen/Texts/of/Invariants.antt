use Rattle.ms_classfile.proofs.Numbering.{IsNumbering}
use Rattle.ms_classfile.proofs.reading.seen.Texts.of.Given as goal

abbrev pub invariant-loop-i : goal.invariant-loop-i
invariant-loop-i l = IsNumbering l.pool l.texts.keys l.numbers.items l.i
