use Rattle.std.proofs.Common.{◌≡◌, ◌≤◌, drop}
use Rattle.ms_classfile.specs.Instructions.{is_empty_at}
use Rattle.ms_classfile.proofs.thin.walking.is_empty_at.Given as goal

abbrev pub invariant-loop-instruction : goal.invariant-loop-instruction
invariant-loop-instruction l = record {
  low : l.depth ≤ l.instruction-index;
  walks : is_empty_at l.depth l.left (drop l.instruction-index l.code) ≡ is_empty_at 0 l.far l.code;
}
