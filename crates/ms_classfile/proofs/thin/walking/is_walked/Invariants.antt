use Rattle.std.proofs.Common.{◌≡◌, ◌≤◌, drop}
use Rattle.ms_classfile.specs.Instructions.{is_walked}
use Rattle.ms_classfile.proofs.thin.walking.is_walked.Given as goal

abbrev pub invariant-loop-at : goal.invariant-loop-at
invariant-loop-at l = record {
  low : l.depth ≤ l.at;
  walks : is_walked l.parameters l.most l.depth (drop l.at l.code) ≡ is_walked l.parameters l.most 0 l.code;
}
