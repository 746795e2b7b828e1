use Rattle.std.proofs.Common.{◌≤◌, drop}
use Rattle.ms_words.proofs.Descriptors.{IsCounted}
use Rattle.ms_words.proofs.descriptor.parameters.Given as goal

-- what was counted and what is left are the parameters, and each of those has a letter
abbrev pub invariant-loop-at : goal.invariant-loop-at
invariant-loop-at l = record {
  counted : IsCounted l.text l.count l.in_array (drop l.at l.text);
  few : l.count ≤ l.at;
}
