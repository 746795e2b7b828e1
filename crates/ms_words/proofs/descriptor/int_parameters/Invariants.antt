use Rattle.std.proofs.Common.{◌≤◌, drop, length}
use Rattle.ms_words.proofs.EntryParts.{AreRead}
use Rattle.ms_words.proofs.descriptor.int_parameters.Given as goal

-- the kinds so far and those that are left are all, and the kinds so far are at most eight
abbrev pub invariant-loop-at : goal.invariant-loop-at
invariant-loop-at l = record {
  read : AreRead l.text l.kinds (drop l.at l.text);
  few : length l.kinds ≤ 8;
}
