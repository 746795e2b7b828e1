use Rattle.std.proofs.Common.{◌≡◌, map, take}
use Rattle.ms_words.specs.Items.{firsts}
use Rattle.ms_symexec.specs.Keys.{key}
use Rattle.ms_symexec.proofs.footprints.footprint_of.Given as goal

abbrev pub invariant-loop-place : goal.invariant-loop-place
invariant-loop-place l = record {
  footprint : l.footprint ≡ firsts (take l.place l.trace);
  keys : l.seen.keys ≡ map key l.footprint;
}
