use Rattle.std.proofs.Common.{length}
use Rattle.ms_typing.specs.Kinds.{lineage}
use Rattle.ms_verify.proofs.kinds.+common.Given as goal

-- how many classes stand above it, itself included
abbrev pub decreases-common : goal.decreases-common
decreases-common l = length (lineage l.class)
