use Rattle.std.proofs.Common.{◌≡◌, map, take}
use Rattle.ms_typing.specs.Rules.{unset}
use Rattle.ms_verify.proofs.rules.all_unset.Given as goal

-- those so far
abbrev pub invariant-loop-kind : goal.invariant-loop-kind
invariant-loop-kind l = l.left.items ≡ map (unset l.offset) (take l.kind-index l.kinds)
