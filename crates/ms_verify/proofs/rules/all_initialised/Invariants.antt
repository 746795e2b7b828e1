use Rattle.std.proofs.Common.{◌≡◌, map, take}
use Rattle.ms_typing.specs.Rules.{initialised}
use Rattle.ms_verify.proofs.rules.all_initialised.Given as goal

-- those so far
abbrev pub invariant-loop-kind : goal.invariant-loop-kind
invariant-loop-kind l = l.left.items ≡ map (initialised l.offset) (take l.kind-index l.kinds)
