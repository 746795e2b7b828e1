use Rattle.std.proofs.Common.{◌≡◌, true, not, take}
use Rattle.std.specs.List.{list_all}
use Rattle.ms_typing.specs.Rules.{is_made_at}
use Rattle.ms_verify.proofs.rules.none_made_at.Given as goal

-- none of those so far was made there
abbrev pub invariant-loop-kind : goal.invariant-loop-kind
invariant-loop-kind l = list_all (λ kind. not (is_made_at l.offset kind)) (take l.kind-index l.stack) ≡ true
