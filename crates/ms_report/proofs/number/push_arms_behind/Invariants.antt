use Rattle.std.proofs.Common.{◌≡◌, ◌++◌, take, codes}
use Rattle.std.specs.Fmt.{decimal}
use Rattle.std.specs.List.{flat_map}
use Rattle.ms_report.proofs.number.push_arms_behind.Given as goal

-- the arms so far
abbrev pub invariant-loop-arm : goal.invariant-loop-arm
invariant-loop-arm l = l.text.items ≡ l.fn.text.items ++ flat_map (λ arm. codes "." ++ decimal arm) (take l.arm-index l.arms)
