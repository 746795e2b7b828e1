use Rattle.std.proofs.Common.{◌≡◌, ◌++◌, map, take}
use Rattle.ms_session.specs.Growing.{with_one}
use Rattle.ms_session.proofs.runs.double.Given as goal

abbrev pub invariant-loop-i : goal.invariant-loop-i
invariant-loop-i l = l.inputs.items ≡ l.fn.inputs.items ++ map (with_one l.place) (take l.i l.fn.inputs.items)
