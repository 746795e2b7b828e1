use Rattle.std.proofs.Common.{◌≡◌, ◌≤◌, length}
use Rattle.ms_session.proofs.Inputs.{padded_inputs}
use Rattle.ms_session.proofs.runs.all_inputs.Given as goal

-- the inputs whose words are 0 up to this place
abbrev pub invariant-loop-place : goal.invariant-loop-place
invariant-loop-place l = record {
  within : l.place ≤ length l.fn.kinds;
  inputs : l.inputs.items ≡ padded_inputs l.fn.kinds l.place;
}

abbrev pub decreases-loop-place : goal.decreases-loop-place
decreases-loop-place l = l.place
