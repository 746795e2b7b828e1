use Rattle.std.proofs.Common.{◌≡◌, drop}
use Rattle.std.specs.List.{list_all}
use Rattle.ms_session.specs.States.{is_boolean}
use Rattle.ms_session.proofs.session.are_boolean.Given as goal

-- those from here on decide
abbrev pub invariant-loop-kind : goal.invariant-loop-kind
invariant-loop-kind l = list_all is_boolean (drop l.kind-index l.kind-items) ≡ list_all is_boolean l.kind-items
