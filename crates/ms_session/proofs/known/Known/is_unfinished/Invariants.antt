use Rattle.std.proofs.Common.{◌≡◌, drop, map}
use Rattle.ms_session.specs.Growing.{node_view}
use Rattle.ms_session.specs.Walking.{any_open}
use Rattle.ms_session.proofs.known.Known.is_unfinished.Given as goal

-- those from here on decide
abbrev pub invariant-loop-node : goal.invariant-loop-node
invariant-loop-node l = any_open l.self (map node_view (drop l.node-index l.nodes)) ≡ any_open l.self (map node_view l.nodes)
