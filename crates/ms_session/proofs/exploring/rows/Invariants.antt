use Rattle.std.proofs.Common.{◌≡◌, ◌++◌, map, drop}
use Rattle.ms_session.specs.Growing.{node_view}
use Rattle.ms_session.specs.Walking.{rows_of}
use Rattle.ms_session.proofs.exploring.rows.Given as goal

-- the rows so far, and those of the nodes that are left
abbrev pub invariant-loop-node : goal.invariant-loop-node
invariant-loop-node l = l.rows.items ++ rows_of (map node_view (drop l.node-index l.nodes)) ≡ rows_of (map node_view l.nodes)
