use Rattle.std.proofs.Common.{◌≡◌, ◌≤◌, ◌-◌, drop, map}
use Rattle.ms_session.specs.Growing.{node_view}
use Rattle.ms_session.specs.Walking.{after_more, walk}
use Rattle.ms_session.proofs.exploring.explore.Given as goal

-- what was settled so far, and what the rest of the nodes adds to it
abbrev pub invariant-loop-node : goal.invariant-loop-node
invariant-loop-node l = record {
  most : l.settled ≤ l.most;
  fewer : l.asks ≤ l.settled;
  all : after_more l.settled l.asks (walk (l.most - l.settled) l.known (map node_view (drop l.node-index l.nodes))) ≡ walk l.most l.fn.known (map node_view l.nodes);
}
