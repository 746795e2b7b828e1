use Rattle.std.proofs.Common.{◌≡◌, map, ap, ◌∙◌}
use Rattle.ms_classfile.specs.Found.{view}
use Rattle.ms_jvm.specs.Programs.{program_of}
use Rattle.ms_session.specs.Growing.{node_of, node_view}
use Rattle.ms_session.specs.Known.{Explored, explore}
use Rattle.ms_session.specs.Paths.{tree}
use Rattle.ms_session.specs.Walking.{any_open, walk}
use Rattle.ms_session.proofs.Entries.{nodes_are}
use Rattle.ms_session.proofs.Settling.{explored_is, unfinished_is}
use Rattle.ms_session.proofs.entry.explore_entry.Goals as goal

nodes : (c : goal.After-drop-runs-2) → map node_view c.in_ok-nodes.nodes.items ≡ map (node_of (program_of (view c.args.method.now)) c.args.depth) (tree (program_of (view c.args.method.now)) c.args.depth)
nodes c =
    nodes_are (view c.args.method.now) c.args.depth c.as_slice.result.now (map node_view c.in_ok-nodes.nodes.items) c.thin_methods_end.ensures.arms c.requires.thin c.in_ok-nodes.ensures (c.as_slice.ensures.value ∙ c.in_ok-runs.ensures)

walked : (c : goal.After-drop-runs-2) → walk c.args.most c.args.known.now (map node_view c.as_slice-2.result.now) ≡ explore (program_of (view c.args.method.now)) c.args.depth c.args.most c.args.known.now
walked c =
    ap (λ l. walk c.args.most c.args.known.now (map node_view l)) c.as_slice-2.ensures.value ∙ ap (walk c.args.most c.args.known.now) (nodes c)
    ∙ explored_is (program_of (view c.args.method.now)) c.args.depth c.args.most c.args.known.now

pub returns-clause-known : goal.returns-clause-known
returns-clause-known c = c.in_ok-counts.ensures.known ∙ ap (λ (e : Explored). e.known) (walked c)

pub returns-clause-settled : goal.returns-clause-settled
returns-clause-settled c = ap (λ k. k.settled) c.in_ok-counts.ensures.counts ∙ ap (λ (e : Explored). e.settled) (walked c)

pub returns-clause-asks : goal.returns-clause-asks
returns-clause-asks c = ap (λ k. k.asks) c.in_ok-counts.ensures.counts ∙ ap (λ (e : Explored). e.asks) (walked c)

pub returns-clause-how : goal.returns-clause-how
returns-clause-how c =
    c.is_unfinished-unfinished.ensures ∙ ap (λ l. any_open c.explore.new.known (map node_view l)) c.as_slice-3.ensures.value ∙ ap (any_open c.explore.new.known) (nodes c)
    ∙ unfinished_is (program_of (view c.args.method.now)) c.args.depth c.explore.new.known
