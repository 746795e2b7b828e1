use Rattle.std.proofs.Common.{◌≡◌, map, sym, ap, ◌∙◌}
use Rattle.ms_classfile.specs.Found.{view}
use Rattle.ms_jvm.specs.Programs.{program_of}
use Rattle.ms_session.specs.Growing.{node_of, node_view}
use Rattle.ms_session.specs.Paths.{tree}
use Rattle.ms_session.specs.Walking.{any_open, rows_of}
use Rattle.ms_session.proofs.Entries.{method_ends, method_plain, nodes_are}
use Rattle.ms_session.proofs.Settling.{rows_are, unfinished_is}
use Rattle.ms_session.proofs.entry.report_entry.Goals as goal

pub returns-then-is_unfinished : goal.returns-then-is_unfinished
returns-then-is_unfinished c =
    let P = program_of (view c.args.method.now) in
    let nodes : map node_view c.in_ok-nodes.nodes.items ≡ map (node_of P c.args.depth) (tree P c.args.depth) =
    nodes_are (view c.args.method.now) c.args.depth c.as_slice.result.now (map node_view c.in_ok-nodes.nodes.items) c.thin_methods_end.ensures.arms c.requires.thin c.in_ok-nodes.ensures (c.as_slice.ensures.value ∙ c.in_ok-runs.ensures) in
    sym (c.is_unfinished.ensures ∙ ap (λ l. any_open c.args.known.now (map node_view l)) c.as_slice-2.ensures.value ∙ ap (any_open c.args.known.now) nodes ∙ unfinished_is P c.args.depth c.args.known.now)
    ∙ c.if-is_unfinished.true

pub returns : goal.returns
returns c =
    let P = program_of (view c.args.method.now) in
    let nodes : map node_view c.in_ok-nodes.nodes.items ≡ map (node_of P c.args.depth) (tree P c.args.depth) =
    nodes_are (view c.args.method.now) c.args.depth c.as_slice.result.now (map node_view c.in_ok-nodes.nodes.items) c.thin_methods_end.ensures.arms c.requires.thin c.in_ok-nodes.ensures (c.as_slice.ensures.value ∙ c.in_ok-runs.ensures) in (
      sym (c.is_unfinished.ensures ∙ ap (λ l. any_open c.args.known.now (map node_view l)) c.as_slice-2.ensures.value ∙ ap (any_open c.args.known.now) nodes ∙ unfinished_is P c.args.depth c.args.known.now)
          ∙ c.if-is_unfinished.false,
      c.in_ok-rows.ensures ∙ ap (λ l. rows_of (map node_view l)) c.as_slice-3.ensures.value ∙ ap rows_of nodes
          ∙ rows_are P c.args.depth (method_plain (view c.args.method.now) c.thin_methods_end.ensures.arms c.requires.thin) (method_ends (view c.args.method.now) c.args.depth c.thin_methods_end.ensures.ends c.requires.thin),
    )
