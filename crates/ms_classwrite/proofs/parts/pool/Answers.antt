use Rattle.std.proofs.Common.{ℕ, ◌+◌, ◌++◌, length, map, ap, ◌∙◌}
use Rattle.std.specs.List.{flat_map}
use Rattle.ms_pool.specs.Pools.{spelled_entry, spelled_pool, u2}
use Rattle.ms_classwrite.specs.declared.lines.Line.{Line}
use Rattle.ms_classwrite.specs.Lines.{line_view}
use Rattle.ms_classwrite.specs.Plans.{entry_of}
use Rattle.ms_classwrite.proofs.Written.{pool_is, written}
use Rattle.ms_classwrite.proofs.parts.pool.Goals as goal

pub returns : goal.returns
returns c =
    let keys = c.all.result.now in
    let lines = c.args.lines.now in
    let entries = flat_map (λ (line : Line). spelled_entry (entry_of (line_view line))) keys in
    written c.entries.result c.args.out.now c.u2.new.self c.entries.new.out (u2 (length lines + 1)) entries (spelled_pool (map entry_of lines))
    c.entries.ensures (c.in_ok-u2.ensures.ok ∙ ap (λ (n : ℕ). c.args.out.now ++ u2 (n + 1)) c.len.ensures) (pool_is keys lines c.all.ensures)
