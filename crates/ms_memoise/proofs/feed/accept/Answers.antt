use Rattle.std.proofs.Common.{arith, ap, ◌∙◌}
use Rattle.std.proofs.lemmas.Result.{err_from_is_err_and}
use Rattle.std.specs.Str.Lines.{strip_carriage_return}
use Rattle.ms_session.specs.Outside.{shelf_side, sink_side}
use Rattle.ms_memoise.proofs.Handling.{broke_here}
use Rattle.ms_memoise.proofs.Fed.{broke_line}
use Rattle.ms_memoise.proofs.feed.accept.Goals as goal

pub returns-in_err-keep : goal.returns-in_err-keep
returns-in_err-keep g c =
    let p = err_from_is_err_and c.from_residual.result c.from_residual.ensures.1 in
    rw (p.1, p.2) (broke_here _ c.args.session.now (shelf_side (g.F.Shelf.files c.args.shelf.now) (g.F.Shelf.counts c.args.shelf.now) (g.F.Shelf.asked c.args.shelf.now)) (sink_side (g.K.Sink.taken c.args.sink.now) (g.K.Sink.faults c.args.sink.now)))

pub returns-in_err-flow : goal.returns-in_err-flow
returns-in_err-flow g c =
    let p = err_from_is_err_and c.from_residual-in_err-flow.result c.from_residual-in_err-flow.ensures.1 in
    rw (p.1, p.2) (broke_line _ c.args.line.now.items c.without_carriage_return.result.now c.args.byte c.args.session.now (shelf_side (g.F.Shelf.files c.args.shelf.now) (g.F.Shelf.counts c.args.shelf.now) (g.F.Shelf.asked c.args.shelf.now)) (shelf_side (g.F.Shelf.files c.respond.new.shelf) (g.F.Shelf.counts c.respond.new.shelf) (g.F.Shelf.asked c.respond.new.shelf)) (sink_side (g.K.Sink.taken c.args.sink.now) (g.K.Sink.faults c.args.sink.now)) (sink_side (g.K.Sink.taken c.respond.new.sink) (g.K.Sink.faults c.respond.new.sink)) (omega arith) (c.without_carriage_return.ensures ∙ ap strip_carriage_return c.as_slice.ensures.value) c.in_err-flow.ensures)
