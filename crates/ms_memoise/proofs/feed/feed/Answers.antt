use Rattle.std.proofs.lemmas.Result.{err_from_is_err_and}
use Rattle.ms_session.specs.Outside.{shelf_side, sink_side}
use Rattle.ms_memoise.specs.declared.flow.Flow.TheVariants.{GoesOn}
use Rattle.ms_memoise.proofs.Fed.{broke_one_more, fed_one_more, quits_one_more}
use Rattle.ms_memoise.proofs.feed.feed.Goals as goal

pub returns-in_err-accept : goal.returns-in_err-accept
returns-in_err-accept g c =
    let p = err_from_is_err_and c.from_residual.result c.from_residual.ensures.1 in
    rw (p.1, p.2) (broke_one_more _ c.args.line.now.items c.loop-byte.line.items c.args.bytes.now c.loop-byte.byte-index c.args.session.now c.loop-byte.session (shelf_side (g.F.Shelf.files c.args.shelf.now) (g.F.Shelf.counts c.args.shelf.now) (g.F.Shelf.asked c.args.shelf.now)) (shelf_side (g.F.Shelf.files c.loop-byte.shelf) (g.F.Shelf.counts c.loop-byte.shelf) (g.F.Shelf.asked c.loop-byte.shelf)) (shelf_side (g.F.Shelf.files c.accept.new.shelf) (g.F.Shelf.counts c.accept.new.shelf) (g.F.Shelf.asked c.accept.new.shelf)) (sink_side (g.K.Sink.taken c.args.sink.now) (g.K.Sink.faults c.args.sink.now)) (sink_side (g.K.Sink.taken c.loop-byte.sink) (g.K.Sink.faults c.loop-byte.sink)) (sink_side (g.K.Sink.taken c.accept.new.sink) (g.K.Sink.faults c.accept.new.sink)) c.loop-byte-test.true c.loop-byte.invariant c.in_err-accept.ensures)

pub returns-in-Quits : goal.returns-in-Quits
returns-in-Quits g c =
    quits_one_more c.args.line.now.items c.loop-byte.line.items c.accept.new.line.items _ c.args.bytes.now c.loop-byte.byte-index c.args.session.now c.loop-byte.session c.accept.new.session (shelf_side (g.F.Shelf.files c.args.shelf.now) (g.F.Shelf.counts c.args.shelf.now) (g.F.Shelf.asked c.args.shelf.now)) (shelf_side (g.F.Shelf.files c.loop-byte.shelf) (g.F.Shelf.counts c.loop-byte.shelf) (g.F.Shelf.asked c.loop-byte.shelf)) (shelf_side (g.F.Shelf.files c.accept.new.shelf) (g.F.Shelf.counts c.accept.new.shelf) (g.F.Shelf.asked c.accept.new.shelf)) (sink_side (g.K.Sink.taken c.args.sink.now) (g.K.Sink.faults c.args.sink.now)) (sink_side (g.K.Sink.taken c.loop-byte.sink) (g.K.Sink.faults c.loop-byte.sink)) (sink_side (g.K.Sink.taken c.accept.new.sink) (g.K.Sink.faults c.accept.new.sink)) c.loop-byte-test.true c.loop-byte.invariant (rw c.in-Quits.is at c.in_ok-accept.ensures)

pub loop-byte-preserved : goal.loop-byte-preserved
loop-byte-preserved g c =
    fed_one_more GoesOn c.args.line.now.items c.loop-byte.line.items c.accept.new.line.items c.args.bytes.now c.loop-byte.byte-index c.args.session.now c.loop-byte.session c.accept.new.session (shelf_side (g.F.Shelf.files c.args.shelf.now) (g.F.Shelf.counts c.args.shelf.now) (g.F.Shelf.asked c.args.shelf.now)) (shelf_side (g.F.Shelf.files c.loop-byte.shelf) (g.F.Shelf.counts c.loop-byte.shelf) (g.F.Shelf.asked c.loop-byte.shelf)) (shelf_side (g.F.Shelf.files c.accept.new.shelf) (g.F.Shelf.counts c.accept.new.shelf) (g.F.Shelf.asked c.accept.new.shelf)) (sink_side (g.K.Sink.taken c.args.sink.now) (g.K.Sink.faults c.args.sink.now)) (sink_side (g.K.Sink.taken c.loop-byte.sink) (g.K.Sink.faults c.loop-byte.sink)) (sink_side (g.K.Sink.taken c.accept.new.sink) (g.K.Sink.faults c.accept.new.sink)) c.loop-byte-test.true c.loop-byte.invariant (rw c.in-GoesOn.is at c.in_ok-accept.ensures)
