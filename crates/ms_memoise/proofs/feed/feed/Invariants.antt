use Rattle.std.proofs.Common.{take}
use Rattle.ms_session.specs.Outside.{shelf_side, sink_side}
use Rattle.ms_memoise.specs.declared.flow.Flow.TheVariants.{GoesOn}
use Rattle.ms_memoise.specs.Feeding.{Fed}
use Rattle.ms_memoise.proofs.feed.feed.Given as goal

-- the lines that the bytes so far end were done, and none of them is a quit
abbrev pub invariant-loop-byte : goal.invariant-loop-byte
invariant-loop-byte g l =
    Fed GoesOn l.initial.line.items (take l.byte-index l.bytes) l.line.items l.initial.session l.session
    (shelf_side (g.F.Shelf.files l.initial.shelf) (g.F.Shelf.counts l.initial.shelf) (g.F.Shelf.asked l.initial.shelf)) (shelf_side (g.F.Shelf.files l.shelf) (g.F.Shelf.counts l.shelf) (g.F.Shelf.asked l.shelf))
    (sink_side (g.K.Sink.taken l.initial.sink) (g.K.Sink.faults l.initial.sink)) (sink_side (g.K.Sink.taken l.sink) (g.K.Sink.faults l.sink))
