use Rattle.ms_session.specs.Outside.{shelf_side}
use Rattle.ms_memoise.specs.Conversations.{outside}
use Rattle.ms_memoise.proofs.Standing.{Stands}
use Rattle.ms_memoise.proofs.conversation.converse.Given as goal

-- all lines that the bytes so far end were done, and none of them is a quit
abbrev pub invariant-loop-left : goal.invariant-loop-left
invariant-loop-left g l =
    Stands l.limit l.left l.line.items l.session
    (outside (g.S.Source.left l.initial.source) (g.S.Source.faults l.initial.source) (shelf_side (g.F.Shelf.files l.initial.shelf) (g.F.Shelf.counts l.initial.shelf) (g.F.Shelf.asked l.initial.shelf)) (g.K.Sink.taken l.initial.sink) (g.K.Sink.faults l.initial.sink))
    (outside (g.S.Source.left l.source) (g.S.Source.faults l.source) (shelf_side (g.F.Shelf.files l.shelf) (g.F.Shelf.counts l.shelf) (g.F.Shelf.asked l.shelf)) (g.K.Sink.taken l.sink) (g.K.Sink.faults l.sink))

abbrev pub decreases-loop-left : goal.decreases-loop-left
decreases-loop-left g l = l.left
