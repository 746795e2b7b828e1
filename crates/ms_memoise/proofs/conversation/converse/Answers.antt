use Rattle.std.proofs.Common.{refl, sym, subst, arith, ◌≡◌}
use Rattle.ms_session.specs.Outside.{shelf_side}
use Rattle.ms_memoise.specs.Conversations.{outside}
use Rattle.ms_memoise.proofs.Standing.{Stands, stands_after, stands_ended, stands_first}
use Rattle.ms_memoise.proofs.Ending.{finished, limit_reached, turn_broke, turn_quit}
use Rattle.ms_memoise.proofs.conversation.converse.Goals as goal

pub loop-left-init : goal.loop-left-init
loop-left-init g c = stands_first _ _ _ (outside (g.S.Source.left c.args.source.now) (g.S.Source.faults c.args.source.now) (shelf_side (g.F.Shelf.files c.args.shelf.now) (g.F.Shelf.counts c.args.shelf.now) (g.F.Shelf.asked c.args.shelf.now)) (g.K.Sink.taken c.args.sink.now) (g.K.Sink.faults c.args.sink.now)) c.new-line.ensures.items c.new-session.ensures

pub returns-in-Err-clause-conversation : goal.returns-in-Err-clause-conversation
returns-in-Err-clause-conversation g c =
    turn_broke c.args.limit c.loop-left.left c.in-Err.status c.loop-left.line.items c.loop-left.session
    (outside (g.S.Source.left c.args.source.now) (g.S.Source.faults c.args.source.now) (shelf_side (g.F.Shelf.files c.args.shelf.now) (g.F.Shelf.counts c.args.shelf.now) (g.F.Shelf.asked c.args.shelf.now)) (g.K.Sink.taken c.args.sink.now) (g.K.Sink.faults c.args.sink.now))
    (outside (g.S.Source.left c.loop-left.source) (g.S.Source.faults c.loop-left.source) (shelf_side (g.F.Shelf.files c.loop-left.shelf) (g.F.Shelf.counts c.loop-left.shelf) (g.F.Shelf.asked c.loop-left.shelf)) (g.K.Sink.taken c.loop-left.sink) (g.K.Sink.faults c.loop-left.sink))
    (outside (g.S.Source.left c.take_turn.new.source) (g.S.Source.faults c.take_turn.new.source) (shelf_side (g.F.Shelf.files c.take_turn.new.shelf) (g.F.Shelf.counts c.take_turn.new.shelf) (g.F.Shelf.asked c.take_turn.new.shelf)) (g.K.Sink.taken c.take_turn.new.sink) (g.K.Sink.faults c.take_turn.new.sink))
    c.loop-left.invariant c.in-Err.ensures

pub returns-in-Ok-Ended-clause-conversation : goal.returns-in-Ok-Ended-clause-conversation
returns-in-Ok-Ended-clause-conversation g c =
    let before = outside (g.S.Source.left c.args.source.now) (g.S.Source.faults c.args.source.now) (shelf_side (g.F.Shelf.files c.args.shelf.now) (g.F.Shelf.counts c.args.shelf.now) (g.F.Shelf.asked c.args.shelf.now)) (g.K.Sink.taken c.args.sink.now) (g.K.Sink.faults c.args.sink.now) in
    let loop = outside (g.S.Source.left c.loop-left.source) (g.S.Source.faults c.loop-left.source) (shelf_side (g.F.Shelf.files c.loop-left.shelf) (g.F.Shelf.counts c.loop-left.shelf) (g.F.Shelf.asked c.loop-left.shelf)) (g.K.Sink.taken c.loop-left.sink) (g.K.Sink.faults c.loop-left.sink) in
    let turn = outside (g.S.Source.left c.take_turn.new.source) (g.S.Source.faults c.take_turn.new.source) (shelf_side (g.F.Shelf.files c.take_turn.new.shelf) (g.F.Shelf.counts c.take_turn.new.shelf) (g.F.Shelf.asked c.take_turn.new.shelf)) (g.K.Sink.taken c.take_turn.new.sink) (g.K.Sink.faults c.take_turn.new.sink) in
    let turned = rw c.in-Ok-Ended.field-0-is at c.in-Ok-Ended.ensures in
    let stands = stands_ended c.args.limit c.loop-left.left c.loop-left.line.items c.take_turn.new.line.items c.loop-left.session c.take_turn.new.session before loop turn c.loop-left.invariant turned in
    let stands_so = subst (λ kept. Stands c.args.limit c.loop-left.left kept c.take_turn.new.session before turn) (sym c.as_slice.ensures.value) stands in
    finished c.args.limit c.loop-left.left c.finish.result c.as_slice.result.now c.take_turn.new.session c.finish.new.session before turn
    (outside (g.S.Source.left c.take_turn.new.source) (g.S.Source.faults c.take_turn.new.source) (shelf_side (g.F.Shelf.files c.finish.new.shelf) (g.F.Shelf.counts c.finish.new.shelf) (g.F.Shelf.asked c.finish.new.shelf)) (g.K.Sink.taken c.finish.new.sink) (g.K.Sink.faults c.finish.new.sink))
    stands_so refl turned.comes.1 c.finish.ensures

pub returns-in-Ok-Quits-clause-conversation : goal.returns-in-Ok-Quits-clause-conversation
returns-in-Ok-Quits-clause-conversation g c =
    turn_quit c.args.limit c.loop-left.left c.loop-left.line.items c.take_turn.new.line.items c.loop-left.session c.take_turn.new.session
    (outside (g.S.Source.left c.args.source.now) (g.S.Source.faults c.args.source.now) (shelf_side (g.F.Shelf.files c.args.shelf.now) (g.F.Shelf.counts c.args.shelf.now) (g.F.Shelf.asked c.args.shelf.now)) (g.K.Sink.taken c.args.sink.now) (g.K.Sink.faults c.args.sink.now))
    (outside (g.S.Source.left c.loop-left.source) (g.S.Source.faults c.loop-left.source) (shelf_side (g.F.Shelf.files c.loop-left.shelf) (g.F.Shelf.counts c.loop-left.shelf) (g.F.Shelf.asked c.loop-left.shelf)) (g.K.Sink.taken c.loop-left.sink) (g.K.Sink.faults c.loop-left.sink))
    (outside (g.S.Source.left c.take_turn.new.source) (g.S.Source.faults c.take_turn.new.source) (shelf_side (g.F.Shelf.files c.take_turn.new.shelf) (g.F.Shelf.counts c.take_turn.new.shelf) (g.F.Shelf.asked c.take_turn.new.shelf)) (g.K.Sink.taken c.take_turn.new.sink) (g.K.Sink.faults c.take_turn.new.sink))
    c.loop-left.invariant (rw c.in-Ok-Quits.field-0-is at c.in-Ok-Quits.ensures)

pub loop-left-preserved : goal.loop-left-preserved
loop-left-preserved g c =
    stands_after c.args.limit c.loop-left.left _ c.loop-left.line.items c.take_turn.new.line.items c.loop-left.session c.take_turn.new.session
    (outside (g.S.Source.left c.args.source.now) (g.S.Source.faults c.args.source.now) (shelf_side (g.F.Shelf.files c.args.shelf.now) (g.F.Shelf.counts c.args.shelf.now) (g.F.Shelf.asked c.args.shelf.now)) (g.K.Sink.taken c.args.sink.now) (g.K.Sink.faults c.args.sink.now))
    (outside (g.S.Source.left c.loop-left.source) (g.S.Source.faults c.loop-left.source) (shelf_side (g.F.Shelf.files c.loop-left.shelf) (g.F.Shelf.counts c.loop-left.shelf) (g.F.Shelf.asked c.loop-left.shelf)) (g.K.Sink.taken c.loop-left.sink) (g.K.Sink.faults c.loop-left.sink))
    (outside (g.S.Source.left c.take_turn.new.source) (g.S.Source.faults c.take_turn.new.source) (shelf_side (g.F.Shelf.files c.take_turn.new.shelf) (g.F.Shelf.counts c.take_turn.new.shelf) (g.F.Shelf.asked c.take_turn.new.shelf)) (g.K.Sink.taken c.take_turn.new.sink) (g.K.Sink.faults c.take_turn.new.sink))
    c.loop-left.invariant (rw c.in-Ok-GoesOn.field-0-is at c.in-Ok-GoesOn.ensures)

pub returns-clause-conversation : goal.returns-clause-conversation
returns-clause-conversation g c =
    let none : c.loop-left.left ≡ 0 = omega arith in
    let before = outside (g.S.Source.left c.args.source.now) (g.S.Source.faults c.args.source.now) (shelf_side (g.F.Shelf.files c.args.shelf.now) (g.F.Shelf.counts c.args.shelf.now) (g.F.Shelf.asked c.args.shelf.now)) (g.K.Sink.taken c.args.sink.now) (g.K.Sink.faults c.args.sink.now) in
    let loop = outside (g.S.Source.left c.loop-left.source) (g.S.Source.faults c.loop-left.source) (shelf_side (g.F.Shelf.files c.loop-left.shelf) (g.F.Shelf.counts c.loop-left.shelf) (g.F.Shelf.asked c.loop-left.shelf)) (g.K.Sink.taken c.loop-left.sink) (g.K.Sink.faults c.loop-left.sink) in
    let at_end = subst (λ left. Stands c.args.limit left c.loop-left.line.items c.loop-left.session before loop) none c.loop-left.invariant in
    let stands = subst (λ kept. Stands c.args.limit 0 kept c.loop-left.session before loop) (sym c.as_slice-2.ensures.value) at_end in
    limit_reached c.args.limit c.at_limit.result c.as_slice-2.result.now c.loop-left.session c.at_limit.new.session before loop
    (outside (g.S.Source.left c.at_limit.new.source) (g.S.Source.faults c.at_limit.new.source) (shelf_side (g.F.Shelf.files c.at_limit.new.shelf) (g.F.Shelf.counts c.at_limit.new.shelf) (g.F.Shelf.asked c.at_limit.new.shelf)) (g.K.Sink.taken c.at_limit.new.sink) (g.K.Sink.faults c.at_limit.new.sink))
    stands c.at_limit.ensures
