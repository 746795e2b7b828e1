use Rattle.std.proofs.Common.{subst}
use Rattle.ms_session.specs.Outside.{shelf_side}
use Rattle.ms_memoise.specs.Conversations.{Conversation, outside}
use Rattle.ms_memoise.proofs.Telling.{conversation_of_usage, ended, ends_beyond, ends_well, fits, replied}
use Rattle.ms_memoise.proofs.program.memoise.Goals as goal

pub returns-then-not-is_empty-clause-conversation : goal.returns-then-not-is_empty-clause-conversation
returns-then-not-is_empty-clause-conversation g c = conversation_of_usage _ _

pub returns-clause-replies : goal.returns-clause-replies
returns-clause-replies g c = λ is. replied 4294967295
    (outside (g.S.Source.left c.args.source.now) (g.S.Source.faults c.args.source.now) (shelf_side (g.F.Shelf.files c.args.shelf.now) (g.F.Shelf.counts c.args.shelf.now) (g.F.Shelf.asked c.args.shelf.now)) (g.K.Sink.taken c.args.sink.now) (g.K.Sink.faults c.args.sink.now))
    (outside (g.S.Source.left c.converse.new.source) (g.S.Source.faults c.converse.new.source) (shelf_side (g.F.Shelf.files c.converse.new.shelf) (g.F.Shelf.counts c.converse.new.shelf) (g.F.Shelf.asked c.converse.new.shelf)) (g.K.Sink.taken c.converse.new.sink) (g.K.Sink.faults c.converse.new.sink))
    (subst (Conversation 4294967295 (outside (g.S.Source.left c.args.source.now) (g.S.Source.faults c.args.source.now) (shelf_side (g.F.Shelf.files c.args.shelf.now) (g.F.Shelf.counts c.args.shelf.now) (g.F.Shelf.asked c.args.shelf.now)) (g.K.Sink.taken c.args.sink.now) (g.K.Sink.faults c.args.sink.now)) (outside (g.S.Source.left c.converse.new.source) (g.S.Source.faults c.converse.new.source) (shelf_side (g.F.Shelf.files c.converse.new.shelf) (g.F.Shelf.counts c.converse.new.shelf) (g.F.Shelf.asked c.converse.new.shelf)) (g.K.Sink.taken c.converse.new.sink) (g.K.Sink.faults c.converse.new.sink))) is c.converse.ensures.conversation)

pub returns-clause-end : goal.returns-clause-end
returns-clause-end g c = λ is. ended 4294967295
    (outside (g.S.Source.left c.args.source.now) (g.S.Source.faults c.args.source.now) (shelf_side (g.F.Shelf.files c.args.shelf.now) (g.F.Shelf.counts c.args.shelf.now) (g.F.Shelf.asked c.args.shelf.now)) (g.K.Sink.taken c.args.sink.now) (g.K.Sink.faults c.args.sink.now))
    (outside (g.S.Source.left c.converse.new.source) (g.S.Source.faults c.converse.new.source) (shelf_side (g.F.Shelf.files c.converse.new.shelf) (g.F.Shelf.counts c.converse.new.shelf) (g.F.Shelf.asked c.converse.new.shelf)) (g.K.Sink.taken c.converse.new.sink) (g.K.Sink.faults c.converse.new.sink))
    (subst (Conversation 4294967295 (outside (g.S.Source.left c.args.source.now) (g.S.Source.faults c.args.source.now) (shelf_side (g.F.Shelf.files c.args.shelf.now) (g.F.Shelf.counts c.args.shelf.now) (g.F.Shelf.asked c.args.shelf.now)) (g.K.Sink.taken c.args.sink.now) (g.K.Sink.faults c.args.sink.now)) (outside (g.S.Source.left c.converse.new.source) (g.S.Source.faults c.converse.new.source) (shelf_side (g.F.Shelf.files c.converse.new.shelf) (g.F.Shelf.counts c.converse.new.shelf) (g.F.Shelf.asked c.converse.new.shelf)) (g.K.Sink.taken c.converse.new.sink) (g.K.Sink.faults c.converse.new.sink))) is c.converse.ensures.conversation)

pub returns-clause-enough : goal.returns-clause-enough
returns-clause-enough g c = λ is. fits 4294967295
    (outside (g.S.Source.left c.args.source.now) (g.S.Source.faults c.args.source.now) (shelf_side (g.F.Shelf.files c.args.shelf.now) (g.F.Shelf.counts c.args.shelf.now) (g.F.Shelf.asked c.args.shelf.now)) (g.K.Sink.taken c.args.sink.now) (g.K.Sink.faults c.args.sink.now))
    (outside (g.S.Source.left c.converse.new.source) (g.S.Source.faults c.converse.new.source) (shelf_side (g.F.Shelf.files c.converse.new.shelf) (g.F.Shelf.counts c.converse.new.shelf) (g.F.Shelf.asked c.converse.new.shelf)) (g.K.Sink.taken c.converse.new.sink) (g.K.Sink.faults c.converse.new.sink))
    (subst (Conversation 4294967295 (outside (g.S.Source.left c.args.source.now) (g.S.Source.faults c.args.source.now) (shelf_side (g.F.Shelf.files c.args.shelf.now) (g.F.Shelf.counts c.args.shelf.now) (g.F.Shelf.asked c.args.shelf.now)) (g.K.Sink.taken c.args.sink.now) (g.K.Sink.faults c.args.sink.now)) (outside (g.S.Source.left c.converse.new.source) (g.S.Source.faults c.converse.new.source) (shelf_side (g.F.Shelf.files c.converse.new.shelf) (g.F.Shelf.counts c.converse.new.shelf) (g.F.Shelf.asked c.converse.new.shelf)) (g.K.Sink.taken c.converse.new.sink) (g.K.Sink.faults c.converse.new.sink))) is c.converse.ensures.conversation)

pub returns-clause-complete : goal.returns-clause-complete
returns-clause-complete g c = λ none short. ends_well 4294967295 c.converse.result
    (outside (g.S.Source.left c.args.source.now) (g.S.Source.faults c.args.source.now) (shelf_side (g.F.Shelf.files c.args.shelf.now) (g.F.Shelf.counts c.args.shelf.now) (g.F.Shelf.asked c.args.shelf.now)) (g.K.Sink.taken c.args.sink.now) (g.K.Sink.faults c.args.sink.now))
    (outside (g.S.Source.left c.converse.new.source) (g.S.Source.faults c.converse.new.source) (shelf_side (g.F.Shelf.files c.converse.new.shelf) (g.F.Shelf.counts c.converse.new.shelf) (g.F.Shelf.asked c.converse.new.shelf)) (g.K.Sink.taken c.converse.new.sink) (g.K.Sink.faults c.converse.new.sink))
    c.converse.ensures.conversation c.converse.ensures.words short

pub returns-clause-beyond : goal.returns-clause-beyond
returns-clause-beyond g c = λ none long. ends_beyond 4294967295 c.converse.result
    (outside (g.S.Source.left c.args.source.now) (g.S.Source.faults c.args.source.now) (shelf_side (g.F.Shelf.files c.args.shelf.now) (g.F.Shelf.counts c.args.shelf.now) (g.F.Shelf.asked c.args.shelf.now)) (g.K.Sink.taken c.args.sink.now) (g.K.Sink.faults c.args.sink.now))
    (outside (g.S.Source.left c.converse.new.source) (g.S.Source.faults c.converse.new.source) (shelf_side (g.F.Shelf.files c.converse.new.shelf) (g.F.Shelf.counts c.converse.new.shelf) (g.F.Shelf.asked c.converse.new.shelf)) (g.K.Sink.taken c.converse.new.sink) (g.K.Sink.faults c.converse.new.sink))
    c.converse.ensures.conversation c.converse.ensures.words long
