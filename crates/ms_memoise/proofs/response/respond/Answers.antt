use Rattle.ms_command.specs.declared.reply.Reply.TheVariants.{NoLine, NoCommand, Range}
use Rattle.ms_session.specs.Outside.{shelf_side, sink_side}
use Rattle.ms_memoise.proofs.Handling.{broke_here}
use Rattle.ms_memoise.proofs.Responding.{ran_or_halted, said_or_hushed}
use Rattle.ms_memoise.proofs.response.respond.Goals as goal

pub returns-in-Ok : goal.returns-in-Ok
returns-in-Ok g c =
    ran_or_halted c.run.result c.args.line.now c.in-Ok.command c.args.session.now c.run.new.session (shelf_side (g.F.Shelf.files c.args.shelf.now) (g.F.Shelf.counts c.args.shelf.now) (g.F.Shelf.asked c.args.shelf.now)) (shelf_side (g.F.Shelf.files c.run.new.shelf) (g.F.Shelf.counts c.run.new.shelf) (g.F.Shelf.asked c.run.new.shelf)) (sink_side (g.K.Sink.taken c.args.sink.now) (g.K.Sink.faults c.args.sink.now)) (sink_side (g.K.Sink.taken c.run.new.sink) (g.K.Sink.faults c.run.new.sink)) c.in-Ok.ensures.command c.run.ensures

pub returns-in-Err-Line : goal.returns-in-Err-Line
returns-in-Err-Line g c =
    said_or_hushed c.say.result c.args.line.now NoLine c.args.session.now (shelf_side (g.F.Shelf.files c.args.shelf.now) (g.F.Shelf.counts c.args.shelf.now) (g.F.Shelf.asked c.args.shelf.now)) (sink_side (g.K.Sink.taken c.args.sink.now) (g.K.Sink.faults c.args.sink.now)) (sink_side (g.K.Sink.taken c.say.new.sink) (g.K.Sink.faults c.say.new.sink)) (rw c.in-Err-Line.field-0-is at c.in-Err-Line.ensures.command) c.say.ensures

pub returns-in-Err-Command : goal.returns-in-Err-Command
returns-in-Err-Command g c =
    said_or_hushed c.say-in-Err-Command.result c.args.line.now NoCommand c.args.session.now (shelf_side (g.F.Shelf.files c.args.shelf.now) (g.F.Shelf.counts c.args.shelf.now) (g.F.Shelf.asked c.args.shelf.now)) (sink_side (g.K.Sink.taken c.args.sink.now) (g.K.Sink.faults c.args.sink.now)) (sink_side (g.K.Sink.taken c.say-in-Err-Command.new.sink) (g.K.Sink.faults c.say-in-Err-Command.new.sink)) (rw c.in-Err-Command.field-0-is at c.in-Err-Command.ensures.command) c.say-in-Err-Command.ensures

pub returns-in-Err-Range : goal.returns-in-Err-Range
returns-in-Err-Range g c =
    said_or_hushed c.say-in-Err-Range.result c.args.line.now Range c.args.session.now (shelf_side (g.F.Shelf.files c.args.shelf.now) (g.F.Shelf.counts c.args.shelf.now) (g.F.Shelf.asked c.args.shelf.now)) (sink_side (g.K.Sink.taken c.args.sink.now) (g.K.Sink.faults c.args.sink.now)) (sink_side (g.K.Sink.taken c.say-in-Err-Range.new.sink) (g.K.Sink.faults c.say-in-Err-Range.new.sink)) (rw c.in-Err-Range.field-0-is at c.in-Err-Range.ensures.command) c.say-in-Err-Range.ensures

pub returns-in-Err-NoMemory : goal.returns-in-Err-NoMemory
returns-in-Err-NoMemory g c = broke_here _ _ (shelf_side (g.F.Shelf.files c.args.shelf.now) (g.F.Shelf.counts c.args.shelf.now) (g.F.Shelf.asked c.args.shelf.now)) (sink_side (g.K.Sink.taken c.args.sink.now) (g.K.Sink.faults c.args.sink.now))
