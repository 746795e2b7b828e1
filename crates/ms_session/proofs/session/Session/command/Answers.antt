use Rattle.std.proofs.lemmas.Result.{MatchResult-weaker}
use Rattle.ms_session.specs.Outside.{shelf_side, sink_side}
use Rattle.ms_session.proofs.Sessions.{done_all, stopped_early, stopped_late}
use Rattle.ms_session.proofs.session.Session.command.Goals as goal

pub returns-in-Err : goal.returns-in-Err
returns-in-Err g c = stopped_early c.in-Err.stop c.args.command.now c.args.self.now _ _ _ c.in-Err.ensures

pub returns : goal.returns
returns g c =
    let before = shelf_side (g.F.Shelf.files c.args.shelf.now) (g.F.Shelf.counts c.args.shelf.now) (g.F.Shelf.asked c.args.shelf.now) in
    let now = shelf_side (g.F.Shelf.files c.prepare.new.shelf) (g.F.Shelf.counts c.prepare.new.shelf) (g.F.Shelf.asked c.prepare.new.shelf) in
    let sink = sink_side (g.K.Sink.taken c.args.sink.now) (g.K.Sink.faults c.args.sink.now) in
    let sink_now = sink_side (g.K.Sink.taken c.write_output.new.sink) (g.K.Sink.faults c.write_output.new.sink) in
    MatchResult-weaker c.write_output.result c.write_output.ensures
    (λ u wrote. done_all c.args.command.now c.args.self.now c.prepare.new.self c.in-Ok.output before now sink sink_now c.in-Ok.ensures wrote.0 wrote.1)
    (λ stop stops. stopped_late stop c.args.command.now c.args.self.now c.prepare.new.self c.in-Ok.output before now sink sink_now c.in-Ok.ensures stops)
