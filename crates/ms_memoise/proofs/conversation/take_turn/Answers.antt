use Rattle.std.proofs.Common.{arith, refl, []}
use Rattle.std.proofs.lemmas.Grind.{common_steps}
use Rattle.std.proofs.KnownBytes.{Consumes-kept, Consumes-nil}
use Rattle.ms_session.specs.Outside.{shelf_side, sink_side}
use Rattle.ms_memoise.proofs.Handling.{did_nothing}
use Rattle.ms_memoise.proofs.Fed.{fed_nothing}
use Rattle.ms_memoise.proofs.conversation.take_turn.Goals as goal

pub returns-in-Err : goal.returns-in-Err
returns-in-Err g c = record {
  bytes = [];
  took = Consumes-kept _ _ _ _ (Consumes-nil (g.S.Source.left c.args.source.now)) c.in-Err.ensures.bytes;
  within = omega arith;
  stops = (refl, c.in-Err.ensures.cause.fault, did_nothing c.args.session.now (shelf_side (g.F.Shelf.files c.args.shelf.now) (g.F.Shelf.counts c.args.shelf.now) (g.F.Shelf.asked c.args.shelf.now)) (sink_side (g.K.Sink.taken c.args.sink.now) (g.K.Sink.faults c.args.sink.now)));
  reads = c.in-Err.ensures.cause.grows;
}

pub returns-then-count-eq0 : goal.returns-then-count-eq0
returns-then-count-eq0 g c = record {
  bytes = [];
  took = rw c.if-count-eq0.true at c.in-Ok.ensures.bytes.0;
  within = omega arith;
  comes = (refl, c.in-Ok.ensures.bytes.1 c.if-count-eq0.true (grind (arith, common_steps, c.read.auto.buf, c.min-room.ensures, c.requires)));
  fed = fed_nothing c.args.line.now.items c.args.session.now (shelf_side (g.F.Shelf.files c.args.shelf.now) (g.F.Shelf.counts c.args.shelf.now) (g.F.Shelf.asked c.args.shelf.now)) (sink_side (g.K.Sink.taken c.args.sink.now) (g.K.Sink.faults c.args.sink.now));
  reads = c.in-Ok.ensures.cause.steady;
}
