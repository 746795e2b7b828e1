use Rattle.std.proofs.Common.{arith, refl, []}
use Rattle.std.proofs.lemmas.List.{length-take}
use Rattle.std.proofs.KnownBytes.{Consumes-kept, Consumes-nil}
use Rattle.ms_session.specs.Outside.{shelf_side, sink_side}
use Rattle.ms_memoise.proofs.Handling.{did_nothing}
use Rattle.ms_memoise.proofs.conversation.at_limit.Goals as goal

pub returns-in-Err : goal.returns-in-Err
returns-in-Err g c = record {
  bytes = [];
  took = Consumes-kept _ _ _ _ (Consumes-nil (g.S.Source.left c.args.source.now)) c.in-Err.ensures.bytes;
  comes = (refl, c.in-Err.ensures.cause.fault, did_nothing c.args.session.now (shelf_side (g.F.Shelf.files c.args.shelf.now) (g.F.Shelf.counts c.args.shelf.now) (g.F.Shelf.asked c.args.shelf.now)) (sink_side (g.K.Sink.taken c.args.sink.now) (g.K.Sink.faults c.args.sink.now)));
  reads = c.in-Err.ensures.cause.grows;
}

pub returns-in-Ok : goal.returns-in-Ok
returns-in-Ok g c = record {
  bytes = _;
  took = c.in-Ok.ensures.bytes.0;
  comes = (omega (arith, length-take c.in-Ok.field-0 c.read.new.buf, c.read.auto.buf, c.in-Ok.ensures.within), c.in-Ok.ensures.cause.steady, did_nothing c.args.session.now (shelf_side (g.F.Shelf.files c.args.shelf.now) (g.F.Shelf.counts c.args.shelf.now) (g.F.Shelf.asked c.args.shelf.now)) (sink_side (g.K.Sink.taken c.args.sink.now) (g.K.Sink.faults c.args.sink.now)));
  reads = c.in-Ok.ensures.cause.grows;
}
