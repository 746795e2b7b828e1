use Rattle.std.proofs.Common.{All, arith, subst}
use Rattle.ms_verify.specs.Told.{RestsBelow}
use Rattle.ms_verify.proofs.Leading.{line_leads}
use Rattle.ms_verify.proofs.line.Code.lowest_led.Goals as goal

pub returns-in-Some : goal.returns-in-Some
returns-in-Some c =
    line_leads c.args.self.now c.in-Some.line.now c.args.slots.now c.args.at c.lowest_of-low.result c.lowest_caught.result c.in-Some.ensures.line c.in-Some.ensures.whole (omega (arith, c.lowest_of-low.ensures.low))
    (subst (All (RestsBelow c.args.slots.now c.lowest_of-low.result)) c.deref.ensures.value c.lowest_of-low.ensures.rest) c.lowest_caught.ensures.low c.lowest_caught.ensures.rest
