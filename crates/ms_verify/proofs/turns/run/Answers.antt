use Rattle.std.proofs.Common.{◌<◌, ap, refl, subst, sym, ◌∙◌}
use Rattle.ms_typing.specs.Verifier.{Ends, Rests, Stops, Turns}
use Rattle.ms_typing.proofs.Sound.{Sofar, start_holds, turn_keeps}
use Rattle.ms_typing.proofs.Total.{turn_lowers}
use Rattle.ms_verify.specs.Told.{cells_of, method_told, turned}
use Rattle.ms_verify.proofs.Finding.{lowest_within}
use Rattle.ms_verify.proofs.Leading.{none_below}
use Rattle.ms_verify.proofs.Starting.{has_lines}
use Rattle.ms_verify.proofs.turns.run.Goals as goal

pub loop-at-init : goal.loop-at-init
loop-at-init c = record {
  long = c.requires.long;
  sized = c.requires.sized;
  sofar = subst (Sofar (method_told c.args.code.now)) (sym c.requires.start) (start_holds (method_told c.args.code.now) (has_lines c.args.code.now c.requires.whole.some));
  below = refl;
  outcome = λ outcome h. subst (λ x. Ends (method_told c.args.code.now) x outcome) c.requires.start h;
}

pub lowest_led-low-requires-clause-within : goal.lowest_led-low-requires-clause-within
lowest_led-low-requires-clause-within c = subst (λ x. c.in-Some.at < x) c.loop-at.invariant.long (lowest_within c.loop-at.slots c.in-Some.at c.in-Some.ensures)

pub returns-in-Some-2 : goal.returns-in-Some-2
returns-in-Some-2 c = c.loop-at.invariant.outcome _ (Stops _ (c.in-Some.at, c.in-Some.ensures.0) _ _ c.in-Some.ensures.1
    (c.in_ok-fault.ensures.turned c.in-Some.ensures.0 c.in-Some.ensures.1 ∙ ap (λ x. turned x (cells_of c.take_turn.new.slots)) c.in-Some-2.is))

pub loop-at-smaller : goal.loop-at-smaller
loop-at-smaller c = turn_lowers (method_told c.args.code.now) _ _ (c.in-Some.at, c.in-Some.ensures.0) c.loop-at.invariant.sofar c.in-Some.ensures.1
    (c.in_ok-fault.ensures.turned c.in-Some.ensures.0 c.in-Some.ensures.1 ∙ ap (λ x. turned x (cells_of c.take_turn.new.slots)) c.in_default-2.is)

pub loop-at-preserved : goal.loop-at-preserved
loop-at-preserved c =
    let leaves = c.in_ok-fault.ensures.turned c.in-Some.ensures.0 c.in-Some.ensures.1 ∙ ap (λ x. turned x (cells_of c.take_turn.new.slots)) c.in_default-2.is in
    record {
      long = c.take_turn.auto.slots ∙ c.loop-at.invariant.long;
      sized = c.take_turn.ensures.sized;
      sofar = turn_keeps (method_told c.args.code.now) _ _ (c.in-Some.at, c.in-Some.ensures.0) c.loop-at.invariant.sofar c.in-Some.ensures.1 leaves;
      below = none_below (method_told c.args.code.now) c.loop-at.slots c.take_turn.new.slots c.in-Some.at c.lowest_led-low.result c.in-Some.ensures.0 c.lowest_led-low.ensures c.in-Some.ensures.1 leaves;
      outcome = λ outcome h. c.loop-at.invariant.outcome outcome (Turns _ (c.in-Some.at, c.in-Some.ensures.0) _ outcome c.in-Some.ensures.1 leaves h);
    }

pub returns : goal.returns
returns c = c.loop-at.invariant.outcome _ (Rests _ c.in_default.ensures)
