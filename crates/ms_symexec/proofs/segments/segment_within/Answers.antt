use Rattle.std.specs.Prelude.{IsSome}
use Rattle.std.proofs.Common.{◌-◌, ◌<◌, List, ◌++◌, ◌∷◌, [], rules, sym, ap, subst, ◌∙◌, arith}
use Rattle.ms_words.specs.declared.item.Item.{Item}
use Rattle.ms_linking.specs.Linked.{views_of}
use Rattle.ms_machine.specs.Control.{Goes}
use Rattle.ms_machine.specs.Ints.{shadows}
use Rattle.ms_machine.specs.Segments.{segment_within}
use Rattle.ms_interpreter.specs.Leads.{finish_of}
use Rattle.ms_interpreter.specs.Symbols.{symbol}
use Rattle.ms_symexec.specs.Segments.{Choice, Ended, onto}
use Rattle.ms_symexec.proofs.Turning.{SoFar, one_less, turn_ends, turn_goes, turn_stands}
use Rattle.ms_symexec.proofs.segments.segment_within.Goals as goal

pub loop-left-preserved : goal.loop-left-preserved
loop-left-preserved c =
    let P = views_of c.args.program.now in
    let left = c.loop-left.left in
    let more : 0 < left = search rules in
    record {
      stay = λ a has. c.take_turn.ensures.stay a (subst (λ v. IsSome v) (sym (c.loop-left.invariant.stay a has)) has) ∙ c.loop-left.invariant.stay a has;
      few = omega (arith, c.loop-left.invariant.few, c.take_turn.ensures.few, more);
      so = λ seen is.
          let whole = onto c.args.trace.now.items (segment_within shadows P c.args.most (Goes seen)) in
          let so = subst (λ n. SoFar P whole n c.loop-left.trace.items c.loop-left.terms c.loop-left.state) (one_less left more) (c.loop-left.invariant.so seen is) in
          subst (λ (items : List Item). SoFar P whole (left - 1) items c.take_turn.new.arithmetic c.take_turn.new.state) (ap (λ (item : Item). c.loop-left.trace.items ++ item ∷ []) (sym c.at.ensures) ∙ sym c.in_ok-push.ensures.items)
          (turn_goes P whole c.loop-left.trace.items c.loop-left.terms c.take_turn.new.arithmetic c.take_turn.ensures.stay c.loop-left.state (left - 1) so c.take_turn.new.state (rw c.in-Goes.is at c.in_ok-turn.ensures.turns));
    }

pub returns-in-Stands-clause-comes : goal.returns-in-Stands-clause-comes
returns-in-Stands-clause-comes c = λ seen is.
    let P = views_of c.args.program.now in
    let left = c.loop-left.left in
    let more : 0 < left = search rules in
    let whole = onto c.args.trace.now.items (segment_within shadows P c.args.most (Goes seen)) in
    let so = subst (λ n. SoFar P whole n c.loop-left.trace.items c.loop-left.terms c.loop-left.state) (one_less left more) (c.loop-left.invariant.so seen is) in
    subst (λ (items : List Item). Choice c.take_turn.new.arithmetic P items c.take_turn.new.state whole) (ap (λ (item : Item). c.loop-left.trace.items ++ item ∷ []) (sym c.at.ensures) ∙ sym c.in_ok-push.ensures.items)
    (turn_stands P whole c.loop-left.trace.items c.loop-left.terms c.take_turn.new.arithmetic c.take_turn.ensures.stay c.loop-left.state (left - 1) so c.take_turn.new.state (rw c.in-Stands.is at c.in_ok-turn.ensures.turns))

pub returns-in-Ends-clause-comes : goal.returns-in-Ends-clause-comes
returns-in-Ends-clause-comes c = λ seen is.
    let P = views_of c.args.program.now in
    let left = c.loop-left.left in
    let more : 0 < left = search rules in
    let whole = onto c.args.trace.now.items (segment_within shadows P c.args.most (Goes seen)) in
    let so = subst (λ n. SoFar P whole n c.loop-left.trace.items c.loop-left.terms c.loop-left.state) (one_less left more) (c.loop-left.invariant.so seen is) in
    subst (λ (items : List Item). Ended c.take_turn.new.arithmetic items (finish_of (symbol c.take_turn.new.arithmetic) c.in-Ends.finish) whole) (ap (λ (item : Item). c.loop-left.trace.items ++ item ∷ []) (sym c.at.ensures) ∙ sym c.in_ok-push.ensures.items)
    (turn_ends P whole c.loop-left.trace.items c.loop-left.terms c.take_turn.new.arithmetic c.take_turn.ensures.stay c.loop-left.state (left - 1) so c.in-Ends.finish c.take_turn.new.state (rw c.in-Ends.is at c.in_ok-turn.ensures.turns))
