use Rattle.std.proofs.Common.{◌++◌, List, Option, sym, ap, ◌∙◌}
use Rattle.std.specs.Prelude.{option_map}
use Rattle.std.specs.Global.{Vec}
use Rattle.ms_machine.specs.Effects.{values_at}
use Rattle.ms_interpreter.specs.declared.slot.Slot.{Slot}
use Rattle.ms_interpreter.specs.Frames.{Frame}
use Rattle.ms_interpreter.proofs.Shuffled.{nothing_there, shuffled, too_few}
use Rattle.ms_interpreter.proofs.acting.shuffling.shuffle.Goals as goal

pub returns-in_default-clause-acts : goal.returns-in_default-clause-acts
returns-in_default-clause-acts g c = too_few c.args.count c.args.places.now c.args.frame.now c.args.memory.now c.take.new.frame (rw c.in_default.is at c.in_ok-slots.ensures).0

pub returns-in_default-2-clause-acts : goal.returns-in_default-2-clause-acts
returns-in_default-2-clause-acts g c =
    let took = rw c.in-Some.is at c.in_ok-slots.ensures in
    let none = sym (ap (λ (o : Option (Vec _)). option_map (λ slots. slots.items) o) (sym c.in_default-2.is) ∙ c.in_ok-back.ensures) in
    nothing_there c.args.count c.args.places.now c.args.frame.now c.args.memory.now c.take.new.frame took.0
    (ap (λ (slots : List (Slot _)). values_at slots c.args.places.now) (sym took.1 ∙ sym c.as_slice.ensures.value) ∙ none)

pub returns-clause-acts : goal.returns-clause-acts
returns-clause-acts g c =
    let took = rw c.in-Some.is at c.in_ok-slots.ensures in
    let some = sym (ap (λ (o : Option (Vec _)). option_map (λ slots. slots.items) o) (sym c.in-Some-2.is) ∙ c.in_ok-back.ensures) in
    shuffled c.args.count c.args.places.now c.args.frame.now c.args.memory.now c.in-Some-2.back.items c.put_back.new.frame took.0
    (ap (λ (slots : List (Slot _)). values_at slots c.args.places.now) (sym took.1 ∙ sym c.as_slice.ensures.value) ∙ some)
    (c.in_ok-put_back.ensures ∙ ap (λ (frame : Frame _). record frame { stack = c.in-Some-2.back.items ++ frame.stack }) took.2)
