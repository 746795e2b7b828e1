use Rattle.std.proofs.Common.{Option, Some, [], List, sym, ap, ◌∙◌}
use Rattle.ms_words.specs.declared.item.Item.{Item}
use Rattle.ms_machine.specs.Values.{Value}
use Rattle.ms_machine.specs.Control.{enters}
use Rattle.ms_interpreter.specs.declared.finish.Finish.{Finish}
use Rattle.ms_interpreter.specs.declared.slot.Slot.{Slot}
use Rattle.ms_interpreter.specs.Leads.{below_of, done_of}
use Rattle.ms_interpreter.specs.Seen.{frame_of, locals_of, memory_of}
use Rattle.ms_interpreter.proofs.starting.begin_above.Goals as goal

pub returns-in-Some-2 : goal.returns-in-Some-2
returns-in-Some-2 g c = λ f texts.
    let enters_with = λ (item : Option Item) (locals : List (Option (Value _))). enters item locals (Some c.args.class) (frame_of f texts c.args.state.top) (below_of f texts c.args.state) (memory_of f texts c.args.state.memory) in
    ap (λ (item : Option Item). enters_with item []) c.in-Some.is
    ∙ ap (λ (locals : List (Option (Slot _))). enters_with (Some c.in-Some.item) (locals_of f texts locals)) (sym c.new.ensures.items)
    ∙ c.in_ok-finish.ensures f texts ∙ ap (λ (finish : Option (Finish _)). done_of f texts finish c.enter.new.state) c.in-Some-2.is

pub returns-in-None : goal.returns-in-None
returns-in-None g c = λ f texts.
    let enters_with = λ (item : Option Item) (locals : List (Option (Value _))). enters item locals (Some c.args.class) (frame_of f texts c.args.state.top) (below_of f texts c.args.state) (memory_of f texts c.args.state.memory) in
    ap (λ (item : Option Item). enters_with item []) c.in-Some.is
    ∙ ap (λ (locals : List (Option (Slot _))). enters_with (Some c.in-Some.item) (locals_of f texts locals)) (sym c.new.ensures.items)
    ∙ c.in_ok-finish.ensures f texts ∙ ap (λ (finish : Option (Finish _)). done_of f texts finish c.enter.new.state) c.in-None.is
