use Rattle.std.proofs.Common.{◌≡◌, ℕ, Some, None, Option, List, length, map, reverse, sym, ap, ◌∙◌, arith}
use Rattle.std.specs.Prelude.{is_some, false}
use Rattle.ms_words.specs.declared.item.Item.{Item}
use Rattle.ms_linking.specs.Linked.{views_of}
use Rattle.ms_machine.specs.Control as control
use Rattle.ms_machine.specs.Control.{Goes, leaving}
use Rattle.ms_interpreter.specs.Frames.{Frame}
use Rattle.ms_interpreter.specs.Leads.{below_of}
use Rattle.ms_interpreter.specs.Seen.{frame_of, memory_of}
use Rattle.ms_interpreter.proofs.Views.{leaves, none_waits, throws_here, throws_unseen, unwinds, unwound}
use Rattle.ms_interpreter.proofs.leading.throw.Goals as goal

pub returns-in-Some : goal.returns-in-Some
returns-in-Some g c = λ f texts.
    let state = c.frames.state in
    c.frames.invariant.same f texts
    ∙ throws_here f texts (views_of c.args.program.now) state c.at.result c.args.number c.args.class (Some c.in-Some.handler) c.at.ensures c.frames.invariant.seen (c.in_ok-handler.ensures ∙ c.in-Some.is)
    ∙ ap (λ (top : Frame _). Goes (record { top = frame_of f texts top; below = below_of f texts state; memory = memory_of f texts state.memory })) (sym c.in_ok-handle.ensures)

pub returns-in-Some-initialises : goal.returns-in-Some-initialises
returns-in-Some-initialises g c = λ f texts.
    let state = c.frames.state in
    let P = views_of c.args.program.now in
    c.frames.invariant.same f texts
    ∙ throws_here f texts P state c.at.result c.args.number c.args.class None c.at.ensures c.frames.invariant.seen (c.in_ok-handler.ensures ∙ c.in_default.is)
    ∙ ap (λ (initialises : Option ℕ). leaving initialises (unwound P c.args.number c.args.class (memory_of f texts state.memory) (below_of f texts state))) (sym c.initialises.ensures ∙ c.in-Some-initialises.is)

pub returns-in_default-pop : goal.returns-in_default-pop
returns-in_default-pop g c = λ f texts.
    let state = c.frames.state in
    let P = views_of c.args.program.now in
    let none : length state.below.items ≡ 0 = omega (arith, c.in_default-pop.ensures.cases.0, state.below.ok) in
    c.frames.invariant.same f texts
    ∙ leaves f texts P state c.at.result c.args.number c.args.class c.at.ensures c.frames.invariant.seen (c.in_ok-handler.ensures ∙ c.in_default.is) (sym c.initialises.ensures ∙ c.in_default-initialises.is)
    ∙ ap (λ (below : List (control.Frame _)). unwound P c.args.number c.args.class (memory_of f texts state.memory) below) (none_waits f texts state none)

pub returns-then-not-branch : goal.returns-then-not-branch
returns-then-not-branch g c = λ f texts.
    let state = c.frames.state in
    let P = views_of c.args.program.now in
    let unseen : is_some (P c.in-Some-pop.caller.at) ≡ false = ap (λ (at : Item). is_some (P at)) (sym c.at-in-frames.ensures) ∙ sym c.in_ok-is_seen.ensures ∙ c.if-not-branch.true in
    c.frames.invariant.same f texts
    ∙ unwinds f texts P state c.at.result c.args.number c.args.class c.pop.new.self.items c.in-Some-pop.caller c.at.ensures c.frames.invariant.seen (c.in_ok-handler.ensures ∙ c.in_default.is)
    (sym c.initialises.ensures ∙ c.in_default-initialises.is) c.in-Some-pop.ensures.items
    ∙ throws_unseen P c.args.number c.args.class (memory_of f texts state.memory) (frame_of f texts c.in-Some-pop.caller) (map (frame_of f texts) (reverse c.pop.new.self.items)) unseen

pub frames-preserved : goal.frames-preserved
frames-preserved g c =
    let P = views_of c.args.program.now in
    record {
      seen = ap (λ (at : Item). is_some (P at)) (sym c.at-in-frames.ensures) ∙ sym c.in_ok-is_seen.ensures ∙ c.if-not-branch.false;
      same = λ f texts.
          c.frames.invariant.same f texts
          ∙ unwinds f texts P c.frames.state c.at.result c.args.number c.args.class c.pop.new.self.items c.in-Some-pop.caller c.at.ensures c.frames.invariant.seen (c.in_ok-handler.ensures ∙ c.in_default.is)
          (sym c.initialises.ensures ∙ c.in_default-initialises.is) c.in-Some-pop.ensures.items;
    }
