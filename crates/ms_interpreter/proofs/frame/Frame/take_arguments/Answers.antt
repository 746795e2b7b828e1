use Rattle.std.proofs.Common.{◌≡◌, ◌+◌, ◌-◌, min, sym, ap, ◌∙◌, List, Some, length, map, drop, reverse, take, arith}
use Rattle.std.proofs.lemmas.List.{take_rest}
use Rattle.ms_interpreter.specs.declared.slot.Slot.{Slot}
use Rattle.ms_interpreter.specs.Frames.{Frame}
use Rattle.ms_interpreter.proofs.Arguments.{arguments, left}
use Rattle.ms_interpreter.proofs.frame.Frame.take_arguments.Goals as goal

pub returns-clause-locals : goal.returns-clause-locals
returns-clause-locals g c =
    let slots = c.self.inside.slots.items in
    let count = c.min-count.result in
    let first = c.len-depth.result - count in
    let depth : c.len-depth.result ≡ length slots = c.len-depth.ensures ∙ sym c.deref.ensures.len ∙ ap length c.deref.ensures.value in
    let least : count ≡ min c.args.count (length slots) = c.min-count.ensures ∙ ap (min c.args.count) depth in
    let is : first + count ≡ length slots = omega (arith, depth, least) in
    c.in_ok-locals.ensures ∙ ap (map Some) (take_rest c.deref.result.now first ∙ ap (drop first) c.deref.ensures.value
    ∙ sym (arguments slots c.args.count count first least is))
    ∙ ap (λ (frame : Frame _). map Some (reverse (take c.args.count frame.stack))) c.self.view_is

pub returns-clause-left : goal.returns-clause-left
returns-clause-left g c =
    let slots = c.self.inside.slots.items in
    let count = c.min-count.result in
    let first = c.len-depth.result - count in
    let depth : c.len-depth.result ≡ length slots = c.len-depth.ensures ∙ sym c.deref.ensures.len ∙ ap length c.deref.ensures.value in
    let least : count ≡ min c.args.count (length slots) = c.min-count.ensures ∙ ap (min c.args.count) depth in
    let is : first + count ≡ length slots = omega (arith, depth, least) in
    let frame : Frame _ = record { at = c.self.inside.at; locals = c.self.inside.locals.items; stack = reverse slots; initialises = c.self.inside.initialises } in
    ap (λ (items : List (Slot _)). record frame { stack = reverse items }) c.truncate.ensures.items
    ∙ ap (λ (stack : List (Slot _)). record frame { stack = stack }) (sym (left slots c.args.count count first least is))
    ∙ ap (λ (frame : Frame _). record frame { stack = drop c.args.count frame.stack }) c.self.view_is
