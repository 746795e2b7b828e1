use Rattle.std.proofs.Common.{◌≡◌, false, length, sym, ap, ◌∙◌, option_map, arith}
use Rattle.std.specs.Prelude.{is_some}
use Rattle.ms_linking.specs.Linked.{views_of}
use Rattle.ms_machine.specs.Control.{Ends}
use Rattle.ms_interpreter.specs.Leads.{below_of}
use Rattle.ms_interpreter.specs.Seen.{memory_of, value_of}
use Rattle.ms_interpreter.proofs.Views.{none_waits, returns_last}
use Rattle.ms_interpreter.proofs.leading.return_with.Goals as goal

pub returns-in_default : goal.returns-in_default
returns-in_default g c = λ f texts.
    let state = c.args.state.now in
    let none : length state.below.items ≡ 0 = omega (arith, c.in_default.ensures.cases.0, state.below.ok) in
    let last : is_some state.top.initialises ≡ false = ap is_some (sym c.initialises-initialises.ensures) ∙ sym c.if-is_some.ensures in
    returns_last (views_of c.args.program.now) (option_map (value_of f texts) c.args.slot) (memory_of f texts state.memory) state.top.initialises (below_of f texts state) last (none_waits f texts state none)
    ∙ ap Ends (c.returned.ensures f texts)
