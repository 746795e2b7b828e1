use Rattle.std.proofs.Common.{map, refl, sym, ap, ◌∙◌, option_and_then}
use Rattle.std.proofs.lemmas.Result.{IfOk-weaker}
use Rattle.ms_program.specs.Views.{View}
use Rattle.ms_linking.specs.Linked.{handler_of}
use Rattle.ms_machine.specs.Control.{catching}
use Rattle.ms_interpreter.proofs.Views.{part_seen}
use Rattle.ms_interpreter.proofs.leading.handler_at.Goals as goal

pub returns : goal.returns
returns c = IfOk-weaker c.handler_in.result _ _ (λ found is.
    part_seen c.args.program.now c.args.item (λ view. catching view.handlers c.args.class) (λ view. catching (map handler_of view.handlers) c.args.class) (λ view instr. refl) c.requires
    ∙ ap (option_and_then (λ (view : View). catching (map handler_of view.handlers) c.args.class)) (sym c.in-Some.ensures) ∙ is) c.handler_in.ensures
