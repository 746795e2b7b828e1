use Rattle.std.proofs.Common.{refl, sym, ap, ◌∙◌, option_and_then}
use Rattle.ms_program.specs.Views.{View}
use Rattle.ms_interpreter.proofs.Views.{part_seen}
use Rattle.ms_interpreter.proofs.leading.callee_of.Goals as goal

pub returns : goal.returns
returns c =
    part_seen c.args.program.now c.args.item (λ view. view.callee) (λ view. view.first_item) (λ view instr. refl) c.requires
    ∙ ap (option_and_then (λ (view : View). view.first_item)) (sym c.in_ok-view.ensures) ∙ sym c.first_item.ensures
