use Rattle.std.proofs.Common.{refl, sym, ap, ◌∙◌, option_and_then}
use Rattle.ms_program.specs.Views.{View}
use Rattle.ms_interpreter.proofs.Views.{part_seen}
use Rattle.ms_interpreter.proofs.leading.next_of.Goals as goal

pub returns : goal.returns
returns c =
    part_seen c.args.program.now c.args.item (λ view. view.next) (λ view. view.successor) (λ view instr. refl) c.requires
    ∙ ap (option_and_then (λ (view : View). view.successor)) (sym c.in_ok-view.ensures) ∙ sym c.successor.ensures
