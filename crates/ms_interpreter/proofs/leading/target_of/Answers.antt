use Rattle.std.proofs.Common.{refl, sym, ap, ◌∙◌, option_and_then, slice_get}
use Rattle.ms_program.specs.Views.{View}
use Rattle.ms_interpreter.proofs.Views.{part_seen}
use Rattle.ms_interpreter.proofs.leading.target_of.Goals as goal

pub returns : goal.returns
returns c =
    part_seen c.args.program.now c.args.item (λ view. slice_get view.targets c.args.place) (λ view. slice_get view.targets c.args.place) (λ view instr. refl) c.requires
    ∙ ap (option_and_then (λ (view : View). slice_get view.targets c.args.place)) (sym c.in-Some.ensures) ∙ ap (slice_get c.in-Some.view.targets) (sym c.in-Ok.ensures.1) ∙ sym c.target.ensures
