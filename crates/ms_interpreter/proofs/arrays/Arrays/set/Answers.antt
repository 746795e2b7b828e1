use Rattle.std.proofs.Common.{◌≡◌, ℕ, ◌<◌, List, [], get_or, length, slice_set, sym, ap, subst, ◌∙◌}
use Rattle.std.proofs.lemmas.List.{length-map}
use Rattle.ms_machine.specs.Values.{cells_of}
use Rattle.ms_interpreter.specs.Frames.{lists_in}
use Rattle.ms_interpreter.proofs.ArraysOf.{cells_as_many, changed}
use Rattle.ms_interpreter.proofs.arrays.Arrays.set.Given.{Over}
use Rattle.ms_interpreter.proofs.arrays.Arrays.set.Goals as goal

set : (g : Over) (c : goal.After-self-1 g)
    → lists_in (slice_set c.self.inside.arrays.items c.from.result c.set_in.new.cells) ≡ slice_set c.args.self.now c.args.number (slice_set (get_or c.args.self.now c.args.number []) c.args.place c.args.a)
set g c =
    let within : c.from.result < length c.self.inside.arrays.items =
    subst (λ (n : ℕ). c.from.result < n) (ap length (sym c.self.view_is) ∙ length-map c.self.inside.arrays.items _) (subst (λ (n : ℕ). n < length c.args.self.now) (sym c.from.ensures) c.requires.number) in
    changed c.self.inside.arrays.items c.from.result c.args.place c.args.a c.index_mut.result.now c.set_in.new.cells within c.index_mut.ensures.value c.set_in.ensures
    ∙ ap (λ (arrays : List (List _)). slice_set arrays c.from.result (slice_set (get_or arrays c.from.result []) c.args.place c.args.a)) c.self.view_is
    ∙ ap (λ (n : ℕ). slice_set c.args.self.now n (slice_set (get_or c.args.self.now n []) c.args.place c.args.a)) c.from.ensures

pub invariant_of-self : goal.invariant_of-self
invariant_of-self g c =
    (c.self.invariant.0 ∙ ap cells_of c.self.view_is ∙ sym (ap cells_of (set g c) ∙ cells_as_many c.args.self.now c.args.number c.args.place c.args.a), c.self.invariant.1)

pub returns : goal.returns
returns g c = set g c
