use Rattle.std.proofs.Common.{ℕ, ◌+◌, ◌≤◌, List, sym, ap, subst, ◌∙◌}
use Rattle.std.specs.Global.{Vec}
use Rattle.ms_machine.specs.Values.{cells_of}
use Rattle.ms_interpreter.specs.Frames.{lists_in}
use Rattle.ms_interpreter.proofs.ArraysOf.{added_cells}
use Rattle.ms_interpreter.proofs.arrays.Arrays.add.Goals as goal

pub invariant_of-self-2 : goal.invariant_of-self-2
invariant_of-self-2 g c =
    let all = ap (λ (arrays : List (Vec _)). cells_of (lists_in arrays)) c.in_ok-push.ensures.items ∙ added_cells c.self.inside.arrays.items c.in_ok-array.array c.args.cell c.args.size c.in_ok-array.ensures in
    (ap (λ (n : ℕ). n + c.args.size) c.self.invariant.0 ∙ sym all, subst (λ (n : ℕ). n + c.args.size ≤ 4096) (ap cells_of (sym c.self.view_is) ∙ sym c.self.invariant.0) c.requires)
