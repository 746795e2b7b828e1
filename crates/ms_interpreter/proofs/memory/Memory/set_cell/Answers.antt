use Rattle.std.proofs.Common.{◌<◌, [], get_or, length, sym, ap, subst, ◌∙◌, arith}
use Rattle.std.proofs.lemmas.List.{length-set}
use Rattle.ms_interpreter.specs.Frames.{Shared}
use Rattle.ms_interpreter.proofs.memory.Memory.set_cell.Goals as goal

pub set-requires-clause-number : goal.set-requires-clause-number
set-requires-clause-number g c = subst (λ (shared : Shared _). c.args.number < length shared.arrays) (sym c.self.view_is) c.requires.number

pub set-requires-clause-place : goal.set-requires-clause-place
set-requires-clause-place g c = subst (λ (shared : Shared _). c.args.place < length (get_or shared.arrays c.args.number [])) (sym c.self.view_is) c.requires.place

pub invariant_of-self : goal.invariant_of-self
invariant_of-self g c = let same = ap length c.set.ensures ∙ length-set c.self.inside.arrays c.args.number _ in omega (arith, same, c.self.invariant)
