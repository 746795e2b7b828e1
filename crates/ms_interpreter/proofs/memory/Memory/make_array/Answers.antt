use Rattle.std.proofs.Common.{◌+◌, ◌≤◌, length, sym, ap, subst, ◌∙◌, arith}
use Rattle.std.proofs.lemmas.List.{length-append}
use Rattle.ms_machine.specs.Values.{cells_of}
use Rattle.ms_interpreter.specs.Frames.{Shared, made_in}
use Rattle.ms_interpreter.proofs.Room.{room_fits}
use Rattle.ms_interpreter.proofs.memory.Memory.make_array.Goals as goal

pub add-requires : goal.add-requires
add-requires g c =
    let few = (room_fits c.args.self.now c.args.size c.requires).few in
    subst (λ (shared : Shared _). cells_of shared.arrays + c.args.size ≤ 4096) (sym c.self.view_is) few

pub invariant_of-self : goal.invariant_of-self
invariant_of-self g c = let same = ap length (c.in_err-add.ensures.err) in omega (arith, same, c.self.invariant)

pub invariant_of-self-2 : goal.invariant_of-self-2
invariant_of-self-2 g c =
    let made = (room_fits c.args.self.now c.args.size c.requires).made in
    let is = ap (λ (shared : Shared _). made_in shared) c.self.view_is in
    let more = ap length c.in_ok-add.ensures.ok ∙ length-append c.self.inside.arrays _ in
    omega (arith, made, is, more)
