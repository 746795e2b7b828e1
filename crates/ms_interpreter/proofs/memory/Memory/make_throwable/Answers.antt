use Rattle.std.proofs.Common.{sym, ap, ◌∙◌, arith}
use Rattle.ms_interpreter.specs.Frames.{Shared, made_in}
use Rattle.ms_interpreter.proofs.Room.{made_fits}
use Rattle.ms_interpreter.proofs.memory.Memory.make_throwable.Goals as goal

pub invariant_of-self : goal.invariant_of-self
invariant_of-self g c =
    let made = made_fits c.args.self.now (sym c.may_make.ensures ∙ c.if-not-may_make.false) in
    let is = ap (λ (shared : Shared _). made_in shared) c.self.view_is in
    omega (arith, made, is)
