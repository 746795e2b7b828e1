use Rattle.std.proofs.Common.{ap, ◌+◌, ◌∙◌}
use Rattle.ms_interpreter.proofs.Room.{made_is}
use Rattle.ms_interpreter.specs.Frames.{Shared, made_in}
use Rattle.ms_interpreter.proofs.memory.Memory.may_make.Goals as goal

pub returns : goal.returns
returns g c = made_is c.args.self.now (c.count.result + c.self.inside.throwables)
    (ap (λ n. n + c.self.inside.throwables) c.count.ensures ∙ ap (λ (shared : Shared _). made_in shared) c.self.view_is)
