use Rattle.std.proofs.Common.{ℕ, List, ap, ◌∙◌}
use Rattle.ms_machine.specs.Values.{is_started}
use Rattle.ms_interpreter.specs.Frames.{Shared}
use Rattle.ms_interpreter.proofs.Room.{among_started}
use Rattle.ms_interpreter.proofs.memory.Memory.is_started.Goals as goal

pub returns : goal.returns
returns g c = c.contains.ensures.value ∙ among_started c.args.class c.deref.result.now ∙ ap (λ (started : List ℕ). is_started started c.args.class) c.deref.ensures.value
    ∙ ap (λ (shared : Shared _). is_started shared.started c.args.class) c.self.view_is
