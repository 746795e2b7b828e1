use Rattle.std.proofs.Common.{◌≡◌, IsSome, length}
use Rattle.ms_linking.specs.Linked.{views_of}
use Rattle.ms_machine.specs.Control.{throws}
use Rattle.ms_interpreter.specs.Leads.{below_of}
use Rattle.ms_interpreter.specs.Seen.{Texts, frame_of, memory_of}
use Rattle.ms_interpreter.proofs.leading.throw.Given as goal

-- it is thrown in the top frame, as it was in the first
abbrev pub invariant-frames : goal.invariant-frames
invariant-frames g l = record {
  seen : IsSome (views_of l.program l.state.top.at);
  same : (f : _ → g.A.Arithmetic.V) (texts : Texts) →
      throws (views_of l.program) l.number l.class (memory_of f texts l.fn.state.memory) (frame_of f texts l.fn.state.top) (below_of f texts l.fn.state)
      ≡ throws (views_of l.program) l.number l.class (memory_of f texts l.state.memory) (frame_of f texts l.state.top) (below_of f texts l.state);
}

abbrev pub decreases-frames : goal.decreases-frames
decreases-frames g l = length l.state.below.items
