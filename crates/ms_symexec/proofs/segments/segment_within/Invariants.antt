use Rattle.std.proofs.Common.{◌≤◌, ◌+◌, ◌*◌, length}
use Rattle.std.specs.Prelude.{IsSome}
use Rattle.ms_linking.specs.Linked.{views_of}
use Rattle.ms_machine.specs.Control as control
use Rattle.ms_machine.specs.Control.{Goes}
use Rattle.ms_machine.specs.Ints.{shadows}
use Rattle.ms_machine.specs.Segments.{segment_within}
use Rattle.ms_terms.specs.Terms.{Term}
use Rattle.ms_interpreter.specs.Staying.{Stay}
use Rattle.ms_interpreter.specs.Symbols.{symbol}
use Rattle.ms_symexec.specs.Segments.{onto}
use Rattle.ms_symexec.specs.Standing.{Stands}
use Rattle.ms_symexec.proofs.Turning.{SoFar}
use Rattle.ms_symexec.proofs.segments.segment_within.Given as goal

abbrev pub invariant-loop-left : goal.invariant-loop-left
invariant-loop-left l = record {
  stay : Stay (λ v. IsSome v) (symbol l.fn.terms) (symbol l.terms);
  few : length l.terms + 2 * l.left ≤ length l.fn.terms + 2 * l.most;
  so : (seen : control.State Term) → Stands l.fn.terms (views_of l.program) l.fn.state seen → SoFar (views_of l.program) (onto l.fn.trace.items (segment_within shadows (views_of l.program) l.most (Goes seen))) l.left l.trace.items l.terms l.state;
}

abbrev pub decreases-loop-left : goal.decreases-loop-left
decreases-loop-left l = l.left
