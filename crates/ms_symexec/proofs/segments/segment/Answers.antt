use Rattle.std.proofs.Common.{◌≡◌, ℕ, refl, subst}
use Rattle.std.specs.Prelude.{IfOk}
use Rattle.ms_machine.specs.Control as control
use Rattle.ms_machine.specs.Control.{Goes}
use Rattle.ms_machine.specs.Ints.{shadows}
use Rattle.ms_machine.specs.Segments.{most_instructions, segment_within}
use Rattle.ms_linking.specs.Linked.{views_of}
use Rattle.ms_terms.specs.Terms.{Term}
use Rattle.ms_symexec.specs.Segments.{Comes, onto}
use Rattle.ms_symexec.specs.Standing.{Stands}
use Rattle.ms_symexec.proofs.segments.segment.Goals as goal

most : 20000 ≡ most_instructions
unfolding most_instructions
most = refl

pub returns-clause-comes : goal.returns-clause-comes
returns-clause-comes c = subst (λ (n : ℕ). IfOk c.segment_within.result (λ came. (seen : control.State Term) → Stands c.args.terms.now (views_of c.args.program.now) c.args.state.now seen
    → Comes c.segment_within.new.terms (views_of c.args.program.now) c.segment_within.new.trace.items came c.segment_within.new.state (onto c.args.trace.now.items (segment_within shadows (views_of c.args.program.now) n (Goes seen))))) most c.segment_within.ensures.comes
