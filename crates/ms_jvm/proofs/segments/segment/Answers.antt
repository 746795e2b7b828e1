use Rattle.std.proofs.Common.{◌≡◌, ℕ, refl, subst}
use Rattle.std.specs.Prelude.{IfOk}
use Rattle.ms_machine.specs.Segments.{most_instructions}
use Rattle.ms_linking.specs.Linked.{views_of}
use Rattle.ms_jvm.specs.Segments.{Comes}
use Rattle.ms_jvm.proofs.segments.segment.Goals as goal

most : 20000 ≡ most_instructions
unfolding most_instructions
most = refl

pub returns : goal.returns
returns c = subst (λ (n : ℕ). IfOk c.segment_within.result (λ came. Comes (views_of c.args.program.now) n c.args.state.now came c.segment_within.new.state)) most c.segment_within.ensures
