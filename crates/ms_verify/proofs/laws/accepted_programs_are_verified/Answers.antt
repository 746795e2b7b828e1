use Rattle.ms_verify.proofs.Entering.{verified}
use Rattle.ms_verify.proofs.Solved.{are_last_shapes, last_shapes, typings}
use Rattle.ms_verify.proofs.laws.accepted_programs_are_verified.Goals as goal

pub returns : goal.returns
returns c = λ P machine program accepted is.
    let last = last_shapes P accepted in (
      typings P last.0,
      are_last_shapes P last.0 last.1 (λ class number method seen. c.methods_have_one_outcome.ensures.outcome method (c.methods_are_seen.ensures.code P class number method program seen)),
      verified P program last.0 (record {
        last = last.1;
        least = c.methods_have_one_outcome.ensures.last;
        together = c.opcodes_have_groups.ensures;
        of_subset = λ class number offset v seen. c.instructions_are_of_the_subset.ensures P class number offset v program seen;
        firsts = c.members_have_first_items.ensures P;
        leads = λ item v seen. c.views_lead_to_views.ensures P item v program seen;
      }) machine is,
    )
