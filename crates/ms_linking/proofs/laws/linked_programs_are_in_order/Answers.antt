use Rattle.ms_linking.proofs.Order.{in_order}
use Rattle.ms_linking.proofs.laws.linked_programs_are_in_order.Goals as goal

pub returns : goal.returns
returns c = λ P run program is. in_order P
    (λ class method offset v seen. c.instructions_are_of_the_subset.ensures P class method offset v program seen)
    (λ item v seen. c.views_lead_to_views.ensures P item v program seen) run is
