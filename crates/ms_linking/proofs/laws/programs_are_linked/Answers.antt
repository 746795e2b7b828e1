use Rattle.ms_linking.proofs.Order.{entry_seen, instruction_seen}
use Rattle.ms_words.specs.declared.item.Item.TheVariants.{At}
use Rattle.ms_linking.proofs.laws.programs_are_linked.Goals as goal

pub returns : goal.returns
returns c = record {
  instructions = λ P class method offset program is. instruction_seen P (λ class method offset v seen. c.instructions_are_of_the_subset.ensures P class method offset v program seen) (At class method offset) is;
  entry = entry_seen;
}
