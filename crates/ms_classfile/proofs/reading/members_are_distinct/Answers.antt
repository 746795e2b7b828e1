use Rattle.ms_pool.specs.Numbers.{bytes_from_all}
use Rattle.ms_classfile.proofs.Distinct.{fields_distinct, methods_distinct}
use Rattle.ms_classfile.proofs.Lying.{few_methods}
use Rattle.ms_classfile.proofs.reading.members_are_distinct.Goals as goal

pub returns-clause-fields : goal.returns-clause-fields
returns-clause-fields c = λ bytes class all is. fields_distinct bytes class (bytes_from_all bytes all) is

pub returns-clause-methods : goal.returns-clause-methods
returns-clause-methods c = λ bytes class all is. methods_distinct bytes class (bytes_from_all bytes all) is

pub returns-clause-few : goal.returns-clause-few
returns-clause-few c = λ bytes class all is. few_methods bytes class (bytes_from_all bytes all) is
