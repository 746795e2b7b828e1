use Rattle.std.proofs.Common.{ap, ◌∙◌}
use Rattle.ms_words.specs.Descriptors.{field_type_of, signature_of}
use Rattle.ms_words.proofs.Descriptors.{signature_again, signature_is, type_again, type_is}
use Rattle.ms_words.proofs.descriptor.descriptors_spell_types.Goals as goal

pub returns-clause-field : goal.returns-clause-field
returns-clause-field c = λ desc field_type. (type_is desc field_type, λ is. ap field_type_of is ∙ type_again field_type)

pub returns-clause-method : goal.returns-clause-method
returns-clause-method c = λ desc signature. (signature_is desc signature, λ is. ap signature_of is ∙ signature_again signature)
