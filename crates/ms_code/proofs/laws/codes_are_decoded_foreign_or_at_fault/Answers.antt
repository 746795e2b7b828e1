use Rattle.ms_pool.specs.Numbers.{bytes_from_all}
use Rattle.ms_code.specs.declared.trouble.Trouble.TheVariants.{Foreign, At}
use Rattle.ms_code.proofs.Only.{kind_of_code, no_trouble, one_code, one_of_three, one_trouble}
use Rattle.ms_code.proofs.laws.codes_are_decoded_foreign_or_at_fault.Goals as goal

pub returns-clause-one_of_three : goal.returns-clause-one_of_three
returns-clause-one_of_three c = λ pool code all. one_of_three pool code (bytes_from_all code.code all)

pub returns-clause-decoded_only : goal.returns-clause-decoded_only
returns-clause-decoded_only c = λ pool code all says. (λ foreign. no_trouble pool code says.0 Foreign (bytes_from_all code.code all) says.1 foreign, λ fault. no_trouble pool code says.0 (At fault.0 fault.1) (bytes_from_all code.code all) says.1 fault.2)

pub returns-clause-foreign_only : goal.returns-clause-foreign_only
returns-clause-foreign_only c = λ pool code all foreign fault. absurd (let e = one_trouble pool code Foreign (At fault.0 fault.1) (bytes_from_all code.code all) foreign fault.2 in cc)

pub returns-clause-one_code : goal.returns-clause-one_code
returns-clause-one_code c = λ pool code first second all p q. one_code pool code first second (bytes_from_all code.code all) p q

pub returns-clause-one_fault : goal.returns-clause-one_fault
returns-clause-one_fault c = λ pool code kind other_kind at other all p q. let e = one_trouble pool code (At kind at) (At other_kind other) (bytes_from_all code.code all) p q in (cc, cc)

pub returns-clause-kinds : goal.returns-clause-kinds
returns-clause-kinds c = λ pool code kind at all fault. kind_of_code pool code kind at (bytes_from_all code.code all) fault
