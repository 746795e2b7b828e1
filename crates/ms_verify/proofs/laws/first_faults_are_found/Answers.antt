use Rattle.ms_verify.proofs.FirstFault.{AllCoded, found_is, none_is}
use Rattle.ms_verify.proofs.laws.first_faults_are_found.Goals as goal

pub returns-clause-found : goal.returns-clause-found
returns-clause-found c = λ P fault program.
    let coded : AllCoded P = λ class number method seen. c.methods_are_seen.ensures.code P class number method program seen in
    found_is P coded (λ class number method seen. c.methods_have_one_outcome.ensures.outcome method (coded class number method seen))
    (λ accepted class number offset kind. c.accepted_programs_have_no_fault.ensures.no_fault P class number offset kind program accepted) fault

pub returns-clause-none : goal.returns-clause-none
returns-clause-none c = λ P program.
    none_is P (λ class number method seen. c.methods_are_seen.ensures.code P class number method program seen)
    (λ accepted class number offset kind. c.accepted_programs_have_no_fault.ensures.no_fault P class number offset kind program accepted)
