use Rattle.ms_pool.specs.Numbers.{bytes_from_all}
use Rattle.ms_pool.specs.Places.{beginning}
use Rattle.ms_code.specs.declared.trouble.Trouble.TheVariants.{Foreign, At}
use Rattle.ms_code.proofs.Exact.{decoded_sound}
use Rattle.ms_code.proofs.laws.codes_are_read.Goals as goal

pub returns-clause-decoded : goal.returns-clause-decoded
returns-clause-decoded c = λ pool code result all.
    let exact = (decoded_sound pool code).exact in
    let bytes = bytes_from_all code.code all in
    (λ is. (is.after, exact.reads (beginning code.code) result is.after bytes is.is), λ found. record { after = found.0; is = exact.spells (beginning code.code) (result, found.0) bytes found.1 })

pub returns-clause-foreign : goal.returns-clause-foreign
returns-clause-foreign c = λ pool code all.
    let exact = (decoded_sound pool code).exact in
    (exact.faults (beginning code.code) Foreign (bytes_from_all code.code all), exact.breaks (beginning code.code) Foreign (bytes_from_all code.code all))

pub returns-clause-fault : goal.returns-clause-fault
returns-clause-fault c = λ pool code kind at all.
    let exact = (decoded_sound pool code).exact in
    (exact.faults (beginning code.code) (At kind at) (bytes_from_all code.code all), exact.breaks (beginning code.code) (At kind at) (bytes_from_all code.code all))
