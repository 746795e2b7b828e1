use Rattle.std.proofs.Common.{◌<◌, All, ap, arith, subst, sym}
use Rattle.ms_pool.specs.Numbers.{all_from_bytes}
use Rattle.ms_classfile.specs.declared.fault.ClassFault.{ClassFault}
use Rattle.ms_program.specs.FileViews.{file_view}
use Rattle.ms_program.specs.Files.{IsFaultOf}
use Rattle.ms_program.specs.Reading.{fault_in, first_fault}
use Rattle.ms_program.proofs.file.first_fault.Goals as goal

pub returns-in-Ok : goal.returns-in-Ok
unfolding first_fault
returns-in-Ok c =
    let all : All (λ byte. byte < 256) c.args.bytes.now = all_from_bytes c.args.bytes.now (λ i. omega (arith, c.type_inv.bytes i)) in
    sym (ap fault_in ((c.files_are_read.ensures.file c.args.bytes.now (file_view c.in-Ok._file) all).0 c.in-Ok.ensures.file))

pub returns-in-Err-At : goal.returns-in-Err-At
unfolding first_fault
returns-in-Err-At c =
    let all : All (λ byte. byte < 256) c.args.bytes.now = all_from_bytes c.args.bytes.now (λ i. omega (arith, c.type_inv.bytes i)) in
    sym (ap fault_in ((c.files_are_read.ensures.fault c.args.bytes.now c.in-Err-At.kind c.in-Err-At.at all).0 (subst (λ (fault : ClassFault). IsFaultOf c.args.bytes.now fault) c.in-Err-At.field-0-is c.in-Err-At.ensures.fault)))
