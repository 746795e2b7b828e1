use Rattle.std.proofs.Common.{ℕ, ◌<◌, All, List, arith, subst}
use Rattle.ms_pool.specs.Numbers.{all_from_bytes}
use Rattle.ms_classfile.specs.declared.fault.ClassFault.{ClassFault}
use Rattle.ms_program.specs.Files.{IsFaultOf, IsFirstFault}
use Rattle.ms_program.specs.Programs.{IsClassOf}
use Rattle.ms_program.proofs.Loading.{no_fault, one_class}
use Rattle.ms_program.proofs.loaded.again.Goals as goal

pub unreachable-requires : goal.unreachable-requires
unreachable-requires c =
    let bytes = c.args.bytes.now in
    let all : All (λ byte. byte < 256) bytes = all_from_bytes bytes (λ i. omega (arith, c.type_inv.bytes i)) in
    let fault = subst (λ (fault : ClassFault). IsFaultOf c.in_ok-bytes.bytes.items fault) c.in-Err-At.field-0-is c.in-Err-At.ensures.fault in
    no_fault c.files_are_read.ensures.file c.files_are_read.ensures.fault bytes c.requires.0 c.in-Err-At.field-0-0 c.in-Err-At.field-0-1 all c.requires.1
    (subst (λ (b : List ℕ). IsFirstFault b c.in-Err-At.field-0-0 c.in-Err-At.field-0-1) c.in_ok-bytes.ensures.items fault)

pub returns-in-Ok : goal.returns-in-Ok
returns-in-Ok c = λ other is.
    let bytes = c.args.bytes.now in
    let all : All (λ byte. byte < 256) bytes = all_from_bytes bytes (λ i. omega (arith, c.type_inv.bytes i)) in
    one_class c.files_are_read.ensures.file bytes c.in-Ok.class other all (subst (λ (b : List ℕ). IsClassOf b c.in-Ok.class) c.in_ok-bytes.ensures.items c.in-Ok.ensures.class) is
