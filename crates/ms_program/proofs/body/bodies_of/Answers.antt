use Rattle.std.proofs.Common.{◌^◌, subst, sym}
use Rattle.ms_classfile.specs.ClassLaws.{HasCodeWithin}
use Rattle.ms_classfile.specs.ClassViews.{method_view}
use Rattle.ms_classfile.specs.declared.class.MethodRow.{MethodRow}
use Rattle.ms_program.proofs.Files.{of_row}
use Rattle.ms_program.proofs.body.bodies_of.Goals as goal

pub body_of-requires : goal.body_of-requires
body_of-requires c =
    subst (λ (row : MethodRow). HasCodeWithin (2 ^ 63) (method_view row)) (sym c.method-item.is) (of_row (HasCodeWithin (2 ^ 63)) c.args.methods.now c.loop-method.method-index c.method-item.result c.requires c.loop-method-test.true)
