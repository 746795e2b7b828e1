use Rattle.std.proofs.Common.{arith}
use Rattle.ms_classfile.specs.ClassViews.{class_view}
use Rattle.ms_classfile.proofs.Exact.{gives_class, gives_fault}
use Rattle.ms_classfile.proofs.Lying.{codes_of}
use Rattle.ms_classfile.proofs.reading.read_class.Goals as goal

pub returns-clause-class : goal.returns-clause-class
returns-clause-class c = gives_class class_view c.args.bytes.now c.class.result (λ i. omega (arith, c.type_inv.bytes i)) c.class.ensures

pub returns-clause-fault : goal.returns-clause-fault
returns-clause-fault c = gives_fault class_view c.args.bytes.now c.class.result (λ i. omega (arith, c.type_inv.bytes i)) c.class.ensures

pub returns-clause-codes : goal.returns-clause-codes
returns-clause-codes c = codes_of class_view c.args.bytes.now c.class.result (λ i. omega (arith, c.type_inv.bytes i)) c.class.ensures
