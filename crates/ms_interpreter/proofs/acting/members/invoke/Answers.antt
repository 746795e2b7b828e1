use Rattle.std.proofs.Common.{List, length, subst}
use Rattle.ms_words.specs.declared.descriptor.FieldType.{FieldType}
use Rattle.ms_linking.specs.Told.{member_told}
use Rattle.ms_interpreter.specs.Accessing.{Invokes}
use Rattle.ms_interpreter.proofs.Reaching.{invoke_class, invoke_did}
use Rattle.ms_interpreter.proofs.acting.members.invoke.Goals as goal

pub returns-in-Did : goal.returns-in-Did
returns-in-Did g c = invoke_did (member_told c.args.member.now) c.args.frame.now c.args.memory.now c.access.new.memory c.in-Did.did c.args.signature.now (rw c.in-Did.is at c.in_ok-did.ensures)

pub returns-in-Class : goal.returns-in-Class
returns-in-Class g c = invoke_class (member_told c.args.member.now) c.args.frame.now c.args.memory.now c.access.new.memory c.args.signature.now c.in-Class.class c.call.result (rw c.in-Class.is at c.in_ok-did.ensures)
    (subst (λ (types : List FieldType). Invokes (length types) c.in-Class.class c.args.frame.now c.access.new.memory c.call.result) c.parameters.ensures c.call.ensures)
