use Rattle.ms_linking.specs.Told.{member_told}
use Rattle.ms_interpreter.proofs.Reaching.{get_class, get_did}
use Rattle.ms_interpreter.proofs.acting.members.get_static.Goals as goal

pub returns-in-Did-clause-acts : goal.returns-in-Did-clause-acts
returns-in-Did-clause-acts g c = get_did (member_told c.args.member.now) c.args.frame.now c.args.memory.now c.access.new.memory c.in-Did.did c.args.field_type c.args.initial.now (rw c.in-Did.is at c.in_ok-did.ensures)

pub returns-in_ok-did-in-Class-clause-acts : goal.returns-in_ok-did-in-Class-clause-acts
returns-in_ok-did-in-Class-clause-acts g c =
    get_class (member_told c.args.member.now) c.args.frame.now c.args.memory.now c.access.new.memory c.args.field_type c.args.initial.now c.in-Class.class c.in_ok-did-in-Class.did c.read_field.new.frame
    (rw c.in-Class.is at c.in_ok-did.ensures) c.in_ok-did-in-Class.ensures.reads
