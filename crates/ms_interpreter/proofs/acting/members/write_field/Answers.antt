use Rattle.ms_linking.specs.Told.{member_told}
use Rattle.ms_interpreter.proofs.Reaching.{writes_field}
use Rattle.ms_interpreter.proofs.acting.members.write_field.Goals as goal

pub returns-clause-writes : goal.returns-clause-writes
returns-clause-writes g c =
    writes_field (member_told c.args.member.now) c.args.frame.now c.args.memory.now c.args.class c.in-Some.slot c.pop.new.self.stack c.pop.new.self c.set_field.new.self c.in-Some.ensures.0 c.in-Some.ensures.1 c.in_ok-set_field.ensures
