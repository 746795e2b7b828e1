use Rattle.ms_words.specs.declared.descriptor.FieldType.TheVariants as types
use Rattle.ms_linking.specs.Told.{member_told}
use Rattle.ms_interpreter.proofs.Reaching.{reads_first, reads_stored}
use Rattle.ms_interpreter.proofs.acting.members.read_field.Goals as goal

pub returns-in-Some-clause-reads : goal.returns-in-Some-clause-reads
returns-in-Some-clause-reads g c =
    reads_stored (member_told c.args.member.now) c.args.frame.now c.args.memory.now c.args.class c.args.field_type c.args.initial.now c.in-Some.slot c.push.new.self c.in-Some.ensures c.in_ok-push.ensures.ok

pub returns-in-Int-clause-reads : goal.returns-in-Int-clause-reads
returns-in-Int-clause-reads g c = λ texts known.
    rw (c.in-Int.is, c.first_int.ensures) (reads_first (member_told c.args.member.now) c.args.frame.now c.args.memory.now c.args.class (types.Int c.in-Int.field-0) c.args.initial.now texts known c.in_default.ensures)

pub returns-in_ok-push-in-IntArray-clause-reads : goal.returns-in_ok-push-in-IntArray-clause-reads
returns-in_ok-push-in-IntArray-clause-reads g c = λ texts known.
    rw (c.in-IntArray.is, c.in_ok-push-in-IntArray.ensures.ok) (reads_first (member_told c.args.member.now) c.args.frame.now c.args.memory.now c.args.class types.IntArray c.args.initial.now texts known c.in_default.ensures)
