use Rattle.ms_session.proofs.Answered.{answered}
use Rattle.ms_session.proofs.laws.once_answers_every_file.Goals as goal

pub returns : goal.returns
returns c = λ file name desc bytes words all.
    answered c.files_are_whole_or_have_a_fault.ensures c.files_are_read.ensures.file c.files_are_read.ensures.fault c.members_are_distinct.ensures.few c.first_faults_are_found.ensures.none c.entered_runs_have_ends.ensures bytes name desc words all
