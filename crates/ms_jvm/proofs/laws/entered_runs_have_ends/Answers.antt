use Rattle.std.proofs.Common.{Some}
use Rattle.ms_program.specs.Programs.{IsProgram, Program}
use Rattle.ms_jvm.proofs.Entering.{has_end}
use Rattle.ms_jvm.proofs.laws.entered_runs_have_ends.Goals as goal

pub returns : goal.returns
returns c = λ P id machine x depth program accepted known can is input.
    let entered : Program = record P { entry = Some id } in
    let whole : IsProgram entered = record { few = program.few; each = program.each; apart = program.apart; enters = (known, can) } in
    let never = c.accepted_programs_are_never_stuck.ensures entered machine whole (c.accepted_programs_have_no_fault.ensures.entry P id accepted) is in
    has_end c.words_take_an_arm.ensures machine never.0 x depth never.3 input
