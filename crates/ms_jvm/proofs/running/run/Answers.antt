use Rattle.std.proofs.Common.{sym, ◌∙◌}
use Rattle.ms_jvm.specs.Entered.{entered}
use Rattle.ms_jvm.specs.Segments.{ends_with}
use Rattle.ms_jvm.proofs.Marking.{arms_so, ends_so, never_stuck}
use Rattle.ms_jvm.proofs.running.run.Goals as goal

pub unreachable-requires : goal.unreachable-requires
unreachable-requires c =
    let P = c.args.verified.now in
    let x = c.args.x.now in
    let is = rw c.program-program.ensures.program at c.in_ok-run.ensures.end in
    let program = rw c.program-program.ensures.program at c.is_program.ensures in
    never_stuck P c.args.entry x c.args.depth (ends_with c.in_ok-run.run'.last)
    (λ machine is input. c.entered_runs_have_ends.ensures P c.args.entry machine x c.args.depth program c.program-program.ensures.verified c.requires.known c.requires.enters is input) (λ machine. c.marks_are_right.ensures machine x) c.run_marked.ensures.input
    c.requires.kinds is (sym c.path_end.ensures ∙ c.in_default.is)

pub returns-clause-end : goal.returns-clause-end
returns-clause-end c =
    let x = c.args.x.now in
    let is = rw c.program-program.ensures.program at c.in_ok-run.ensures.end in
    ends_so (entered c.args.verified.now c.args.entry) x c.args.depth (ends_with c.in_ok-run.run'.last) c.in-Some.end (λ machine. c.marks_are_right.ensures machine x) is (sym c.path_end.ensures ∙ c.in-Some.is)

pub returns-clause-arms : goal.returns-clause-arms
returns-clause-arms c =
    let x = c.args.x.now in
    let is = rw c.program-program.ensures.program at c.in_ok-run.ensures.arms in
    arms_so (entered c.args.verified.now c.args.entry) x c.args.depth c.in_ok-run.run'.arms (λ machine. c.marks_are_right.ensures machine x) is
