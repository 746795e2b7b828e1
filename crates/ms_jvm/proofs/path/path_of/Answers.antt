use Rattle.std.proofs.Common.{FitsSigned, w32, sym, ap, ◌∙◌, rules, Some}
use Rattle.std.proofs.lemmas.Int.{to_z-of_z}
use Rattle.ms_words.specs.declared.end.Ended.TheVariants as ended
use Rattle.ms_words.specs.declared.end.PathEnd.TheVariants as path_end
use Rattle.ms_classfile.specs.Found.{view}
use Rattle.ms_machine.specs.Ints.{Marked}
use Rattle.ms_machine.specs.Values.{Returned}
use Rattle.ms_machine.specs.Runs.{Ended, Cut}
use Rattle.ms_jvm.specs.Programs.{comparison_of, program_of}
use Rattle.ms_jvm.proofs.Following.{IsRun, arm_shorter, follows_branch, follows_move, follows_start, run_cut, run_returned}
use Rattle.ms_jvm.proofs.Finished.{cut_end, returned_end, same_choices}
use Rattle.ms_jvm.proofs.path.path_of.Goals as goal

pub loop-choices-init : goal.loop-choices-init
loop-choices-init c =
    rw (c.as_slice-rest.ensures.value, c.in_ok-stack.ensures, c.new-choices.ensures) (follows_start (view c.args.method.now) c.args.x.now c.args.depth c.requires.thin)

pub loop-choices-preserved-in-Next : goal.loop-choices-preserved-in-Next
loop-choices-preserved-in-Next c =
    follows_move (view c.args.method.now) c.args.x.now c.args.depth c.first-instruction.result.0 c.first-instruction.result.1.now c.loop-choices.stack c.execute.new.stack c.loop-choices.choices
    (rw c.first-instruction.ensures at c.loop-choices.invariant) (rw c.in-Next.is at c.in_ok-turn.ensures.effect) (rw c.in-Next.is at c.in_ok-turn.ensures.leads) c.in_ok-turn.ensures.depth

returned : (c : goal.After-drop-stack-inside-in-Return) → IsRun (view c.args.method.now) c.args.x.now c.args.depth c.loop-choices.choices (Ended (Returned c.in-Return.int))
returned c =
    run_returned (view c.args.method.now) c.args.x.now c.args.depth c.first-instruction.result.0 c.first-instruction.result.1.now c.loop-choices.stack c.loop-choices.choices c.in-Return.int
    (rw c.first-instruction.ensures at c.loop-choices.invariant) (rw c.in-Return.is at c.in_ok-turn.ensures.effect)

pub returns-in-Return-clause-choices : goal.returns-in-Return-clause-choices
returns-in-Return-clause-choices c =
    same_choices (view c.args.method.now) c.args.x.now c.args.depth c.loop-choices.choices (Ended (Returned c.in-Return.int)) (c.marks_are_right.ensures (program_of (view c.args.method.now)) c.args.x.now) (returned c)

pub returns-in-Return-clause-end : goal.returns-in-Return-clause-end
returns-in-Return-clause-end c =
    let fits : FitsSigned w32 c.int.inside.word = search rules in
    returned_end (view c.args.method.now) c.args.x.now c.args.depth c.loop-choices.choices c.in-Return.int (c.marks_are_right.ensures (program_of (view c.args.method.now)) c.args.x.now) (returned c)
    ∙ rw (to_z-of_z w32 c.int.inside.word fits) (ap (λ (a : Marked). Some (path_end.Ended (ended.Returned a.word))) (sym c.int.view_is))

cut : (c : goal.After-drop-stack-inside-in_default) → IsRun (view c.args.method.now) c.args.x.now c.args.depth c.choose.new.choices Cut
cut c =
    let due = rw c.in_default.is at c.in_ok-chosen-in-Branch.ensures.chosen in
    rw due.2 (run_cut (view c.args.method.now) c.args.x.now c.args.depth c.first-instruction.result.0 c.first-instruction.result.1.now c.loop-choices.stack c.execute.new.stack c.loop-choices.choices
    (comparison_of c.in-Branch.condition) c.in-Branch.left c.in-Branch.right
    (rw c.first-instruction.ensures at c.loop-choices.invariant) (rw c.in-Branch.is at c.in_ok-turn.ensures.effect) due.0 due.1)

pub returns-in_default-clause-choices : goal.returns-in_default-clause-choices
returns-in_default-clause-choices c =
    same_choices (view c.args.method.now) c.args.x.now c.args.depth c.choose.new.choices Cut (c.marks_are_right.ensures (program_of (view c.args.method.now)) c.args.x.now) (cut c)

pub returns-in_default-clause-end : goal.returns-in_default-clause-end
returns-in_default-clause-end c =
    cut_end (view c.args.method.now) c.args.x.now c.args.depth c.choose.new.choices (c.marks_are_right.ensures (program_of (view c.args.method.now)) c.args.x.now) (cut c)

pub loop-choices-smaller : goal.loop-choices-smaller
loop-choices-smaller c =
    rw (c.arm-rest.ensures, c.first-instruction.ensures)
    (arm_shorter (view c.args.method.now) c.args.x.now c.args.depth c.in-Branch.far c.first-instruction.result.0 c.first-instruction.result.1.now c.loop-choices.stack c.loop-choices.choices c.in-Some.taken
    (rw c.first-instruction.ensures at c.loop-choices.invariant) (rw c.in-Branch.is at c.in_ok-turn.ensures.leads))

pub loop-choices-preserved : goal.loop-choices-preserved
loop-choices-preserved c =
    rw (c.arm-rest.ensures, c.first-instruction.ensures)
    (follows_branch (view c.args.method.now) c.args.x.now c.args.depth c.in-Branch.far c.first-instruction.result.0 c.first-instruction.result.1.now c.loop-choices.stack c.execute.new.stack c.loop-choices.choices c.choose.new.choices
    (comparison_of c.in-Branch.condition) c.in-Branch.left c.in-Branch.right c.in-Some.taken
    (rw c.first-instruction.ensures at c.loop-choices.invariant) (rw c.in-Branch.is at c.in_ok-turn.ensures.effect) (rw c.in-Branch.is at c.in_ok-turn.ensures.leads) c.in_ok-turn.ensures.depth
    (rw c.in-Some.is at c.in_ok-chosen-in-Branch.ensures.chosen))
