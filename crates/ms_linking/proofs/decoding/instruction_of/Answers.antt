use Rattle.std.proofs.Common.{◌≡◌, Some, refl, ◌∙◌, subst, option_and_then, arith}
use Rattle.ms_program.specs.Programs.{class_named}
use Rattle.ms_program.specs.Views.{bare}
use Rattle.ms_linking.specs.Groups.{group_of}
use Rattle.ms_linking.specs.Linked.{instr_in, linked_instr}
use Rattle.ms_linking.proofs.Fixed.{IsOther, partly_said, others_say_all}
use Rattle.ms_linking.proofs.decoding.instruction_of.Goals as goal

pub returns-in_default-op : goal.returns-in_default-op
returns-in_default-op c =
    let instr = c.in-Some.instr.now in
    let view = c.args.view.now in
    let numbers = class_named c.args.program.now in
    let other : IsOther instr.op partly_said = search in
    let seen : Some (bare instr) ≡ view.instr = search in
    let linked : option_and_then (instr_in numbers view (bare instr).operand) (group_of instr.op) ≡ option_and_then (linked_instr numbers view) view.instr =
    subst (λ found. option_and_then (instr_in numbers view (bare instr).operand) (group_of instr.op) ≡ option_and_then (linked_instr numbers view) found) seen refl in
    c.fixed.ensures ∙ (others_say_all numbers view (bare instr).operand instr.op (omega arith) other ∙ linked)
